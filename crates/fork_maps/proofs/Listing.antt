-- The numbers of the maps of names, as maps become those of forks.
use Rattle.std.proofs.Common.{◌≡◌, ◌≢◌, inl, inr, ℕ, ◌+◌, ◌-◌, ◌*◌, ◌<◌, ◌≤◌, List, Bool, true, false, cond, ◌&&◌, Option, None, Some, length, refl, sym, ◌∙◌, ap, arith}
use Rattle.std.specs.Prelude.{nat_lt, nat_le, slice_index, slice_set}
use Rattle.std.specs.Option.{option_map}
use Rattle.std.proofs.lemmas.Bool.{cases_eq}
use Rattle.std.proofs.lemmas.Bool.Decides.{nat_tests}
use Rattle.std.proofs.lemmas.List.{get_or-set_same, get_or-set_other}
use Rattle.machine_names.specs.declared.names.ForkName.{ForkName}
use Rattle.machine_names.specs.declared.names.TheConstants.{TERMINALS, LAST_SERIAL}
use Rattle.fork_maps.specs.ForkMaps.{first_map, fork_at, index_of}
use Rattle.fork_maps.specs.MapNumbers.{AreListed, name_index, number_of, put_number, with_number}
use Rattle.fork_maps.proofs.ForkMaps.{Searched, searched, set_here, set_other}

-- what an index tells of its name
record IsIndex (f : ForkName) (i : ℕ) : Type 0 where
  terminal : f.tty.0 < TERMINALS
  serial : f.serial ≤ LAST_SERIAL
  is : i ≡ f.tty.0 * (LAST_SERIAL + 1) + f.serial

index_tells : (f : ForkName) (i : ℕ) → name_index f ≡ Some i → IsIndex f i
index_tells f i e = by (nat_lt f.tty.0 TERMINALS) (nat_le f.serial LAST_SERIAL) refl refl e
  where
    by : (b c : Bool) → nat_lt f.tty.0 TERMINALS ≡ b → nat_le f.serial LAST_SERIAL ≡ c → cond (b && c) (Some (f.tty.0 * (LAST_SERIAL + 1) + f.serial)) None ≡ Some i → IsIndex f i
    by true true t s k = record { terminal = grind (arith, nat_tests, t); serial = grind (arith, nat_tests, s); is = (let z : f.tty.0 * (LAST_SERIAL + 1) + f.serial ≡ i = cc k in sym z) }
    by true false t s k = absurd (cc k)
    by false c t s k = absurd (cc k)

-- each name has an index of its own
one_name : (f g : ForkName) (i : ℕ) → name_index f ≡ Some i → name_index g ≡ Some i → f ≡ g
one_name f g i a b =
    let x = index_tells f i a in
    let y = index_tells g i b in
    let t : f.tty.0 ≡ g.tty.0 = omega (arith, x.is, y.is, x.serial, y.serial) in
    let s : f.serial ≡ g.serial = omega (arith, x.is, y.is, x.serial, y.serial) in
    λ j. record { tty = record { 0 = t j }; serial = s j }

pub index_below : (f : ForkName) (i : ℕ) → name_index f ≡ Some i → i < TERMINALS * (LAST_SERIAL + 1)
index_below f i a = let x = index_tells f i a in omega (arith, x.is, x.serial, x.terminal)

-- where no map is a fork's
pub listed_none : (fork : ℕ → Option ForkName) (numbers : List ℕ) → ((k : ℕ) → fork k ≡ None) → AreListed fork numbers
listed_none fork numbers none = record { named = λ k i f is at. absurd (let z : None ≡ Some f = sym (none k) ∙ is in cc z) }

module _ (fork : ℕ → Option ForkName) (numbers : List ℕ) (n : AreListed fork numbers) where
  -- where each map stays the fork's that it is, or becomes nobody's
  pub listed_same : (after : ℕ → Option ForkName) → ((k : ℕ) (f : ForkName) → after k ≡ Some f → fork k ≡ Some f) → AreListed after numbers
  listed_same after same = record { named = λ k i f is at. n.named k i f (same k f is) at }

  -- a map becomes that of a fork that had none
  module _ (size : length numbers ≡ TERMINALS * (LAST_SERIAL + 1)) (after : ℕ → Option ForkName) (k : ℕ) (f : ForkName) (absent : (j : ℕ) → fork j ≢ Some f) (from : first_map f.tty ≤ k) (here : after k ≡ Some f) (other : (j : ℕ) → j ≢ k → after j ≡ fork j) where
    own : (g : ForkName) (i : ℕ) → f ≡ g → name_index g ≡ Some i → (o : Option ℕ) → name_index f ≡ o → first_map g.tty + slice_index (put_number numbers f k o) i ≡ k
    own g i same at None is = absurd (let z : None ≡ Some i = sym is ∙ ap name_index same ∙ at in cc z)
    own g i same at (Some j) is =
        let one : i ≡ j = (let z : Some i ≡ Some j = sym (ap name_index same ∙ at) ∙ is in cc z) in
        let inside : j < length numbers = omega (arith, index_below f j is, size) in
        let set : slice_index (slice_set numbers j (k - first_map f.tty)) i ≡ k - first_map f.tty = ap (slice_index (slice_set numbers j (k - first_map f.tty))) one ∙ get_or-set_same numbers j (k - first_map f.tty) 0 inside in
        let first : first_map g.tty ≡ first_map f.tty = ap (λ (x : ForkName). first_map x.tty) (sym same) in
        omega (arith, set, first, from)

    another : (g : ForkName) (i : ℕ) → f ≢ g → name_index g ≡ Some i → (o : Option ℕ) → name_index f ≡ o → slice_index (put_number numbers f k o) i ≡ slice_index numbers i
    another g i ne at None is = refl
    another g i ne at (Some j) is = get_or-set_other numbers j i (k - first_map f.tty) 0 (λ e. ne (one_name f g i (is ∙ ap Some (sym e)) at))

    pub listed_begun : AreListed after (with_number numbers f k)
    listed_begun = record {
      named = λ j i g is at. elim (cases_eq j k) [
        | inl same ↦
            let its : f ≡ g = (let z : Some f ≡ Some g = sym (ap after same ∙ here) ∙ is in cc z) in
            own g i its at (name_index f) refl ∙ sym same
        | inr ne ↦
            let was : fork j ≡ Some g = sym (other j ne) ∙ is in
            let apart : f ≢ g = (λ e. absent j (was ∙ ap Some (sym e))) in
            ap (λ x. first_map g.tty + x) (another g i apart at (name_index f) refl) ∙ n.named j i g was at
      ];
    }

  -- where the map with the number under a name is not that fork's, none is
  pub none_numbered : (f : ForkName) (k : ℕ) → number_of numbers f ≡ Some k → fork k ≢ Some f → (j : ℕ) → fork j ≢ Some f
  none_numbered f k number ne j is = by (name_index f) refl number
    where
      by : (o : Option ℕ) → name_index f ≡ o → option_map (λ i. first_map f.tty + slice_index numbers i) o ≡ Some k → ⊥
      by None at e = cc e
      by (Some i) at e =
          let there : first_map f.tty + slice_index numbers i ≡ k = cc e in
          let same : j ≡ k = sym (n.named j i f is at) ∙ there in
          ne (ap fork (sym same) ∙ is)

-- the same of the maps of a list
module _ {M : Type 0} (whose : M → Option ForkName) (past : M) (nobody : whose past ≡ None) (maps : List M) (numbers : List ℕ) (n : AreListed (fork_at whose past maps) numbers) (k : ℕ) (m : M) (within : k < length maps) where
  pub begun_listed : length numbers ≡ TERMINALS * (LAST_SERIAL + 1) → (f : ForkName) → whose m ≡ Some f → index_of whose maps f ≡ None → first_map f.tty ≤ k → AreListed (fork_at whose past (slice_set maps k m)) (with_number numbers f k)
  begun_listed size f its none from =
      listed_begun (fork_at whose past maps) numbers n size (fork_at whose past (slice_set maps k m)) k f (λ j is. absent j is (searched whose past nobody maps f)) from (set_here whose past nobody maps k m within ∙ its) (set_other whose past nobody maps k m)
    where
      absent : (j : ℕ) → fork_at whose past maps j ≡ Some f → Searched whose past maps f → ⊥
      absent j is (inl r) = (let z : None ≡ Some r.0 = sym none ∙ r.1 in cc z)
      absent j is (inr r) = r.1 j is

  pub ended_listed : whose m ≡ None → AreListed (fork_at whose past (slice_set maps k m)) numbers
  ended_listed its = listed_same (fork_at whose past maps) numbers n (fork_at whose past (slice_set maps k m)) (λ j f is. elim (cases_eq j k) [
    | inl same ↦ absurd (let z : None ≡ Some f = sym (ap (fork_at whose past (slice_set maps k m)) same ∙ set_here whose past nobody maps k m within ∙ its) ∙ is in cc z)
    | inr ne ↦ sym (set_other whose past nobody maps k m j ne) ∙ is
  ])
