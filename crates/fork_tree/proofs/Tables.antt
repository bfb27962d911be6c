-- A table of forks and its map.
use Rattle.std.proofs.Common.{◌≡◌, ℕ, zero, suc, ◌<◌, ◌≤◌, List, [], ◌∷◌, get_or, Option, None, Some, refl, sym, ◌∙◌, ap, subst, arith, ◌⊎◌, inl, inr}
use Rattle.std.specs.Prelude.{slice_index}
use Rattle.std.specs.FinMap as map
use Rattle.plain_model.specs.Forks.{fork_in}
use Rattle.machine_names.specs.declared.names.Tty.{Tty}
use Rattle.machine_names.specs.declared.names.ForkName.{ForkName}
use Rattle.machine_names.specs.declared.names.TheConstants.{TERMINALS, MOST_FORKS}
use Rattle.plain_model.specs.declared.fork.Fork.{Fork}
use Rattle.fork_tree.specs.Places.{IsTable, StandsAt, forks_of, name_index, place_in}
use Rattle.fork_tree.specs.Trees.{AreSlotted, Lives}
use Rattle.fork_tree.proofs.Slots.{cases_name, get_put, get_put_other, in_found, in_none, in_tells}

-- what the map of places has stands in one of them
pub got : (places : List (Option Fork)) (q : ForkName) (f : Fork) → map.get (forks_of places) q ≡ Some f → (i : ℕ) × StandsAt places i f × (f.name ≡ q)
unfolding forks_of
got [] q f e = let h : None ≡ Some f = sym (map.get-empty _ q) ∙ e in absurd (cc h)
got (None ∷ places) q f e = let r = got places q f e in (suc r.0, r.1, r.2)
got (Some x ∷ places) q f e = by (got places q f) (cases_name q x.name)
  where
    by : (map.get (forks_of places) q ≡ Some f → (i : ℕ) × StandsAt places i f × (f.name ≡ q)) → (q ≡ x.name) ⊎ (q ≡ x.name → ⊥)
        → (i : ℕ) × StandsAt (Some x ∷ places) i f × (f.name ≡ q)
    by rest (inl is) = let h : Some x ≡ Some f = sym (get_put (forks_of places) x.name q x is) ∙ e in let same : x ≡ f = cc h in (0, h, ap (λ k. k.name) (sym same) ∙ sym is)
    by rest (inr ne) = let r = rest (sym (get_put_other (forks_of places) x.name q x ne) ∙ e) in (suc r.0, r.1, r.2)

-- no name stands in two places
abbrev pub AreOnce : List (Option Fork) → Type 0
AreOnce places = (i j : ℕ) (f g : Fork) → StandsAt places i f → StandsAt places j g → f.name ≡ g.name → i ≡ j

tail_once : (o : Option Fork) (places : List (Option Fork)) → AreOnce (o ∷ places) → AreOnce places
tail_once o places once i j f g a b same = let h : suc i ≡ suc j = once (suc i) (suc j) f g a b same in omega (arith, h)

-- a fork that stands in a place is in the map under its name
pub found : (places : List (Option Fork)) (i : ℕ) (f : Fork) → AreOnce places → StandsAt places i f → map.get (forks_of places) f.name ≡ Some f
unfolding forks_of
found [] i f once e = absurd (cc e)
found (None ∷ places) zero f once e = absurd (cc e)
found (Some x ∷ places) zero f once e = let is : x ≡ f = cc e in get_put (forks_of places) x.name f.name x (ap (λ k. k.name) (sym is)) ∙ e
found (None ∷ places) (suc i) f once e = found places i f (tail_once None places once) e
found (Some x ∷ places) (suc i) f once e =
    get_put_other (forks_of places) x.name f.name x (λ same. let h : suc i ≡ zero = once (suc i) zero f x e refl same in omega (arith, h))
    ∙ found places i f (tail_once (Some x) places once) e

module _ (places : List (Option Fork)) (slots lasts : List ℕ) (table : IsTable places slots lasts) where
  -- two forks of one job and slot stand in one place, and so are one
  pub one_place : (i j : ℕ) (f g : Fork) → StandsAt places i f → StandsAt places j g → f.name.tty.0 ≡ g.name.tty.0 → f.slot ≡ g.slot → i ≡ j
  one_place i j f g a b t s = omega (arith, table.place i f a, table.place j g b, t, s)

  pub once : AreOnce places
  once i j f g a b same =
      one_place i j f g a b (ap (λ n. n.tty.0) same) (sym (table.slot i f a) ∙ (ap (λ n. slice_index slots (name_index n)) same ∙ table.slot j g b))

  pub one_fork : (i j : ℕ) (f g : Fork) → StandsAt places i f → StandsAt places j g → i ≡ j → f ≡ g
  one_fork i j f g a b same = let h : Some f ≡ Some g = sym a ∙ (ap (λ k. get_or places k None) same ∙ b) in cc h

  pub found_at : (i : ℕ) (f : Fork) → StandsAt places i f → Lives (forks_of places) f
  found_at i f a = found places i f once a

  pub slotted : AreSlotted (forks_of places)
  slotted = record {
    own = λ q f e. (got places q f e).2;
    named = λ f e. let g = got places f.name f e in table.named g.0 f g.1;
    first = λ f e. let g = got places f.name f e in table.first g.0 f g.1;
    last = λ f e. let g = got places f.name f e in table.last g.0 f g.1;
    once = λ t slot f g a b.
        let h = got places f.name f a.0 in let k = got places g.name g b.0 in
        one_fork h.0 k.0 f g h.1 k.1 (one_place h.0 k.0 f g h.1 k.1 (a.1 ∙ sym b.1) (a.2 ∙ sym b.2));
  }

  -- a fork that lives stands in the place of its slot
  pub stands : (q : ForkName) (f : Fork) (i : ℕ) → map.get (forks_of places) q ≡ Some f → place_in q.tty f.slot ≡ i → StandsAt places i f
  stands q f i e is =
      let g = got places q f e in
      let same : g.0 ≡ i = omega (arith, table.place g.0 f g.1, is, ap (λ (n : ForkName). n.tty.0) g.2) in
      ap (λ k. get_or places k None) (sym same) ∙ g.1

  -- what is in a slot is what stands in its place
  pub in_place : (t : Tty) (slot i : ℕ) → slot ≤ MOST_FORKS → i ≡ place_in t slot → get_or places i None ≡ fork_in (forks_of places) t slot
  in_place t slot i high is = by (get_or places i None) refl
    where
      by : (o : Option Fork) → get_or places i None ≡ o → o ≡ fork_in (forks_of places) t slot
      by (Some f) e =
          let p = table.place i f e in let b = table.last i f e in
          sym (in_found (forks_of places) slotted t slot f (found_at i f e, omega (arith, p, b, is, high), omega (arith, p, b, is, high)))
      by None e =
          sym (in_none (forks_of places) slotted t slot (λ f is_in.
          let there : StandsAt places i f = stands f.name f i is_in.0 (omega (arith, is, is_in.1, is_in.2)) in
          let h : None ≡ Some f = sym e ∙ there in cc h))

  -- no fork is in a slot that is not there
  pub in_nowhere : (t : Tty) (slot : ℕ) → ((t.0 < TERMINALS) → (slot ≤ MOST_FORKS) → ⊥) → fork_in (forks_of places) t slot ≡ None
  in_nowhere t slot out =
      in_none (forks_of places) slotted t slot (λ f is_in.
      let s = slotted in
      let n = s.named f is_in.0 in
      out (omega (arith, n.0, is_in.1)) (omega (arith, s.last f is_in.0, is_in.2)))

  -- the slot that a name has had is that of its fork
  pub slot_had : (q : ForkName) (f : Fork) → map.get (forks_of places) q ≡ Some f → slice_index slots (name_index q) ≡ f.slot
  slot_had q f e = let g = got places q f e in ap (λ n. slice_index slots (name_index n)) (sym g.2) ∙ table.slot g.0 f g.1

  -- a job's forks are in no slot above its last
  pub under_last : (f : Fork) → Lives (forks_of places) f → f.slot ≤ slice_index lasts f.name.tty.0
  under_last f e = let g = got places f.name f e in table.below g.0 f g.1

  -- the fork of a name in its place
  pub named_at : (q : ForkName) (f : Fork) (slot i : ℕ) → map.get (forks_of places) q ≡ Some f → slot ≡ f.slot → i ≡ place_in q.tty slot → StandsAt places i f × (f.name ≡ q) × (q.tty.0 < TERMINALS) × (slot ≤ MOST_FORKS)
  named_at q f slot i e is place =
      let s = slotted in
      let name = s.own q f e in
      let lives : Lives (forks_of places) f = ap (map.get (forks_of places)) name ∙ e in
      (stands q f i e (omega (arith, is, place)), name, subst (λ (n : ForkName). n.tty.0 < TERMINALS) name (s.named f lives).0, omega (arith, is, s.last f lives))

  -- the fork in a slot in its place
  pub in_at : (t : Tty) (slot : ℕ) (f : Fork) → fork_in (forks_of places) t slot ≡ Some f → (t.0 < TERMINALS) × (slot ≤ MOST_FORKS)
  in_at t slot f e =
      let s = slotted in
      let is_in = in_tells (forks_of places) s t slot f e in
      (omega (arith, (s.named f is_in.0).0, is_in.1), omega (arith, s.last f is_in.0, is_in.2))
