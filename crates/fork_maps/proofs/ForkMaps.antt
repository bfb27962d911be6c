-- Which map is whose.
use Rattle.std.proofs.Common.{◌≡◌, ◌≢◌, ◌⊎◌, inl, inr, ℕ, zero, suc, ◌<◌, List, [], ◌∷◌, true, false, Option, None, Some, length, refl, sym, ◌∙◌, ap, arith}
use Rattle.std.specs.Prelude.{◌==◌, slice_set}
use Rattle.std.specs.Option.{option_map_or}
use Rattle.std.proofs.lemmas.Bool.Decides.{eqb_tells}
use Rattle.std.proofs.lemmas.List.{get_or-set_same, get_or-set_other}
use Rattle.machine_names.specs.declared.names.ForkName.{ForkName}
use Rattle.machine_names.specs.Orders.{same_fork}
use Rattle.fork_maps.specs.ForkMaps.{fork_at, index_of, is_map_of}

abbrev pub SameFork : ForkName → ForkName → Type 0
SameFork f g = ((same_fork f g ≡ true) × (f ≡ g)) ⊎ ((same_fork f g ≡ false) × (f ≢ g))

pub fork_tells : (f g : ForkName) → SameFork f g
fork_tells f g = by (eqb_tells f.tty.0 g.tty.0) (eqb_tells f.serial g.serial)
  where
    by : (((f.tty.0 == g.tty.0) ≡ true) × (f.tty.0 ≡ g.tty.0)) ⊎ (((f.tty.0 == g.tty.0) ≡ false) × (f.tty.0 ≢ g.tty.0))
        → (((f.serial == g.serial) ≡ true) × (f.serial ≡ g.serial)) ⊎ (((f.serial == g.serial) ≡ false) × (f.serial ≢ g.serial)) → SameFork f g
    by (inl t) (inl u) = inl (rw (t.0, u.0) refl, λ i. record { tty = record { 0 = t.1 i }; serial = u.1 i })
    by (inl t) (inr u) = inr (rw (t.0, u.0) refl, λ e. u.1 (ap (λ (x : ForkName). x.serial) e))
    by (inr t) u = inr (rw t.0 refl, λ e. t.1 (ap (λ (x : ForkName). x.tty.0) e))

module _ {M : Type 0} (whose : M → Option ForkName) (past : M) where
  abbrev pub Searched : List M → ForkName → Type 0
  Searched maps f = ((k : ℕ) × (index_of whose maps f ≡ Some k) × (fork_at whose past maps k ≡ Some f)) ⊎ ((index_of whose maps f ≡ None) × ((k : ℕ) → fork_at whose past maps k ≢ Some f))

  abbrev pub Once : List M → Type 0
  Once maps = (j k : ℕ) (f : ForkName) → fork_at whose past maps j ≡ Some f → fork_at whose past maps k ≡ Some f → j ≡ k

-- each map of a list is some fork's or nobody's, and past its end stands nobody's
module _ {M : Type 0} (whose : M → Option ForkName) (past : M) (nobody : whose past ≡ None) where
  -- a map is a fork's, or it is not
  map_tells : (m : M) (f : ForkName) → ((is_map_of whose m f ≡ true) × (whose m ≡ Some f)) ⊎ ((is_map_of whose m f ≡ false) × (whose m ≢ Some f))
  map_tells m f = by (whose m)
    where
      by : (o : Option ForkName) → ((option_map_or (same_fork f) o false ≡ true) × (o ≡ Some f)) ⊎ ((option_map_or (same_fork f) o false ≡ false) × (o ≢ Some f))
      by None = inr (refl, λ e. absurd (cc e))
      by (Some g) = elim (fork_tells f g) [
        | inl t ↦ inl (t.0, ap Some (sym t.1))
        | inr t ↦ inr (t.0, λ e. t.1 (let same : g ≡ f = cc e in sym same))
      ]

  -- a fork has a map with a number, or none
  pub searched : (maps : List M) (f : ForkName) → Searched whose past maps f
  searched [] f = inr (refl, λ k e. absurd (let z : None ≡ Some f = sym nobody ∙ e in cc z))
  searched (m ∷ maps) f = by (map_tells m f) (searched maps f)
    where
      behind : whose m ≢ Some f → ((k : ℕ) → fork_at whose past maps k ≢ Some f) → (k : ℕ) → fork_at whose past (m ∷ maps) k ≢ Some f
      behind ne none zero e = ne e
      behind ne none (suc k) e = none k e

      by : ((is_map_of whose m f ≡ true) × (whose m ≡ Some f)) ⊎ ((is_map_of whose m f ≡ false) × (whose m ≢ Some f)) → Searched whose past maps f → Searched whose past (m ∷ maps) f
      by (inl t) r = inl (0, rw t.0 refl, t.1)
      by (inr t) (inl r) = inl (suc r.0, rw (t.0, r.1) refl, r.2)
      by (inr t) (inr r) = inr (rw (t.0, r.0) refl, behind t.1 r.1)

  pub index_none : (maps : List M) (f : ForkName) → ((k : ℕ) → fork_at whose past maps k ≢ Some f) → index_of whose maps f ≡ None
  index_none maps f none = elim (searched maps f) [ inl r ↦ absurd (none r.0 r.2) | inr r ↦ r.0 ]

  pub index_fork : (maps : List M) (f : ForkName) (k : ℕ) → index_of whose maps f ≡ Some k → fork_at whose past maps k ≡ Some f
  index_fork maps f k e = elim (searched maps f) [
    | inl r ↦ let same : r.0 ≡ k = (let z : Some r.0 ≡ Some k = sym r.1 ∙ e in cc z) in ap (fork_at whose past maps) (sym same) ∙ r.2
    | inr r ↦ absurd (let z : None ≡ Some k = sym r.0 ∙ e in cc z)
  ]

  -- the map that is a fork's is the one with its number
  pub index_is : (maps : List M) → Once whose past maps → (f : ForkName) (k : ℕ) → fork_at whose past maps k ≡ Some f → index_of whose maps f ≡ Some k
  index_is maps once f k e = elim (searched maps f) [ inl r ↦ r.1 ∙ ap Some (once r.0 k f r.2 e) | inr r ↦ absurd (r.1 k e) ]

  -- a fork's map is there
  pub fork_within : (maps : List M) (k : ℕ) (f : ForkName) → fork_at whose past maps k ≡ Some f → k < length maps
  fork_within [] k f e = absurd (let z : None ≡ Some f = sym nobody ∙ e in cc z)
  fork_within (m ∷ maps) zero f e = omega arith
  fork_within (m ∷ maps) (suc k) f e = omega (arith, fork_within maps k f e)

  -- a map that is set is its fork's, and each other one is whose it was
  pub set_here : (maps : List M) (k : ℕ) (m : M) → k < length maps → fork_at whose past (slice_set maps k m) k ≡ whose m
  set_here maps k m within = ap whose (get_or-set_same maps k m past within)

  pub set_other : (maps : List M) (k : ℕ) (m : M) (j : ℕ) → j ≢ k → fork_at whose past (slice_set maps k m) j ≡ fork_at whose past maps j
  set_other maps k m j ne = ap whose (get_or-set_other maps k j m past ne)
