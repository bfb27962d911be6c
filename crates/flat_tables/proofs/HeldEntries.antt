-- Entries of maps in memory, and numbers summed over them.
use Rattle.std.proofs.Common.{◌≡◌, ◌≢◌, ◌⊎◌, inl, inr, ℕ, zero, suc, ◌+◌, ◌<◌, ◌≤◌, List, [], ◌∷◌, true, false, cond, Option, None, Some, length, refl, sym, ◌∙◌, ap, arith, nat_eq}
use Rattle.std.specs.Prelude.{slice_get, slice_set, slice_index_or}
use Rattle.std.specs.List.{sum_by}
use Rattle.std.proofs.lemmas.Option.{slice_get_within, get_or_from_slice_get}
use Rattle.std.proofs.lemmas.List.{get_or-set_same, get_or-set_other, length-set, get_or_past}
use Rattle.std.proofs.lemmas.List.Sums.{sum_by-set, sum_by-cons}
use Rattle.std.proofs.lemmas.Bool.{cases_eq, cases_lt}
use Rattle.std.proofs.lemmas.Bool.Decides.{eqb_tells}
use Rattle.page_homes.specs.declared.homes.Home.{Home}
use Rattle.machine_names.specs.declared.names.Access.{Access}
use Rattle.flat_tables.specs.declared.held_entry.HeldEntry.{HeldEntry}
use Rattle.flat_tables.specs.declared.held_entry.HeldEntry.TheVariants.{Empty, Page}
use Rattle.flat_tables.specs.declared.held_entry.EntryAt.{EntryAt}
use Rattle.flat_tables.specs.declared.held_map.HeldMap.{HeldMap}
use Rattle.flat_tables.specs.HeldMaps.{map_at, fork_at, held_entry, entry_set, with_entry, entries_total, points_at}

-- an entry that there is stands in a map that there is
pub held_within : (maps : List HeldMap) (at : EntryAt) (e : HeldEntry) → held_entry maps at ≡ Some e → at.map < length maps
held_within maps at e h = elim (cases_lt at.map (length maps)) [
  | inl l ↦ l
  | inr past ↦ absurd (let z : ◌≡◌ {A = Option HeldEntry} None (Some e) = sym (ap (λ (m : HeldMap). slice_get m.entries at.page) (get_or_past maps at.map (record { fork = None; entries = [] }) past)) ∙ h in cc z)
]

pub get_set_same : {A : Type 0} (xs : List A) (i : ℕ) (x y : A) → slice_get xs i ≡ Some x → slice_get (slice_set xs i y) i ≡ Some y
get_set_same [] i x y h = absurd (cc h)
get_set_same (z ∷ xs) zero x y h = refl
get_set_same (z ∷ xs) (suc i) x y h = get_set_same xs i x y h

pub get_set_other : {A : Type 0} (xs : List A) (i j : ℕ) (y : A) → i ≢ j → slice_get (slice_set xs i y) j ≡ slice_get xs j
get_set_other [] i j y ne = refl
get_set_other (z ∷ xs) zero zero y ne = absurd (ne refl)
get_set_other (z ∷ xs) zero (suc j) y ne = refl
get_set_other (z ∷ xs) (suc i) zero y ne = refl
get_set_other (z ∷ xs) (suc i) (suc j) y ne = get_set_other xs i j y (λ e. ne (ap suc e))

pub at_tells : (a b : EntryAt) → (a ≡ b) ⊎ (a ≢ b)
at_tells a b = by (eqb_tells a.map b.map) (eqb_tells a.page b.page)
  where
    by : ((nat_eq a.map b.map ≡ true) × (a.map ≡ b.map)) ⊎ ((nat_eq a.map b.map ≡ false) × (a.map ≢ b.map)) → ((nat_eq a.page b.page ≡ true) × (a.page ≡ b.page)) ⊎ ((nat_eq a.page b.page ≡ false) × (a.page ≢ b.page)) → (a ≡ b) ⊎ (a ≢ b)
    by (inl t) (inl u) = inl (λ i. record { map = t.1 i; page = u.1 i })
    by (inr t) u = inr (λ e. t.1 (ap (λ (x : EntryAt). x.map) e))
    by (inl t) (inr u) = inr (λ e. u.1 (ap (λ (x : EntryAt). x.page) e))

module _ (maps : List HeldMap) (at : EntryAt) (e : HeldEntry) where
  -- the map with a number, once an entry is set
  pub map_set_same : at.map < length maps → map_at (with_entry maps at e) at.map ≡ entry_set (map_at maps at.map) at.page e
  map_set_same l = get_or-set_same maps at.map (entry_set (map_at maps at.map) at.page e) (record { fork = None; entries = [] }) l

  pub map_set_other : (k : ℕ) → k ≢ at.map → map_at (with_entry maps at e) k ≡ map_at maps k
  map_set_other k ne = get_or-set_other maps at.map k (entry_set (map_at maps at.map) at.page e) (record { fork = None; entries = [] }) ne

  -- no map becomes another fork's
  pub fork_set : (k : ℕ) → fork_at (with_entry maps at e) k ≡ fork_at maps k
  fork_set k = elim (cases_eq k at.map) [
    | inr ne ↦ ap (λ (m : HeldMap). m.fork) (map_set_other k ne)
    | inl is ↦ elim (cases_lt at.map (length maps)) [
      | inl l ↦ ap (fork_at (with_entry maps at e)) is ∙ ap (λ (m : HeldMap). m.fork) (map_set_same l) ∙ ap (fork_at maps) (sym is)
      | inr past ↦ ap (fork_at (with_entry maps at e)) is ∙ ap (λ (m : HeldMap). m.fork) (get_or_past (with_entry maps at e) at.map (record { fork = None; entries = [] }) (omega (arith, length-set maps at.map (entry_set (map_at maps at.map) at.page e))))
          ∙ sym (ap (λ (m : HeldMap). m.fork) (get_or_past maps at.map (record { fork = None; entries = [] }) past)) ∙ ap (fork_at maps) (sym is)
    ]
  ]

  pub maps_length : length (with_entry maps at e) ≡ length maps
  maps_length = length-set maps at.map (entry_set (map_at maps at.map) at.page e)

  pub entries_length : (k : ℕ) → length (map_at (with_entry maps at e) k).entries ≡ length (map_at maps k).entries
  entries_length k = elim (cases_eq k at.map) [
    | inr ne ↦ ap (λ (m : HeldMap). length m.entries) (map_set_other k ne)
    | inl is ↦ elim (cases_lt at.map (length maps)) [
      | inl l ↦ ap (λ j. length (map_at (with_entry maps at e) j).entries) is ∙ ap (λ (m : HeldMap). length m.entries) (map_set_same l) ∙ length-set (map_at maps at.map).entries at.page e ∙ ap (λ j. length (map_at maps j).entries) (sym is)
      | inr past ↦ ap (λ j. length (map_at (with_entry maps at e) j).entries) is
          ∙ ap (λ (m : HeldMap). length m.entries) (get_or_past (with_entry maps at e) at.map (record { fork = None; entries = [] }) (omega (arith, maps_length)))
          ∙ sym (ap (λ (m : HeldMap). length m.entries) (get_or_past maps at.map (record { fork = None; entries = [] }) past)) ∙ ap (λ j. length (map_at maps j).entries) (sym is)
    ]
  ]

  -- the entry that is set, and the others
  pub entry_same : (old : HeldEntry) → held_entry maps at ≡ Some old → held_entry (with_entry maps at e) at ≡ Some e
  entry_same old h = ap (λ (m : HeldMap). slice_get m.entries at.page) (map_set_same (held_within maps at old h)) ∙ get_set_same (map_at maps at.map).entries at.page old e h

  pub entry_other : (b : EntryAt) → b ≢ at → held_entry (with_entry maps at e) b ≡ held_entry maps b
  entry_other b ne = elim (cases_eq b.map at.map) [
    | inr other ↦ ap (λ (m : HeldMap). slice_get m.entries b.page) (map_set_other b.map other)
    | inl is ↦ elim (cases_lt at.map (length maps)) [
      | inl l ↦ ap (λ k. slice_get (map_at (with_entry maps at e) k).entries b.page) is ∙ ap (λ (m : HeldMap). slice_get m.entries b.page) (map_set_same l)
          ∙ get_set_other (map_at maps at.map).entries at.page b.page e (λ p. ne (λ i. record { map = is i; page = sym p i }))
          ∙ ap (λ k. slice_get (map_at maps k).entries b.page) (sym is)
      | inr past ↦ ap (λ k. slice_get (map_at (with_entry maps at e) k).entries b.page) is
          ∙ ap (λ (m : HeldMap). slice_get m.entries b.page) (get_or_past (with_entry maps at e) at.map (record { fork = None; entries = [] }) (omega (arith, maps_length)))
          ∙ sym (ap (λ (m : HeldMap). slice_get m.entries b.page) (get_or_past maps at.map (record { fork = None; entries = [] }) past)) ∙ ap (λ k. slice_get (map_at maps k).entries b.page) (sym is)
    ]
  ]

  -- a number summed over all entries, once one is set
  pub total_with : (w : HeldEntry → ℕ) (old : HeldEntry) → held_entry maps at ≡ Some old → entries_total w (with_entry maps at e) + w old ≡ entries_total w maps + w e
  total_with w old h =
      let l = held_within maps at old h in
      let es = (map_at maps at.map).entries in
      let inside = slice_get_within es at.page old h in
      let here = sum_by-set w es at.page e Empty inside in
      let is : w (slice_index_or es at.page Empty) ≡ w old = ap w (get_or_from_slice_get es at.page old Empty h) in
      omega (arith, sum_by-set (λ (m : HeldMap). sum_by w m.entries) maps at.map (entry_set (map_at maps at.map) at.page e) (record { fork = None; entries = [] }) l, here, is)

-- an entry that is set twice
pub entry_twice : (maps : List HeldMap) (at : EntryAt) (e x : HeldEntry) → with_entry (with_entry maps at e) at x ≡ with_entry maps at x
entry_twice maps at e x = elim (cases_lt at.map (length maps)) [
  | inl l ↦ ap (λ (m : HeldMap). slice_set (with_entry maps at e) at.map (entry_set m at.page x)) (map_set_same maps at e l) ∙ ap (λ es. slice_set (with_entry maps at e) at.map (record (map_at maps at.map) { entries = es })) (set_twice (map_at maps at.map).entries at.page e x)
      ∙ set_twice maps at.map (entry_set (map_at maps at.map) at.page e) (entry_set (map_at maps at.map) at.page x)
  | inr past ↦ set_past (with_entry maps at e) at.map _ (omega (arith, past, maps_length maps at e)) ∙ set_past maps at.map _ past ∙ sym (set_past maps at.map _ past)
]
  where
    set_twice : {A : Type 0} (xs : List A) (i : ℕ) (y z : A) → slice_set (slice_set xs i y) i z ≡ slice_set xs i z
    set_twice [] i y z = refl
    set_twice (w ∷ xs) zero y z = refl
    set_twice (w ∷ xs) (suc i) y z = ap (λ ys. w ∷ ys) (set_twice xs i y z)

    set_past : {A : Type 0} (xs : List A) (i : ℕ) (y : A) → length xs ≤ i → slice_set xs i y ≡ xs
    set_past [] i y l = refl
    set_past (w ∷ xs) zero y l = absurd (omega (arith, l))
    set_past (w ∷ xs) (suc i) y l = ap (λ ys. w ∷ ys) (set_past xs i y (omega (arith, l)))

-- an entry's number is no more than the sum, where an empty entry counts nothing
pub total_le : (w : HeldEntry → ℕ) (maps : List HeldMap) (at : EntryAt) (e : HeldEntry) → w Empty ≡ 0 → held_entry maps at ≡ Some e → w e ≤ entries_total w maps
total_le w maps at e none h = omega (arith, total_with maps at Empty w e h, none)

sum_same : {A : Type 0} (w v : A → ℕ) (xs : List A) → ((i : ℕ) (x : A) → slice_get xs i ≡ Some x → w x ≡ v x) → sum_by w xs ≡ sum_by v xs
sum_same w v [] same = refl
sum_same w v (x ∷ xs) same = omega (arith, sum_by-cons w x xs, sum_by-cons v x xs, same zero x refl, sum_same w v xs (λ i. same (suc i)))

-- two numbers that agree on each entry have one sum
pub total_same : (w v : HeldEntry → ℕ) (maps : List HeldMap) → ((at : EntryAt) (e : HeldEntry) → held_entry maps at ≡ Some e → w e ≡ v e) → entries_total w maps ≡ entries_total v maps
total_same w v maps same = sum_same (λ (m : HeldMap). sum_by w m.entries) (λ (m : HeldMap). sum_by v m.entries) maps (λ k m h.
    sum_same w v m.entries (λ page e g. same (record { map = k; page = page }) e (ap (λ (n : HeldMap). slice_get n.entries page) (get_or_from_slice_get maps k m (record { fork = None; entries = [] }) h) ∙ g)))

sum_none : {A : Type 0} (xs : List A) → sum_by (λ x. 0) xs ≡ 0
sum_none [] = refl
sum_none (x ∷ xs) = omega (arith, sum_by-cons (λ (y : _). 0) x xs, sum_none xs)

pub total_none : (maps : List HeldMap) → entries_total (λ e. 0) maps ≡ 0
total_none [] = refl
total_none (m ∷ maps) = omega (arith, sum_by-cons (λ (n : HeldMap). sum_by (λ (e : HeldEntry). 0) n.entries) m maps, sum_none m.entries, total_none maps)

pub sum_zero : {A : Type 0} (w : A → ℕ) (xs : List A) → ((i : ℕ) (x : A) → slice_get xs i ≡ Some x → w x ≡ 0) → sum_by w xs ≡ 0
sum_zero w xs none = sum_same w (λ x. 0) xs none ∙ sum_none xs

-- an entry points at its own home alone
pub points_self : (h : Home) (a : Access) → points_at h.0 (Page h a) ≡ 1
points_self h a = elim (eqb_tells h.0 h.0) [ inl t ↦ ap (λ b. cond b 1 0) t.0 | inr t ↦ absurd (t.1 refl) ]

pub points_here : (k : ℕ) (h : Home) (a : Access) → h.0 ≡ k → points_at k (Page h a) ≡ 1
points_here k h a is = ap (λ j. points_at j (Page h a)) (sym is) ∙ points_self h a

pub points_other : (k : ℕ) (h : Home) (a : Access) → h.0 ≢ k → points_at k (Page h a) ≡ 0
points_other k h a ne = elim (eqb_tells h.0 k) [ inl t ↦ absurd (ne t.1) | inr t ↦ ap (λ b. cond b 1 0) t.0 ]
