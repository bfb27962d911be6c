-- A fork that ends once its map is empty.
use Rattle.std.proofs.Common.{◌≡◌, ◌≢◌, ◌⊎◌, inl, inr, ℕ, suc, ◌+◌, ◌<◌, List, [], ◌∷◌, Bool, true, false, not, ◌&&◌, cond, Option, None, Some, refl, sym, ◌∙◌, ap, arith, is_some, length, map}
use Rattle.std.specs.Prelude.{nat_eq, nat_lt, slice_get, slice_set}
use Rattle.std.specs.List.{count_by, sum_by}
use Rattle.std.specs.Option.{option_map_or}
use Rattle.std.specs.FinMap as fin
use Rattle.std.proofs.lemmas.Bool.{cases_eq}
use Rattle.std.proofs.lemmas.Bool.Decides.{eqb_tells}
use Rattle.std.proofs.lemmas.List.{get_or-set_same, get_or-set_other, length-set}
use Rattle.std.proofs.lemmas.List.Sums.{sum_by-set, sum_by-cons}
use Rattle.machine_names.specs.declared.names.ForkName.{ForkName}
use Rattle.machine_names.specs.declared.names.PageName.{PageName}
use Rattle.machine_names.specs.declared.names.Tty.{Tty}
use Rattle.plain_pages.specs.declared.map.MapEntry.TheVariants as map_entry
use Rattle.plain_pages.specs.PlainPages.{NumberedPages, Map}
use Rattle.plain_pages.specs.Room.{same_page, page_in, uses}
use Rattle.plain_pages.specs.References.{without_fork}
use Rattle.machine_names.specs.Orders.{same_fork}
use Rattle.plain_pages.specs.WholePages.{AreWhole}
use Rattle.machine_names.proofs.OrderLemmas.{fork_cmp_total, fork_cmp_apart, fork_tied}
use Rattle.plain_pages.proofs.Counts.{weight}
use Rattle.plain_pages.proofs.Whole.{map_uses, uses_are}
use Rattle.plain_pages.proofs.Kept.{AreKept, kept_same, kept_on, fork_kept, fork_maps, total_remove, unmapped_kept}
use Rattle.flat_tables.specs.declared.held_entry.EntryAt.{EntryAt}
use Rattle.flat_tables.specs.declared.held_entry.HeldEntry.{HeldEntry}
use Rattle.flat_tables.specs.declared.held_entry.HeldEntry.TheVariants.{Empty}
use Rattle.flat_tables.specs.declared.held_map.HeldMap.{HeldMap}
use Rattle.flat_tables.specs.HeldMaps.{AreHeld, fork_at, held_entry, map_at, entries_of, entries_total, entry_of, points_at, index_of, living_in, living_of, maps_held}
use Rattle.flat_tables.specs.SlotTables.{Tables, AreTables}
use Rattle.flat_tables.specs.TableSteps.{fork_ended}
use Rattle.flat_pages.specs.Emptying.{AreFewer}
use Rattle.flat_tables.proofs.AgreedTables.{agreed, named_in}
use Rattle.flat_tables.proofs.ForkMaps.{SameFork, fork_tells, Once, searched, index_is, index_none, fork_within}
use Rattle.flat_tables.proofs.LivingMaps.{get_living, get_gone}

module _ (maps : List HeldMap) (held : AreHeld maps) (k : ℕ) (f : ForkName) (is : fork_at maps k ≡ Some f) where
  abbrev ended : List HeldMap
  ended = slice_set maps k (record (map_at maps k) { fork = None })

  below : k < length maps
  below = fork_within maps k f is

  abbrev nobody_map : HeldMap
  nobody_map = record { fork = None; entries = [] }

  here : map_at ended k ≡ record (map_at maps k) { fork = None }
  here = get_or-set_same maps k (record (map_at maps k) { fork = None }) nobody_map below

  other : (j : ℕ) → j ≢ k → map_at ended j ≡ map_at maps j
  other j ne = get_or-set_other maps k j (record (map_at maps k) { fork = None }) nobody_map ne

  entries_still : (j : ℕ) → (map_at ended j).entries ≡ (map_at maps j).entries
  entries_still j = elim (cases_eq j k) [
    | inl same ↦ ap (λ i. (map_at ended i).entries) same ∙ ap (λ (m : HeldMap). m.entries) here ∙ ap (λ i. (map_at maps i).entries) (sym same)
    | inr ne ↦ ap (λ (m : HeldMap). m.entries) (other j ne)
  ]

  -- a map that is a fork's is still the same fork's, but not that of the one that ends
  pub fork_before : (j : ℕ) (g : ForkName) → fork_at ended j ≡ Some g → (j ≢ k) × (fork_at maps j ≡ Some g)
  fork_before j g h = elim (cases_eq j k) [
    | inl same ↦ absurd (let z : None ≡ Some g = sym (ap (λ (m : HeldMap). m.fork) here) ∙ ap (fork_at ended) (sym same) ∙ h in cc z)
    | inr ne ↦ (ne, sym (ap (λ (m : HeldMap). m.fork) (other j ne)) ∙ h)
  ]

  fork_after : (j : ℕ) → j ≢ k → fork_at ended j ≡ fork_at maps j
  fork_after j ne = ap (λ (m : HeldMap). m.fork) (other j ne)

  pub ended_once : Once ended
  ended_once i j g a b = held.once i j g (fork_before i g a).1 (fork_before j g b).1

  module _ (empty : (page : ℕ) (e : HeldEntry) → held_entry maps (record { map = k; page = page }) ≡ Some e → e ≡ Empty) where
    pub ended_held : AreHeld ended
    ended_held = record {
      count = length-set maps k (record (map_at maps k) { fork = None }) ∙ held.count;
      pages = λ j l. ap length (entries_still j) ∙ held.pages j (omega (arith, l, length-set maps k (record (map_at maps k) { fork = None })));
      once = ended_once;
      from = λ j g h. held.from j g (fork_before j g h).1;
      below = λ j g h. held.below j g (fork_before j g h).1;
      links = λ at l a h. held.links at l a (ap (λ (es : List HeldEntry). slice_get es at.page) (sym (entries_still at.map)) ∙ h);
      unused = unused;
    }
      where
        unused : (at : EntryAt) (e : HeldEntry) → fork_at ended at.map ≡ None → held_entry ended at ≡ Some e → e ≡ Empty
        unused at e none h =
            let before : held_entry maps at ≡ Some e = ap (λ (es : List HeldEntry). slice_get es at.page) (sym (entries_still at.map)) ∙ h in
            elim (cases_eq at.map k) [
              | inl same ↦ empty at.page e (ap (λ i. held_entry maps (record { map = i; page = at.page })) (sym same) ∙ before)
              | inr ne ↦ held.unused at e (sym (fork_after at.map ne) ∙ none) before
            ]

  -- no entry is another
  pub ended_total : (w : HeldEntry → ℕ) → entries_total w ended ≡ entries_total w maps
  ended_total w = let s = sum_by-set (λ (m : HeldMap). sum_by w m.entries) maps k (record (map_at maps k) { fork = None }) nobody_map below in omega (arith, s)

  one_here : (p : ForkName → Bool) (b : Bool) → p f ≡ b → count_by (λ (m : HeldMap). option_map_or p m.fork false) ended + cond b 1 0 ≡ count_by (λ (m : HeldMap). option_map_or p m.fork false) maps
  one_here p b tests =
      let s = sum_by-set (λ (m : HeldMap). cond (option_map_or p m.fork false) 1 0) maps k (record (map_at maps k) { fork = None }) nobody_map below in
      let was : ◌≡◌ {A = ℕ} (cond (option_map_or p (map_at maps k).fork false) 1 0) (cond b 1 0) = ap (λ (o : Option ForkName). cond (option_map_or p o false) 1 0) is ∙ ap (λ c. cond c 1 0) tests in
      omega (arith, s, was)

  pub ended_living : living_in ended + 1 ≡ living_in maps
  ended_living =
      let s = sum_by-set (λ (m : HeldMap). cond (is_some m.fork) 1 0) maps k (record (map_at maps k) { fork = None }) nobody_map below in
      let was : ◌≡◌ {A = ℕ} (cond (is_some (map_at maps k).fork) 1 0) 1 = ap (λ (o : Option ForkName). cond (is_some o) 1 0) is in
      omega (arith, s, was)

  pub ended_own : living_of ended f.tty + 1 ≡ living_of maps f.tty
  ended_own = one_here (λ g. nat_eq g.tty.0 f.tty.0) true (itself f.tty.0)
    where
      itself : (n : ℕ) → nat_eq n n ≡ true
      itself n = elim (eqb_tells n n) [ inl t ↦ t.0 | inr t ↦ absurd (t.1 refl) ]

  pub ended_other : (t : Tty) → t ≢ f.tty → living_of ended t ≡ living_of maps t
  ended_other t ne = let o = one_here (λ g. nat_eq g.tty.0 t.0) false (apart (eqb_tells f.tty.0 t.0)) in omega (arith, o)
    where
      apart : ((nat_eq f.tty.0 t.0 ≡ true) × (f.tty.0 ≡ t.0)) ⊎ ((nat_eq f.tty.0 t.0 ≡ false) × (f.tty.0 ≡ t.0 → ⊥)) → nat_eq f.tty.0 t.0 ≡ false
      apart (inl e) = absurd (ne (λ i. record { 0 = sym e.1 i }))
      apart (inr e) = e.0

  pub ended_lives : (g : ForkName) → is_some (index_of ended g) ≡ (not (same_fork g f) && is_some (index_of maps g))
  ended_lives g = by (fork_tells g f) (searched maps g)
    where
      by : SameFork g f → ((j : ℕ) × (index_of maps g ≡ Some j) × (fork_at maps j ≡ Some g)) ⊎ ((index_of maps g ≡ None) × ((j : ℕ) → fork_at maps j ≢ Some g)) → is_some (index_of ended g) ≡ (not (same_fork g f) && is_some (index_of maps g))
      by (inl t) r = ap is_some (index_none ended g (λ j h. (let b = fork_before j g h in b.0 (held.once j k g b.1 (is ∙ ap Some (sym t.1)))))) ∙ sym (ap (λ b. not b && is_some (index_of maps g)) t.0)
      by (inr t) (inl r) =
          ap is_some (index_is ended ended_once g r.0 (fork_after r.0 (λ same. t.1 (let z : Some g ≡ Some f = sym r.2 ∙ ap (fork_at maps) same ∙ is in cc z)) ∙ r.2))
          ∙ sym (ap (λ b. not b && is_some (index_of maps g)) t.0 ∙ ap is_some r.1)
      by (inr t) (inr r) = ap is_some (index_none ended g (λ j h. r.1 j (fork_before j g h).1)) ∙ sym (ap (λ b. not b && is_some (index_of maps g)) t.0 ∙ ap is_some r.0)

  -- the maps, without that fork's
  pub ended_maps : (names : List (Option PageName)) → maps_held names ended ≡ fin.remove (maps_held names maps) f
  ended_maps names = fin.same_map fork_cmp_total fork_cmp_apart _ _ (λ g. by g (fork_tells g f) (searched maps g) ∙ sym (fin.get-remove fork_cmp_total (maps_held names maps) f g ∙ ap (λ b. cond b None (fin.get (maps_held names maps) g)) (fork_tied g f)))
    where
      by : (g : ForkName) → SameFork g f → ((j : ℕ) × (index_of maps g ≡ Some j) × (fork_at maps j ≡ Some g)) ⊎ ((index_of maps g ≡ None) × ((j : ℕ) → fork_at maps j ≢ Some g))
          → fin.get (maps_held names ended) g ≡ cond (same_fork g f) None (fin.get (maps_held names maps) g)
      by g (inl t) r = get_gone names ended g (λ j h. (let b = fork_before j g h in b.0 (held.once j k g b.1 (is ∙ ap Some (sym t.1))))) ∙ sym (ap (λ b. cond b None (fin.get (maps_held names maps) g)) t.0)
      by g (inr t) (inl r) =
          let ne : r.0 ≢ k = λ same. t.1 (let z : Some g ≡ Some f = sym r.2 ∙ ap (fork_at maps) same ∙ is in cc z) in
          get_living names ended ended_once g r.0 (fork_after r.0 ne ∙ r.2) ∙ ap (λ (m : HeldMap). Some (entries_of names m)) (other r.0 ne)
          ∙ sym (ap (λ b. cond b None (fin.get (maps_held names maps) g)) t.0 ∙ get_living names maps held.once g r.0 r.2)
      by g (inr t) (inr r) = get_gone names ended g (λ j h. r.1 j (fork_before j g h).1) ∙ sym (ap (λ b. cond b None (fin.get (maps_held names maps) g)) t.0 ∙ get_gone names maps g r.1)

-- entries that are all empty name no page
pub none_named : (names : List (Option PageName)) (n : PageName) (es : List HeldEntry) → ((i : ℕ) (e : HeldEntry) → slice_get es i ≡ Some e → e ≡ Empty) → map_uses n (map (entry_of names) es) ≡ 0
none_named names n [] empty = refl
none_named names n (e ∷ es) empty =
    let first : e ≡ Empty = empty 0 e refl in
    let rest = none_named names n es (λ i x h. empty (suc i) x h) in
    ap (λ (x : HeldEntry). map_uses n (entry_of names x ∷ map (entry_of names) es)) first ∙ omega (arith, rest, sum_by-cons (weight (same_page n) page_in) map_entry.Empty (map (entry_of names) es))

-- the tables once the fork has ended
pub ended_tables : (t : Tables) → AreTables t → (k : ℕ) (f : ForkName) → fork_at t.maps k ≡ Some f → ((page : ℕ) (e : HeldEntry) → held_entry t.maps (record { map = k; page = page }) ≡ Some e → e ≡ Empty) → AreTables (fork_ended t k)
ended_tables t a k f is empty =
    agreed (fork_ended t k) (named_in t a)
    (record { held = ended_held t.maps a.held k f is empty; counted = a.counted; shares = λ h. omega (arith, a.shares h, ended_total t.maps a.held k f is (points_at h)); filed = a.filed; shared = a.shared })
    (omega (arith, a.living, ended_living t.maps a.held k f is)) (omega (arith, a.room))

-- pages of which a fork's map was emptied and then taken away are those without the fork
pub fewer_without : (p q : NumberedPages) (f : ForkName) (m n : Map) → AreWhole p → AreWhole q → AreFewer p q f → fin.get p.maps f ≡ Some m → fin.get q.maps f ≡ Some n → ((x : PageName) → map_uses x n ≡ 0)
    → record q { maps = fin.remove q.maps f } ≡ without_fork p f
fewer_without p q f m n w v fewer there still none =
    kept_same p (record q { maps = fin.remove q.maps f }) (without_fork p f) (kept_on p q (record q { maps = fin.remove q.maps f }) kept (unmapped_kept q v f n still none) fewer_named) (fork_kept p w f m there)
    (removed ∙ sym (fork_maps p w f m there))
  where
    kept : AreKept p q
    kept = record { objects = fewer.pages.objects; files = fewer.files; page_serials = fewer.pages.page_serials; console_serial = fewer.pages.console_serial; limit = fewer.pages.limit }

    fewer_named : (x : PageName) → nat_lt 0 (uses (record q { maps = fin.remove q.maps f }) x) ≡ true → nat_lt 0 (uses q x) ≡ true
    fewer_named x h = ap (nat_lt 0) (omega (arith, uses_are q x, uses_are (record q { maps = fin.remove q.maps f }) x, total_remove (map_uses x) q.maps f n still, none x)) ∙ h

    removed : fin.remove q.maps f ≡ fin.remove p.maps f
    removed = fin.same_map fork_cmp_total fork_cmp_apart _ _ (λ g. by g (same_fork g f) refl)
      where
        by : (g : ForkName) (b : Bool) → same_fork g f ≡ b → fin.get (fin.remove q.maps f) g ≡ fin.get (fin.remove p.maps f) g
        by g true e = fin.get-remove fork_cmp_total q.maps f g ∙ ap (λ b. cond b None (fin.get q.maps g)) (fork_tied g f ∙ e) ∙ sym (fin.get-remove fork_cmp_total p.maps f g ∙ ap (λ b. cond b None (fin.get p.maps g)) (fork_tied g f ∙ e))
        by g false e =
            fin.get-remove fork_cmp_total q.maps f g ∙ ap (λ b. cond b None (fin.get q.maps g)) (fork_tied g f ∙ e) ∙ fewer.others g e
            ∙ sym (fin.get-remove fork_cmp_total p.maps f g ∙ ap (λ b. cond b None (fin.get p.maps g)) (fork_tied g f ∙ e))
