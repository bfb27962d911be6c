-- The plain pages that tables in agreement are.
use Rattle.std.proofs.Common.{◌≡◌, ◌≢◌, ◌⊎◌, inl, inr, ℕ, zero, suc, ◌+◌, ◌<◌, ◌≤◌, List, [], ◌∷◌, true, false, cond, Option, None, Some, length, map, refl, sym, ◌∙◌, ap, subst, arith, is_some}
use Rattle.std.specs.Prelude.{slice_index_or, nat_lt, count_by}
use Rattle.std.specs.List.{sum_by}
use Rattle.std.specs.Option.{option_map, option_map_or, unwrap_or}
use Rattle.std.specs.FinMap as fin
use Rattle.std.proofs.lemmas.Bool.Decides.{nat_tests}
use Rattle.std.proofs.lemmas.List.Sums.{sum_by-cons}
use Rattle.std.proofs.lemmas.List.{length-map}
use Rattle.outside.specs.declared.TheConstants.{PAGE_WORDS}
use Rattle.machine_names.specs.declared.names.ForkName.{ForkName}
use Rattle.machine_names.specs.declared.names.PageName.{PageName}
use Rattle.page_homes.specs.declared.homes.Home.{Home}
use Rattle.machine_names.specs.declared.names.Access.{Access}
use Rattle.machine_names.specs.declared.names.TheConstants.{SPACE_PAGES, TERMINALS}
use Rattle.plain_pages.specs.declared.map.MapEntry.{MapEntry}
use Rattle.plain_pages.specs.declared.map.MapEntry.TheVariants as entry
use Rattle.page_contracts.specs.DrumWords.{DrumWords}
use Rattle.machine_names.specs.Orders.{FilePage, page_cmp, fork_cmp}
use Rattle.plain_pages.specs.PlainPages.{Map, NumberedPages, page_serial}
use Rattle.plain_pages.specs.Room.{same_page, page_in, uses, live}
use Rattle.page_contracts.specs.Stores.{HomePlace, free, away, here, place, is_taken, over_drum, content}
use Rattle.plain_pages.specs.WholePages.{AreWhole}
use Rattle.machine_names.proofs.OrderLemmas.{page_cmp_total, page_tied, fork_cmp_total}
use Rattle.plain_pages.proofs.Counts.{Same, page_tells, same_itself, weight, total_insert}
use Rattle.plain_pages.proofs.Whole.{tally, uses_are, live_whole, no_values}
use Rattle.flat_tables.specs.declared.held_entry.EntryAt.{EntryAt}
use Rattle.flat_tables.specs.declared.held_entry.HeldEntry.{HeldEntry}
use Rattle.flat_tables.specs.declared.held_entry.HeldEntry.TheVariants.{Empty, Page, Follows}
use Rattle.flat_tables.specs.declared.held_map.HeldMap.{HeldMap}
use Rattle.flat_tables.specs.HeldMaps.{map_at, fork_at, held_entry, name_at, name_of, nobody, entry_of, entries_of, maps_from, maps_held, entries_total, points_at, living_in}
use Rattle.flat_tables.specs.SlotTables.{Objects, with_object, objects_from, objects_of, Tables, plain_of, share_of, is_at, filed_total, AreTables, AreSized}
use Rattle.flat_tables.proofs.HeldEntries.{total_le, total_same, total_none, sum_zero, points_self, points_here, points_other}
use Rattle.flat_tables.proofs.FiledHomes.{at_here, at_other, filed_some, sums_same, values_filed}
use Rattle.flat_tables.proofs.ForkMaps.{Once, searched, index_none, fork_within}
use Rattle.flat_tables.proofs.LivingMaps.{get_from, get_living, get_gone}

-- a page has a home under its name, or none
abbrev pub Housed : List (Option PageName) → PageName → Type 0
Housed names x = ((h : ℕ) × (name_at names h ≡ Some x)) ⊎ ((h : ℕ) → name_at names h ≢ Some x)

abbrev Apart : List (Option PageName) → Type 0
Apart names = (h k : ℕ) (x : PageName) → name_at names h ≡ Some x → name_at names k ≡ Some x → h ≡ k

pub housed : (names : List (Option PageName)) (x : PageName) → Housed names x
housed [] x = inr (λ h e. absurd (cc e))
housed (None ∷ names) x = elim (housed names x) [ inl r ↦ inl (suc r.0, r.1) | inr none ↦ inr (behind none) ]
  where
    behind : ((h : ℕ) → name_at names h ≢ Some x) → (h : ℕ) → name_at (None ∷ names) h ≢ Some x
    behind none zero e = cc e
    behind none (suc h) e = none h e
housed (Some n ∷ names) x = by (page_tells n x) (housed names x)
  where
    behind : n ≢ x → ((h : ℕ) → name_at names h ≢ Some x) → (h : ℕ) → name_at (Some n ∷ names) h ≢ Some x
    behind ne none zero e = ne (cc e)
    behind ne none (suc h) e = none h e

    by : Same n x → Housed names x → Housed (Some n ∷ names) x
    by (inl t) r = inl (0, ap Some t.1)
    by (inr t) (inl r) = inl (suc r.0, r.1)
    by (inr t) (inr none) = inr (behind t.1 none)

-- the objects by their names
module _ (words : ℕ → Option (List ℕ)) where
  inserted : (o : Objects) (n x : PageName) (w : List ℕ) → fin.get (fin.insert o n w) x ≡ cond (same_page x n) (Some w) (fin.get o x)
  inserted o n x w = fin.get-insert page_cmp_total o n w x ∙ ap (λ b. cond b (Some w) (fin.get o x)) (page_tied x n)

  other : (o : Objects) (n : Option PageName) (w : Option (List ℕ)) (x : PageName) → n ≢ Some x → fin.get (with_object n w o) x ≡ fin.get o x
  other o None w x ne = refl
  other o (Some n) None x ne = refl
  other o (Some n) (Some w) x ne = inserted o n x w ∙ by (page_tells x n)
    where
      by : Same x n → cond (same_page x n) (Some w) (fin.get o x) ≡ fin.get o x
      by (inl t) = absurd (ne (ap Some (sym t.1)))
      by (inr t) = ap (λ b. cond b (Some w) (fin.get o x)) t.0

  own : (o : Objects) (w : Option (List ℕ)) (x : PageName) → fin.get o x ≡ None → fin.get (with_object (Some x) w o) x ≡ w
  own o None x none = none
  own o (Some w) x none = inserted o x x w ∙ ap (λ b. cond b (Some w) (fin.get o x)) (same_itself x)

  none_from : (names : List (Option PageName)) (k : ℕ) (x : PageName) → ((h : ℕ) → name_at names h ≢ Some x) → fin.get (objects_from words k names) x ≡ None
  none_from [] k x none = fin.get-empty page_cmp x
  none_from (n ∷ names) k x none = other (objects_from words (suc k) names) n (words k) x (none zero) ∙ none_from names (suc k) x (λ h. none (suc h))

  some_from : (names : List (Option PageName)) (k h : ℕ) (x : PageName) → name_at names h ≡ Some x → ((j : ℕ) → name_at names j ≡ Some x → j ≡ h) → fin.get (objects_from words k names) x ≡ words (k + h)
  some_from [] k h x is only = absurd (cc is)
  some_from (n ∷ names) k zero x is only =
      ap (λ (m : Option PageName). fin.get (with_object m (words k) (objects_from words (suc k) names)) x) is
      ∙ own (objects_from words (suc k) names) (words k) x (none_from names (suc k) x (λ j e. (let z = only (suc j) e in omega (arith, z))))
      ∙ ap words (plus_zero k)
    where
      plus_zero : (k : ℕ) → k ≡ k + 0
      plus_zero k = omega arith
  some_from (n ∷ names) k (suc h) x is only =
      other (objects_from words (suc k) names) n (words k) x (λ e. (let z = only zero e in omega (arith, z)))
      ∙ some_from names (suc k) h x is (λ j e. (let z = only (suc j) e in omega (arith, z)))
      ∙ ap words (later k h)
    where
      later : (k h : ℕ) → suc k + h ≡ k + suc h
      later k h = omega arith

  pub object_none : (names : List (Option PageName)) (x : PageName) → ((h : ℕ) → name_at names h ≢ Some x) → fin.get (objects_of names words) x ≡ None
  unfolding objects_of
  object_none names x none = none_from names 0 x none

  pub object_some : (names : List (Option PageName)) → Apart names → (h : ℕ) (x : PageName) → name_at names h ≡ Some x → fin.get (objects_of names words) x ≡ words h
  unfolding objects_of
  object_some names apart h x is = some_from names 0 h x is (λ j e. apart j h x e is) ∙ ap words (zero_plus h)
    where
      zero_plus : (h : ℕ) → 0 + h ≡ h
      zero_plus h = omega arith

  len_from : (names : List (Option PageName)) (k : ℕ) → Apart names → ((h : ℕ) → is_some (name_at names h) ≡ true → is_some (words (k + h)) ≡ true) → fin.len (objects_from words k names) ≡ count_by is_some names
  len_from [] k apart there = fin.len-empty page_cmp (List ℕ)
  len_from (n ∷ names) k apart there =
      by n (words k) refl (first k (there zero)) (len_from names (suc k) (λ h j x a b. (let z = apart (suc h) (suc j) x a b in omega (arith, z))) (λ h e. later k h (there (suc h) e)))
    where
      first : (k : ℕ) → (is_some n ≡ true → is_some (words (k + 0)) ≡ true) → is_some n ≡ true → is_some (words k) ≡ true
      first k f e = subst (λ (j : ℕ). is_some (words j) ≡ true) (omega arith) (f e)

      later : (k h : ℕ) → is_some (words (k + suc h)) ≡ true → is_some (words (suc k + h)) ≡ true
      later k h e = subst (λ (j : ℕ). is_some (words j) ≡ true) (omega arith) e

      rest : Objects
      rest = objects_from words (suc k) names

      by : (m : Option PageName) (w : Option (List ℕ)) → n ≡ m → (is_some m ≡ true → is_some w ≡ true) → fin.len rest ≡ count_by is_some names → fin.len (with_object m w rest) ≡ count_by is_some (m ∷ names)
      by None w is f r = r ∙ sym (sum_by-cons (λ (o : Option PageName). cond (is_some o) 1 0) None names ∙ plain (count_by is_some names))
        where
          plain : (c : ℕ) → 0 + c ≡ c
          plain c = omega arith
      by (Some m) None is f r = absurd (let z : false ≡ true = f refl in cc z)
      by (Some m) (Some w) is f r =
          let none : fin.get rest m ≡ None = none_from names (suc k) m (λ j e. (let z = apart zero (suc j) m is e in omega (arith, z))) in
          let more : fin.len (fin.insert rest m w) ≡ fin.len rest + 1 = fin.len-insert page_cmp_total rest m w ∙ ap (λ (o : Option (List ℕ)). cond (is_some o) (fin.len rest) (fin.len rest + 1)) none in
          omega (arith, more, r, sum_by-cons (λ (o : Option PageName). cond (is_some o) 1 0) (Some m) names)

  pub objects_len : (names : List (Option PageName)) → Apart names → ((h : ℕ) → is_some (name_at names h) ≡ true → is_some (words h) ≡ true) → fin.len (objects_of names words) ≡ count_by is_some names
  unfolding objects_of
  objects_len names apart there = len_from names 0 apart (λ h e. subst (λ (j : ℕ). is_some (words j) ≡ true) (omega arith) (there h e))

-- a number for each map entry, summed over the living maps
module _ (names : List (Option PageName)) (w : MapEntry → ℕ) (empty : w entry.Empty ≡ 0) where
  sum_mapped : (es : List HeldEntry) → sum_by w (map (entry_of names) es) ≡ sum_by (λ e. w (entry_of names e)) es
  sum_mapped [] = refl
  sum_mapped (e ∷ es) = omega (arith, sum_by-cons w (entry_of names e) (map (entry_of names) es), sum_by-cons (λ (x : HeldEntry). w (entry_of names x)) e es, sum_mapped es)

  abbrev Unused : List HeldMap → Type 0
  Unused maps = (at : EntryAt) (e : HeldEntry) → fork_at maps at.map ≡ None → held_entry maps at ≡ Some e → e ≡ Empty

  values_from : (maps : List HeldMap) → Once maps → Unused maps → sum_by (λ m. sum_by w m) (fin.values (maps_from names maps)) ≡ entries_total (λ e. w (entry_of names e)) maps
  values_from [] once unused = no_values fork_cmp (λ m. sum_by w m)
  values_from (m ∷ maps) once unused =
      by m.fork refl (values_from maps (λ j k f a b. (let z = once (suc j) (suc k) f a b in omega (arith, z))) (λ at e a b. unused (record { map = suc at.map; page = at.page }) e a b))
      ∙ sym (sum_by-cons (λ (n : HeldMap). sum_by (λ e. w (entry_of names e)) n.entries) m maps)
    where
      none_held : m.fork ≡ None → sum_by (λ e. w (entry_of names e)) m.entries ≡ 0
      none_held is = sum_zero (λ e. w (entry_of names e)) m.entries (λ page e h. ap (λ x. w (entry_of names x)) (unused (record { map = 0; page = page }) e is h) ∙ empty)

      by : (o : Option ForkName) → m.fork ≡ o → sum_by (λ n. sum_by w n) (fin.values (maps_from names maps)) ≡ entries_total (λ e. w (entry_of names e)) maps
          → sum_by (λ n. sum_by w n) (fin.values (option_map_or (λ f. fin.insert (maps_from names maps) f (entries_of names m)) o (maps_from names maps))) ≡ sum_by (λ e. w (entry_of names e)) m.entries + entries_total (λ e. w (entry_of names e)) maps
      by None is r = omega (arith, r, none_held is)
      by (Some f) is r =
          let absent : fin.get (maps_from names maps) f ≡ None = gone f is in
          let t = total_insert fork_cmp_total (λ (n : Map). sum_by w n) (maps_from names maps) f (entries_of names m) in
          let zero : option_map_or (λ (n : Map). sum_by w n) (fin.get (maps_from names maps) f) 0 ≡ 0 = ap (λ (o : Option Map). option_map_or (λ (n : Map). sum_by w n) o 0) absent in
          omega (arith, t, zero, r, sum_mapped m.entries)
        where
          gone : (f : ForkName) → m.fork ≡ Some f → fin.get (maps_from names maps) f ≡ None
          gone f is = get_from names maps f ∙ ap (option_map (λ j. entries_of names (map_at maps j))) (index_none maps f (λ k e. (let z = once 0 (suc k) f is e in omega (arith, z))))

  pub values_held : (maps : List HeldMap) → Once maps → Unused maps → sum_by (λ m. sum_by w m) (fin.values (maps_held names maps)) ≡ entries_total (λ e. w (entry_of names e)) maps
  unfolding maps_held
  values_held maps once unused = values_from maps once unused

len_maps_from : (names : List (Option PageName)) (maps : List HeldMap) → Once maps → fin.len (maps_from names maps) ≡ living_in maps
len_maps_from names [] once = fin.len-empty fork_cmp Map
len_maps_from names (m ∷ maps) once = by m.fork refl (len_maps_from names maps (λ j k f a b. (let z = once (suc j) (suc k) f a b in omega (arith, z)))) ∙ sym (sum_by-cons (λ (n : HeldMap). cond (is_some n.fork) 1 0) m maps)
  where
    by : (o : Option ForkName) → m.fork ≡ o → fin.len (maps_from names maps) ≡ living_in maps → fin.len (option_map_or (λ f. fin.insert (maps_from names maps) f (entries_of names m)) o (maps_from names maps)) ≡ cond (is_some o) 1 0 + living_in maps
    by None is r = r ∙ plain (living_in maps)
      where
        plain : (c : ℕ) → c ≡ 0 + c
        plain c = omega arith
    by (Some f) is r =
        let absent : fin.get (maps_from names maps) f ≡ None = get_from names maps f ∙ ap (option_map (λ j. entries_of names (map_at maps j))) (index_none maps f (λ k e. (let z = once 0 (suc k) f is e in omega (arith, z)))) in
        let more : fin.len (fin.insert (maps_from names maps) f (entries_of names m)) ≡ fin.len (maps_from names maps) + 1 = fin.len-insert fork_cmp_total (maps_from names maps) f (entries_of names m) ∙ ap (λ (o : Option Map). cond (is_some o) (fin.len (maps_from names maps)) (fin.len (maps_from names maps) + 1)) absent in
        omega (arith, more, r)

pub len_maps : (names : List (Option PageName)) (maps : List HeldMap) → Once maps → fin.len (maps_held names maps) ≡ living_in maps
unfolding maps_held
len_maps names maps once = len_maps_from names maps once

module _ (t : Tables) (a : AreTables t) where
  -- an entry that names the page of a home: the home has a name
  pub entry_named : (at : EntryAt) (h : Home) (b : Access) → held_entry t.maps at ≡ Some (Page h b) → (n : PageName) × (name_at t.names h.0 ≡ Some n)
  entry_named at h b e =
      let le : points_at h.0 (Page h b) ≤ entries_total (points_at h.0) t.maps = total_le (points_at h.0) t.maps at (Page h b) refl e in
      let some : 0 < share_of t.shares h.0 = omega (arith, le, points_self h b, a.shares h.0) in
      some_is (name_at t.names h.0) (a.shared h.0 ∙ positive (share_of t.shares h.0) some)
    where
      positive : (k : ℕ) → 0 < k → nat_lt 0 k ≡ true
      positive k l = grind (arith, nat_tests)

      some_is : (o : Option PageName) → is_some o ≡ true → (n : PageName) × (o ≡ Some n)
      some_is None e = absurd (cc e)
      some_is (Some n) e = (n, refl)

  -- so has the home of a page that a file names
  filed_home : (h : Home) → 1 ≤ filed_total h.0 t.files → (n : PageName) × (name_at t.names h.0 ≡ Some n)
  filed_home h one =
      let some : 0 < share_of t.shares h.0 = omega (arith, one, a.shares h.0) in
      some_is (name_at t.names h.0) (a.shared h.0 ∙ positive (share_of t.shares h.0) some)
    where
      positive : (k : ℕ) → 0 < k → nat_lt 0 k ≡ true
      positive k l = grind (arith, nat_tests)

      some_is : (o : Option PageName) → is_some o ≡ true → (n : PageName) × (o ≡ Some n)
      some_is None e = absurd (cc e)
      some_is (Some n) e = (n, refl)

  pub filed_named : (f : FilePage ℕ) (h : Home) → fin.get t.files f ≡ Some h → (n : PageName) × (name_at t.names h.0 ≡ Some n)
  filed_named f h is = filed_home h (filed_some t.files f h is)

  module _ (d : DrumWords) (sized : AreSized t.places d) where
    abbrev p : NumberedPages
    p = plain_of t d

    -- the number of a page's names is a sum over all entries and pages of files
    uses_total : (x : PageName) → uses p x ≡ entries_total (λ e. weight (same_page x) page_in (entry_of t.names e)) t.maps + sum_by (λ h. tally x (name_of t.names h)) (fin.values t.files)
    uses_total x = uses_are p x ∙ omega (arith, values_held t.names (weight (same_page x) page_in) refl t.maps a.held.once a.held.unused, values_filed t.names t.files (tally x))

    -- that of the page of a home is its count
    pub uses_home : (h : ℕ) (x : PageName) → name_at t.names h ≡ Some x → uses p x ≡ share_of t.shares h
    uses_home h x is = omega (
      arith,
      uses_total x,
      total_same (λ e. weight (same_page x) page_in (entry_of t.names e)) (points_at h) t.maps each,
      sums_same (λ k. tally x (name_of t.names k)) (is_at h) (fin.values t.files) filed,
      a.shares h,
    )
      where
        filed : (k : Home) → 1 ≤ filed_total k.0 t.files → tally x (name_of t.names k) ≡ is_at h k
        filed k some = let n = filed_home k some in
            ap (λ (o : Option PageName). cond (same_page x (unwrap_or o nobody)) 1 0) n.1 ∙ by n.0 n.1 (page_tells x n.0)
          where
            by : (n : PageName) → name_at t.names k.0 ≡ Some n → Same x n → cond (same_page x n) 1 0 ≡ is_at h k
            by n named (inl s) = ap (λ c. cond c 1 0) s.0 ∙ sym (at_here h k (a.once k.0 h x (named ∙ ap Some (sym s.1)) is))
            by n named (inr s) = ap (λ c. cond c 1 0) s.0 ∙ sym (at_other h k (λ e. s.1 (let z : Some x ≡ Some n = sym is ∙ ap (name_at t.names) (sym e) ∙ named in cc z)))

        each : (at : EntryAt) (e : HeldEntry) → held_entry t.maps at ≡ Some e → weight (same_page x) page_in (entry_of t.names e) ≡ points_at h e
        each at Empty k = refl
        each at (Follows l b) k = refl
        each at (Page g b) k = let n = entry_named at g b k in
            ap (λ (o : Option PageName). cond (same_page x (unwrap_or o nobody)) 1 0) n.1 ∙ by n.0 n.1 (page_tells x n.0)
          where
            by : (n : PageName) → name_at t.names g.0 ≡ Some n → Same x n → cond (same_page x n) 1 0 ≡ points_at h (Page g b)
            by n named (inl s) = ap (λ c. cond c 1 0) s.0 ∙ sym (points_here h g b (a.once g.0 h x (named ∙ ap Some (sym s.1)) is))
            by n named (inr s) = ap (λ c. cond c 1 0) s.0 ∙ sym (points_other h g b (λ e. s.1 (let z : Some x ≡ Some n = sym is ∙ ap (name_at t.names) (sym e) ∙ named in cc z)))

    -- a page that has no home has no name
    pub uses_none : (x : PageName) → ((h : ℕ) → name_at t.names h ≢ Some x) → uses p x ≡ 0
    uses_none x none = omega (
      arith,
      uses_total x,
      total_same (λ e. weight (same_page x) page_in (entry_of t.names e)) (λ e. 0) t.maps each,
      total_none t.maps,
      sums_same (λ k. tally x (name_of t.names k)) (λ k. 0) (fin.values t.files) filed,
      sum_by_zero (fin.values t.files),
    )
      where
        sum_by_zero : (xs : List Home) → sum_by (λ k. 0) xs ≡ 0
        sum_by_zero [] = refl
        sum_by_zero (y ∷ ys) = omega (arith, sum_by_zero ys, sum_by-cons (λ (k : Home). 0) y ys)

        filed : (k : Home) → 1 ≤ filed_total k.0 t.files → tally x (name_of t.names k) ≡ 0
        filed k some = let n = filed_home k some in ap (λ (o : Option PageName). cond (same_page x (unwrap_or o nobody)) 1 0) n.1 ∙ by n.0 n.1 (page_tells x n.0)
          where
            by : (n : PageName) → name_at t.names k.0 ≡ Some n → Same x n → ◌≡◌ {A = ℕ} (cond (same_page x n) 1 0) 0
            by n named (inl s) = absurd (none k.0 (named ∙ ap Some (sym s.1)))
            by n named (inr s) = ap (λ c. cond c 1 0) s.0

        each : (at : EntryAt) (e : HeldEntry) → held_entry t.maps at ≡ Some e → weight (same_page x) page_in (entry_of t.names e) ≡ 0
        each at Empty k = refl
        each at (Follows l b) k = refl
        each at (Page g b) k = let n = entry_named at g b k in ap (λ (o : Option PageName). cond (same_page x (unwrap_or o nobody)) 1 0) n.1 ∙ by n.0 n.1 (page_tells x n.0)
          where
            by : (n : PageName) → name_at t.names g.0 ≡ Some n → Same x n → ◌≡◌ {A = ℕ} (cond (same_page x n) 1 0) 0
            by n named (inl s) = absurd (none g.0 (named ∙ ap Some (sym s.1)))
            by n named (inr s) = ap (λ c. cond c 1 0) s.0

    -- the words of a home that is taken
    taken_words : (h : ℕ) → is_some (name_at t.names h) ≡ true → is_some (content t.places d h) ≡ true
    unfolding content
    taken_words h e = by (place t.places h) (a.is_taken h ∙ e)
      where
        by : (q : HomePlace) → is_taken q ≡ true → is_some (over_drum q (slice_index_or d h [])) ≡ true
        by free z = absurd (cc z)
        by away z = refl
        by (here w) z = refl

    pub object_home : (h : ℕ) (x : PageName) → name_at t.names h ≡ Some x → fin.get p.objects x ≡ content t.places d h
    object_home h x is = object_some (content t.places d) t.names a.once h x is

    pub object_gone : (x : PageName) → ((h : ℕ) → name_at t.names h ≢ Some x) → fin.get p.objects x ≡ None
    object_gone x none = object_none (content t.places d) t.names x none

    -- the plain pages are whole
    pub tables_whole : AreWhole p
    tables_whole = record {
      named = λ x. named x (housed t.names x);
      words = λ x w e. words x w (housed t.names x) e;
      entries = λ f m e. entries f m e;
      owned = λ f e. owned f e;
      old = λ x e. old x (housed t.names x) e;
      owners = a.owners;
    }
      where
        named : (x : PageName) → Housed t.names x → is_some (fin.get p.objects x) ≡ nat_lt 0 (uses p x)
        named x (inl r) = ap is_some (object_home r.0 x r.1) ∙ taken_words r.0 (ap is_some r.1) ∙ sym (ap is_some r.1) ∙ a.shared r.0 ∙ ap (nat_lt 0) (sym (uses_home r.0 x r.1))
        named x (inr none) = ap is_some (object_gone x none) ∙ sym (ap (nat_lt 0) (uses_none x none))

        words : (x : PageName) (w : List ℕ) → Housed t.names x → fin.get p.objects x ≡ Some w → length w ≡ PAGE_WORDS
        words x w (inl r) e = sized r.0 w (sym (object_home r.0 x r.1) ∙ e)
        words x w (inr none) e = absurd (let z : None ≡ Some w = sym (object_gone x none) ∙ e in cc z)

        entries : (f : ForkName) (m : Map) → fin.get p.maps f ≡ Some m → length m ≡ SPACE_PAGES
        entries f m e = elim (searched t.maps f) [
          | inl r ↦
              let is : entries_of t.names (map_at t.maps r.0) ≡ m = (let z : Some (entries_of t.names (map_at t.maps r.0)) ≡ Some m = sym (get_living t.names t.maps a.held.once f r.0 r.2) ∙ e in cc z) in
              ap length (sym is) ∙ length-map (map_at t.maps r.0).entries (entry_of t.names) ∙ a.held.pages r.0 (fork_within t.maps r.0 f r.2)
          | inr r ↦ absurd (let z : None ≡ Some m = sym (get_gone t.names t.maps f r.1) ∙ e in cc z)
        ]

        owned : (f : ForkName) → is_some (fin.get p.maps f) ≡ true → f.tty.0 < TERMINALS
        owned f e = elim (searched t.maps f) [
          | inl r ↦ omega (arith, a.held.from r.0 f r.2, fork_within t.maps r.0 f r.2, a.held.count)
          | inr r ↦ absurd (let z : false ≡ true = sym (ap is_some (get_gone t.names t.maps f r.1)) ∙ e in cc z)
        ]

        old : (x : PageName) → Housed t.names x → is_some (fin.get p.objects x) ≡ true → x.serial < page_serial p x.tty
        old x (inl r) e = a.old r.0 x r.1
        old x (inr none) e = absurd (let z : false ≡ true = sym (ap is_some (object_gone x none)) ∙ e in cc z)

    -- so many pages live
    pub tables_objects : fin.len p.objects ≡ t.taken
    tables_objects = omega (arith, objects_len (content t.places d) t.names a.once taken_words, a.taken)

    -- so many pages and forks live
    pub tables_live : live p ≡ t.taken + t.living
    tables_live = omega (arith, live_whole p tables_whole, objects_len (content t.places d) t.names a.once taken_words, a.taken, len_maps t.names t.maps a.held.once, a.living)
