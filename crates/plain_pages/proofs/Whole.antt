-- The plain pages are whole from the start on, and whatever makes a page leaves them whole.
use Rattle.std.proofs.Common.{◌≡◌, ℕ, zero, suc, ◌+◌, ◌<◌, Bool, true, false, cond, ◌||◌, List, [], ◌∷◌, map as each, length, Option, None, Some, refl, sym, ◌∙◌, ap, subst, arith, Ordering, Less, T, is_lt}
use Rattle.std.specs.Prelude.{nat_lt, is_some, slice_get, slice_set}
use Rattle.std.specs.List.{sum_by, filter_map, flat_map, list_any, range_with_len}
use Rattle.std.specs.Option.{option_map_or}
use Rattle.std.specs.Ordering.{is_eq, eq_by_cmp}
use Rattle.std.specs.Cmp.{Equal-is}
use Rattle.std.specs.FinMap as map
use Rattle.std.proofs.lemmas.List.{length-map, length-replicate}
use Rattle.std.proofs.lemmas.List.FromFn.{length-map-range_with_len}
use Rattle.std.proofs.lemmas.List.Sums.{sum_by-append, sum_by-cons}
use Rattle.std.proofs.lemmas.List.Folds.{sum_by-replicate}
use Rattle.std.proofs.lemmas.Bool.Decides.{nat_tests}
use Rattle.machine_names.specs.declared.names.Tty.{Tty}
use Rattle.machine_names.specs.declared.names.ForkName.{ForkName}
use Rattle.machine_names.specs.declared.names.PageName.{PageName}
use Rattle.plain_pages.specs.declared.map.MapEntry.TheVariants.{Empty, Follows}
use Rattle.plain_pages.specs.PlainPages.{PlainPages, Map, opening_pages, first_serials}
use Rattle.machine_names.specs.Orders.{fork_cmp, page_cmp, file_page_cmp}
use Rattle.plain_pages.specs.Room.{same_page, page_in, names, uses, live}
use Rattle.plain_pages.specs.References.{next_page}
use Rattle.plain_pages.specs.declared.map.NewMap.{NewMap}
use Rattle.plain_pages.specs.declared.map.NewMap.TheVariants.{Empty as EmptyMap, FollowAll}
use Rattle.plain_pages.specs.Maps.{full_access}
use Rattle.plain_pages.specs.NewMaps.{empty_map, following_map, new_map, with_map}
use Rattle.machine_names.specs.declared.names.TheConstants.{SPACE_PAGES, TERMINALS}
use Rattle.plain_pages.specs.WholePages.{AreWhole}
use Rattle.machine_names.proofs.OrderLemmas.{page_tied, fork_cmp_apart, fork_cmp_total}
use Rattle.plain_pages.proofs.Counts.{has, has_count, different_are, AreApart, count_flat, count_filtered, weight, total_insert, ordered_less, both_first, both_second}

-- keys that rise are apart
below_apart : {X : Type 0} (n : PageName) (es : List (PageName × X)) → T (map.Entries.below_all page_cmp n es) → has n (each (λ e. e.0) es) ≡ false
below_apart n [] h = refl
below_apart {X} n (e ∷ es) h =
    let less : page_cmp n e.0 ≡ Less = ordered_less (page_cmp n e.0) (both_first (is_lt (page_cmp n e.0)) (map.Entries.below_all page_cmp n es) h) in
    ap (λ b. b || has n (each (λ (d : PageName × X). d.0) es)) (sym (page_tied n e.0) ∙ ap is_eq less) ∙ below_apart n es (both_second (is_lt (page_cmp n e.0)) (map.Entries.below_all page_cmp n es) h)

sorted_apart : {X : Type 0} (es : List (PageName × X)) → T (map.is_sorted page_cmp es) → AreApart (each (λ e. e.0) es)
sorted_apart [] h = tt
sorted_apart (e ∷ es) h = (below_apart e.0 es (both_first (map.Entries.below_all page_cmp e.0 es) (map.is_sorted page_cmp es) h), sorted_apart es (both_second (map.Entries.below_all page_cmp e.0 es) (map.is_sorted page_cmp es) h))

-- how many names a map gives a page
abbrev pub map_uses : PageName → Map → ℕ
map_uses n m = sum_by (weight (same_page n) page_in) m

abbrev pub tally : PageName → PageName → ℕ
tally n m = cond (same_page n m) 1 0

pub none_of : {A : Type 0} (es : List A) → length es ≡ 0 → es ≡ []
none_of [] h = refl
none_of (e ∷ es) h = absurd (omega (arith, h))

-- a sum with an entry set
pub sum_set : {X : Type 0} (w : X → ℕ) (xs : List X) (i : ℕ) (x y : X) → slice_get xs i ≡ Some x → sum_by w (slice_set xs i y) + w x ≡ sum_by w xs + w y
sum_set w [] i x y h = absurd (cc h)
sum_set w (z ∷ zs) zero x y h = let e : z ≡ x = cc h in let f : w z ≡ w x = ap w e in omega (arith, sum_by-cons w y zs, sum_by-cons w z zs, f)
sum_set w (z ∷ zs) (suc i) x y h = omega (arith, sum_by-cons w z (slice_set zs i y), sum_by-cons w z zs, sum_set w zs i x y h)

module _ {K : Type 0} {file_cmp : K → K → Ordering} where
  pub uses_are : (p : PlainPages file_cmp) (n : PageName) → uses p n ≡ sum_by (map_uses n) (map.values p.maps) + sum_by (tally n) (map.values p.files)
  unfolding uses names
  uses_are p n =
      sum_by-append (tally n) (flat_map (filter_map page_in) (map.values p.maps)) (map.values p.files)
      ∙ ap (λ k. k + sum_by (tally n) (map.values p.files)) (count_flat (same_page n) (filter_map page_in) (map.values p.maps) ∙ ap (λ (w : Map → ℕ). sum_by w (map.values p.maps)) (λ i m. count_filtered (same_page n) page_in m i))

  -- where the objects are the pages that are named, they are counted
  pub live_named : (p : PlainPages file_cmp) → ((n : PageName) → map.contains_key p.objects n ≡ nat_lt 0 (uses p n)) → live p ≡ map.len p.objects + map.len p.maps
  unfolding live uses
  live_named p named = ap (λ k. k + map.len p.maps) (different_are (map.keys p.objects) (names p) (sorted_apart (map.entries p.objects) (map.entries_sorted p.objects)) same ∙ length-map (map.entries p.objects) (λ e. e.0) ∙ sym (map.len-entries p.objects))
    where
      same : (n : PageName) → has n (names p) ≡ has n (map.keys p.objects)
      same n = has_count n (names p) ∙ sym (named n) ∙ map.contains_key-keys p.objects n ∙ ap (λ (t : PageName → Bool). list_any t (map.keys p.objects)) (λ i m. page_tied n m i)

  pub live_whole : (p : PlainPages file_cmp) → AreWhole p → live p ≡ map.len p.objects + map.len p.maps
  live_whole p w = live_named p w.named

  -- a page that is not yet made has no use
  pub unmade : (p : PlainPages file_cmp) → AreWhole p → (owner : Tty) → uses p (next_page p owner) ≡ 0
  unmade p w owner = by (map.contains_key p.objects (next_page p owner)) refl
    where
      by : (b : Bool) → map.contains_key p.objects (next_page p owner) ≡ b → uses p (next_page p owner) ≡ 0
      by true h = absurd (omega (arith, w.old (next_page p owner) h))
      by false h = let z : nat_lt 0 (uses p (next_page p owner)) ≡ false = sym (w.named (next_page p owner)) ∙ h in grind (arith, nat_tests, z)

pub no_values : {K X : Type 0} (R : K → K → Ordering) (w : X → ℕ) → sum_by w (map.values (map.empty {X = X} {R = R})) ≡ 0
no_values {X = X} R w = ap (λ (es : List (_ × X)). sum_by w (each (λ e. e.1) es)) (none_of (map.entries (map.empty {X = X} {R = R})) (sym (map.len-entries (map.empty {X = X} {R = R})) ∙ map.len-empty R X))

module _ {K : Type 0} (file_cmp : K → K → Ordering) (limit : ℕ) where
  no_uses : (n : PageName) → uses (opening_pages file_cmp limit) n ≡ 0
  unfolding opening_pages
  no_uses n = uses_are (opening_pages file_cmp limit) n ∙ omega (arith, no_values fork_cmp (map_uses n), no_values (file_page_cmp file_cmp) (tally n))

  -- the opening pages are whole
  pub opening_whole : AreWhole (opening_pages file_cmp limit)
  unfolding opening_pages first_serials
  opening_whole = record {
    named = λ n. ap is_some (map.get-empty page_cmp n) ∙ ap (nat_lt 0) (sym (no_uses n));
    words = λ n w h. absurd (cc (sym (map.get-empty page_cmp n) ∙ h));
    entries = λ f m h. absurd (cc (sym (map.get-empty fork_cmp f) ∙ h));
    owned = λ f h. absurd (cc (sym (ap is_some (map.get-empty fork_cmp f)) ∙ h));
    old = λ n h. absurd (cc (sym (ap is_some (map.get-empty page_cmp n)) ∙ h));
    owners = refl;
  }

-- the map of a new fork names no page, and has its entries
none_followed : (n : PageName) (f : ForkName) (pages : List ℕ) → map_uses n (each (λ page. Follows f.serial page full_access) pages) ≡ 0
none_followed n f [] = refl
none_followed n f (page ∷ pages) = omega (arith, sum_by-cons (weight (same_page n) page_in) (Follows f.serial page full_access) (each (λ p. Follows f.serial p full_access) pages), none_followed n f pages)

no_names : (n : PageName) (entries : NewMap) → map_uses n (new_map entries) ≡ 0
unfolding empty_map following_map
no_names n EmptyMap = sum_by-replicate (weight (same_page n) page_in) SPACE_PAGES Empty ∙ omega arith
no_names n (FollowAll f) = none_followed n f (range_with_len 0 SPACE_PAGES)

new_length : (entries : NewMap) → length (new_map entries) ≡ SPACE_PAGES
unfolding empty_map following_map
new_length EmptyMap = length-replicate SPACE_PAGES Empty
new_length (FollowAll f) = length-map-range_with_len (λ page. Follows f.serial page full_access) 0 SPACE_PAGES

module _ {K : Type 0} {file_cmp : K → K → Ordering} (p : PlainPages file_cmp) (w : AreWhole p) (f : ForkName) (absent : map.get p.maps f ≡ None) where
  -- a fork more, with its map, leaves whole pages whole
  module _ (entries : NewMap) where
    uses_mapped : (n : PageName) → uses (with_map p f entries) n ≡ uses p n
    uses_mapped n =
        let before : option_map_or (map_uses n) (map.get p.maps f) 0 ≡ 0 = ap (λ (o : Option Map). option_map_or (map_uses n) o 0) absent in
        omega (arith, uses_are (with_map p f entries) n, uses_are p n, total_insert fork_cmp_total (map_uses n) p.maps f (new_map entries), before, no_names n entries)

    pub map_named : (n : PageName) → map.contains_key p.objects n ≡ nat_lt 0 (uses (with_map p f entries) n)
    map_named n = w.named n ∙ ap (nat_lt 0) (sym (uses_mapped n))

    pub map_whole : f.tty.0 < TERMINALS → AreWhole (with_map p f entries)
    map_whole own = record {
      named = map_named;
      words = w.words;
      entries = λ g m h. by g m (eq_by_cmp fork_cmp g f) (sym (map.get-insert fork_cmp_total p.maps f (new_map entries) g) ∙ h);
      owned = λ g h. of g (eq_by_cmp fork_cmp g f) refl (sym (ap is_some (map.get-insert fork_cmp_total p.maps f (new_map entries) g)) ∙ h);
      old = w.old;
      owners = w.owners;
    }
      where
        by : (g : ForkName) (m : Map) (b : Bool) → cond b (Some (new_map entries)) (map.get p.maps g) ≡ Some m → length m ≡ SPACE_PAGES
        by g m true k = let is : new_map entries ≡ m = cc k in ap length (sym is) ∙ new_length entries
        by g m false k = w.entries g m k

        of : (g : ForkName) (b : Bool) → eq_by_cmp fork_cmp g f ≡ b → is_some (cond b (Some (new_map entries)) (map.get p.maps g)) ≡ true → g.tty.0 < TERMINALS
        of g true is h = let same : g ≡ f = fork_cmp_apart g f ((Equal-is (fork_cmp g f)).0 is) in subst (λ (n : ForkName). n.tty.0 < TERMINALS) (sym same) own
        of g false is h = w.owned g h
