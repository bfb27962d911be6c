-- What a new map leaves of the plain maps.
use Rattle.std.proofs.Common.{◌≡◌, ◌≢◌, ◌⊎◌, inl, inr, ℕ, zero, suc, ◌+◌, ◌<◌, ◌≤◌, List, ◌∷◌, true, false, Option, None, Some, is_some, length, map, replicate, refl, sym, ◌∙◌, ap, subst, arith}
use Rattle.std.specs.Prelude.{IsSome, slice_index, slice_index_or, slice_set}
use Rattle.std.specs.Option.{option_map, option_map_or, option_and_then}
use Rattle.std.specs.FinMap as fin
use Rattle.std.proofs.lemmas.List.{get_or-set_same, get_or-set_other, length-set, length-map}
use Rattle.std.proofs.lemmas.Bool.{cases_eq}
use Rattle.outside.specs.declared.TheConstants.{PAGE_WORDS}
use Rattle.machine_names.specs.declared.names.ForkName.{ForkName}
use Rattle.machine_names.specs.declared.names.PageName.{PageName}
use Rattle.machine_names.specs.declared.names.TheConstants.{SPACE_PAGES, MOST_FORKS}
use Rattle.machine_names.specs.PageWords.{zero_words}
use Rattle.page_homes.specs.declared.homes.Home.{Home}
use Rattle.plain_pages.specs.declared.map.MapEntry.TheVariants as entry
use Rattle.plain_pages.specs.PlainPages.{Map}
use Rattle.plain_pages.specs.NewMaps.{empty_map}
use Rattle.share_table.specs.declared.pointer.Pointer.{Pointer}
use Rattle.share_table.specs.declared.pointer.Pointer.TheVariants as pointer
use Rattle.page_contracts.specs.DrumWords.{DrumWords}
use Rattle.page_contracts.specs.Stores.{HomePlace, free, here, place, is_taken, content}
use Rattle.pager_walk.specs.declared.map_pages.MapPage.{MapPage}
use Rattle.fork_maps.specs.declared.map_numbers.TheConstants.{MOST_MAPS}
use Rattle.pager_walk.specs.Decoding.{pointer_in}
use Rattle.pager_walk.specs.MapPages.{no_map, map_at, root_at, fork_at, index_of, first_map, AreNumbered}
use Rattle.pager_walk.specs.PagedMaps.{Tables, name_at, entry_for, entry_in, plain_entry, entry_of, words_in, row_of, maps_over, with_root, AreRooted, FitsMaps}
use Rattle.pager_walk.proofs.DecodedWords.{pointer_back}
use Rattle.pager_walk.proofs.NumberedMaps.{searched, index_is, index_none}
use Rattle.pager_walk.proofs.MapRows.{get_over}
use Rattle.pager_walk.proofs.Looking.{taken_map}
use Rattle.pager_walk.proofs.Changing.{maps_with, content_other, content_same, fits_still}

zero_at : (n i : ℕ) → slice_index (replicate n 0) i ≡ 0
zero_at zero i = refl
zero_at (suc n) zero = refl
zero_at (suc n) (suc i) = zero_at n i

map_replicate : {A B : Type 0} (f : A → B) (n : ℕ) (x : A) → map f (replicate n x) ≡ replicate n (f x)
map_replicate f zero x = refl
map_replicate f (suc n) x = ap (λ ys. f x ∷ ys) (map_replicate f n x)

-- each word of a new page is 0
pub zero_word : (i : ℕ) → slice_index zero_words i ≡ 0
unfolding zero_words
zero_word i = zero_at PAGE_WORDS i

-- the word 0 is that of an empty entry
zero_pointer : pointer_in 0 ≡ Some pointer.Empty
zero_pointer = pointer_back pointer.Empty tt

pub zero_entry : (t : Tables) → IsSome (entry_in t 0)
zero_entry t = ap (λ (o : Option Pointer). is_some (option_and_then (entry_for t) o)) zero_pointer

pub zero_there : (t : Tables) (page : ℕ) → IsSome (entry_in t (slice_index zero_words page))
zero_there t page = subst (λ w. IsSome (entry_in t w)) (sym (zero_word page)) (zero_entry t)

-- a new page is an empty map
pub zero_row : (t : Tables) → row_of t (Some zero_words) ≡ empty_map
unfolding zero_words empty_map
zero_row t = map_replicate (entry_of t) PAGE_WORDS 0 ∙ ap (λ (o : Option Pointer). replicate SPACE_PAGES (option_map_or (plain_entry t.names) (option_and_then (entry_for t) o) entry.Empty)) zero_pointer

pub unnamed_of : (o : Option PageName) → (is_some o ≡ true → ⊥) → o ≡ None
unnamed_of None e = refl
unnamed_of (Some n) e = absurd (e refl)

-- a fork gets a map under a number that is no fork's, at a home that was free
module _ (t : Tables) (places : List HomePlace) (rooted : AreRooted t (map is_taken places)) (k : ℕ) (f : ForkName) (home : Home)
    (absent : index_of t.maps f ≡ None) (spare : fork_at t.maps k ≡ None) (within : k < MOST_MAPS) (from : first_map f.tty ≤ k) (below : k < first_map f.tty + MOST_FORKS)
    (inside : home.0 < length places) (was_free : place places home.0 ≡ free) (words : List ℕ) where
  abbrev begun : Tables
  begun = with_root t k f home

  abbrev after : List HomePlace
  after = slice_set places home.0 (here words)

  is_within : k < length t.maps
  is_within = omega (arith, within, rooted.numbered.count)

  map_own : map_at begun.maps k ≡ record { fork = Some f; home = home }
  map_own = get_or-set_same t.maps k (record { fork = Some f; home = home }) no_map is_within

  map_other : (j : ℕ) → j ≢ k → map_at begun.maps j ≡ map_at t.maps j
  map_other j ne = get_or-set_other t.maps k j (record { fork = Some f; home = home }) no_map ne

  whose : (j : ℕ) (g : ForkName) → fork_at begun.maps j ≡ Some g → ((j ≡ k) × (g ≡ f)) ⊎ ((j ≢ k) × (fork_at t.maps j ≡ Some g))
  whose j g e = elim (cases_eq j k) [
    | inl same ↦ inl (same, (let z : Some g ≡ Some f = sym e ∙ ap (fork_at begun.maps) same ∙ ap (λ (m : MapPage). m.fork) map_own in cc z))
    | inr other ↦ inr (other, ap (λ (m : MapPage). m.fork) (sym (map_other j other)) ∙ e)
  ]

  none_has : (j : ℕ) → fork_at t.maps j ≢ Some f
  none_has = by (searched t.maps f)
    where
      by : ((j : ℕ) × (index_of t.maps f ≡ Some j) × (fork_at t.maps j ≡ Some f)) ⊎ ((index_of t.maps f ≡ None) × ((j : ℕ) → fork_at t.maps j ≢ Some f)) → (j : ℕ) → fork_at t.maps j ≢ Some f
      by (inl r) = absurd (let z : ◌≡◌ {A = Option ℕ} None (Some r.0) = sym absent ∙ r.1 in cc z)
      by (inr r) = r.1

  has_one : (j i : ℕ) (g : ForkName) → ((j ≡ k) × (g ≡ f)) ⊎ ((j ≢ k) × (fork_at t.maps j ≡ Some g)) → ((i ≡ k) × (g ≡ f)) ⊎ ((i ≢ k) × (fork_at t.maps i ≡ Some g)) → j ≡ i
  has_one j i g (inl x) (inl y) = x.0 ∙ sym y.0
  has_one j i g (inl x) (inr y) = absurd (none_has i (y.1 ∙ ap Some x.1))
  has_one j i g (inr x) (inl y) = absurd (none_has j (x.1 ∙ ap Some y.1))
  has_one j i g (inr x) (inr y) = rooted.numbered.once j i g x.1 y.1

  from_of : (j : ℕ) (g : ForkName) → ((j ≡ k) × (g ≡ f)) ⊎ ((j ≢ k) × (fork_at t.maps j ≡ Some g)) → first_map g.tty ≤ j
  from_of j g (inl x) = subst (λ (h : ForkName). first_map h.tty ≤ j) (sym x.1) (subst (λ i. first_map f.tty ≤ i) (sym x.0) from)
  from_of j g (inr x) = rooted.numbered.from j g x.1

  below_of : (j : ℕ) (g : ForkName) → ((j ≡ k) × (g ≡ f)) ⊎ ((j ≢ k) × (fork_at t.maps j ≡ Some g)) → j < first_map g.tty + MOST_FORKS
  below_of j g (inl x) = subst (λ (h : ForkName). j < first_map h.tty + MOST_FORKS) (sym x.1) (subst (λ i. i < first_map f.tty + MOST_FORKS) (sym x.0) below)
  below_of j g (inr x) = rooted.numbered.below j g x.1

  numbered_begun : AreNumbered begun.maps
  numbered_begun = record {
    count = length-set t.maps k (record { fork = Some f; home = home }) ∙ rooted.numbered.count;
    once = λ j i g a b. has_one j i g (whose j g a) (whose i g b);
    from = λ j g e. from_of j g (whose j g e);
    below = λ j g e. below_of j g (whose j g e);
  }

  -- what was taken is not the new home
  apart_of : (h : ℕ) → slice_index_or (map is_taken places) h false ≡ true → h ≢ home.0
  apart_of h taken same = let z : false ≡ true = sym (ap is_taken was_free) ∙ sym (taken_map places home.0) ∙ ap (λ i. slice_index_or (map is_taken places) i false) (sym same) ∙ taken in absurd (cc z)

  own_taken : slice_index_or (map is_taken after) home.0 false ≡ true
  own_taken = taken_map after home.0 ∙ ap is_taken (get_or-set_same places home.0 (here words) free inside)

  still_taken : (h : ℕ) → slice_index_or (map is_taken places) h false ≡ true → slice_index_or (map is_taken after) h false ≡ true
  still_taken h taken = taken_map after h ∙ ap is_taken (get_or-set_other places home.0 h (here words) free (apart_of h taken)) ∙ sym (taken_map places h) ∙ taken

  own_root : (j : ℕ) → j ≡ k → (root_at begun.maps j).0 ≡ home.0
  own_root j same = ap (λ i. (root_at begun.maps i).0) same ∙ ap (λ (m : MapPage). m.home.0) map_own

  other_root : (j : ℕ) → j ≢ k → (root_at begun.maps j).0 ≡ (root_at t.maps j).0
  other_root j ne = ap (λ (m : MapPage). m.home.0) (map_other j ne)

  there_of : (j : ℕ) (g : ForkName) → ((j ≡ k) × (g ≡ f)) ⊎ ((j ≢ k) × (fork_at t.maps j ≡ Some g)) → slice_index_or (map is_taken after) (root_at begun.maps j).0 false ≡ true
  there_of j g (inl x) = ap (λ h. slice_index_or (map is_taken after) h false) (own_root j x.0) ∙ own_taken
  there_of j g (inr x) = ap (λ h. slice_index_or (map is_taken after) h false) (other_root j x.0) ∙ still_taken (root_at t.maps j).0 (rooted.there j g x.1)

  apart_roots : (j i : ℕ) (g h : ForkName) → ((j ≡ k) × (g ≡ f)) ⊎ ((j ≢ k) × (fork_at t.maps j ≡ Some g)) → ((i ≡ k) × (h ≡ f)) ⊎ ((i ≢ k) × (fork_at t.maps i ≡ Some h)) → (root_at begun.maps j).0 ≡ (root_at begun.maps i).0 → j ≡ i
  apart_roots j i g h (inl x) (inl y) same = x.0 ∙ sym y.0
  apart_roots j i g h (inl x) (inr y) same = absurd (apart_of (root_at t.maps i).0 (rooted.there i h y.1) (sym (other_root i y.0) ∙ sym same ∙ own_root j x.0))
  apart_roots j i g h (inr x) (inl y) same = absurd (apart_of (root_at t.maps j).0 (rooted.there j g x.1) (sym (other_root j x.0) ∙ same ∙ own_root i y.0))
  apart_roots j i g h (inr x) (inr y) same = rooted.apart j i g h x.1 y.1 (sym (other_root j x.0) ∙ same ∙ other_root i y.0)

  unnamed_roots : (j : ℕ) (g : ForkName) → ((j ≡ k) × (g ≡ f)) ⊎ ((j ≢ k) × (fork_at t.maps j ≡ Some g)) → name_at t.names (root_at begun.maps j).0 ≡ None
  unnamed_roots j g (inl x) = ap (name_at t.names) (own_root j x.0) ∙ unnamed_of (name_at t.names home.0) (λ e. apart_of home.0 (rooted.named home.0 e) refl)
  unnamed_roots j g (inr x) = ap (name_at t.names) (other_root j x.0) ∙ rooted.unnamed j g x.1

  pub rooted_begun : AreRooted begun (map is_taken after)
  rooted_begun = record {
    numbered = numbered_begun;
    there = λ j g e. there_of j g (whose j g e);
    apart = λ j i g h a b same. apart_roots j i g h (whose j g a) (whose i h b) same;
    unnamed = λ j g e. unnamed_roots j g (whose j g e);
    named = λ h e. still_taken h (rooted.named h e);
    few = omega (arith, rooted.few, length-map after is_taken, length-map places is_taken, length-set places home.0 (here words));
  }

  module _ (d : DrumWords) where
    own_content : (j : ℕ) → j ≡ k → content after d (root_at begun.maps j).0 ≡ Some words
    own_content j same = ap (content after d) (own_root j same) ∙ content_same places d home.0 (here words) inside

    other_content : (j : ℕ) (g : ForkName) → j ≢ k → fork_at t.maps j ≡ Some g → content after d (root_at begun.maps j).0 ≡ content places d (root_at t.maps j).0
    other_content j g ne e = ap (content after d) (other_root j ne) ∙ content_other places d home.0 (root_at t.maps j).0 (here words) (apart_of (root_at t.maps j).0 (rooted.there j g e))

    pub fits_begun : ((page : ℕ) → page < SPACE_PAGES → IsSome (entry_in t (slice_index words page))) → FitsMaps t places d → FitsMaps begun after d
    fits_begun stand fits = record { drum = fits_still places d home.0 (here words) fits.drum; entries = λ j page g e l. by j page g (whose j g e) l }
      where
        by : (j page : ℕ) (g : ForkName) → ((j ≡ k) × (g ≡ f)) ⊎ ((j ≢ k) × (fork_at t.maps j ≡ Some g)) → page < SPACE_PAGES → IsSome (entry_in begun (slice_index (words_in (content after d (root_at begun.maps j).0)) page))
        by j page g (inl x) l = subst (λ (c : Option (List ℕ)). IsSome (entry_in begun (slice_index (words_in c) page))) (sym (own_content j x.0)) (stand page l)
        by j page g (inr x) l = subst (λ (c : Option (List ℕ)). IsSome (entry_in begun (slice_index (words_in c) page))) (sym (other_content j g x.0 x.1)) (fits.entries j page g x.1 l)

    pub maps_begun : (m : Map) → row_of t (Some words) ≡ m → maps_over begun after d ≡ fin.insert (maps_over t places d) f m
    maps_begun m row = maps_with (maps_over t places d) (maps_over begun after d) f m own others
      where
        own : fin.get (maps_over begun after d) f ≡ Some m
        own = get_over begun after d f ∙ ap (option_map (λ j. row_of begun (content after d (root_at begun.maps j).0))) (index_is begun.maps numbered_begun.once f k (ap (λ (m : MapPage). m.fork) map_own))
            ∙ ap (λ (c : Option (List ℕ)). Some (row_of begun c)) (own_content k refl) ∙ ap Some row

        others : (q : ForkName) → q ≢ f → fin.get (maps_over begun after d) q ≡ fin.get (maps_over t places d) q
        others q ne = get_over begun after d q ∙ by (searched t.maps q) ∙ sym (get_over t places d q)
          where
            by : ((j : ℕ) × (index_of t.maps q ≡ Some j) × (fork_at t.maps j ≡ Some q)) ⊎ ((index_of t.maps q ≡ None) × ((j : ℕ) → fork_at t.maps j ≢ Some q))
                → option_map (λ j. row_of begun (content after d (root_at begun.maps j).0)) (index_of begun.maps q) ≡ option_map (λ j. row_of t (content places d (root_at t.maps j).0)) (index_of t.maps q)
            by (inl r) =
                let other : r.0 ≢ k = λ same. let z : ◌≡◌ {A = Option ForkName} None (Some q) = sym spare ∙ ap (fork_at t.maps) (sym same) ∙ r.2 in absurd (cc z) in
                ap (option_map (λ j. row_of begun (content after d (root_at begun.maps j).0))) (index_is begun.maps numbered_begun.once q r.0 (ap (λ (m : MapPage). m.fork) (map_other r.0 other) ∙ r.2))
                ∙ ap (λ (c : Option (List ℕ)). Some (row_of t c)) (other_content r.0 q other r.2)
                ∙ sym (ap (option_map (λ j. row_of t (content places d (root_at t.maps j).0))) r.1)
            by (inr r) =
                ap (option_map (λ j. row_of begun (content after d (root_at begun.maps j).0))) (index_none begun.maps q (λ j e. elim (whose j q e) [ inl x ↦ ne x.1 | inr x ↦ r.1 j x.1 ]))
                ∙ sym (ap (option_map (λ j. row_of t (content places d (root_at t.maps j).0))) r.0)
