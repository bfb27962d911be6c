-- What a new page with a name leaves of the plain maps: all of them, since no entry names it yet.
use Rattle.std.proofs.Common.{◌≡◌, ◌≢◌, ◌⊎◌, inl, inr, ℕ, suc, ◌<◌, List, [], ◌∷◌, Bool, true, false, cond, Option, None, Some, is_some, length, map, refl, sym, ◌∙◌, ap, subst, arith}
use Rattle.std.specs.Prelude.{IsSome, slice_index, slice_index_or, slice_set}
use Rattle.std.specs.Option.{option_map, option_map_or, option_and_then, unwrap_or}
use Rattle.std.specs.FinMap as fin
use Rattle.std.proofs.lemmas.List.{get_or-set_same, get_or-set_other, length-set, length-map}
use Rattle.std.proofs.lemmas.Bool.{cases_eq}
use Rattle.outside.specs.declared.TheConstants.{PAGE_WORDS}
use Rattle.machine_names.specs.declared.names.Access.{Access}
use Rattle.machine_names.specs.declared.names.ForkName.{ForkName}
use Rattle.machine_names.specs.declared.names.PageName.{PageName}
use Rattle.machine_names.proofs.OrderLemmas.{fork_cmp_total, fork_cmp_apart}
use Rattle.page_homes.specs.declared.homes.Home.{Home}
use Rattle.plain_pages.specs.declared.map.MapEntry.TheVariants as entry
use Rattle.share_table.specs.declared.pointer.Pointer.{Pointer}
use Rattle.share_table.specs.declared.pointer.Pointer.TheVariants as pointer
use Rattle.share_table.specs.declared.shares.SharedPage.{SharedPage}
use Rattle.share_table.specs.Shares.{page_at}
use Rattle.page_contracts.specs.DrumWords.{DrumWords}
use Rattle.page_contracts.specs.Stores.{HomePlace, free, place, is_taken, content}
use Rattle.pager_walk.specs.declared.paged_entry.PagedEntry.{PagedEntry}
use Rattle.pager_walk.specs.declared.paged_entry.PagedEntry.TheVariants.{Page}
use Rattle.pager_walk.specs.Decoding.{pointer_in}
use Rattle.pager_walk.specs.MapPages.{root_at, fork_at, index_of}
use Rattle.pager_walk.specs.PagedMaps.{Tables, name_at, nobody, page_entry, entry_for, entry_in, plain_entry, entry_of, words_in, row_of, maps_over, with_name, AreRooted, FitsMaps}
use Rattle.pager_walk.proofs.NumberedMaps.{searched}
use Rattle.pager_walk.proofs.MapRows.{get_over}
use Rattle.pager_walk.proofs.Looking.{ArePages, taken_map, words_whole}
use Rattle.pager_walk.proofs.Changing.{content_other, fits_still}

map_same : {A B : Type 0} (f g : A → B) (xs : List A) (d : A) → ((i : ℕ) → i < length xs → f (slice_index_or xs i d) ≡ g (slice_index_or xs i d)) → map f xs ≡ map g xs
map_same f g [] d same = refl
map_same f g (x ∷ xs) d same = λ i. same 0 (omega arith) i ∷ map_same f g xs d (λ k l. same (suc k) (omega (arith, l))) i

-- a home that was free gets a name
module _ (t : Tables) (places : List HomePlace) (rooted : AreRooted t (map is_taken places)) (home : Home) (name : PageName) (page : HomePlace) (is_page : is_taken page ≡ true) (inside : home.0 < length places) (was_free : place places home.0 ≡ free) where
  abbrev named : Tables
  named = with_name t home name

  abbrev after : List HomePlace
  after = slice_set places home.0 page

  apart_of : (h : ℕ) → slice_index_or (map is_taken places) h false ≡ true → h ≢ home.0
  apart_of h taken same = let z : false ≡ true = sym (ap is_taken was_free) ∙ sym (taken_map places home.0) ∙ ap (λ i. slice_index_or (map is_taken places) i false) (sym same) ∙ taken in absurd (cc z)

  own_taken : slice_index_or (map is_taken after) home.0 false ≡ true
  own_taken = taken_map after home.0 ∙ ap is_taken (get_or-set_same places home.0 page free inside) ∙ is_page

  still_taken : (h : ℕ) → slice_index_or (map is_taken places) h false ≡ true → slice_index_or (map is_taken after) h false ≡ true
  still_taken h taken = taken_map after h ∙ ap is_taken (get_or-set_other places home.0 h page free (apart_of h taken)) ∙ sym (taken_map places h) ∙ taken

  other_name : (h : ℕ) → h ≢ home.0 → name_at named.names h ≡ name_at t.names h
  other_name h ne = get_or-set_other t.names home.0 h (Some name) None ne

  -- a home that had a name is another
  named_apart : (h : ℕ) → is_some (name_at t.names h) ≡ true → h ≢ home.0
  named_apart h e = apart_of h (rooted.named h e)

  pub rooted_named : AreRooted named (map is_taken after)
  rooted_named = record {
    numbered = rooted.numbered;
    there = λ k f e. still_taken (root_at t.maps k).0 (rooted.there k f e);
    apart = rooted.apart;
    unnamed = λ k f e. other_name (root_at t.maps k).0 (apart_of (root_at t.maps k).0 (rooted.there k f e)) ∙ rooted.unnamed k f e;
    named = λ h e. elim (cases_eq h home.0) [
      | inl same ↦ ap (λ i. slice_index_or (map is_taken after) i false) same ∙ own_taken
      | inr other ↦ still_taken h (rooted.named h (sym (ap is_some (other_name h other)) ∙ e))
    ];
    few = omega (arith, rooted.few, length-map after is_taken, length-map places is_taken, length-set places home.0 page, length-set t.names home.0 (Some name));
  }

  abbrev Same : Option PagedEntry → Option PagedEntry → Type 0
  Same new old = (new ≡ old) × (option_map_or (plain_entry named.names) new entry.Empty ≡ option_map_or (plain_entry t.names) old entry.Empty)

  same_page : (h : Home) (a : Access) → IsSome (page_entry t.names h a) → Same (page_entry named.names h a) (page_entry t.names h a)
  same_page h a some = by (is_some (name_at t.names h.0)) refl some
    where
      by : (b : Bool) → is_some (name_at t.names h.0) ≡ b → is_some (cond b (Some (Page h a)) None) ≡ true → Same (page_entry named.names h a) (page_entry t.names h a)
      by false is e = absurd (cc e)
      by true is e =
          let other = other_name h.0 (named_apart h.0 is) in (
            ap (λ (o : Option PageName). cond (is_some o) (Some (Page h a)) None) other,
            ap (λ b. option_map_or (plain_entry named.names) (cond b (Some (Page h a)) None) entry.Empty) (ap is_some other ∙ is) ∙ ap (λ (o : Option PageName). entry.Names (unwrap_or o nobody) a) other
                ∙ sym (ap (λ b. option_map_or (plain_entry t.names) (cond b (Some (Page h a)) None) entry.Empty) is),
          )

  pub same_word : (w : ℕ) → IsSome (entry_in t w) → Same (entry_in named w) (entry_in t w)
  same_word w some = by (pointer_in w) some
    where
      of : (p : Pointer) → IsSome (entry_for t p) → Same (entry_for named p) (entry_for t p)
      of pointer.Empty e = (refl, refl)
      of (pointer.Private h a) e = same_page h a e
      of (pointer.Shared share a) e = shared (page_at t.shares share.0) e
        where
          shared : (o : Option SharedPage) → IsSome (option_and_then (λ p. page_entry t.names p.home a) o) → Same (option_and_then (λ p. page_entry named.names p.home a) o) (option_and_then (λ p. page_entry t.names p.home a) o)
          shared None s = (refl, refl)
          shared (Some p) s = same_page p.home a s
      of (pointer.Indirect serial page a) e = (refl, refl)

      by : (o : Option Pointer) → IsSome (option_and_then (entry_for t) o) → Same (option_and_then (entry_for named) o) (option_and_then (entry_for t) o)
      by None e = (refl, refl)
      by (Some p) e = of p e

  module _ (pages : ArePages places) (d : DrumWords) (fits : FitsMaps t places d) where
    content_is : (k : ℕ) (f : ForkName) → fork_at t.maps k ≡ Some f → content after d (root_at t.maps k).0 ≡ content places d (root_at t.maps k).0
    content_is k f e = content_other places d home.0 (root_at t.maps k).0 page (apart_of (root_at t.maps k).0 (rooted.there k f e))

    pub fits_named : FitsMaps named after d
    fits_named = record {
      drum = fits_still places d home.0 page fits.drum;
      entries = λ k page f e l.
          let some = fits.entries k page f e l in
          subst (λ (c : Option (List ℕ)). IsSome (entry_in named (slice_index (words_in c) page))) (sym (content_is k f e)) (subst (λ (o : Option PagedEntry). IsSome o) (sym (same_word (slice_index (words_in (content places d (root_at t.maps k).0)) page) some).0) some);
    }

    same_row : (k : ℕ) (f : ForkName) → fork_at t.maps k ≡ Some f → row_of named (content after d (root_at t.maps k).0) ≡ row_of t (content places d (root_at t.maps k).0)
    same_row k f e =
        let words = words_in (content places d (root_at t.maps k).0) in
        let size : length words ≡ PAGE_WORDS = words_whole places d fits.drum pages (root_at t.maps k).0 (sym (taken_map places (root_at t.maps k).0) ∙ rooted.there k f e) in
        ap (row_of named) (content_is k f e) ∙ map_same (entry_of named) (entry_of t) words 0 (λ i l. (same_word (slice_index words i) (fits.entries k i f e (omega (arith, l, size)))).1)

    pub maps_named : maps_over named after d ≡ maps_over t places d
    maps_named = fin.same_map fork_cmp_total fork_cmp_apart _ _ (λ q. get_over named after d q ∙ by q (searched t.maps q) ∙ sym (get_over t places d q))
      where
        by : (q : ForkName) → ((j : ℕ) × (index_of t.maps q ≡ Some j) × (fork_at t.maps j ≡ Some q)) ⊎ ((index_of t.maps q ≡ None) × ((j : ℕ) → fork_at t.maps j ≢ Some q))
            → option_map (λ j. row_of named (content after d (root_at t.maps j).0)) (index_of t.maps q) ≡ option_map (λ j. row_of t (content places d (root_at t.maps j).0)) (index_of t.maps q)
        by q (inl r) = ap (option_map (λ j. row_of named (content after d (root_at t.maps j).0))) r.1 ∙ ap Some (same_row r.0 q r.2) ∙ sym (ap (option_map (λ j. row_of t (content places d (root_at t.maps j).0))) r.1)
        by q (inr r) = ap (option_map (λ j. row_of named (content after d (root_at t.maps j).0))) r.0 ∙ sym (ap (option_map (λ j. row_of t (content places d (root_at t.maps j).0))) r.0)
