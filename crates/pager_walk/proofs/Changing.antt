-- What a change of a map's page leaves of the plain maps.
use Rattle.std.proofs.Common.{◌≡◌, ◌≢◌, ◌⊎◌, inl, inr, ℕ, zero, suc, ◌<◌, ◌≤◌, List, [], ◌∷◌, true, cond, Option, None, Some, length, map, refl, sym, ◌∙◌, ap, subst, arith}
use Rattle.std.specs.Prelude.{IsSome, slice_index, slice_set}
use Rattle.std.specs.Option.{option_map, option_map_or, option_and_then}
use Rattle.std.specs.FinMap as fin
use Rattle.std.proofs.lemmas.List.{get_or-set_same, get_or-set_other, length-set, map-set}
use Rattle.std.proofs.lemmas.Bool.{cases_eq, cases_lt}
use Rattle.outside.specs.Drums.{page_at as drum_page}
use Rattle.machine_names.specs.declared.names.ForkName.{ForkName}
use Rattle.machine_names.specs.declared.names.Slot.{Slot}
use Rattle.machine_names.specs.declared.names.TheConstants.{SPACE_PAGES}
use Rattle.machine_names.specs.Orders.{same_fork}
use Rattle.machine_names.proofs.OrderLemmas.{fork_cmp_total, fork_cmp_apart}
use Rattle.page_homes.specs.declared.homes.Home.{Home}
use Rattle.plain_pages.specs.declared.map.MapEntry.TheVariants as entry
use Rattle.plain_pages.specs.PlainPages.{Map, Maps}
use Rattle.plain_pages.specs.Maps.{set_entry}
use Rattle.share_table.specs.declared.pointer.Pointer.{Pointer}
use Rattle.share_table.specs.Pointers.{IsPointer, pointer_word}
use Rattle.page_contracts.specs.DrumWords.{DrumWords}
use Rattle.page_contracts.specs.Stores.{HomePlace, free, away, here, place, is_taken, over_drum, content, word_in, with_word_in, FitsHomes}
use Rattle.pager_walk.specs.declared.paged_entry.PagedEntry.{PagedEntry}
use Rattle.pager_walk.specs.MapPages.{root_at, fork_at, index_of}
use Rattle.pager_walk.specs.PagedMaps.{Tables, entry_for, entry_in, plain_entry, entry_of, words_in, row_of, maps_over, AreRooted, FitsMaps, look_word, look_map, look_at, is_near}
use Rattle.pager_walk.proofs.DecodedWords.{pointer_back}
use Rattle.pager_walk.proofs.NumberedMaps.{SameFork, fork_tells, index_fork, searched}
use Rattle.pager_walk.proofs.MapRows.{inserted, get_over}
use Rattle.pager_walk.proofs.Looking.{taken_within, root_taken, content_here}

set_past : (xs : List ℕ) (i x : ℕ) → length xs ≤ i → slice_set xs i x ≡ xs
set_past [] i x l = refl
set_past (y ∷ xs) zero x l = absurd (omega (arith, l))
set_past (y ∷ xs) (suc i) x l = ap (λ ys. y ∷ ys) (set_past xs i x (omega (arith, l)))

-- maps where one is that of a fork, and the others are as they were
pub maps_with : (old new : Maps) (f : ForkName) (m : Map) → fin.get new f ≡ Some m → ((q : ForkName) → q ≢ f → fin.get new q ≡ fin.get old q) → new ≡ fin.insert old f m
maps_with old new f m own others = fin.same_map fork_cmp_total fork_cmp_apart _ _ (λ q. by q (fork_tells q f) ∙ sym (inserted old f q m))
  where
    by : (q : ForkName) → SameFork q f → fin.get new q ≡ cond (same_fork q f) (Some m) (fin.get old q)
    by q (inl t) = ap (λ (x : ForkName). fin.get new x) t.1 ∙ own ∙ sym (ap (λ b. cond b (Some m) (fin.get old q)) t.0)
    by q (inr t) = others q t.1 ∙ sym (ap (λ b. cond b (Some m) (fin.get old q)) t.0)

-- which homes are taken, once a home has another page
pub taken_still : (places : List HomePlace) (h : ℕ) (p : HomePlace) → is_taken p ≡ is_taken (place places h) → map is_taken (slice_set places h p) ≡ map is_taken places
taken_still [] h p e = refl
taken_still (q ∷ ps) zero p e = λ i. e i ∷ map is_taken ps
taken_still (q ∷ ps) (suc h) p e = ap (λ bs. is_taken q ∷ bs) (taken_still ps h p e)

-- the content, once a home has another page
pub content_other : (places : List HomePlace) (d : DrumWords) (h j : ℕ) (p : HomePlace) → j ≢ h → content (slice_set places h p) d j ≡ content places d j
unfolding content
content_other places d h j p ne = ap (λ q. over_drum q (drum_page d j)) (get_or-set_other places h j p free ne)

pub content_same : (places : List HomePlace) (d : DrumWords) (h : ℕ) (p : HomePlace) → h < length places → content (slice_set places h p) d h ≡ over_drum p (drum_page d h)
unfolding content
content_same places d h p l = ap (λ q. over_drum q (drum_page d h)) (get_or-set_same places h p free l)

-- the drum fits as before
pub fits_still : (places : List HomePlace) (d : DrumWords) (h : ℕ) (p : HomePlace) → FitsHomes places d → FitsHomes (slice_set places h p) d
fits_still places d h p fits = record { enough = omega (arith, fits.enough, length-set places h p); pages = fits.pages }

-- the page of a map that was looked into is in a frame
pub near_here : (t : Tables) (home : Home) (p : HomePlace) (page : ℕ) → is_near (look_word t home (word_in p page)) ≡ true → (words : List ℕ) × (p ≡ here words)
near_here t home free page e = absurd (cc e)
near_here t home away page e = absurd (cc e)
near_here t home (here words) page e = (words, refl)

-- the entry of a pointer's word is the pointer's
pub entry_back : (t : Tables) (p : Pointer) → IsPointer p → entry_in t (pointer_word p) ≡ entry_for t p
entry_back t p is = ap (option_and_then (entry_for t)) (pointer_back p is)

-- a word of a map's page becomes another
module _ (t : Tables) (places : List HomePlace) (d : DrumWords) (rooted : AreRooted t (map is_taken places)) (fits : FitsMaps t places d)
    (s : Slot) (k : ℕ) (is : index_of t.maps s.fork ≡ Some k) (words : List ℕ) (at : place places (root_at t.maps k).0 ≡ here words) (w : ℕ) where
  abbrev home : ℕ
  home = (root_at t.maps k).0

  abbrev after : List HomePlace
  after = slice_set places home (here (slice_set words s.page w))

  inside : home < length places
  inside = taken_within places home (root_taken t places rooted s.fork k is)

  own_fork : fork_at t.maps k ≡ Some s.fork
  own_fork = index_fork t.maps s.fork k is

  own_words : words_in (content after d home) ≡ slice_set words s.page w
  own_words = ap words_in (content_same places d home (here (slice_set words s.page w)) inside)

  old_words : words_in (content places d home) ≡ words
  old_words = ap words_in (content_here places d home words at)

  other_root : (j : ℕ) (f : ForkName) → fork_at t.maps j ≡ Some f → j ≢ k → (root_at t.maps j).0 ≢ home
  other_root j f e ne same = ne (rooted.apart j k f s.fork e own_fork same)

  other_content : (j : ℕ) (f : ForkName) → fork_at t.maps j ≡ Some f → j ≢ k → content after d (root_at t.maps j).0 ≡ content places d (root_at t.maps j).0
  other_content j f e ne = content_other places d home (root_at t.maps j).0 (here (slice_set words s.page w)) (other_root j f e ne)

  pub fits_set : IsSome (entry_in t w) → FitsMaps t after d
  fits_set some = record { drum = fits_still places d home (here (slice_set words s.page w)) fits.drum; entries = each }
    where
      old : (page : ℕ) → page < SPACE_PAGES → IsSome (entry_in t (slice_index words page))
      old page l = subst (λ (v : List ℕ). IsSome (entry_in t (slice_index v page))) old_words (fits.entries k page s.fork own_fork l)

      own : (page : ℕ) → page < SPACE_PAGES → (page ≡ s.page) ⊎ (page ≢ s.page) → (s.page < length words) ⊎ (length words ≤ s.page) → IsSome (entry_in t (slice_index (slice_set words s.page w) page))
      own page l (inl same) (inl within) = subst (λ x. IsSome (entry_in t x)) (sym (ap (slice_index (slice_set words s.page w)) same ∙ get_or-set_same words s.page w 0 within)) some
      own page l (inl same) (inr past) = subst (λ (v : List ℕ). IsSome (entry_in t (slice_index v page))) (sym (set_past words s.page w past)) (old page l)
      own page l (inr other) within = subst (λ x. IsSome (entry_in t x)) (sym (get_or-set_other words s.page page w 0 other)) (old page l)

      each : (j page : ℕ) (f : ForkName) → fork_at t.maps j ≡ Some f → page < SPACE_PAGES → IsSome (entry_in t (slice_index (words_in (content after d (root_at t.maps j).0)) page))
      each j page f e l = elim (cases_eq j k) [
        | inl same ↦ subst (λ (v : List ℕ). IsSome (entry_in t (slice_index v page))) (sym (ap (λ i. words_in (content after d (root_at t.maps i).0)) same ∙ own_words)) (own page l (cases_eq page s.page) (cases_lt s.page (length words)))
        | inr other ↦ subst (λ (c : Option (List ℕ)). IsSome (entry_in t (slice_index (words_in c) page))) (sym (other_content j f e other)) (fits.entries j page f e l)
      ]

  pub maps_set : (e : PagedEntry) → entry_in t w ≡ Some e → maps_over t after d ≡ set_entry (maps_over t places d) s (plain_entry t.names e)
  maps_set e stands =
      maps_with (maps_over t places d) (maps_over t after d) s.fork (slice_set (row_of t (Some words)) s.page (plain_entry t.names e)) own others
      ∙ sym (ap (λ (m : Option Map). option_map_or (λ x. fin.insert (maps_over t places d) s.fork (slice_set x s.page (plain_entry t.names e))) m (maps_over t places d)) had)
    where
      had : fin.get (maps_over t places d) s.fork ≡ Some (row_of t (Some words))
      had = get_over t places d s.fork ∙ ap (option_map (λ j. row_of t (content places d (root_at t.maps j).0))) is ∙ ap (λ (v : List ℕ). Some (map (entry_of t) v)) old_words

      own : fin.get (maps_over t after d) s.fork ≡ Some (slice_set (row_of t (Some words)) s.page (plain_entry t.names e))
      own = get_over t after d s.fork ∙ ap (option_map (λ j. row_of t (content after d (root_at t.maps j).0))) is ∙ ap (λ (v : List ℕ). Some (map (entry_of t) v)) own_words
          ∙ ap Some (map-set (entry_of t) words s.page w) ∙ ap (λ (o : Option PagedEntry). Some (slice_set (map (entry_of t) words) s.page (option_map_or (plain_entry t.names) o entry.Empty))) stands

      others : (q : ForkName) → q ≢ s.fork → fin.get (maps_over t after d) q ≡ fin.get (maps_over t places d) q
      others q ne = get_over t after d q ∙ by (searched t.maps q) ∙ sym (get_over t places d q)
        where
          by : ((j : ℕ) × (index_of t.maps q ≡ Some j) × (fork_at t.maps j ≡ Some q)) ⊎ ((index_of t.maps q ≡ None) × ((j : ℕ) → fork_at t.maps j ≢ Some q))
              → option_map (λ j. row_of t (content after d (root_at t.maps j).0)) (index_of t.maps q) ≡ option_map (λ j. row_of t (content places d (root_at t.maps j).0)) (index_of t.maps q)
          by (inl r) = ap (option_map (λ j. row_of t (content after d (root_at t.maps j).0))) r.1
              ∙ ap (λ (c : Option (List ℕ)). Some (row_of t c)) (other_content r.0 q r.2 (λ same. ne (let z : Some q ≡ Some s.fork = sym r.2 ∙ ap (fork_at t.maps) same ∙ own_fork in cc z)))
              ∙ sym (ap (option_map (λ j. row_of t (content places d (root_at t.maps j).0))) r.1)
          by (inr r) = ap (option_map (λ j. row_of t (content after d (root_at t.maps j).0))) r.0 ∙ sym (ap (option_map (λ j. row_of t (content places d (root_at t.maps j).0))) r.0)

-- what the maps are once the word of a pointer was put
pub record Changed (t : Tables) (old new : List HomePlace) (s : Slot) (p : Pointer) : Type 0 where
  pub rooted : AreRooted t (map is_taken new)
  pub fits : (d : DrumWords) → FitsMaps t old d → FitsMaps t new d
  pub told : (d : DrumWords) (e : PagedEntry) → FitsMaps t old d → entry_for t p ≡ Some e → maps_over t new d ≡ set_entry (maps_over t old d) s (plain_entry t.names e)

pub pointer_put : (t : Tables) (places new : List HomePlace) (s : Slot) (k : ℕ) (p : Pointer) → AreRooted t (map is_taken places) → index_of t.maps s.fork ≡ Some k → is_near (look_at t places s) ≡ true → IsPointer p → IsSome (entry_for t p)
    → new ≡ slice_set places (root_at t.maps k).0 (with_word_in (place places (root_at t.maps k).0) s.page (pointer_word p)) → Changed t places new s p
pointer_put t places new s k p rooted is near isp some base =
    let home = (root_at t.maps k).0 in
    let w = pointer_word p in
    let x = near_here t (root_at t.maps k) (place places home) s.page (sym (ap (λ (o : Option ℕ). is_near (look_map t places s.page o)) is) ∙ near) in
    let after : new ≡ slice_set places home (here (slice_set x.0 s.page w)) = base ∙ ap (λ q. slice_set places home (with_word_in q s.page w)) x.1 in
    record {
      rooted = subst (AreRooted t) (sym (ap (map is_taken) after ∙ taken_still places home (here (slice_set x.0 s.page w)) (sym (ap is_taken x.1)))) rooted;
      fits = λ d fits. subst (λ ps. FitsMaps t ps d) (sym after) (fits_set t places d rooted fits s k is x.0 x.1 w (subst (λ (o : Option PagedEntry). IsSome o) (sym (entry_back t p isp)) some));
      told = λ d e fits stands. ap (λ ps. maps_over t ps d) after ∙ maps_set t places d rooted fits s k is x.0 x.1 w e (entry_back t p isp ∙ stands);
    }
