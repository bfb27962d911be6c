-- What a look at an entry finds is the entry of the plain maps.
use Rattle.std.proofs.Common.{◌≡◌, ℕ, zero, suc, ◌<◌, List, [], ◌∷◌, Bool, true, false, cond, Option, None, Some, is_some, length, map, refl, sym, ◌∙◌, ap, subst, arith}
use Rattle.std.specs.Prelude.{IsSome, slice_index, slice_index_or}
use Rattle.std.specs.Option.{option_map, option_map_or, option_and_then}
use Rattle.std.proofs.lemmas.Option.{slice_get-map, slice_get-get_or}
use Rattle.outside.specs.Drums.{IsPage, page_at as drum_page}
use Rattle.outside.specs.declared.TheConstants.{PAGE_WORDS}
use Rattle.machine_names.specs.declared.names.Access.{Access}
use Rattle.machine_names.specs.declared.names.ForkName.{ForkName}
use Rattle.machine_names.specs.declared.names.Slot.{Slot}
use Rattle.machine_names.specs.declared.names.TheConstants.{SPACE_PAGES}
use Rattle.page_homes.specs.declared.homes.Home.{Home}
use Rattle.plain_pages.specs.declared.map.MapEntry.{MapEntry}
use Rattle.plain_pages.specs.declared.map.MapEntry.TheVariants as entry
use Rattle.plain_pages.specs.Maps.{entry_at}
use Rattle.share_table.specs.declared.pointer.Pointer.{Pointer}
use Rattle.share_table.specs.declared.pointer.Pointer.TheVariants as pointer
use Rattle.share_table.specs.declared.shares.SharedPage.{SharedPage}
use Rattle.share_table.specs.Pointers.{IsPointer}
use Rattle.share_table.specs.Shares.{page_at}
use Rattle.page_contracts.specs.declared.answers.Seen.{Seen}
use Rattle.page_contracts.specs.declared.answers.Seen.TheVariants as seen
use Rattle.page_contracts.specs.DrumWords.{DrumWords}
use Rattle.page_contracts.specs.Pages.{Scene, seen_of, map_away_or, FollowsPage, SeenNeeds}
use Rattle.plain_pages.specs.PlainPages.{NumberedPages}
use Rattle.page_contracts.specs.Stores.{StoreMeaning, HomePlace, free, away, here, place, is_taken, over_drum, content, word_in, away_at, away_home, FitsHomes}
use Rattle.pager_walk.specs.declared.paged_entry.PagedEntry.{PagedEntry}
use Rattle.pager_walk.specs.declared.paged_entry.PagedEntry.TheVariants.{Empty, Page, Follows}
use Rattle.pager_walk.specs.declared.paged_entry.Looked.{Looked}
use Rattle.pager_walk.specs.declared.paged_entry.Looked.TheVariants.{Is, Absent, Missing, Refused}
use Rattle.pager_walk.specs.Decoding.{pointer_in}
use Rattle.pager_walk.specs.MapPages.{root_at, fork_at, index_of}
use Rattle.pager_walk.specs.PagedMaps.{Tables, seen_for, name_at, page_entry, entry_for, entry_in, plain_entry, entry_of, words_in, maps_over, AreRooted, FitsMaps, look_word, look_map, look_at, LookStands, TellsEntry, map_away}
use Rattle.pager_walk.proofs.DecodedWords.{pointer_only}
use Rattle.pager_walk.proofs.NumberedMaps.{index_fork}
use Rattle.pager_walk.proofs.MapRows.{entry_over, entry_none}

-- the pages that a store has are pages
abbrev pub ArePages : List HomePlace → Type 0
ArePages places = (home : ℕ) (words : List ℕ) → place places home ≡ here words → IsPage words

pub taken_map : (places : List HomePlace) (h : ℕ) → slice_index_or (map is_taken places) h false ≡ is_taken (place places h)
taken_map [] h = refl
taken_map (p ∷ ps) zero = refl
taken_map (p ∷ ps) (suc h) = taken_map ps h

pub taken_within : (places : List HomePlace) (h : ℕ) → is_taken (place places h) ≡ true → h < length places
taken_within [] h e = absurd (cc e)
taken_within (p ∷ ps) zero e = omega arith
taken_within (p ∷ ps) (suc h) e = omega (arith, taken_within ps h e)

-- the words of a taken home's page are as many as a page has
pub words_whole : (places : List HomePlace) (d : DrumWords) → FitsHomes places d → ArePages places → (h : ℕ) → is_taken (place places h) ≡ true → length (words_in (content places d h)) ≡ PAGE_WORDS
unfolding content
words_whole places d fits pages h taken = by (place places h) refl taken
  where
    by : (p : HomePlace) → place places h ≡ p → is_taken p ≡ true → length (words_in (over_drum p (drum_page d h))) ≡ PAGE_WORDS
    by free is e = absurd (cc e)
    by away is e = let page : IsPage (drum_page d h) = fits.pages h (omega (arith, fits.enough, taken_within places h (ap is_taken is))) in page.size
    by (here w) is e = let page : IsPage w = pages h w is in page.size

pub content_here : (places : List HomePlace) (d : DrumWords) (h : ℕ) (words : List ℕ) → place places h ≡ here words → content places d h ≡ Some words
unfolding content
content_here places d h words is = ap (λ p. over_drum p (drum_page d h)) is

some_fork : (o : Option ForkName) (f : ForkName) → o ≡ Some f → IsSome o
some_fork None f e = absurd (cc e)
some_fork (Some g) f e = refl

-- a look at an entry whose map is there
pub look_there : (t : Tables) (places : List HomePlace) (s : Slot) (k : ℕ) (home : Home) → index_of t.maps s.fork ≡ Some k → home ≡ root_at t.maps k → look_at t places s ≡ look_word t home (word_in (place places home.0) s.page)
look_there t places s k home is root = ap (look_map t places s.page) is ∙ ap (λ (h : Home). look_word t h (word_in (place places h.0) s.page)) (sym root)

-- a fork's map has a taken home
pub root_taken : (t : Tables) (places : List HomePlace) → AreRooted t (map is_taken places) → (f : ForkName) (k : ℕ) → index_of t.maps f ≡ Some k → is_taken (place places (root_at t.maps k).0) ≡ true
root_taken t places rooted f k is = sym (taken_map places (root_at t.maps k).0) ∙ rooted.there k f (index_fork t.maps f k is)

-- what holds of the entry of a word
module _ (t : Tables) (places : List HomePlace) where
  named_stands : (b : Bool) (home : Home) (a : Access) → is_some (name_at t.names home.0) ≡ b → LookStands t places (option_map_or Is (cond b (Some (Page home a)) None) Refused)
  named_stands true home a e = e
  named_stands false home a e = tt

  stands_in : (w : ℕ) → LookStands t places (option_map_or Is (entry_in t w) Refused)
  stands_in w = by (pointer_in w) refl
    where
      of : (p : Pointer) → IsPointer p → LookStands t places (option_map_or Is (entry_for t p) Refused)
      of pointer.Empty is = tt
      of (pointer.Private home a) is = named_stands (is_some (name_at t.names home.0)) home a refl
      of (pointer.Shared share a) is = shared (page_at t.shares share.0)
        where
          shared : (o : Option SharedPage) → LookStands t places (option_map_or Is (option_and_then (λ p. page_entry t.names p.home a) o) Refused)
          shared None = tt
          shared (Some p) = named_stands (is_some (name_at t.names p.home.0)) p.home a refl
      of (pointer.Indirect serial page a) is = is.2

      by : (o : Option Pointer) → pointer_in w ≡ o → LookStands t places (option_map_or Is (option_and_then (entry_for t) o) Refused)
      by None e = tt
      by (Some p) e = of p (pointer_only w p e).0

  -- what holds of a look
  pub stands_at : AreRooted t (map is_taken places) → (s : Slot) → LookStands t places (look_at t places s)
  stands_at rooted s = by (index_of t.maps s.fork) refl
    where
      there : (k : ℕ) → index_of t.maps s.fork ≡ Some k → (p : HomePlace) → place places (root_at t.maps k).0 ≡ p → LookStands t places (look_word t (root_at t.maps k) (word_in p s.page))
      there k is free at = let z : false ≡ true = sym (ap is_taken at) ∙ root_taken t places rooted s.fork k is in absurd (cc z)
      there k is away at = record { number = k; fork = some_fork (fork_at t.maps k) s.fork (index_fork t.maps s.fork k is); root = refl; away = at }
      there k is (here words) at = stands_in (slice_index words s.page)

      by : (o : Option ℕ) → index_of t.maps s.fork ≡ o → LookStands t places (look_map t places s.page o)
      by None is = tt
      by (Some k) is = there k is (place places (root_at t.maps k).0) refl

stands : (o : Option PagedEntry) → IsSome o → (e : PagedEntry) × (o ≡ Some e)
stands None e = absurd (cc e)
stands (Some e) h = (e, refl)

some_entry : (o : Option MapEntry) (e : MapEntry) → o ≡ Some e → IsSome o
some_entry None e h = absurd (cc h)
some_entry (Some x) e h = refl

module _ (t : Tables) (places : List HomePlace) (d : DrumWords) (rooted : AreRooted t (map is_taken places)) (pages : ArePages places) (fits : FitsMaps t places d) where
  -- the entry of a slot is that of its word, over the words of a drum
  entry_is : (s : Slot) (k : ℕ) → s.page < SPACE_PAGES → index_of t.maps s.fork ≡ Some k → entry_at (maps_over t places d) s ≡ Some (entry_of t (slice_index (words_in (content places d (root_at t.maps k).0)) s.page))
  entry_is s k below is =
      let words = words_in (content places d (root_at t.maps k).0) in
      let size : length words ≡ PAGE_WORDS = words_whole places d fits.drum pages (root_at t.maps k).0 (root_taken t places rooted s.fork k is) in
      entry_over t places d s k is ∙ slice_get-map (entry_of t) words s.page ∙ ap (option_map (entry_of t)) (slice_get-get_or words s.page 0 (omega (arith, size, below)))

  pub looked : (s : Slot) → s.page < SPACE_PAGES → TellsEntry t places d s (look_at t places s)
  looked s below = by (index_of t.maps s.fork) refl
    where
      there : (k : ℕ) → index_of t.maps s.fork ≡ Some k → (p : HomePlace) → place places (root_at t.maps k).0 ≡ p → TellsEntry t places d s (look_word t (root_at t.maps k) (word_in p s.page))
      there k is free at = absurd (let z : false ≡ true = sym (ap is_taken at) ∙ root_taken t places rooted s.fork k is in cc z)
      there k is away at = (
        ap (option_and_then (λ j. away_at places (root_at t.maps j).0)) is ∙ ap (λ p. away_home p (root_at t.maps k).0) at,
        some_entry (entry_at (maps_over t places d) s) _ (entry_is s k below is),
      )
      there k is (here words) at =
          let w = slice_index words s.page in
          let same : words_in (content places d (root_at t.maps k).0) ≡ words = ap words_in (content_here places d (root_at t.maps k).0 words at) in
          let x = stands (entry_in t w) (subst (λ (v : List ℕ). IsSome (entry_in t (slice_index v s.page))) same (fits.entries k s.page s.fork (index_fork t.maps s.fork k is) below)) in
          subst (λ (o : Option PagedEntry). TellsEntry t places d s (option_map_or Is o Refused)) (sym x.1) (
            ap (option_and_then (λ j. away_at places (root_at t.maps j).0)) is ∙ ap (λ p. away_home p (root_at t.maps k).0) at,
            entry_is s k below is ∙ ap (λ (v : List ℕ). Some (entry_of t (slice_index v s.page))) same ∙ ap (λ (o : Option PagedEntry). Some (option_map_or (plain_entry t.names) o entry.Empty)) x.1,
          )

      by : (o : Option ℕ) → index_of t.maps s.fork ≡ o → TellsEntry t places d s (look_map t places s.page o)
      by None is = (ap (option_and_then (λ j. away_at places (root_at t.maps j).0)) is, entry_none t places d s is)
      by (Some k) is = there k is (place places (root_at t.maps k).0) refl

-- What is seen of a look
pub record Sees (t : Tables) (places : List HomePlace) (s : Slot) (result : Seen) : Type 0 where
  pub follows : FollowsPage result
  pub told : (d : DrumWords) (p : NumberedPages) (scene : Scene) → FitsMaps t places d → p.maps ≡ maps_over t places d → scene.map_away ≡ map_away t places → result ≡ seen_of p scene s

module _ (t : Tables) (places : List HomePlace) (rooted : AreRooted t (map is_taken places)) (pages : ArePages places) (s : Slot) (below : s.page < SPACE_PAGES) where
  seen_follows : (l : Looked) → LookStands t places l → FollowsPage (seen_for t l)
  seen_follows (Is Empty) x = tt
  seen_follows (Is (Page home a)) x = tt
  seen_follows (Is (Follows serial page a)) x = x
  seen_follows (Absent home) x = tt
  seen_follows Missing x = tt
  seen_follows Refused x = tt

  seen_told : (d : DrumWords) (p : NumberedPages) (scene : Scene) → p.maps ≡ maps_over t places d → scene.map_away ≡ map_away t places → (l : Looked) → TellsEntry t places d s l → seen_for t l ≡ seen_of p scene s
  unfolding seen_of
  seen_told d p scene maps absent (Is e) x =
      sym (ap (λ (o : Option MapEntry). option_map_or (λ f. map_away_or (scene.map_away s.fork) (seen.Is f)) o seen.Missing) (ap (λ m. entry_at m s) maps ∙ x.1)
      ∙ ap (λ o. map_away_or o (seen.Is (plain_entry t.names e))) (ap (λ (g : ForkName → Option ℕ). g s.fork) absent ∙ x.0))
  seen_told d p scene maps absent (Absent home) x = by (entry_at (maps_over t places d) s) refl x.1
    where
      by : (o : Option MapEntry) → entry_at (maps_over t places d) s ≡ o → IsSome o → seen.Absent home ≡ option_map_or (λ f. map_away_or (scene.map_away s.fork) (seen.Is f)) (entry_at p.maps s) seen.Missing
      by None is some = absurd (cc some)
      by (Some e) is some =
          sym (ap (λ (o : Option MapEntry). option_map_or (λ f. map_away_or (scene.map_away s.fork) (seen.Is f)) o seen.Missing) (ap (λ m. entry_at m s) maps ∙ is)
          ∙ ap (λ o. map_away_or o (seen.Is e)) (ap (λ (g : ForkName → Option ℕ). g s.fork) absent ∙ x.0))
  seen_told d p scene maps absent Missing x = sym (ap (λ (o : Option MapEntry). option_map_or (λ f. map_away_or (scene.map_away s.fork) (seen.Is f)) o seen.Missing) (ap (λ m. entry_at m s) maps ∙ x.1))
  seen_told d p scene maps absent Refused x = absurd x

  pub sees : Sees t places s (seen_for t (look_at t places s))
  sees = record {
    follows = seen_follows (look_at t places s) (stands_at t places rooted s);
    told = λ d p scene fits maps absent. seen_told d p scene maps absent (look_at t places s) (looked t places d rooted pages fits s below);
  }

-- what is seen to be away is
pub seen_needs : {S : Type 0} (means : StoreMeaning S) (store : S) (t : Tables) (l : Looked) → LookStands t (means.homes store) l → SeenNeeds means store (seen_for t l)
seen_needs means store t (Is e) x = tt
seen_needs means store t (Absent home) x = x.away
seen_needs means store t Missing x = tt
seen_needs means store t Refused x = tt
