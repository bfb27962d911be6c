-- The maps in memory, once the word of an entry was put into the page of a map.
use Rattle.std.proofs.Common.{◌≡◌, ◌≢◌, ℕ, zero, suc, ◌<◌, List, [], ◌∷◌, Option, None, Some, length, map, refl, sym, ◌∙◌, ap, subst, arith}
use Rattle.std.specs.Prelude.{IsSome, slice_get, slice_index, slice_set}
use Rattle.std.specs.Option.{option_map_or}
use Rattle.std.proofs.lemmas.List.{map-set}
use Rattle.outside.specs.declared.TheConstants.{PAGE_WORDS}
use Rattle.machine_names.specs.declared.names.ForkName.{ForkName}
use Rattle.page_homes.specs.declared.homes.Home.{Home}
use Rattle.page_contracts.specs.DrumWords.{DrumWords}
use Rattle.page_contracts.specs.Stores.{HomePlace, content, is_taken}
use Rattle.pager_walk.specs.declared.map_pages.MapPage.{MapPage}
use Rattle.pager_walk.specs.declared.paged_entry.PagedEntry.{PagedEntry}
use Rattle.pager_walk.specs.MapPages.{fork_at, root_at}
use Rattle.pager_walk.specs.PagedMaps.{Tables, AreRooted, FitsMaps, entry_in, words_in}
use Rattle.pager_walk.proofs.Looking.{ArePages, taken_map, words_whole}
use Rattle.flat_tables.specs.declared.held_entry.HeldEntry.{HeldEntry}
use Rattle.flat_tables.specs.declared.held_entry.HeldEntry.TheVariants as entry
use Rattle.flat_tables.specs.HeldMaps as flat
use Rattle.flat_pages.proofs.Told.{map_same}
use Rattle.paged_tables.specs.MapsInMemory.{entry_held, entries_held, in_memory, map_held, maps_in_memory}

-- a map of which the words stand for the same entries, but for one
abbrev pub SameRow : (t t' : Tables) (words words' : ℕ → Option (List ℕ)) (home : ℕ) → Type 0
SameRow t t' words words' home = map (entry_held t') (words_in (words' home)) ≡ map (entry_held t) (words_in (words home))

module _ (t t' : Tables) (words words' : ℕ → Option (List ℕ)) where
  own_same : (home : Home) (o : Option ForkName) → ((f : ForkName) → o ≡ Some f → SameRow t t' words words' home.0) → entries_held t' words' home o ≡ entries_held t words home o
  own_same home None same = refl
  own_same home (Some f) same = same f refl

  pub all_same : (maps : List MapPage) → ((j : ℕ) (f : ForkName) → fork_at maps j ≡ Some f → SameRow t t' words words' (root_at maps j).0) → map (map_held t' words') maps ≡ map (map_held t words) maps
  all_same [] same = refl
  all_same (m ∷ maps) same =
      let own = own_same m.home m.fork (λ f e. same zero f e) in
      let rest = all_same maps (λ j f e. same (suc j) f e) in
      λ i. record { fork = m.fork; entries = own i } ∷ rest i

  module _ (page : ℕ) (e : HeldEntry) where
    own_set : (home : Home) (o : Option ForkName) (f : ForkName) → o ≡ Some f → map (entry_held t') (words_in (words' home.0)) ≡ slice_set (map (entry_held t) (words_in (words home.0))) page e
        → entries_held t' words' home o ≡ slice_set (entries_held t words home o) page e
    own_set home None f is set = absurd (cc is)
    own_set home (Some g) f is set = set

    pub one_set : (maps : List MapPage) (k : ℕ) (f : ForkName) → fork_at maps k ≡ Some f → ((j : ℕ) (g : ForkName) → fork_at maps j ≡ Some g → j ≢ k → SameRow t t' words words' (root_at maps j).0)
        → map (entry_held t') (words_in (words' (root_at maps k).0)) ≡ slice_set (map (entry_held t) (words_in (words (root_at maps k).0))) page e
        → map (map_held t' words') maps ≡ flat.with_entry (map (map_held t words) maps) (record { map = k; page = page }) e
    one_set [] k f is others set = absurd (cc is)
    one_set (m ∷ maps) zero f is others set =
        let own = own_set m.home m.fork f is set in
        let rest = all_same maps (λ j g x. others (suc j) g x (λ z. (omega (arith, z)))) in
        λ i. record { fork = m.fork; entries = own i } ∷ rest i
    one_set (m ∷ maps) (suc k) f is others set =
        let own = own_same m.home m.fork (λ g x. others zero g x (λ z. (omega (arith, z)))) in
        let rest = one_set maps k f is (λ j g x ne. others (suc j) g x (λ z. ne (omega (arith, z)))) set in
        λ i. record { fork = m.fork; entries = own i } ∷ rest i

-- an element that is there, by its number
pub there_at : (xs : List ℕ) (i x : ℕ) → slice_get xs i ≡ Some x → (i < length xs) × (slice_index xs i ≡ x)
there_at [] i x e = absurd (cc e)
there_at (y ∷ xs) zero x e = (omega arith, (let same : y ≡ x = cc e in same))
there_at (y ∷ xs) (suc i) x e = let r = there_at xs i x e in (omega (arith, r.0), r.1)

module _ (t t' : Tables) (places places' : List HomePlace) (d : DrumWords) (rooted : AreRooted t (map is_taken places)) (pages : ArePages places) (fits : FitsMaps t places d)
    (stays : (w : ℕ) → IsSome (entry_in t w) → entry_in t' w ≡ entry_in t w) where
  -- the words of a map stand for the same entries
  row_same : (j : ℕ) (f : ForkName) → fork_at t.maps j ≡ Some f → map (entry_held t') (words_in (content places d (root_at t.maps j).0)) ≡ map (entry_held t) (words_in (content places d (root_at t.maps j).0))
  row_same j f is =
      let words = words_in (content places d (root_at t.maps j).0) in
      let size : length words ≡ PAGE_WORDS = words_whole places d fits.drum pages (root_at t.maps j).0 (sym (taken_map places (root_at t.maps j).0) ∙ rooted.there j f is) in
      map_same (entry_held t') (entry_held t) words (λ i x e.
      let r = there_at words i x e in
      let some : IsSome (entry_in t x) = subst (λ v. IsSome (entry_in t v)) r.1 (fits.entries j i f is (omega (arith, r.0, size))) in
      ap (λ (o : Option PagedEntry). option_map_or in_memory o entry.Empty) (stays x some))

  -- no word of a map is put
  pub memory_still : t'.maps ≡ t.maps → ((j : ℕ) (g : ForkName) → fork_at t.maps j ≡ Some g → content places' d (root_at t.maps j).0 ≡ content places d (root_at t.maps j).0) → maps_in_memory t' (content places' d) ≡ maps_in_memory t (content places d)
  unfolding maps_in_memory
  memory_still maps same =
      ap (map (map_held t' (content places' d))) maps
      ∙ all_same t t' (content places d) (content places' d) t.maps (λ j g x. ap (λ (c : Option (List ℕ)). map (entry_held t') (words_in c)) (same j g x) ∙ row_same j g x)

  -- one word of one map is put
  pub memory_set : t'.maps ≡ t.maps → (k page w : ℕ) (f : ForkName) (p : PagedEntry) → fork_at t.maps k ≡ Some f → entry_in t' w ≡ Some p
      → ((j : ℕ) (g : ForkName) → fork_at t.maps j ≡ Some g → j ≢ k → content places' d (root_at t.maps j).0 ≡ content places d (root_at t.maps j).0)
      → words_in (content places' d (root_at t.maps k).0) ≡ slice_set (words_in (content places d (root_at t.maps k).0)) page w
      → maps_in_memory t' (content places' d) ≡ flat.with_entry (maps_in_memory t (content places d)) (record { map = k; page = page }) (in_memory p)
  unfolding maps_in_memory
  memory_set maps k page w f p is stands others set =
      ap (map (map_held t' (content places' d))) maps
      ∙ one_set t t' (content places d) (content places' d) page (in_memory p) t.maps k f is
      (λ j g x ne. ap (λ (c : Option (List ℕ)). map (entry_held t') (words_in c)) (others j g x ne) ∙ row_same j g x)
      (ap (map (entry_held t')) set ∙ map-set (entry_held t') (words_in (content places d (root_at t.maps k).0)) page w
      ∙ (λ i. slice_set (row_same k f is i) page (option_map_or in_memory (stands i) entry.Empty)))
