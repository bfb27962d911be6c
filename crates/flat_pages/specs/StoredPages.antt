-- The pages of a store in memory.
use Rattle.std.specs.Prelude.{◌≡◌, ℕ, ◌<◌, ◌≤◌, List, [], ◌∷◌, Bool, false, if◌then◌else◌, Option, None, Some, length, map, slice_index_or}
use Rattle.std.specs.List.{range_with_len}
use Rattle.outside.specs.Drums.{IsPage}
use Rattle.page_homes.specs.declared.homes.Home.{Home}
use Rattle.page_homes.specs.declared.homes.TheConstants.{MOST_HOMES}
use Rattle.page_contracts.specs.declared.answers.Found.{Found}
use Rattle.machine_names.specs.PageWords.{zero_words}
use Rattle.page_contracts.specs.Stores.{HomePlace, free, here, place, is_taken, free_homes}

-- the page of a home: whether it is taken, and its words, which are nobody's where it is not
pub record StoredPage : Type 0 where
  pub taken : Bool
  pub words : List ℕ

-- the pages of all homes
abbrev pub pages_from : List (List ℕ) → List Bool → List StoredPage
pages_from [] taken = []
pages_from (w ∷ words) [] = []
pages_from (w ∷ words) (t ∷ taken) = record { taken = t; words = w } ∷ pages_from words taken

-- the page of a home that is not taken
abbrev pub free_page : StoredPage
free_page = record { taken = false; words = zero_words }

abbrev pub stored_at : List StoredPage → ℕ → StoredPage
stored_at pages h = slice_index_or pages h free_page

-- all homes below a number, in order
abbrev pub homes_below : ℕ → List Home
homes_below n = map (λ h. record { 0 = h }) (range_with_len 0 n)

-- where a page is: in memory, if its home is taken
abbrev pub place_of : StoredPage → HomePlace
place_of p = if p.taken then here p.words else free

abbrev pub places_of : List StoredPage → List HomePlace
places_of pages = map place_of pages

-- a page is found under its home
abbrev pub found_at : List HomePlace → ℕ → Option Found
found_at places h = if is_taken (place places h) then Some (record { 0 = h }) else None

-- the home at a place among those that are free
abbrev pub free_at : List Home → ℕ → ℕ
free_at homes i = (slice_index_or homes i (record { 0 = 0 })).0

-- The first so many of the homes are those that are free, each once.
pub record AreStored (pages : List StoredPage) (homes : List Home) (spare : ℕ) : Type 0 where
  pub few : length pages ≤ MOST_HOMES
  pub room : length homes ≡ length pages
  pub count : spare ≡ free_homes (places_of pages)
  pub below : (i : ℕ) → i < spare → free_at homes i < length pages
  pub unused : (i : ℕ) → i < spare → place (places_of pages) (free_at homes i) ≡ free
  pub apart : (i j : ℕ) → i < spare → j < spare → free_at homes i ≡ free_at homes j → i ≡ j
  pub words : (h : ℕ) → IsPage (stored_at pages h).words
