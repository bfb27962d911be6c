-- Which homes are given up where entries of a map are emptied, and where the map goes.
use Rattle.std.specs.Prelude.{◌≡◌, ◌≢◌, ℕ, ◌≤◌, List, Some, false}
use Rattle.std.specs.List.{list_any}
use Rattle.machine_names.specs.declared.names.Access.{Access}
use Rattle.machine_names.specs.declared.names.ForkName.{ForkName}
use Rattle.machine_names.specs.declared.names.Slot.{Slot}
use Rattle.machine_names.specs.declared.names.TheConstants.{SPACE_PAGES}
use Rattle.page_contracts.specs.Stores.{HomePlace, IsFreed, IsUsed, StaysQueued, StoreMeaning, departs, place, with_word_in}
use Rattle.pager_walk.specs.declared.paged_entry.Looked.TheVariants.{Is}
use Rattle.pager_walk.specs.declared.paged_entry.PagedEntry.TheVariants.{Page}
use Rattle.pager_walk.specs.MapPages.{index_of, root_at}
use Rattle.pager_walk.specs.PagedMaps.{look_at, map_away}
use Rattle.paged_tables.specs.EndedForks.{EmptiesFork, fork_gone}
use Rattle.paged_tables.specs.FiledSteps.{PageStays}
use Rattle.paged_tables.specs.PagedTables.{Beside, AreKept}

-- a look at an entry finds the page of a home
pub record NamesHome (b : Beside) (places : List HomePlace) (at : Slot) (home : ℕ) : Type 0 where
  pub access : Access
  pub is : look_at b.tables places at ≡ Is (Page (record { 0 = home }) access)

-- some entry of a fork's map names the page of a home
pub record MapHas (b : Beside) (places : List HomePlace) (fork : ForkName) (home : ℕ) : Type 0 where
  pub page : ℕ
  pub there : NamesHome b places (record { fork = fork; page = page }) home

-- One entry of a map was set: of the map's page one word alone may be another, and each other home is as it was, or its page was the one that the entry named, and was given up.
pub record KeepsHomes {S : Type 0} (store : StoreMeaning S) (old new : S) (b b' : Beside) (at : Slot) : Type 0 where
  pub number : ℕ
  pub numbered : index_of b.tables.maps at.fork ≡ Some number
  pub word : ℕ
  pub map : place (store.homes new) (root_at b.tables.maps number).0 ≡ with_word_in (place (store.homes old) (root_at b.tables.maps number).0) at.page word
  pub homes : (k : ℕ) → k ≢ (root_at b.tables.maps number).0 → PageStays b (store.homes old) b' (store.homes new) k (NamesHome b (store.homes old) at k)

-- It names no page any more, and each other entry that names a page named it. Where it named none, the map's page was used alone.
pub record FreesEntry {S : Type 0} (store : StoreMeaning S) (old new : S) (b b' : Beside) (at : Slot) : Type 0 where
  pub keeps : KeepsHomes store old new b b' at
  pub frames : ((k : ℕ) → NamesHome b (store.homes old) at k → ⊥) → store.spare new ≡ store.spare old
  pub used : ((k : ℕ) → NamesHome b (store.homes old) at k → ⊥) → (number : ℕ) → index_of b.tables.maps at.fork ≡ Some number → IsUsed store (root_at b.tables.maps number).0 old new
  pub away : map_away b'.tables (store.homes new) ≡ map_away b.tables (store.homes old)
  pub others : (page k : ℕ) → page ≢ at.page → NamesHome b' (store.homes new) (record { fork = at.fork; page = page }) k → NamesHome b (store.homes old) (record { fork = at.fork; page = page }) k

-- The first entries of a fork's map were emptied.
pub record FreesEntries {S : Type 0} (store : StoreMeaning S) (old new : S) (b b' : Beside) (fork : ForkName) (pages : ℕ) : Type 0 where
  pub number : ℕ
  pub numbered : index_of b.tables.maps fork ≡ Some number
  pub homes : (k : ℕ) → k ≢ (root_at b.tables.maps number).0 → PageStays b (store.homes old) b' (store.homes new) k (MapHas b (store.homes old) fork k)
  pub frames : ((k : ℕ) → MapHas b (store.homes old) fork k → ⊥) → store.spare new ≡ store.spare old
  pub still : ((k : ℕ) → MapHas b (store.homes old) fork k → ⊥) → list_any (departs (root_at b.tables.maps number).0) (store.queue old) ≡ false → StaysQueued store old new
  pub holds : ((k : ℕ) → MapHas b (store.homes old) fork k → ⊥) → store.holds new ≡ store.holds old
  pub away : map_away b'.tables (store.homes new) ≡ map_away b.tables (store.homes old)
  pub rest : (page k : ℕ) → pages ≤ page → NamesHome b' (store.homes new) (record { fork = fork; page = page }) k → NamesHome b (store.homes old) (record { fork = fork; page = page }) k

-- All of them were, and then the map went.
pub record EndsFork {S : Type 0} (store : StoreMeaning S) (old new : S) (b b' : Beside) (fork : ForkName) : Type 0 where
  pub mid : S
  pub between : Beside
  pub kept : AreKept between (store.homes mid)
  pub empties : EmptiesFork store old mid b between fork SPACE_PAGES
  pub frees : FreesEntries store old mid b between fork SPACE_PAGES
  pub freed : IsFreed store (root_at b.tables.maps frees.number).0 mid new
  pub beside : b' ≡ fork_gone between frees.number
