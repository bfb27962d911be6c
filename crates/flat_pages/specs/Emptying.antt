-- A map whose entries are emptied one after another, and a fork that ends so.
use Rattle.std.specs.Prelude.{◌≡◌, ℕ, ◌<◌, ◌≤◌, List, true, false, None, Some, length, nat_lt, if◌then◌else◌}
use Rattle.std.specs.FinMap as map
use Rattle.machine_names.specs.declared.names.ForkName.{ForkName}
use Rattle.machine_names.specs.declared.names.PageName.{PageName}
use Rattle.page_contracts.specs.DrumWords.{DrumWords}
use Rattle.plain_pages.specs.PlainPages.{NumberedPages}
use Rattle.plain_pages.specs.Room.{uses}
use Rattle.page_contracts.specs.Pages.{StaysInCore}
use Rattle.machine_names.specs.Orders.{same_fork}
use Rattle.page_contracts.specs.Stores.{StoreMeaning, FitsHomes, Loses, RenewsNone, traffic}
use Rattle.flat_tables.specs.declared.held_entry.HeldEntry.TheVariants.{Empty}
use Rattle.flat_tables.specs.declared.held_map.HeldMap.{HeldMap}
use Rattle.flat_tables.specs.declared.map_tables.MapTables.{MapTables}
use Rattle.flat_tables.specs.HeldMaps.{fork_at, held_entry}
use Rattle.flat_tables.specs.SlotTables.{plain_of, files_held}
use Rattle.flat_tables.specs.SlotTouches.{scene_of}
use Rattle.flat_tables.specs.TableSteps.{tables_of}
use Rattle.flat_tables.specs.SlotSteps.{HomeStays, NamesHome}

-- pages of which fewer are named: those that still are, are there with their words
pub record NamesFewer (p q : NumberedPages) : Type 0 where
  pub objects : (n : PageName) → map.get q.objects n ≡ (if nat_lt 0 (uses q n) then map.get p.objects n else None)
  pub named : (n : PageName) → nat_lt 0 (uses q n) ≡ true → nat_lt 0 (uses p n) ≡ true
  pub page_serials : q.page_serials ≡ p.page_serials
  pub console_serial : q.console_serial ≡ p.console_serial
  pub limit : q.limit ≡ p.limit

-- pages of which one fork's map alone names fewer
pub record AreFewer (p q : NumberedPages) (f : ForkName) : Type 0 where
  pub pages : NamesFewer p q
  pub others : (g : ForkName) → same_fork g f ≡ false → map.get q.maps g ≡ map.get p.maps g
  pub files : q.files ≡ p.files

-- a map names the page of a home
pub record MapNames (maps : List HeldMap) (k home : ℕ) : Type 0 where
  pub page : ℕ
  pub there : NamesHome maps (record { map = k; page = page }) home

-- the first entries of the map with a number were emptied: what no entry names any more was given up, and nothing has left its frame
pub record EmptiesMap {S : Type 0} (store : StoreMeaning S) (old new : S) (tables tables' : MapTables) (k pages : ℕ) : Type 0 where
  pub told : (d : DrumWords) (f : ForkName) → fork_at tables.maps.held.items k ≡ Some f → FitsHomes (store.homes old) d
      → FitsHomes (store.homes new) d × AreFewer (plain_of (tables_of (store.homes old) tables) d) (plain_of (tables_of (store.homes new) tables') d) f
  pub many : length tables'.maps.held.items ≡ length tables.maps.held.items
  pub forks : (j : ℕ) → fork_at tables'.maps.held.items j ≡ fork_at tables.maps.held.items j
  pub entries : (page : ℕ) → page < pages → held_entry tables'.maps.held.items (record { map = k; page = page }) ≡ Some Empty
  pub files : tables'.files ≡ tables.files
  pub filed : files_held tables'.names.items tables'.files ≡ files_held tables.names.items tables.files
  pub serials : tables'.serials ≡ tables.serials
  pub living : tables'.living ≡ tables.living
  pub limit : tables'.limit ≡ tables.limit
  pub rest : (page : ℕ) → pages ≤ page → held_entry tables'.maps.held.items (record { map = k; page = page }) ≡ held_entry tables.maps.held.items (record { map = k; page = page })
  pub homes : (home : ℕ) → HomeStays (tables_of (store.homes old) tables) (tables_of (store.homes new) tables') home (MapNames tables.maps.held.items k home)
  pub untouched : ((home : ℕ) → MapNames tables.maps.held.items k home → ⊥) → new ≡ old
  pub core : StaysInCore (scene_of (tables_of (store.homes old) tables) (store.spare old)) (scene_of (tables_of (store.homes new) tables') (store.spare new)) 0
  pub lost : Loses (traffic store old) (traffic store new)
  pub used : RenewsNone (traffic store old) (traffic store new)
