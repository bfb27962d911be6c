-- What ending a fork leaves.
use Rattle.std.specs.Prelude.{◌≡◌, ℕ, ◌-◌, ◌<◌, IsSome, Some}
use Rattle.machine_names.specs.declared.names.ForkName.{ForkName}
use Rattle.page_contracts.specs.DrumWords.{DrumWords}
use Rattle.page_contracts.specs.Pages.{StaysInCore}
use Rattle.page_contracts.specs.Stores.{KeepsFrame, Loses, StoreMeaning, traffic}
use Rattle.plain_pages.specs.declared.map.MapEntry.TheVariants.{Empty}
use Rattle.plain_pages.specs.Maps.{entry_at}
use Rattle.flat_pages.specs.Emptying.{AreFewer}
use Rattle.pager_walk.specs.PagedMaps.{without_root}
use Rattle.paged_tables.specs.PagedTables.{Beside, FitsPages, plain_over}
use Rattle.paged_tables.specs.PagedTouches.{scene_over}
use Rattle.paged_tables.specs.PagedSlots.{filed_over, map_home_over}

-- a fork lives no more, whose map had a number
abbrev pub fork_gone : Beside → ℕ → Beside
fork_gone b k = record b { tables = without_root b.tables k; living = b.living - 1 }

-- each frame that has a page, but that of a fork's map, had it, and has its age
abbrev pub KeepsOthers : {S : Type 0} → StoreMeaning S → S → S → Beside → ForkName → Type 0
KeepsOthers store old new b fork = (frame : ℕ) → IsSome (store.tenant new frame) → ((home : ℕ) → map_home_over b fork ≡ Some home → store.tenant new frame ≡ Some home → ⊥) → KeepsFrame (traffic store old) (traffic store new) frame

-- The first entries of a fork's map were emptied: what no entry names any more was given up, and nothing has left its frame.
pub record EmptiesFork {S : Type 0} (store : StoreMeaning S) (old new : S) (b b' : Beside) (fork : ForkName) (pages : ℕ) : Type 0 where
  pub told : (d : DrumWords) → FitsPages b (store.homes old) d → FitsPages b' (store.homes new) d × AreFewer (plain_over b (store.homes old) d) (plain_over b' (store.homes new) d) fork
      × ((page : ℕ) → page < pages → entry_at (plain_over b' (store.homes new) d).maps (record { fork = fork; page = page }) ≡ Some Empty)
  pub maps : b'.tables.maps ≡ b.tables.maps
  pub files : b'.files ≡ b.files
  pub filed : filed_over b' ≡ filed_over b
  pub serials : b'.serials ≡ b.serials
  pub living : b'.living ≡ b.living
  pub limit : b'.limit ≡ b.limit
  pub core : StaysInCore (scene_over b (store.homes old) (store.spare old)) (scene_over b' (store.homes new) (store.spare new)) 0
  pub lost : Loses (traffic store old) (traffic store new)
  pub uses : KeepsOthers store old new b' fork
