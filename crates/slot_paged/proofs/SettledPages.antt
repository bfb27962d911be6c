-- A page of a place is settled, by the pages before and after.
use Rattle.std.proofs.Common.{◌≡◌, ◌<◌, ℕ, List, true, false, None, Some, is_some, sym, ◌∙◌, ap, subst}
use Rattle.std.specs.FinMap as fin
use Rattle.machine_names.specs.declared.names.FileNo.{FileNo}
use Rattle.machine_names.specs.declared.names.Kind.{Kind}
use Rattle.machine_names.specs.declared.names.Place.TheVariants.{File, Fork}
use Rattle.machine_names.specs.declared.names.Slot.{Slot}
use Rattle.machine_names.specs.declared.names.TheConstants.{SPACE_PAGES}
use Rattle.machine_names.specs.declared.names.Tty.{Tty}
use Rattle.machine_names.specs.Bounds.{IsFilePage, IsOwner}
use Rattle.machine_names.specs.Orders.{file_page}
use Rattle.machine_names.specs.PageWords.{zero_words}
use Rattle.page_homes.specs.declared.homes.Home.{Home}
use Rattle.page_contracts.specs.declared.store.Store.{Ghosts}
use Rattle.page_contracts.specs.Pages.{can_settle}
use Rattle.page_contracts.specs.Stores.{HomePlace, IsSound, IsUsed, StoreMeaning, away_at, here, is_here, place}
use Rattle.plain_pages.specs.Maps.{full_access}
use Rattle.fork_maps.specs.ChainWalks.{copy_for}
use Rattle.pager_walk.specs.declared.chain_walk.Walked.TheVariants.{Along}
use Rattle.pager_walk.specs.MapPages.{index_of}
use Rattle.pager_walk.specs.PagedMaps.{look_at}
use Rattle.pager_walk.specs.Walks.{Way, WayStands, walk_at}
use Rattle.paged_tables.specs.LeftShares.{left_of}
use Rattle.paged_tables.specs.MadePages.{FilesPage, MakesPage, RenamesPage}
use Rattle.paged_tables.specs.PageHomes.{homed, homed_along}
use Rattle.paged_tables.specs.PagedTables.{Beside, beside_of, plain_over}
use Rattle.paged_tables.specs.PagedTouches.{alone_at, file_touched, has_one_name, scene_over, walk_touched}
use Rattle.paged_tables.specs.PlacesSettled.{SettlesPlace}
use Rattle.paged_tables.proofs.FileTold.{used_told}
use Rattle.paged_tables.proofs.MapsSet.{file_map, ready_map}
use Rattle.paged_tables.proofs.PlacesDone.{alone_done, copy_done, filed_done, ready_told, used_done, zero_done}
use Rattle.paged_tables.proofs.SettledTouches.{IsFileZero, alone_one, copied_here, filed_here, filed_ready, filed_zero, is_ready, only_write, used_here}
use Rattle.slot_paged.specs.declared.slot_paged.SlotPaged.{SlotPaged}

-- at the end of a chain
module _ {S : Type 0} {members : Ghosts S} (sound : (x : S) → IsSound members.means x) (old : SlotPaged S members) (at : Slot) (way : Way) (kind : Kind) (owner : Tty) (own : IsOwner owner)
    (lives : is_some (index_of (beside_of old.tables).tables.maps at.fork) ≡ true) (page : at.page < SPACE_PAGES) (walks : Along way ≡ walk_at (beside_of old.tables).tables (members.means.homes old.store) at)
    (stands : WayStands (beside_of old.tables).tables (members.means.homes old.store) way) (ready : can_settle (walk_touched (beside_of old.tables) (members.means.homes old.store) (members.means.spare old.store) kind (Along way)) ≡ true) where
  abbrev store : StoreMeaning S
  store = members.means

  abbrev b : Beside
  b = beside_of old.tables

  abbrev places : List HomePlace
  places = store.homes old.store

  -- a zero page is made
  pub zero_settled : (new : SlotPaged S members) → way.home ≡ None → MakesPage store old.store new.store b (beside_of new.tables) way.end (here zero_words) full_access (left_of b (look_at b.tables places way.end)) owner
      → SettlesPlace store old.store new.store b (beside_of new.tables) (Fork at) kind owner
  zero_settled new none made = zero_done store old.store new.store b (beside_of new.tables) old.kept new.kept (sound old.store).pages (sound new.store).pages at kind owner own lives page way walks stands ready none made

  module _ (home : Home) (there : way.home ≡ Some home) where
    -- the page is used that is there
    pub used_is_here : copy_for kind way ≡ None → is_here (place places home.0) ≡ true
    used_is_here none = ap is_here (used_here b places old.kept (store.spare old.store) kind way stands ready home there none).1

    pub used_settled : (new : S) → copy_for kind way ≡ None → IsUsed store home.0 old.store new → store.homes new ≡ places → SettlesPlace store old.store new b b (Fork at) kind owner
    used_settled new none used homes =
        used_done store old.store new b old.kept (sound old.store).pages (Fork at) kind owner own home
        (ap (walk_touched b places (store.spare old.store) kind) (sym walks) ∙ (is_ready b places (store.spare old.store) kind way ready home there none).is)
        (ap homed_along (sym walks) ∙ ap homed there) (used_is_here none) used homes
        (ready_told store old.store old.store b b old.kept old.kept (sound old.store).pages (sound old.store).pages at kind owner own lives page way walks stands ready home there none)
        (λ d fits. ready_map b places old.kept (sound old.store).pages at kind owner own lives page way walks stands (store.spare old.store) ready d fits home there none)

    -- a copy is made
    module _ (to : Slot) (some : copy_for kind way ≡ Some to) where
      abbrev words : (ws : List ℕ) × (place places home.0 ≡ here ws)
      words = copied_here b places old.kept (store.spare old.store) kind way stands ready home there to some

      pub copied_is_here : is_here (place places home.0) ≡ true
      copied_is_here = ap is_here words.1

      pub alone_is_one : alone_at b places to ≡ true → has_one_name b home.0 ≡ true
      alone_is_one = alone_one b places at way to home (sym walks) (only_write kind way to some).1 there

      -- in its place
      pub alone_settled : (new : SlotPaged S members) → alone_at b places to ≡ true → RenamesPage store old.store new.store b (beside_of new.tables) to home (record full_access { x = way.executes }) owner
          → SettlesPlace store old.store new.store b (beside_of new.tables) (Fork at) kind owner
      alone_settled new alone renames =
          alone_done store old.store new.store b (beside_of new.tables) old.kept new.kept (sound old.store).pages (sound new.store).pages at kind owner own lives page way walks stands ready home there to some words.0 words.1 alone (alone_is_one alone) renames

      -- in a home of its own
      pub copy_settled : (new : SlotPaged S members) → alone_at b places to ≡ false → MakesPage store old.store new.store b (beside_of new.tables) to (place places home.0) (record full_access { x = way.executes }) (left_of b (look_at b.tables places to)) owner
          → SettlesPlace store old.store new.store b (beside_of new.tables) (Fork at) kind owner
      copy_settled new shared makes =
          copy_done store old.store new.store b (beside_of new.tables) old.kept new.kept (sound old.store).pages (sound new.store).pages at kind owner own lives page way walks stands ready home there to some words.0 words.1 shared
          (subst (λ (p : HomePlace). MakesPage store old.store new.store b (beside_of new.tables) to p (record full_access { x = way.executes }) (left_of b (look_at b.tables places to)) owner) words.1 makes)

-- of a file
module _ {S : Type 0} {members : Ghosts S} (sound : (x : S) → IsSound members.means x) (old : SlotPaged S members) (file : FileNo) (page : ℕ) (kind : Kind) (owner : Tty) (own : IsOwner owner)
    (ready : can_settle (file_touched (away_at (members.means.homes old.store)) (beside_of old.tables) (scene_over (beside_of old.tables) (members.means.homes old.store) (members.means.spare old.store)) kind (fin.get (beside_of old.tables).files (file_page file.0 page))) ≡ true) where
  abbrev means : StoreMeaning S
  means = members.means

  -- the page is used that the file names
  pub filed_is_here : (home : Home) → fin.get (beside_of old.tables).files (file_page file.0 page) ≡ Some home → is_here (place (means.homes old.store) home.0) ≡ true
  filed_is_here home there = ap is_here (filed_here (beside_of old.tables) (means.homes old.store) old.kept (means.spare old.store) kind (file_page file.0 page) ready home there).1

  pub filed_used : (new : S) (home : Home) → fin.get (beside_of old.tables).files (file_page file.0 page) ≡ Some home → IsUsed means home.0 old.store new → means.homes new ≡ means.homes old.store
      → SettlesPlace means old.store new (beside_of old.tables) (beside_of old.tables) (File file page) kind owner
  filed_used new home there used homes =
      used_done means old.store new (beside_of old.tables) old.kept (sound old.store).pages (File file page) kind owner own home (filed_ready (beside_of old.tables) (means.homes old.store) old.kept (means.spare old.store) kind (file_page file.0 page) ready home there)
      (ap homed there) (filed_is_here home there) used homes
      (λ d fits. used_told (beside_of old.tables) (means.homes old.store) old.kept (sound old.store).pages d fits file page kind (means.spare old.store) ready home there owner own)
      (λ d fits. file_map (plain_over (beside_of old.tables) (means.homes old.store) d) (file_page file.0 page) kind)

  -- a zero page is made where it names none
  module _ (none : fin.get (beside_of old.tables).files (file_page file.0 page) ≡ None) where
    pub filed_is_zero : IsFileZero (beside_of old.tables) (means.homes old.store) (means.spare old.store) kind
    filed_is_zero = filed_zero (beside_of old.tables) (means.homes old.store) old.kept (means.spare old.store) kind (file_page file.0 page) ready none

    pub filed_made : (new : SlotPaged S members) → IsFilePage file page → FilesPage means old.store new.store (beside_of old.tables) (beside_of new.tables) (file_page file.0 page) owner
        → SettlesPlace means old.store new.store (beside_of old.tables) (beside_of new.tables) (File file page) kind owner
    filed_made new bounds files =
        filed_done means old.store new.store (beside_of old.tables) (beside_of new.tables) old.kept new.kept (sound old.store).pages (sound new.store).pages file page bounds kind owner own none
        (ap (file_touched (away_at (means.homes old.store)) (beside_of old.tables) (scene_over (beside_of old.tables) (means.homes old.store) (means.spare old.store)) kind) none ∙ filed_is_zero.is) filed_is_zero.writes filed_is_zero.room files
