-- An entry that a look finds, of which less is permitted.
use Rattle.std.proofs.Common.{◌≡◌, ℕ, ◌<◌, List, Some, refl, subst}
use Rattle.machine_names.specs.declared.names.Access.{Access}
use Rattle.machine_names.specs.declared.names.Slot.{Slot}
use Rattle.machine_names.specs.declared.names.TheConstants.{SPACE_PAGES}
use Rattle.page_contracts.specs.Stores.{HomePlace}
use Rattle.plain_pages.specs.Maps.{narrowed}
use Rattle.share_table.specs.Pointers.{IsPointer}
use Rattle.pager_walk.specs.declared.paged_entry.Looked.TheVariants.{Is}
use Rattle.pager_walk.specs.declared.paged_entry.PagedEntry.{PagedEntry}
use Rattle.pager_walk.specs.declared.paged_entry.PagedEntry.TheVariants as paged
use Rattle.pager_walk.specs.PagedMaps.{LookStands, entry_for, look_at}
use Rattle.pager_walk.proofs.Looking.{stands_at}
use Rattle.flat_tables.specs.declared.held_entry.HeldEntry.TheVariants.{Follows}
use Rattle.flat_tables.specs.declared.held_entry.Link.{Link}
use Rattle.flat_tables.specs.HeldMaps as flat
use Rattle.paged_tables.specs.MapsInMemory.{in_memory}
use Rattle.paged_tables.specs.PagedTables.{Beside, AreKept}
use Rattle.paged_tables.specs.SetEntries.{narrow_paged, pointer_of}
use Rattle.paged_tables.proofs.EntryLooks.{follows_fits}
use Rattle.paged_tables.proofs.RenamedPages.{pointer_fits, pointer_names}

module _ (b : Beside) (places : List HomePlace) (kept : AreKept b places) (at : Slot) (a : Access) where
  found : (q : PagedEntry) → look_at b.tables places at ≡ Is q → LookStands b.tables places (Is q)
  found q looks = subst (LookStands b.tables places) looks (stands_at b.tables places kept.rooted at)

  pub narrow_fits : (q : PagedEntry) → look_at b.tables places at ≡ Is q → IsPointer (pointer_of b (narrow_paged a q))
  narrow_fits paged.Empty looks = tt
  narrow_fits (paged.Page h c) looks = pointer_fits b places kept h (narrowed c a) (found (paged.Page h c) looks)
  narrow_fits (paged.Follows serial page c) looks = follows_fits b.tables serial page c places at looks

  pub narrow_stands : (q : PagedEntry) → look_at b.tables places at ≡ Is q → entry_for b.tables (pointer_of b (narrow_paged a q)) ≡ Some (narrow_paged a q)
  narrow_stands paged.Empty looks = refl
  narrow_stands (paged.Page h c) looks = pointer_names b places kept h (narrowed c a) (found (paged.Page h c) looks) b.tables.names (found (paged.Page h c) looks)
  narrow_stands (paged.Follows serial page c) looks = refl

  pub narrow_points : (q : PagedEntry) (k : ℕ) → flat.points_at k (in_memory (narrow_paged a q)) ≡ flat.points_at k (in_memory q)
  narrow_points paged.Empty k = refl
  narrow_points (paged.Page h c) k = refl
  narrow_points (paged.Follows serial page c) k = refl

  pub narrow_follows : (q : PagedEntry) → look_at b.tables places at ≡ Is q → (l : Link) (c : Access) → in_memory (narrow_paged a q) ≡ Follows l c → l.page < SPACE_PAGES
  narrow_follows paged.Empty looks l c is = absurd (cc is)
  narrow_follows (paged.Page h d) looks l c is = absurd (cc is)
  narrow_follows (paged.Follows serial page d) looks l c is =
      let same : ◌≡◌ {A = Link} (record { serial = serial; page = page; map = 0 }) l = cc is in subst (λ (k : Link). k.page < SPACE_PAGES) same (found (paged.Follows serial page d) looks)
