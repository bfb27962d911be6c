-- What is told of an entry that was set.
use Rattle.std.proofs.Common.{◌≡◌, ◌≢◌, ℕ, List, Option, Some, refl, ◌∙◌, ap}
use Rattle.std.specs.Option.{option_map}
use Rattle.machine_names.specs.declared.names.PageName.{PageName}
use Rattle.machine_names.specs.declared.names.Slot.{Slot}
use Rattle.page_contracts.specs.DrumWords.{DrumWords}
use Rattle.page_contracts.specs.Stores.{HomePlace, content}
use Rattle.plain_pages.specs.declared.map.MapEntry.{MapEntry}
use Rattle.plain_pages.specs.Maps.{set_entry}
use Rattle.plain_pages.specs.References.{with_entry as entry_put}
use Rattle.pager_walk.specs.declared.paged_entry.PagedEntry.{PagedEntry}
use Rattle.pager_walk.specs.declared.paged_entry.PagedEntry.TheVariants as paged
use Rattle.pager_walk.specs.PagedMaps.{name_at, plain_entry}
use Rattle.pager_walk.proofs.Looking.{ArePages}
use Rattle.flat_tables.specs.declared.held_entry.EntryAt.{EntryAt}
use Rattle.flat_tables.specs.declared.held_entry.HeldEntry.{HeldEntry}
use Rattle.flat_tables.specs.HeldMaps as flat
use Rattle.flat_tables.specs.Walks.{slot_of}
use Rattle.flat_tables.specs.SlotTables.{Tables as FlatTables, files_held, plain_of}
use Rattle.flat_pages.proofs.Leaving.{told_set}
use Rattle.flat_tables.proofs.LivingMaps.{entry_held}
use Rattle.flat_pages.proofs.Told.{maps_set}
use Rattle.paged_tables.specs.MapsInMemory.{in_memory}
use Rattle.paged_tables.specs.PagedTables.{Beside, AreKept, FitsPages, in_memory_over, plain_over}
use Rattle.paged_tables.proofs.Homed.{sized}

pub plain_is : (names : List (Option PageName)) (p : PagedEntry) → flat.entry_of names (in_memory p) ≡ plain_entry names p
plain_is names paged.Empty = refl
plain_is names (paged.Page h a) = refl
plain_is names (paged.Follows serial page a) = refl

module _ (b b' : Beside) (places places' : List HomePlace) (kept : AreKept b places) (kept' : AreKept b' places') (pages : ArePages places) (pages' : ArePages places') (d : DrumWords) (fits : FitsPages b places d) (fits' : FitsPages b' places' d)
    (at : Slot) (e : EntryAt) (q : HeldEntry) (p : PagedEntry) where
  abbrev u : FlatTables
  u = in_memory_over b places d

  abbrev u' : FlatTables
  u' = in_memory_over b' places' d

  pub slot_told : slot_of u.maps e ≡ Some at → flat.held_entry u.maps e ≡ Some q → u'.maps ≡ flat.with_entry u.maps e (in_memory p) → ((k : ℕ) (n : PageName) → name_at u'.names k ≡ Some n → name_at u.names k ≡ Some n)
      → ((k : ℕ) (n : PageName) → name_at u'.names k ≡ Some n → content u'.places d k ≡ content u.places d k) → u'.serials ≡ u.serials → u'.limit ≡ u.limit
      → ((c : EntryAt) (x : HeldEntry) → c ≢ e → flat.held_entry u.maps c ≡ Some x → flat.entry_of u'.names x ≡ flat.entry_of u.names x) → flat.entry_of u'.names (in_memory p) ≡ flat.entry_of u.names (in_memory p)
      → files_held u'.names u'.files ≡ files_held u.names u.files → plain_over b' places' d ≡ entry_put (plain_over b places d) at (plain_entry b.tables.names p)
  slot_told is there maps names words serials limit others own files =
      told_set u u' fits.agree fits'.agree d (sized b places kept pages d fits) (sized b' places' kept' pages' d fits') names words serials limit at (flat.entry_of u.names q) (flat.entry_of u.names (in_memory p))
      (entry_held u.names u.maps fits.agree.held.once e at is ∙ ap (option_map (flat.entry_of u.names)) there)
      (ap (flat.maps_held u'.names) maps ∙ maps_set u.names u'.names u.maps fits.agree.held e q (in_memory p) at is there others ∙ ap (λ (y : MapEntry). set_entry (flat.maps_held u.names u.maps) at y) own) files
      ∙ ap (entry_put (plain_of u d) at) (plain_is b.tables.names p)
