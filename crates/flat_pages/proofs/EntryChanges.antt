-- What setting an entry leaves, in one record for each way.
use Rattle.std.proofs.Common.{◌≡◌, ℕ, Some, true, refl, sym, ap, subst}
use Rattle.std.specs.FinMap as fin
use Rattle.machine_names.specs.Orders.{file_page}
use Rattle.machine_names.specs.declared.names.Access.{Access}
use Rattle.machine_names.specs.declared.names.FileNo.{FileNo}
use Rattle.machine_names.specs.declared.names.Slot.{Slot}
use Rattle.page_homes.specs.declared.homes.Home.{Home}
use Rattle.plain_pages.specs.declared.map.NewEntry.{NewEntry}
use Rattle.plain_pages.specs.declared.map.NewEntry.TheVariants as new_entry
use Rattle.page_contracts.specs.Changes.{EntrySet}
use Rattle.page_contracts.specs.Pages.{PagesMeaning, is_entry}
use Rattle.page_contracts.specs.Stores.{StoreMeaning}
use Rattle.flat_tables.specs.declared.held_entry.EntryAt.{EntryAt}
use Rattle.flat_tables.specs.declared.held_entry.HeldEntry.{HeldEntry}
use Rattle.flat_tables.specs.declared.held_entry.HeldEntry.TheVariants.{Empty, Page, Follows}
use Rattle.flat_tables.specs.declared.held_entry.Link.{Link}
use Rattle.flat_tables.specs.declared.map_tables.MapTables.{MapTables}
use Rattle.flat_tables.specs.HeldMaps.{held_entry, index_of}
use Rattle.flat_tables.specs.Serials.{serial_of}
use Rattle.flat_pages.specs.SlotMeaning.{slots_meaning}
use Rattle.flat_tables.specs.SlotSteps.{SetsEntry, narrow_held}
use Rattle.flat_tables.specs.SlotTables.{AreTables}
use Rattle.flat_tables.specs.TableSteps.{tables_of}
use Rattle.flat_pages.proofs.MapHomes.{sets_entry}
use Rattle.flat_pages.proofs.SlotSetting.{Changes, seen_there, set_lives, set_living, told_empty, told_follows, told_narrow, told_page}

module _ {P S : Type 0} (store : StoreMeaning S) (part : P → S) (mt : P → MapTables) (p q : P) (a : AreTables (tables_of (store.homes (part p)) (mt p))) (a' : AreTables (tables_of (store.homes (part q)) (mt q))) (slot : Slot) (k : ℕ)
    (index : index_of (mt p).maps.held.items slot.fork ≡ Some k) (new : NewEntry) where
  abbrev means : PagesMeaning P
  means = slots_meaning store part (λ x. tables_of (store.homes (part x)) (mt x))

  abbrev at : EntryAt
  at = record { map = k; page = slot.page }

  abbrev Sets : HeldEntry → Type 0
  Sets e = SetsEntry store (part p) (part q) (mt p) (mt q) at e

  entry_set : (e : HeldEntry) → Sets e → (what : NewEntry) → new ≡ what → Changes store (part p) (part q) (mt p) (mt q) slot k index a.held what → EntrySet means slot new p q
  entry_set e sets what is told = record {
    told = subst (λ (x : NewEntry). Changes store (part p) (part q) (mt p) (mt q) slot k index a.held x) (sym is) told;
    scene = sets.core;
    filed = ap fin.get sets.filed;
    loses = sets.lost;
    uses = sets.used;
    sets = sets_entry store part (λ x. tables_of (store.homes (part x)) (mt x)) p q slot.fork a a' slot k index refl refl sets.homes;
    lives = set_lives (mt p).maps.held.items (mt q).maps.held.items at e sets.maps;
    forks = set_living (mt p).maps.held.items (mt q).maps.held.items at e sets.maps;
    serials = ap serial_of sets.serials;
    most = sets.limit;
  }

  pub narrowed_set : (b : Access) (e : HeldEntry) → held_entry (mt p).maps.held.items at ≡ Some e → new ≡ new_entry.Narrow b → Sets (narrow_held b e) → EntrySet means slot new p q
  narrowed_set b e there is sets = entry_set (narrow_held b e) sets (new_entry.Narrow b) is (told_narrow store (part p) (part q) (mt p) (mt q) slot k index a.held b e sets there)

  -- an entry that a look found
  module _ (found : is_entry (means.seen p slot) ≡ true) where
    abbrev seen : (e : HeldEntry) × (held_entry (mt p).maps.held.items at ≡ Some e)
    seen = seen_there (tables_of (store.homes (part p)) (mt p)) slot k index found

    pub empty_set : new ≡ new_entry.Empty → Sets Empty → EntrySet means slot new p q
    empty_set is sets = entry_set Empty sets new_entry.Empty is (told_empty store (part p) (part q) (mt p) (mt q) slot k index a.held sets seen.0 seen.1)

    pub following_set : (l : Link) (b : Access) → new ≡ new_entry.Follows l.serial l.page b → Sets (Follows l b) → EntrySet means slot new p q
    following_set l b is sets = entry_set (Follows l b) sets (new_entry.Follows l.serial l.page b) is (told_follows store (part p) (part q) (mt p) (mt q) slot k index a.held l b sets seen.0 seen.1)

    pub filed_set : (f : FileNo) (page : ℕ) (b : Access) (h : Home) → fin.get (mt p).files (file_page f.0 page) ≡ Some h → new ≡ new_entry.FilePage f page b → Sets (Page h b) → EntrySet means slot new p q
    filed_set f page b h named is sets = entry_set (Page h b) sets (new_entry.FilePage f page b) is (told_page store (part p) (part q) (mt p) (mt q) slot k index a.held f page b h named sets seen.0 seen.1)
