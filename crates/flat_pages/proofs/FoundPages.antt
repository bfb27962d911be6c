-- A page that was found: the store has it, its words are those of its address, and a use of it changes nothing of the pages.
use Rattle.std.proofs.Common.{◌≡◌, ℕ, ◌/◌, ◌%◌, Some, sym}
use Rattle.outside.specs.declared.TheConstants.{PAGE_WORDS}
use Rattle.machine_names.specs.declared.names.ForkName.{ForkName}
use Rattle.plain_pages.specs.References.{in_map, slot_at, word_at}
use Rattle.page_contracts.specs.declared.answers.Found.{Found}
use Rattle.page_contracts.specs.declared.answers.SpaceHandle.{SpaceHandle}
use Rattle.page_contracts.specs.DrumWords.{DrumWords}
use Rattle.page_contracts.specs.Pages.{HasSpace, OnlyUses, PagesMeaning}
use Rattle.page_contracts.specs.Stores.{HasPage, IsSound, IsUsed, StoreMeaning, place, word_in}
use Rattle.page_contracts.proofs.Losing.{loses_used}
use Rattle.flat_tables.specs.declared.map_tables.MapTables.{MapTables}
use Rattle.flat_pages.specs.SlotMeaning.{slots_meaning}
use Rattle.flat_tables.specs.SlotTables.{AreTables, Tables}
use Rattle.flat_tables.specs.TableSteps.{tables_of}
use Rattle.flat_pages.proofs.HandedOn.{only_uses}
use Rattle.flat_pages.proofs.Meeting.{Placed, load_word, placed, space_fork}
use Rattle.flat_pages.proofs.Settling.{sized_of}

module _ {P S : Type 0} (store : StoreMeaning S) (part : P → S) (mt : P → MapTables) (p : P) (a : AreTables (tables_of (store.homes (part p)) (mt p))) (sound : IsSound store (part p)) (space : SpaceHandle) (address : ℕ) (found : Found) where
  abbrev tables : P → Tables
  tables x = tables_of (store.homes (part x)) (mt x)

  abbrev means : PagesMeaning P
  means = slots_meaning store part tables

  abbrev page : ℕ
  page = address / PAGE_WORDS

  abbrev t : Tables
  t = tables p

  module _ (there : means.place p space page ≡ Some found) where
    pub word_told : (d : DrumWords) (f : ForkName) → means.fits p d → means.space p f ≡ Some space → (x : ℕ) → ((home : ℕ) → store.found (part p) home ≡ Some found → word_in (place (store.homes (part p)) home) (address % PAGE_WORDS) ≡ Some x)
        → x ≡ word_at (means.plain p d) (in_map (slot_at f address)) (address % PAGE_WORDS)
    word_told d f fits is x reads = sym (load_word t a (store.found (part p)) sound.finds space.0 page f (space_fork t.maps f space is) d (sized_of t.places d fits sound.pages) found (address % PAGE_WORDS) x there reads)

    pub stands : (f : ForkName) → means.space p f ≡ Some space → Placed t (store.found (part p)) found (slot_at f address)
    stands f is = placed t a (store.found (part p)) sound.finds space.0 page f (space_fork t.maps f space is) found there

    module _ (has : HasSpace means p space) where
      pub has_page : HasPage store (part p) found
      has_page = (let s = stands has.fork has.is in record { home = s.home.0; is = s.spots })

      pub only_used : (q : P) → tables q ≡ t → ((home : ℕ) → store.found (part p) home ≡ Some found → IsUsed store home (part p) (part q)) → OnlyUses means p q
      only_used q same used =
          let s = stands has.fork has.is in
          let u = used s.home.0 s.spots in
          only_uses store part tables p q same u.framed.spare u.framed.found (loses_used store (part p) (part q) s.home.0 u)
