-- What the clauses of page waits say of a system over pages.
use Rattle.std.specs.Prelude.{ℕ, List}
use Rattle.std.specs.Ordering.{nat_cmp}
use Rattle.page_contracts.specs.DrumWords.{DrumWords}
use Rattle.page_contracts.specs.Stores.{StoreMeaning}
use Rattle.plain_model.specs.Families.{Parts}
use Rattle.event_deeds.specs.Deeds.{Task}
use Rattle.event_deeds.specs.Showings.{showing_items}
use Rattle.event_deeds.specs.declared.answer.Showing.{Showing}
use Rattle.event_deeds.specs.declared.answer.Showing.TheVariants.{Reply}
use Rattle.event_deeds.specs.declared.deed.Deed.{Deed}
use Rattle.file_tables.specs.Keys.{key_of}
use Rattle.file_tables.specs.Tables.{open_of}
use Rattle.step_wants.specs.Homes.{told, wants}
use Rattle.monitor_calls.specs.ForkUnit.{parts_in, rest_of}
use Rattle.monitor_calls.specs.Jobs.{jobs_of}
use Rattle.monitor_core.specs.declared.system.System.{System}
use Rattle.monitor_core.specs.Needing.{ShownAt, tables_of}
use Rattle.monitor_core.specs.Systems.{FitsPages, IsWithin, state_of}
use Rattle.page_waits.specs.Systems.{SystemMeaning}
use Rattle.paged_system.specs.Over.{over}
use Rattle.paged_system.specs.declared.paged.Paged.{Paged}

module _ {P : Type 0} {b : _} where
  -- all parts of a system, with pages of files by number, over the words of a drum
  abbrev pub parts_of : System P b → DrumWords → Parts nat_cmp
  parts_of m d = parts_in (rest_of (tables_of m)) (b.means.plain m.pages d)

  -- the homes that a task wants
  abbrev pub wants_of : System P b → DrumWords → Task → List ℕ
  wants_of m d x = wants (b.means.map_home m.pages) (b.means.page_home m.pages) (key_of m.files) (parts_of m d) x

  -- those that the tables alone tell of a deed
  abbrev pub told_of : System P b → Deed → List ℕ
  told_of m d =
      told (b.means.map_home m.pages) (b.means.page_home m.pages) (key_of m.files) (b.means.filed m.pages) m.tree.forks (jobs_of (open_of m.files) m.typed.items m.jobs.items) d

  -- over the words of a drum what is shown can be given: a page that is shown is in a frame
  abbrev pub gives_in : System P b → DrumWords → Showing → Type 0
  gives_in m d (Reply reply) = ShownAt m d reply
  gives_in m d shown = Unit {0}

  -- its store
  abbrev pub store_of : StoreMeaning (Paged P b)
  store_of = over (λ s. s.system.pages) b.means.store

  -- OF A SYSTEM OVER PAGES
  abbrev pub paged : SystemMeaning (Paged P b)
  paged = record {
    store = store_of;
    fits = λ s d. FitsPages s.system d;
    plain = λ s d. state_of s.system d;
    tree = λ s. s.system.tree;
    wants = λ s d x. wants_of s.system d x;
    told = λ s d. told_of s.system d;
    limit = λ s. b.means.most s.system.pages;
    within = λ s n. IsWithin s.system n;
    items = showing_items;
    gives = λ s d what. gives_in s.system d what;
  }
