-- What holds of each system over pages: its store is housed, a task refers to few pages and maps, and no more homes are taken than pages and forks live.
use Rattle.std.proofs.Common.{◌≡◌, ℕ, ◌+◌, ◌<◌, ◌≤◌, Bool, true, false, sym, ◌∙◌, arith}
use Rattle.std.proofs.Math.Logic.{∥∥₁_elim}
use Rattle.std.proofs.Props.{props}
use Rattle.std.specs.Prelude.{count_by, if◌then◌else◌, length}
use Rattle.std.specs.FinMap as fin
use Rattle.std.specs.Cmp.{nat_cmp_total}
use Rattle.std.specs.Cmp.Lexicographic.{nat_list_cmp_total}
use Rattle.machine_names.proofs.OrderLemmas.{name_cmp_apart}
use Rattle.machine_names.specs.Orders.{name_cmp}
use Rattle.machine_names.specs.declared.names.ForkName.{ForkName}
use Rattle.event_deeds.specs.Deeds.{Task, deed_of, unit_of}
use Rattle.event_deeds.specs.declared.deed.Deed.{Deed}
use Rattle.file_tables.specs.Keys.{key_of}
use Rattle.file_tables.specs.Tables.{open_of}
use Rattle.fork_tree.specs.Trees.{IsTree}
use Rattle.monitor_calls.specs.Jobs.{jobs_of}
use Rattle.monitor_calls.proofs.NamedKeys.{There, keyed_named, number_in}
use Rattle.monitor_core.specs.Systems.{FitsPages, state_of}
use Rattle.page_contracts.specs.DrumWords.{DrumWords}
use Rattle.page_contracts.specs.Pages.{Agrees, AreHoused}
use Rattle.page_contracts.specs.Stores.{is_taken}
use Rattle.page_contracts.specs.declared.store.TheConstants.{MOST_HELD, MOST_HELD_FOR_CONSOLE}
use Rattle.plain_files.specs.NamedFiles.{pages_named}
use Rattle.plain_files.specs.Sizes.{file_at}
use Rattle.plain_model.proofs.Keyed.{totals_keyed}
use Rattle.plain_pages.proofs.Refiled.{NameAlike, live_refiled}
use Rattle.plain_pages.proofs.Whole.{live_whole, tally}
use Rattle.plain_pages.specs.PlainPages.{NumberedPages}
use Rattle.plain_pages.specs.Room.{live}
use Rattle.plain_pages.specs.WholePages.{AreWhole}
use Rattle.page_waits.specs.Systems.{IsHoused, most_wanted}
use Rattle.step_wants.proofs.FewDeeds.{deed_few, told_few}
use Rattle.step_wants.proofs.Homing.{living_maps}
use Rattle.step_wants.proofs.Units.{names_few, unit_few}
use Rattle.step_wants.specs.Wants.{names_of_deed, names_told}
use Rattle.paged_system.specs.declared.paged.Paged.{Paged}
use Rattle.paged_system.specs.OverSound.{sound}
use Rattle.paged_system.specs.Paging.{parts_of, store_of, told_of, wants_of}

module _ {P : Type 0} {b : _} (s : Paged P b) where
  pub few_told : (d : Deed) → length (told_of s.system d) < MOST_HELD_FOR_CONSOLE
  few_told d =
      let m = s.system in
      let key = key_of m.files in
      let jobs = jobs_of (open_of m.files) m.typed.items m.jobs.items in
      let filed = b.means.filed m.pages in
      let once = names_few (b.means.map_home m.pages) (b.means.page_home m.pages) (names_told key filed m.tree.forks jobs d) in
      omega (arith, once, told_few key filed m.tree.forks jobs d)

  module _ (housed : AreHoused b.means s.system.pages) where
    pub is_housed : IsHoused store_of s
    is_housed = record { sound = sound (λ x. x.system.pages) b.means.store s housed.sound; many = s.many }

    module _ (d : DrumWords) where
      unit_wants : (f : ForkName) → IsTree s.system.tree → length (wants_of s.system d (unit_of f)) < MOST_HELD
      unit_wants f trees =
          unit_few (b.means.map_home s.system.pages) (b.means.page_home s.system.pages) (key_of s.system.files) (parts_of s.system d) f trees
          (λ g home at. sym (s.system.sound.holds.living g) ∙ living_maps b.means s.system.pages housed g home at)

      -- a task refers to few pages and maps
      pub few_wanted : (x : Task) → length (wants_of s.system d x) < most_wanted x
      few_wanted (unit_of f) = ∥∥₁_elim s.trees (hlevel props) (unit_wants f)
      few_wanted (deed_of x) =
          let key = key_of s.system.files in
          let once = names_few (b.means.map_home s.system.pages) (b.means.page_home s.system.pages) (names_of_deed key (parts_of s.system d) x) in
          omega (arith, once, deed_few key (parts_of s.system d) x)

  module _ (d : DrumWords) (fits : FitsPages s.system d) (agrees : Agrees b.means s.system.pages (b.means.plain s.system.pages d)) (whole : AreWhole (b.means.plain s.system.pages d)) where
    abbrev plain : NumberedPages
    plain = b.means.plain s.system.pages d

    -- each page is named as often by the files' names as by their numbers
    named_alike : NameAlike name_cmp plain (pages_named s.system.files.dir plain.files)
    named_alike n =
        let dir = s.system.files.dir in
        let numbers = s.system.files.sound.numbers in
        let kept = file_at s.system.files.lengths in
        totals_keyed nat_cmp_total fin.nat_cmp-IsAntisymmetric nat_list_cmp_total name_cmp_apart (There dir numbers kept) (number_in dir) (λ name. name) plain.files (pages_named dir plain.files) (keyed_named dir numbers kept plain.files fits.filed) (tally n)

    same_live : live (state_of s.system d).pages ≡ live plain
    same_live = live_refiled name_cmp plain (pages_named s.system.files.dir plain.files) named_alike

    abbrev taken : ℕ
    taken = count_by is_taken (b.means.store.homes s.system.pages)

    no_more : (paged : Bool) → taken ≡ (if paged then live plain else fin.len plain.objects) → taken ≤ live (state_of s.system d).pages
    no_more true is = omega (arith, is, same_live)
    no_more false is = omega (arith, is, same_live, live_whole plain whole)

    -- no more homes are taken than pages and forks live
    pub few_taken : taken ≤ live (state_of s.system d).pages
    few_taken = no_more b.means.paged agrees.taken
