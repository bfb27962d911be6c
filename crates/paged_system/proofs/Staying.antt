-- Where nothing but the places of pages has changed, the plain state of a system is as it was, and so is to which homes each task refers.
use Rattle.std.proofs.Common.{◌≡◌, ℕ, ◌≤◌, ◌+◌, ◌*◌, List, refl, sym, ◌∙◌, ap, subst, arith}
use Rattle.std.specs.Option.{option_and_then}
use Rattle.std.specs.FinMap as fin
use Rattle.machine_names.specs.Orders.{file_page}
use Rattle.machine_names.specs.declared.names.Tty.{Tty}
use Rattle.plain_model.specs.Trees.{PlainTree}
use Rattle.plain_files.specs.NamedFiles.{AreFiled, name_of}
use Rattle.plain_pages.specs.PlainPages.{NumberedPages}
use Rattle.plain_pages.specs.References.{in_file, page_at}
use Rattle.page_contracts.specs.DrumWords.{DrumWords}
use Rattle.page_contracts.specs.Pages.{AreHoused, StaysPlain}
use Rattle.page_contracts.specs.Stores.{away_of}
use Rattle.file_tables.specs.Keys.{key_of}
use Rattle.file_tables.specs.Tables.{IsThere, files_of, open_of}
use Rattle.file_tables.specs.declared.tables.FileTables.{FileTables}
use Rattle.job_forks.specs.Holding.{StaysHomed}
use Rattle.event_deeds.specs.declared.answer.Showing.{Showing}
use Rattle.event_deeds.specs.declared.answer.Showing.TheVariants.{Echo, Reply, Told}
use Rattle.step_shown.specs.declared.reply.Reply.{Reply as AReply}
use Rattle.step_shown.specs.declared.reply.Reply.TheVariants as reply
use Rattle.step_wants.specs.Homes.{told, wants}
use Rattle.monitor_calls.specs.ForkUnit.{parts_in, rest_of, tables_in}
use Rattle.monitor_calls.specs.Jobs.{jobs_of}
use Rattle.monitor_calls.specs.Makings.{most_makings}
use Rattle.monitor_core.specs.declared.panel.Panel.{Panel}
use Rattle.monitor_core.specs.declared.system.System.{System}
use Rattle.monitor_core.specs.Needing.{ShownAt}
use Rattle.monitor_core.specs.Systems.{FitsPages, IsWithin, named, state_of}
use Rattle.monitor_core.specs.Transfers.{StaysBeside}
use Rattle.page_waits.specs.Systems.{SameOver, StaysState, StaysTold}
use Rattle.paged_system.specs.declared.paged.Paged.{Paged}
use Rattle.paged_system.specs.Paging.{gives_in, paged, told_of, wants_of}

module _ {P : Type 0} {b : _} (old new : System P b) (beside : StaysBeside old new) (homed : StaysHomed b.means old.pages new.pages) where
  pub told_same : told_of new ≡ told_of old
  told_same = λ i d. told (λ f. homed.maps f i) (λ n. homed.pages n i) (key_of (beside.files i)) (homed.filed i) (beside.tree i).forks (jobs_of (open_of (beside.files i)) (beside.typed i) (beside.jobs i)) d

  -- over the words of drums, over which the plain pages are the same
  module _ (d e : DrumWords) (plain : b.means.plain new.pages e ≡ b.means.plain old.pages d) where
    wants_same : wants_of new e ≡ wants_of old d
    wants_same = λ i x.
        wants (λ f. homed.maps f i) (λ n. homed.pages n i) (key_of (beside.files i)) (parts_in (rest_of (tables_in (beside.tree i) (beside.files i) (beside.jobs i) (beside.typed i) (beside.panel i).clock)) (plain i)) x

    state_same : state_of new e ≡ state_of old d
    state_same = λ i. record (state_of new e) {
      pages = named (beside.files i).dir (plain i);
      files = files_of (beside.files i);
      jobs = jobs_of (open_of (beside.files i)) (beside.typed i) (beside.jobs i);
      forks = (beside.tree i).forks;
      fork_serials = (beside.tree i).serials;
      clock = (beside.panel i).clock;
      trace = (beside.panel i).trace;
    }

    fits_same : b.means.fits new.pages e → FitsPages old d → FitsPages new e
    fits_same pages f = record { pages = pages; filed = subst (λ (x : FileTables × NumberedPages). AreFiled x.0.dir x.1.files) (λ i. (sym beside.files i, sym plain i)) f.filed }

  -- the counts are no higher
  pub within_same : (n : ℕ) → ((t : Tty) → b.means.serial new.pages t ≤ most_makings * n + 1) → IsWithin old n → IsWithin new n
  within_same n serials w = record {
    ticks = omega (arith, ap (λ (x : Panel). x.clock) beside.panel, w.ticks);
    units = λ f lives. w.units f (ap (λ (x : PlainTree). fin.get x.forks f.name) (sym beside.tree) ∙ lives);
    serials = serials;
  }

  -- where each page is, where it was
  module _ (housed : AreHoused b.means old.pages) (housed' : AreHoused b.means new.pages) (homes : b.means.store.homes new.pages ≡ b.means.store.homes old.pages) (plain : StaysPlain b.means old.pages new.pages) where
    away_same : (b.means.scene new.pages).page_away ≡ (b.means.scene old.pages).page_away
    away_same = λ i n. (housed'.page_homes n ∙ (λ j. away_of (homes j) (homed.pages n j)) ∙ sym (housed.page_homes n)) i

    page_shown : (d : DrumWords) (name : List ℕ) (page : ℕ) → FitsPages old d → ShownAt old d (reply.Page name page) → ShownAt new d (reply.Page name page)
    page_shown d name page fits shown f there is =
        let was = shown f (subst (λ (t : FileTables). IsThere t f) beside.files there) (subst (λ (t : FileTables). name_of t.dir f ≡ name) beside.files is) in
        (refl, (λ i. option_and_then (away_same i) (page_at ((plain d fits.pages).1 i) (in_file (file_page f page)))) ∙ was.1)

    shown_same : (d : DrumWords) (r : AReply) → FitsPages old d → ShownAt old d r → ShownAt new d r
    shown_same d (reply.Page name page) fits shown = page_shown d name page fits shown
    shown_same d reply.Nothing fits shown = tt
    shown_same d (reply.One item) fits shown = tt
    shown_same d (reply.Ran fork line seen) fits shown = tt
    shown_same d (reply.Forks t) fits shown = tt

    gives_same : (d : DrumWords) (what : Showing) → FitsPages old d → gives_in old d what → gives_in new d what
    gives_same d (Reply r) fits gives = shown_same d r fits gives
    gives_same d (Echo t shown) fits gives = tt
    gives_same d (Told t shown) fits gives = tt

-- so of a system over pages
module _ {P : Type 0} {b : _} (old new : Paged P b) (beside : StaysBeside old.system new.system) (homed : StaysHomed b.means old.system.pages new.system.pages) where
  pub same_over : (d e : DrumWords) → b.means.plain new.system.pages e ≡ b.means.plain old.system.pages d → b.means.fits new.system.pages e → FitsPages old.system d → SameOver paged old new d e
  same_over d e plain pages f = record {
    fits = fits_same old.system new.system beside homed d e plain pages f;
    plain = state_same old.system new.system beside homed d e plain;
    wants = wants_same old.system new.system beside homed d e plain;
  }

  module _ (housed : AreHoused b.means old.system.pages) (housed' : AreHoused b.means new.system.pages) (most : b.means.most new.system.pages ≡ b.means.most old.system.pages)
      (within : (n : ℕ) → IsWithin old.system n → IsWithin new.system n) where
    pub told_stays : StaysTold paged old new
    told_stays = record { tree = beside.tree; limit = most; homes = housed'.homes ∙ most ∙ sym housed.homes; wants = told_same old.system new.system beside homed; within = within }

    pub state_stays : b.means.store.homes new.system.pages ≡ b.means.store.homes old.system.pages → StaysPlain b.means old.system.pages new.system.pages → StaysState paged old new
    state_stays homes plain = record {
      told = told_stays;
      each = λ d fits. same_over d d (plain d fits.pages).1 (plain d fits.pages).0 fits;
      gives = gives_same old.system new.system beside homed housed housed' homes plain;
    }
