-- The plain state that a system stands for, and what one step does to it.
use Rattle.std.specs.Prelude.{◌≡◌, ℕ, ◌+◌, ◌*◌, ◌<◌, ◌≤◌, true, replicate}
use Rattle.machine_names.specs.declared.names.Tty.{Tty}
use Rattle.machine_names.specs.declared.names.ForkName.{ForkName}
use Rattle.plain_model.specs.declared.fork.Fork.{Fork}
use Rattle.script_texts.specs.declared.event.Event.{Event}
use Rattle.script_texts.specs.declared.event.Event.TheVariants.{TypeIn}
use Rattle.script_texts.specs.declared.event.Step.{Step}
use Rattle.script_texts.specs.declared.event.Step.TheVariants.{Outer, Unit as AUnit, Idle}
use Rattle.machine_names.specs.Orders.{name_cmp}
use Rattle.plain_model.specs.State.{PlainState}
use Rattle.plain_pages.specs.PlainPages.{NamedPages, NumberedPages, refiled}
use Rattle.plain_files.specs.Directory.{Files}
use Rattle.plain_files.specs.NamedFiles.{AreFiled, pages_named}
use Rattle.file_tables.specs.Tables.{files_of, open_of}
use Rattle.script_texts.specs.Limits.{FitsStep}
use Rattle.page_contracts.specs.DrumWords.{DrumWords}
use Rattle.page_contracts.specs.declared.answers.Need.{Need}
use Rattle.page_contracts.specs.Pages.{MayLose, StaysPlain}
use Rattle.page_contracts.specs.Stores.{IsNeeded, StaysPlanned}
use Rattle.plain_model.specs.Run.{apply, state_after, items_of, AreLegal}
use Rattle.fork_tree.specs.Trees.{Lives}
use Rattle.plain_model.specs.Forks.{IsRunnable, runs_in}
use Rattle.page_contracts.specs.declared.store.TheConstants.{MOST_HELD_FOR_CONSOLE}
use Rattle.step_shown.specs.declared.reply.Reply.{Reply}
use Rattle.monitor_core.specs.declared.system.System.{System}
use Rattle.monitor_core.specs.Transfers.{StaysBeside}
use Rattle.job_forks.specs.Holding.{StaysHomed}
use Rattle.monitor_calls.specs.Jobs.{jobs_of}
use Rattle.step_shown.specs.Replies.{reply_items, FitsReply}
use Rattle.monitor_calls.specs.Makings.{most_makings}

-- the pages of a state, which knows files by their names, where the pages know them by number
abbrev pub named : Files → NumberedPages → NamedPages
named files p = refiled name_cmp p (pages_named files p.files)

-- the plain state over the words of a drum
abbrev pub state_of : {P : Type 0} {b : _} → System P b → DrumWords → PlainState
state_of {P} {b} m d = record {
  pages = named m.files.dir (b.means.plain m.pages d);
  files = files_of m.files;
  jobs = jobs_of (open_of m.files) m.typed.items m.jobs.items;
  forks = m.tree.forks;
  fork_serials = m.tree.serials;
  clock = m.panel.clock;
  trace = m.panel.trace;
}

-- the words of a drum fit the system's pages, and only files that are there have pages
pub record FitsPages {P : Type 0} {b : _} (m : System P b) (d : DrumWords) : Type 0 where
  pub pages : b.means.fits m.pages d
  pub filed : AreFiled m.files.dir (b.means.plain m.pages d).files

-- its counts are no higher than so many entries let them be
pub record IsWithin {P : Type 0} {b : _} (m : System P b) (entries : ℕ) : Type 0 where
  pub ticks : m.panel.clock ≤ entries
  pub units : (f : Fork) → Lives m.tree.forks f → f.body.units ≤ entries
  pub serials : (t : Tty) → b.means.serial m.pages t ≤ most_makings * entries + 1

-- what a step asks: an event that is one entry, within its limits; a fork that can run; or that none can
abbrev pub CanDo : {P : Type 0} {b : _} → System P b → Step → Type 0
CanDo m (Outer e) = FitsStep (Outer e)
CanDo m (AUnit f) = IsRunnable m.tree.forks f
CanDo m Idle = (f : ForkName) → IsRunnable m.tree.forks f → ⊥

-- an event that isn't given character by character
abbrev pub IsAtOnce : Event → Type 0
IsAtOnce (TypeIn t text) = ⊥
IsAtOnce e = Unit {0}

-- a step is done: over each drum that fits, the system stands for the state that the step leaves, and the reply is what it shows; what is queued and held may have
-- become less
pub record Did {P : Type 0} {b : _} (old new : System P b) (step : Step) (reply : Reply) : Type 0 where
  pub each : (d : DrumWords) → FitsPages old d
      → FitsPages new d × (state_of new d ≡ (apply (state_of old d) step).state) × (reply_items (state_of new d) reply ≡ (apply (state_of old d) step).items)
  pub shown : FitsReply reply
  pub within : (entries : ℕ) → IsWithin old entries → IsWithin new (entries + 1)
  pub most : b.means.most new.pages ≡ b.means.most old.pages
  pub loses : MayLose b.means old.pages new.pages

-- So many equal steps are done: over each drum that fits they are legal, the system stands for the state that they leave,
-- the reply is what they show, and up to the last of them the same forks can run.
pub record DidAll {P : Type 0} {b : _} (old new : System P b) (step : Step) (count : ℕ) (reply : Reply) : Type 0 where
  pub fits : (d : DrumWords) → FitsPages old d → FitsPages new d
  pub legal : (d : DrumWords) → FitsPages old d → AreLegal true (state_of old d) (replicate count step)
  pub state : (d : DrumWords) → FitsPages old d → state_of new d ≡ state_after (state_of old d) (replicate count step)
  pub items : (d : DrumWords) → FitsPages old d → reply_items (state_of new d) reply ≡ items_of (state_of old d) (replicate count step)
  pub runs : (d : DrumWords) → FitsPages old d → (k : ℕ) → k < count → (f : ForkName) → runs_in (state_after (state_of old d) (replicate k step)).forks f ≡ runs_in old.tree.forks f
  pub shown : FitsReply reply
  pub within : (entries : ℕ) → IsWithin old entries → IsWithin new (entries + count)
  pub most : b.means.most new.pages ≡ b.means.most old.pages

-- how many frames an event of the console may want: as many as may be held for it
abbrev pub event_frames : ℕ
event_frames = MOST_HELD_FOR_CONSOLE

-- nothing is done, since this is needed first, whatever the drum holds, of so many frames at most: over each drum that fits, the system stands for the state for which it
-- stood; and what was planned is no use of a page
pub record Waits {P : Type 0} {b : _} (frames : ℕ) (old new : System P b) (n : Need) : Type 0 where
  pub each : (d : DrumWords) → FitsPages old d → FitsPages new d × (state_of new d ≡ state_of old d)
  pub within : (entries : ℕ) → IsWithin old entries → IsWithin new entries
  pub most : b.means.most new.pages ≡ b.means.most old.pages
  pub planned : StaysPlanned b.means.store old.pages new.pages
  pub beside : StaysBeside old new
  pub pages : StaysPlain b.means old.pages new.pages
  pub homed : StaysHomed b.means old.pages new.pages
  pub needed : IsNeeded b.means.store frames new.pages n
