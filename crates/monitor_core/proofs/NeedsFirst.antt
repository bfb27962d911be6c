-- An event that needs something first leaves the system as it was; and what a look at a page of a file tells.
use Rattle.std.proofs.Common.{◌≡◌, ℕ, List, Option, None, Some, refl, sym, ◌∙◌, ap, subst, arith}
use Rattle.std.specs.Prelude.{Result, Ok, slice_index}
use Rattle.std.specs.Option.{option_map_or}
use Rattle.std.specs.FinMap as fin
use Rattle.machine_names.specs.declared.names.PageName.{PageName}
use Rattle.machine_names.specs.declared.names.Tty.{Tty}
use Rattle.page_contracts.specs.declared.answers.Need.{Need}
use Rattle.page_contracts.specs.declared.answers.Peeked.{Peeked}
use Rattle.page_contracts.specs.declared.answers.Peeked.TheVariants.{Is, NoPage}
use Rattle.page_contracts.specs.Pages.{Scene, away_or, map_away, page_away, peek_of}
use Rattle.page_contracts.specs.Stores.{IsNeeded, StaysPlanned}
use Rattle.job_forks.proofs.Branch.{homed_still}
use Rattle.job_forks.specs.Holding.{StaysHomed}
use Rattle.page_contracts.proofs.Planning.{planned_still}
use Rattle.plain_files.specs.NamedFiles.{name_of}
use Rattle.plain_model.specs.Trees.{PlainTree}
use Rattle.plain_pages.specs.PlainPages.{NumberedPages}
use Rattle.plain_pages.specs.References.{Spot, page_at, words_of}
use Rattle.console_access.specs.Needing.{IsWordAway}
use Rattle.file_tables.proofs.Names.{named as its_name}
use Rattle.file_tables.specs.Tables.{IsThere}
use Rattle.file_tables.specs.declared.tables.FileTables.{FileTables}
use Rattle.monitor_core.specs.declared.panel.Panel.{Panel}
use Rattle.monitor_core.specs.declared.system.System.{System}
use Rattle.monitor_core.specs.JobEvents.{event_at}
use Rattle.monitor_core.specs.Needing.{EventNeeds, IsTopAway}
use Rattle.monitor_core.specs.Systems.{Waits, event_frames}
use Rattle.monitor_core.specs.declared.job_event.JobEvent.{JobEvent}
use Rattle.monitor_core.specs.declared.job_event.JobEvent.TheVariants.{Examine, Poke}
use Rattle.monitor_core.proofs.Systems.{fits_still, state_left}

module _ {P : Type 0} {b : _} (m m' : System P b) (files : m'.files ≡ m.files) (same : m'.pages ≡ m.pages) (tree : m'.tree ≡ m.tree) (jobs : m'.jobs.items ≡ m.jobs.items) (typed : m'.typed.items ≡ m.typed.items) (panel : m'.panel ≡ m.panel) where
  pub event_waits : (need : Need) → IsNeeded b.means.store event_frames m'.pages need → Waits event_frames m m' need
  event_waits need needed = record {
    each = λ d f. (fits_still m m' files same d f, state_left m m' files same tree jobs typed panel d);
    within = λ entries w. record {
      ticks = omega (arith, ap (λ (x : Panel). x.clock) panel, w.ticks);
      units = λ f lives. w.units f (ap (λ (x : PlainTree). fin.get x.forks f.name) (sym tree) ∙ lives);
      serials = λ u. omega (arith, ap (λ p. b.means.serial p u) same, w.serials u);
    };
    most = ap b.means.most same;
    planned = subst (StaysPlanned b.means.store m.pages) (sym same) (planned_still b.means.store m.pages);
    beside = record { tree = tree; files = files; jobs = jobs; typed = typed; panel = panel };
    pages = λ d fits. (subst (λ q. b.means.fits q d) (sym same) fits, ap (λ q. b.means.plain q d) same);
    homed = subst (StaysHomed b.means m.pages) (sym same) (homed_still b.means m.pages);
    needed = needed;
  }

-- what is needed for a poke of a job's top fork, and for a look at a word of a fork
pub poke_needs : {P : Type 0} {b : _} (m : System P b) (t : Tty) (e : JobEvent) (address word : ℕ) (need : Need) → e ≡ Poke address word → IsTopAway m t address need → EventNeeds m (event_at t e) need
poke_needs m t e address word need is away = subst (λ x. EventNeeds m (event_at t x) need) (sym is) away

pub look_needs : {P : Type 0} {b : _} (m : System P b) (t : Tty) (e : JobEvent) (serial address : ℕ) (need : Need) → e ≡ Examine serial address → IsWordAway b.means m.pages (record { tty = t; serial = serial }) address need → EventNeeds m (event_at t e) need
look_needs m t e serial address need is away = subst (λ x. EventNeeds m (event_at t x) need) (sym is) away

-- what is done at once isn't refused
pub put_at_once : {E : Type 0} (done : Result (Unit {0}) E) → ◌≡◌ {A = Result (Result (Unit {0}) E) Need} (Ok done) (Ok (Ok tt)) → done ≡ Ok tt
put_at_once done h = cc h

-- no two files have one name
pub same_file : (t : FileTables) (f g : ℕ) (name : List ℕ) → IsThere t f → name_of t.dir f ≡ name → IsThere t g → name_of t.dir g ≡ name → f ≡ g
same_file t f g name there is other same = t.sound.numbers.once f g name (its_name t.dir f there ∙ ap Some is) (its_name t.dir g other ∙ ap Some same)

-- the page that a look finds, and the maps on the way to it, are in frames
pub record IsSeen (p : NumberedPages) (scene : Scene) (at : Spot ℕ) : Type 0 where
  pub page : PageName
  pub is : page_at p at ≡ Some page
  pub maps : map_away p scene at ≡ None
  pub here : page_away p scene at ≡ None

module _ (p : NumberedPages) (scene : Scene) (at : Spot ℕ) (offset : ℕ) where
  abbrev seen_as : Option PageName → Peeked
  seen_as n = option_map_or (λ n. Is (slice_index (words_of p n) offset)) n NoPage

  pub word_seen : (word : ℕ) → Is word ≡ peek_of p scene at offset → IsSeen p scene at
  unfolding peek_of
  word_seen word told = by (map_away p scene at) refl (page_away p scene at) refl (page_at p at) refl told
    where
      by : (m : Option ℕ) → map_away p scene at ≡ m → (w : Option ℕ) → page_away p scene at ≡ w → (n : Option PageName) → page_at p at ≡ n → Is word ≡ away_or m (away_or w (seen_as n)) → IsSeen p scene at
      by (Some home) maps w here n is e = absurd (cc e)
      by None maps (Some home) here n is e = absurd (cc e)
      by None maps None here None is e = absurd (cc e)
      by None maps None here (Some n) is e = record { page = n; is = is; maps = maps; here = here }

  pub none_seen : NoPage ≡ peek_of p scene at offset → page_at p at ≡ None
  unfolding peek_of
  none_seen told = by (map_away p scene at) (page_away p scene at) (page_at p at) refl told
    where
      by : (m w : Option ℕ) (n : Option PageName) → page_at p at ≡ n → NoPage ≡ away_or m (away_or w (seen_as n)) → page_at p at ≡ None
      by (Some home) w n is e = absurd (cc e)
      by None (Some home) n is e = absurd (cc e)
      by None None None is e = is
      by None None (Some n) is e = absurd (cc e)
