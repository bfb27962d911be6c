-- What an event of the console needs first, and what of its reply has to be in a frame.
use Rattle.std.specs.Prelude.{◌≡◌, ℕ, List, None, Some}
use Rattle.std.specs.FinMap as map
use Rattle.machine_names.specs.declared.names.FileNo.{FileNo}
use Rattle.machine_names.specs.declared.names.ForkName.{ForkName}
use Rattle.machine_names.specs.declared.names.Place.{Place}
use Rattle.machine_names.specs.declared.names.Place.TheVariants.{File as InFile}
use Rattle.machine_names.specs.declared.names.Tty.{Tty}
use Rattle.script_texts.specs.declared.event.Event.{Event}
use Rattle.script_texts.specs.declared.event.Event.TheVariants.{Examine, Login, Page, Poke, Words}
use Rattle.page_contracts.specs.DrumWords.{DrumWords}
use Rattle.page_contracts.specs.Pages.{PagesMeaning, map_away, page_away, spot_of}
use Rattle.page_contracts.specs.declared.answers.Need.{Need}
use Rattle.page_contracts.specs.declared.answers.Need.TheVariants.{Frame}
use Rattle.plain_files.specs.NamedFiles.{name_of}
use Rattle.file_tables.specs.Tables.{IsThere}
use Rattle.console_access.specs.Needing.{IsAwayAt, IsWordAway}
use Rattle.plain_model.specs.declared.fork.Fork.{Fork}
use Rattle.monitor_calls.specs.ForkUnit.{Tables, UnitReason, tables_in}
use Rattle.monitor_calls.specs.Jobs.{job_at}
use Rattle.monitor_calls.specs.declared.job.Job.{Job}
use Rattle.step_shown.specs.declared.reply.Reply.{Reply}
use Rattle.step_shown.specs.declared.reply.Reply.TheVariants.{Page as ShowsPage}
use Rattle.monitor_core.specs.declared.system.System.{System}
use Rattle.monitor_core.specs.Systems.{FitsPages}

-- a page that is needed is the one that a file of this name has there
pub record IsFileAway {P : Type 0} {b : _} (m : System P b) (name : List ℕ) (page : ℕ) (need : Need) : Type 0 where
  pub file : FileNo
  pub there : IsThere m.files file.0
  pub named : name_of m.files.dir file.0 ≡ name
  pub away : IsAwayAt b.means m.pages (InFile file page) need

-- or it is on the way to an address of the top fork of a terminal's job
pub record IsTopAway {P : Type 0} {b : _} (m : System P b) (t : Tty) (address : ℕ) (need : Need) : Type 0 where
  pub job : Job
  pub at : job_at m.jobs.items t.0 ≡ Some job
  pub away : IsWordAway b.means m.pages job.top address need

-- WHAT AN EVENT NEEDS FIRST: LOGIN a frame; POKE and EXAMINE what is on the way to an address of a fork, or frames; WORDS and PAGE the page of a file, or frames; and no other event anything
abbrev pub EventNeeds : {P : Type 0} {b : _} → System P b → Event → Need → Type 0
EventNeeds m (Login t user) need = need ≡ Frame
EventNeeds {P} {b} m (Examine t serial address) need = IsWordAway b.means m.pages (record { tty = t; serial = serial }) address need
EventNeeds m (Poke t address word) need = IsTopAway m t address need
EventNeeds m (Words name page offset row) need = IsFileAway m name page need
EventNeeds m (Page name page) need = IsFileAway m name page need
EventNeeds m e need = ⊥

-- the maps on the way to a place and its page are in frames, over the words of a drum
abbrev pub IsInFrames : {P : Type 0} → PagesMeaning P → P → DrumWords → Place → Type 0
IsInFrames means p d at = (map_away (means.plain p d) (means.scene p) (spot_of at) ≡ None) × (page_away (means.plain p d) (means.scene p) (spot_of at) ≡ None)

-- a reply can be given over the words of a drum: the page of a file that it shows is in a frame
abbrev pub ShownAt : {P : Type 0} {b : _} → System P b → DrumWords → Reply → Type 0
ShownAt {P} {b} m d (ShowsPage name page) = (f : ℕ) → IsThere m.files f → name_of m.files.dir f ≡ name → IsInFrames b.means m.pages d (InFile (record { 0 = f }) page)
ShownAt m d reply = Unit {0}

-- so over each drum that fits
abbrev pub CanShow : {P : Type 0} {b : _} → System P b → Reply → Type 0
CanShow m reply = (d : DrumWords) → FitsPages m d → ShownAt m d reply

-- all tables of a system
abbrev pub tables_of : {P : Type 0} {b : _} → System P b → Tables
tables_of m = tables_in m.tree m.files m.jobs.items m.typed.items m.panel.clock

-- WHAT A UNIT OF A FORK NEEDS FIRST, whatever the drum holds
abbrev pub ForkNeeds : {P : Type 0} {b : _} → System P b → ForkName → Need → Type 0
ForkNeeds {P} {b} m name need = (f : Fork) → map.get m.tree.forks name ≡ Some f → UnitReason b.means m.pages (tables_of m) f need
