-- The limits of events, items and steps.
use Rattle.std.specs.Prelude.{◌≡◌, ℕ, ◌+◌, ◌<◌, ◌≤◌, ◌^◌, length, drop, All}
use Rattle.outside.specs.declared.TheConstants.{PAGE_WORDS}
use Rattle.machine_names.specs.declared.names.TheConstants.{LAST_SERIAL, SPACE_PAGES}
use Rattle.script_texts.specs.declared.status.ForkStatus.{ForkStatus}
use Rattle.script_texts.specs.declared.status.ForkStatus.TheVariants.{Run as Running, Wait, Halted, Forced}
use Rattle.script_texts.specs.declared.event.Event.{Event}
use Rattle.script_texts.specs.declared.event.Event.TheVariants.{Login, TypeIn, File, Words, Poke, Start, Run, Tick, Evict, Drum, Auto, Examine, Forks, Page, Trace}
use Rattle.script_texts.specs.declared.event.Item.{Item}
use Rattle.script_texts.specs.declared.event.Item.TheVariants.{Char, ForkLine, Examined, PageLine, PageWord, UnitLine, Refusal}
use Rattle.script_texts.specs.declared.event.ForkLine.{ForkLine as ForkShown}
use Rattle.script_texts.specs.declared.event.Refusal.{Refusal as Cause}
use Rattle.script_texts.specs.declared.event.Refusal.TheVariants.{Busy, NoJob, SerialsOut, Full, Denied, NoFork, NoPage, Exists, FilesFull, NoFile, FileFull, NoFilePage}
use Rattle.script_texts.specs.declared.event.Step.{Step}
use Rattle.script_texts.specs.declared.event.Step.TheVariants.{Outer, Unit as AUnit, Idle}
use Rattle.script_texts.specs.declared.event.WordRow.{WordRow}
use Rattle.script_texts.specs.Follows.{single, shape_of}
use Rattle.script_texts.specs.Texts.{line_of}
use Rattle.machine_names.specs.Bounds.{IsTerminal, IsDirName, IsFileName, IsAddress, IsForkName}

-- the words of a row, which lie within a page from the offset on; those past the count are 0
pub record FitsRow (offset : ℕ) (row : WordRow) : Type 0 where
  pub some : 1 ≤ row.count
  pub most : row.count ≤ 8
  pub room : length row.words ≡ 8
  pub words : All (λ w. w < 2 ^ 36) row.words
  pub rest : All (λ w. w ≡ 0) (drop row.count row.words)
  pub within : offset + row.count ≤ PAGE_WORDS

-- the limits of an event; its canonical line has at most 256 bytes, as only what is typed could have more
abbrev pub FitsEvent : Event → Type 0
FitsEvent (Login t user) = IsTerminal t × IsDirName user
FitsEvent (TypeIn t text) = IsTerminal t × (1 ≤ length text) × (length text ≤ 100) × All (λ c. c < 128) text × (length (line_of (TypeIn t text)) ≤ 256)
FitsEvent (File name) = IsFileName name
FitsEvent (Words name page offset row) = IsFileName name × (page < SPACE_PAGES) × FitsRow offset row
FitsEvent (Poke t address word) = IsTerminal t × IsAddress address × (word < 2 ^ 36)
FitsEvent (Start t address) = IsTerminal t × IsAddress address
FitsEvent (Run n) = (1 ≤ n) × (n ≤ 1000000)
FitsEvent Tick = Unit {0}
FitsEvent (Evict n) = n < 10000000
FitsEvent (Drum n) = n < 10000000
FitsEvent (Auto on) = Unit {0}
FitsEvent (Examine t serial address) = IsTerminal t × (serial < 1000000) × IsAddress address
FitsEvent (Forks t) = IsTerminal t
FitsEvent (Page name page) = IsFileName name × (page < SPACE_PAGES)
FitsEvent (Trace on) = Unit {0}

-- an event that is one entry
abbrev pub IsOuter : Event → Type 0
IsOuter e = shape_of e ≡ single

abbrev pub FitsStatus : ForkStatus → Type 0
FitsStatus Running = Unit {0}
FitsStatus (Wait on) = Unit {0}
FitsStatus Halted = Unit {0}
FitsStatus (Forced channel) = channel < 36

abbrev pub FitsForkLine : ForkShown → Type 0
FitsForkLine l = IsForkName l.name × (l.superior ≤ LAST_SERIAL) × FitsStatus l.status × IsAddress l.address

abbrev pub FitsCause : Cause → Type 0
FitsCause (Busy t) = IsTerminal t
FitsCause (NoJob t) = IsTerminal t
FitsCause (SerialsOut t) = IsTerminal t
FitsCause (Full t) = IsTerminal t
FitsCause (Denied t) = IsTerminal t
FitsCause (NoFork t) = IsTerminal t
FitsCause (NoPage t) = IsTerminal t
FitsCause (Exists name) = IsFileName name
FitsCause (FilesFull name) = IsFileName name
FitsCause (NoFile name) = IsFileName name
FitsCause (FileFull name) = IsFileName name
FitsCause (NoFilePage name) = IsFileName name

-- the limits of an item
abbrev pub FitsItem : Item → Type 0
FitsItem (Char t c) = IsTerminal t × (c < 128)
FitsItem (ForkLine l) = FitsForkLine l
FitsItem (Examined t serial address word) = IsTerminal t × (serial < 1000000) × IsAddress address × (word < 2 ^ 36)
FitsItem (PageLine name page) = IsFileName name × (page < SPACE_PAGES)
FitsItem (PageWord offset word) = (offset < PAGE_WORDS) × (word < 2 ^ 36)
FitsItem (UnitLine f address) = IsForkName f × IsAddress address
FitsItem (Refusal cause) = FitsCause cause

-- the limits of a step
abbrev pub FitsStep : Step → Type 0
FitsStep (Outer e) = FitsEvent e × IsOuter e
FitsStep (AUnit f) = IsForkName f
FitsStep Idle = Unit {0}
