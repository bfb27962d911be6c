-- The texts of a run: the canonical lines of events, the transcript of items, the record of entries.
use Rattle.std.specs.Prelude.{ℕ, ◌+◌, List, [], ◌∷◌, ◌++◌, codes, decimal, take, Bool, true, false, not, ◌||◌, ◌&&◌, nat_lt, if◌then◌else◌, ◌==◌}
use Rattle.std.specs.List.{flat_map}
use Rattle.word36.specs.Octal.{octal_padded}
use Rattle.machine_names.specs.declared.names.ForkName.{ForkName}
use Rattle.script_texts.specs.declared.status.WaitOn.{WaitOn}
use Rattle.script_texts.specs.declared.status.WaitOn.TheVariants.{Input, Fork, Sleep}
use Rattle.script_texts.specs.declared.status.ForkStatus.{ForkStatus}
use Rattle.script_texts.specs.declared.status.ForkStatus.TheVariants.{Run as Running, Wait, Halted, Forced}
use Rattle.script_texts.specs.declared.event.Event.{Event}
use Rattle.script_texts.specs.declared.event.Event.TheVariants.{Login, TypeIn, File, Words, Poke, Start, Run, Tick, Evict, Drum, Auto, Examine, Forks, Page, Trace}
use Rattle.script_texts.specs.declared.event.Item.{Item}
use Rattle.script_texts.specs.declared.event.Item.TheVariants.{Char, ForkLine, Examined, PageLine, PageWord, UnitLine, Refusal}
use Rattle.script_texts.specs.declared.event.ForkLine.{ForkLine as ForkShown}
use Rattle.script_texts.specs.declared.event.Refusal.{Refusal as Cause}
use Rattle.script_texts.specs.declared.event.Refusal.TheVariants.{Busy, NoJob, SerialsOut, Full, Denied, NoFork, NoPage, Exists, FilesFull, NoFile, FileFull, NoFilePage}
use Rattle.script_texts.specs.declared.event.Step.{Step}
use Rattle.script_texts.specs.declared.event.Step.TheVariants.{Outer, Unit as AUnit, Idle}

-- a text of digits without the zeros in front of its number
abbrev pub trimmed : List ℕ → List ℕ
trimmed [] = []
trimmed (c ∷ []) = c ∷ []
trimmed (c ∷ d ∷ ds) = if c == 48 then trimmed (d ∷ ds) else c ∷ d ∷ ds

-- an octal number below 2^36 without zeros in front
abbrev pub octal : ℕ → List ℕ
octal n = trimmed (octal_padded 12 n)

-- a field behind a space
abbrev pub field : List ℕ → List ℕ
field text = 32 ∷ text

-- how a switch is spelled
abbrev pub on_or_off : Bool → List ℕ
on_or_off true = codes "ON"
on_or_off false = codes "OFF"

-- a typed character: itself, or a backslash and three octal digits
abbrev pub escaped : ℕ → List ℕ
escaped c = if nat_lt c 32 || nat_lt 126 c || (c == 92) then 92 ∷ octal_padded 3 c else c ∷ []

-- the canonical line of an event, without its line feed
abbrev pub line_of : Event → List ℕ
line_of (Login t user) = codes "LOGIN " ++ (decimal t.0 ++ field user)
line_of (TypeIn t text) = codes "TYPE " ++ (decimal t.0 ++ field (flat_map escaped text))
line_of (File name) = codes "FILE " ++ name
line_of (Words name page offset row) =
    codes "WORDS " ++ (name ++ (field (octal page) ++ (field (octal offset) ++ flat_map (λ w. field (octal w)) (take row.count row.words))))
line_of (Poke t address word) = codes "POKE " ++ (decimal t.0 ++ (field (octal address) ++ field (octal word)))
line_of (Start t address) = codes "START " ++ (decimal t.0 ++ field (octal address))
line_of (Run n) = codes "RUN " ++ decimal n
line_of Tick = codes "TICK"
line_of (Evict n) = codes "EVICT " ++ decimal n
line_of (Drum n) = codes "DRUM " ++ decimal n
line_of (Auto on) = codes "AUTO " ++ on_or_off on
line_of (Examine t serial address) = codes "EXAMINE " ++ (decimal t.0 ++ (field (decimal serial) ++ field (octal address)))
line_of (Forks t) = codes "FORKS " ++ decimal t.0
line_of (Page name page) = codes "PAGE " ++ (name ++ field (octal page))
line_of (Trace on) = codes "TRACE " ++ on_or_off on

-- a line with its line feed
abbrev pub ended : List ℕ → List ℕ
ended line = line ++ 10 ∷ []

-- what a fork waits for
abbrev pub wait_text : WaitOn → List ℕ
wait_text Input = codes "INPUT"
wait_text Fork = codes "FORK"
wait_text (Sleep moment) = codes "SLEEP"

-- how a fork stands
abbrev pub status_text : ForkStatus → List ℕ
status_text Running = codes "RUN"
status_text (Wait on) = wait_text on
status_text Halted = codes "HALT"
status_text (Forced channel) = codes "FORCED " ++ decimal channel

-- behind the status of a fork that has the freeze mark itself
abbrev pub frozen_text : Bool → List ℕ
frozen_text true = codes " FROZEN"
frozen_text false = []

-- a fork's terminal and serial
abbrev pub name_text : ForkName → List ℕ
name_text f = decimal f.tty.0 ++ field (decimal f.serial)

-- the line of a fork: name, superior's serial or 0, status, and program counter
abbrev pub fork_text : ForkShown → List ℕ
fork_text l = codes "F " ++ (name_text l.name ++ (field (decimal l.superior) ++ (field (status_text l.status) ++ (frozen_text l.frozen ++ (codes " PC " ++ octal_padded 6 l.address)))))

-- the line of a refusal
abbrev pub cause_text : Cause → List ℕ
cause_text (Busy t) = codes "?BUSY " ++ decimal t.0
cause_text (NoJob t) = codes "?NO JOB " ++ decimal t.0
cause_text (SerialsOut t) = codes "?SERIALS OUT " ++ decimal t.0
cause_text (Full t) = codes "?FULL " ++ decimal t.0
cause_text (Denied t) = codes "?DENIED " ++ decimal t.0
cause_text (NoFork t) = codes "?NO FORK " ++ decimal t.0
cause_text (NoPage t) = codes "?NO PAGE " ++ decimal t.0
cause_text (Exists name) = codes "?EXISTS " ++ name
cause_text (FilesFull name) = codes "?FILES FULL " ++ name
cause_text (NoFile name) = codes "?NO FILE " ++ name
cause_text (FileFull name) = codes "?FULL " ++ name
cause_text (NoFilePage name) = codes "?NO PAGE " ++ name

-- the line of an item that is no character, without its line feed
abbrev pub shown_line : Item → List ℕ
shown_line (Char t c) = []
shown_line (ForkLine l) = fork_text l
shown_line (Examined t serial address word) = codes "X " ++ (decimal t.0 ++ (field (decimal serial) ++ (field (octal_padded 6 address) ++ field (octal_padded 12 word))))
shown_line (PageLine name page) = codes "P " ++ (name ++ field (octal page))
shown_line (PageWord offset word) = codes "W " ++ (octal_padded 3 offset ++ field (octal_padded 12 word))
shown_line (UnitLine f address) = codes "U " ++ (name_text f ++ field (octal_padded 6 address))
shown_line (Refusal cause) = cause_text cause

-- a line of the transcript: characters of a terminal, or another item's text
pub data TranscriptLine : Type 0 where
  typed : ℕ → List ℕ → TranscriptLine
  shown : List ℕ → TranscriptLine

-- a character of a terminal before these lines: it joins the terminal's own line where that comes next, but a line feed
-- ends its line
abbrev pub put_before : ℕ → ℕ → List TranscriptLine → List TranscriptLine
put_before t c (typed s cs ∷ ls) = if (c == 10) || not (t == s) then typed t (c ∷ []) ∷ typed s cs ∷ ls else typed s (c ∷ cs) ∷ ls
put_before t c ls = typed t (c ∷ []) ∷ ls

-- the lines of items: each longest run of one terminal's characters, and each other item
abbrev pub lines_of : List Item → List TranscriptLine
lines_of [] = []
lines_of (Char t c ∷ is) = put_before t.0 c (lines_of is)
lines_of (i ∷ is) = shown (shown_line i) ∷ lines_of is

-- a line's bytes: T, the terminal and the characters as typed; or the item's
abbrev pub text_of : TranscriptLine → List ℕ
text_of (typed t cs) = ended (codes "T" ++ (decimal t ++ 32 ∷ flat_map escaped cs))
text_of (shown text) = ended text

-- the transcript of a run's items
abbrev pub transcript : List Item → List ℕ
transcript is = flat_map text_of (lines_of is)

-- equal turns: units of one fork, or idle entries
abbrev pub same_turn : Step → Step → Bool
same_turn (AUnit f) (AUnit g) = (f.tty.0 == g.tty.0) && (f.serial == g.serial)
same_turn Idle Idle = true
same_turn x y = false

-- an entry before these runs of equal entries: a turn joins the run that comes next where it is of its turns
abbrev pub put_entry : Step → List (Step × ℕ) → List (Step × ℕ)
put_entry s [] = (s, 1) ∷ []
put_entry s (r ∷ rs) = if same_turn s r.0 then (s, r.1 + 1) ∷ rs else (s, 1) ∷ r ∷ rs

-- entries as runs: each longest run of equal turns, and how many they are; and each event
abbrev pub runs_of : List Step → List (Step × ℕ)
runs_of [] = []
runs_of (s ∷ ss) = put_entry s (runs_of ss)

-- so many equal turns, or an event, without the line feed
abbrev pub run_text : Step → ℕ → List ℕ
run_text (Outer e) n = line_of e
run_text (AUnit f) n = codes "U " ++ (name_text f ++ field (decimal n))
run_text Idle n = codes "I " ++ decimal n

-- their line
abbrev pub run_line : Step → ℕ → List ℕ
run_line s n = ended (run_text s n)

-- the lines of entries
abbrev pub entries_text : List Step → List ℕ
entries_text ss = flat_map (λ r. run_line r.0 r.1) (runs_of ss)

-- how often the drum was read and written
abbrev pub counts_text : ℕ → ℕ → List ℕ
counts_text reads writes = codes "E " ++ (decimal reads ++ field (decimal writes))

-- the last line of a record
abbrev pub counts_line : ℕ → ℕ → List ℕ
counts_line reads writes = ended (counts_text reads writes)

-- the record of a run's entries
abbrev pub record_text : List Step → ℕ → ℕ → List ℕ
record_text ss reads writes = entries_text ss ++ counts_line reads writes
