-- A line is told by its keyword, and each event has one of the keywords.
use Rattle.std.proofs.Common.{◌≡◌, ◌≢◌, List, ℕ, ◌++◌, codes, sym, subst}
use Rattle.std.specs.Prelude.{Option, Some, None, MatchOption}
use Rattle.script_texts.specs.declared.event.Event.{Event}
use Rattle.script_texts.specs.declared.event.Event.TheVariants.{Login, TypeIn, File, Words, Poke, Start, Run, Tick, Evict, Drum, Auto, Examine, Forks, Page, Trace}
use Rattle.script_texts.specs.Script.{Spells}
use Rattle.script_texts.specs.Texts.{field, on_or_off}
use Rattle.script_lang.specs.Grammar.{IsOfFile, IsOfMachine, IsOfTerminal, SpellsNone, SpellsNoneOf}

-- what is read behind a keyword is what the line spells
pub read_behind : (IsKind : Event → Type 0) (line keyed : List ℕ) (read : Option Event) → line ≡ keyed → MatchOption read (SpellsNone keyed) (Spells keyed) → MatchOption read (SpellsNoneOf IsKind line) (Spells line)
read_behind IsKind line keyed None same h = λ e kind spelled. h e (subst (λ l. Spells l e) same spelled)
read_behind IsKind line keyed (Some e) same h = subst (λ l. Spells l e) (sym same) h

-- a line does not begin with these bytes
abbrev pub BeginsOtherwise : List ℕ → List ℕ → Type 0
BeginsOtherwise key line = (rest : List ℕ) → line ≢ key ++ rest

pub no_terminal : (line : List ℕ) → BeginsOtherwise (codes "POKE ") line → BeginsOtherwise (codes "TYPE ") line → BeginsOtherwise (codes "LOGIN ") line → BeginsOtherwise (codes "START ") line
    → BeginsOtherwise (codes "EXAMINE ") line → BeginsOtherwise (codes "FORKS ") line → SpellsNoneOf IsOfTerminal line
no_terminal line poke type_in login start examine forks (Login t user) kind h = login (h.0 ++ field user) h.1
no_terminal line poke type_in login start examine forks (TypeIn t text) kind h = type_in (h.0 ++ field h.1) h.2
no_terminal line poke type_in login start examine forks (Poke t address word) kind h = poke (h.0 ++ (field h.1 ++ field h.2)) h.3
no_terminal line poke type_in login start examine forks (Start t address) kind h = start (h.0 ++ field h.1) h.2
no_terminal line poke type_in login start examine forks (Examine t serial address) kind h = examine (h.0 ++ (field h.1 ++ field h.2)) h.3
no_terminal line poke type_in login start examine forks (Forks t) kind h = forks h.0 h.1
no_terminal line poke type_in login start examine forks event kind h = kind

pub no_machine : (line : List ℕ) → BeginsOtherwise (codes "RUN ") line → line ≢ codes "TICK" → BeginsOtherwise (codes "EVICT ") line → BeginsOtherwise (codes "DRUM ") line → BeginsOtherwise (codes "AUTO ") line
    → BeginsOtherwise (codes "TRACE ") line → SpellsNoneOf IsOfMachine line
no_machine line run tick evict drum auto trace (Run n) kind h = run h.0 h.1
no_machine line run tick evict drum auto trace Tick kind h = tick h
no_machine line run tick evict drum auto trace (Evict n) kind h = evict h.0 h.1
no_machine line run tick evict drum auto trace (Drum n) kind h = drum h.0 h.1
no_machine line run tick evict drum auto trace (Auto on) kind h = auto (on_or_off on) h
no_machine line run tick evict drum auto trace (Trace on) kind h = trace (on_or_off on) h
no_machine line run tick evict drum auto trace event kind h = kind

pub no_file : (line : List ℕ) → BeginsOtherwise (codes "FILE ") line → BeginsOtherwise (codes "WORDS ") line → BeginsOtherwise (codes "PAGE ") line → SpellsNoneOf IsOfFile line
no_file line file words page (File name) kind h = file name h.0
no_file line file words page (Words name number offset row) kind h = words (name ++ (field h.0 ++ (field h.1 ++ h.2))) h.3
no_file line file words page (Page name number) kind h = page (name ++ field h.0) h.1
no_file line file words page event kind h = kind

no_kind : (line : List ℕ) → SpellsNoneOf IsOfTerminal line → SpellsNoneOf IsOfMachine line → SpellsNoneOf IsOfFile line → SpellsNone line
no_kind line terminal machine file (Login t user) h = terminal (Login t user) tt h
no_kind line terminal machine file (TypeIn t text) h = terminal (TypeIn t text) tt h
no_kind line terminal machine file (File name) h = file (File name) tt h
no_kind line terminal machine file (Words name page offset row) h = file (Words name page offset row) tt h
no_kind line terminal machine file (Poke t address word) h = terminal (Poke t address word) tt h
no_kind line terminal machine file (Start t address) h = terminal (Start t address) tt h
no_kind line terminal machine file (Examine t serial address) h = terminal (Examine t serial address) tt h
no_kind line terminal machine file (Forks t) h = terminal (Forks t) tt h
no_kind line terminal machine file (Page name page) h = file (Page name page) tt h
no_kind line terminal machine file event h = machine event tt h

-- what is read last is what the line spells, where it spells no event of the other kinds
pub read_last : (line : List ℕ) (read : Option Event) → SpellsNoneOf IsOfTerminal line → SpellsNoneOf IsOfMachine line → MatchOption read (SpellsNoneOf IsOfFile line) (Spells line)
    → MatchOption read (SpellsNone line) (Spells line)
read_last line None terminal machine file = no_kind line terminal machine file
read_last line (Some e) terminal machine h = h
