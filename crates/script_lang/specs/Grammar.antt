-- Lines that spell no event, and the kinds of events that keywords tell apart.
use Rattle.std.specs.Prelude.{ℕ, List, ◌++◌, Option, MatchOption}
use Rattle.script_texts.specs.declared.event.Event.{Event}
use Rattle.script_texts.specs.declared.event.Event.TheVariants.{Login, TypeIn, File, Words, Poke, Start, Run, Tick, Evict, Drum, Auto, Examine, Forks, Page, Trace}
use Rattle.script_texts.specs.Script.{Spells}

-- a line spells no event
abbrev pub SpellsNone : List ℕ → Type 0
SpellsNone line = (event : Event) → Spells line event → ⊥

-- what stands behind a keyword was read: the line spells this event, or spells none
abbrev pub IsRead : List ℕ → List ℕ → Option Event → Type 0
IsRead keyword rest result = MatchOption result (SpellsNone (keyword ++ rest)) (Spells (keyword ++ rest))

-- a line spells no event of a kind
abbrev pub SpellsNoneOf : (Event → Type 0) → List ℕ → Type 0
SpellsNoneOf IsKind line = (event : Event) → IsKind event → Spells line event → ⊥

-- an event at a terminal
abbrev pub IsOfTerminal : Event → Type 0
IsOfTerminal (Login t user) = Unit {0}
IsOfTerminal (TypeIn t text) = Unit {0}
IsOfTerminal (Poke t address word) = Unit {0}
IsOfTerminal (Start t address) = Unit {0}
IsOfTerminal (Examine t serial address) = Unit {0}
IsOfTerminal (Forks t) = Unit {0}
IsOfTerminal event = ⊥

-- an event of a file
abbrev pub IsOfFile : Event → Type 0
IsOfFile (File name) = Unit {0}
IsOfFile (Words name page offset row) = Unit {0}
IsOfFile (Page name page) = Unit {0}
IsOfFile event = ⊥

-- an event of the whole machine
abbrev pub IsOfMachine : Event → Type 0
IsOfMachine (Run n) = Unit {0}
IsOfMachine Tick = Unit {0}
IsOfMachine (Evict n) = Unit {0}
IsOfMachine (Drum n) = Unit {0}
IsOfMachine (Auto on) = Unit {0}
IsOfMachine (Trace on) = Unit {0}
IsOfMachine event = ⊥
