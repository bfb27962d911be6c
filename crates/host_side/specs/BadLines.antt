-- What is said of a bad line of a script.
use Rattle.std.specs.Prelude.{◌<◌, ◌≤◌, ℕ, List, length}
use Rattle.line_buffer.specs.declared.buffer.TheConstants.{MOST_LINE}
use Rattle.script_texts.specs.declared.event.Event.{Event}
use Rattle.script_texts.specs.Script.{IsBlank, Spells}
use Rattle.script_lang.specs.Grammar.{SpellsNone}
use Rattle.host_side.specs.declared.watch.Wrong.{Wrong}
use Rattle.host_side.specs.declared.watch.Wrong.TheVariants.{NoLine, TooLong, TooManyTurns, Unended}

-- what is wrong with a line is so of its bytes: a line with too many turns is one that can be read
abbrev pub IsWrong : Wrong → List ℕ → Type 0
IsWrong NoLine line = SpellsNone line × (IsBlank line → ⊥)
IsWrong TooLong line = MOST_LINE < length line
IsWrong TooManyTurns line = (e : Event) × Spells line e
IsWrong Unended line = length line ≤ MOST_LINE
