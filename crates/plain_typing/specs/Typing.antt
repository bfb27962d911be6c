-- What becomes of what is typed.
use Rattle.std.specs.Prelude.{ℕ, List, [], ◌∷◌, ◌++◌, length, Bool, nat_lt, is_none, ◌&&◌, not, ◌==◌, if◌then◌else◌, Option, None, Some}
use Rattle.std.specs.FinMap as map
use Rattle.machine_names.specs.declared.names.ForkName.{ForkName}
use Rattle.plain_typing.specs.declared.typed.Typed.{Typed}
use Rattle.plain_typing.specs.declared.typed.Typed.TheVariants.{Stored, Dropped, Posts, ControlC}
use Rattle.plain_typing.specs.declared.typed.TheConstants.{CONTROL_C, MOST_STORED}
use Rattle.plain_typing.specs.Characters.{read_as}
use Rattle.plain_typing.specs.Lines.{InputLine, Codes}

-- a character that nobody has assigned: it is stored where there is room
abbrev pub stored_or_dropped : List ℕ → Typed
stored_or_dropped input = if nat_lt (length input) MOST_STORED then Stored else Dropped

-- a character whose code may be assigned
abbrev pub posted_or_stored : Option (ForkName × ℕ) → List ℕ → Typed
posted_or_stored (Some assigned) input = Posts assigned.0 assigned.1
posted_or_stored None input = stored_or_dropped input

-- what becomes of a character as it is read: control-C comes first, then what a fork has assigned
abbrev pub fate_of : InputLine → ℕ → Typed
fate_of line code = if code == CONTROL_C then ControlC else posted_or_stored (map.get line.codes code) line.input

-- the line behind a character to which this happened: what is stored stands last
abbrev pub left_by : InputLine → ℕ → Typed → InputLine
left_by line code Stored = record line { input = line.input ++ code ∷ [] }
left_by line code fate = line

-- the line behind characters that are typed one after another
abbrev pub typed_all : InputLine → List ℕ → InputLine
typed_all line [] = line
typed_all line (c ∷ cs) = typed_all (left_by line (read_as c) (fate_of line (read_as c))) cs

-- a character that goes to the program: neither control-C nor assigned
abbrev pub is_input : Codes → ℕ → Bool
is_input codes code = not (code == CONTROL_C) && is_none (map.get codes code)
