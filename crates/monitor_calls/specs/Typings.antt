-- What is typed at the terminals.
use Rattle.std.specs.Prelude.{ℕ, List, [], replicate, slice_index_or}
use Rattle.plain_typing.specs.Lines.{new_line}
use Rattle.monitor_calls.specs.declared.typing.Typing.{Typing}

-- nothing was typed at a terminal, and no code is assigned there
abbrev pub new_typing : Typing
new_typing = record { line = record { items = [] }; input = new_line }

-- so at so many terminals
unfoldable pub nothing_typed : ℕ → List Typing
nothing_typed n = replicate n new_typing

-- what was typed at a terminal
abbrev pub typing_at : List Typing → ℕ → Typing
typing_at typed t = slice_index_or typed t new_typing
