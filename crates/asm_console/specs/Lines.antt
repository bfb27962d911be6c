-- The lines of a script that put the words of a program.
use Rattle.std.specs.Prelude.{ℕ, List, map}
use Rattle.std.specs.List.{flat_map}
use Rattle.machine_names.specs.declared.names.Tty.{Tty}
use Rattle.script_texts.specs.declared.event.Event.{Event}
use Rattle.script_texts.specs.declared.event.Event.TheVariants.{Poke}
use Rattle.script_texts.specs.Texts.{ended, line_of}
use Rattle.asm_core.specs.declared.line.Placed.{Placed}

-- the event that puts a word at its address
abbrev pub event_of : Tty → Placed → Event
event_of t p = Poke t p.address p.word

-- the events that put the words of a program, in their order
abbrev pub events_of : Tty → List Placed → List Event
events_of t program = map (event_of t) program

-- the canonical line of such an event, with its line feed
abbrev pub placed_line : Tty → Placed → List ℕ
placed_line t p = ended (line_of (event_of t p))

-- the lines of a program's words
abbrev pub lines_text : Tty → List Placed → List ℕ
lines_text t program = flat_map (placed_line t) program
