-- Which commands of the monitor are refused, and with which words.
use Rattle.std.specs.Prelude.{◌≡◌, ℕ, List, [], ◌∷◌, Bool, true, false, not, ◌||◌, ◌==◌, codes, nat_lt, is_none, Some}
use Rattle.std.specs.Option.{option_map_or}
use Rattle.std.specs.FinMap as map
use Rattle.machine_names.specs.declared.names.Tty.{Tty}
use Rattle.plain_pages.specs.References.{page_at}
use Rattle.plain_typing.specs.declared.command.Command.{Command}
use Rattle.plain_typing.specs.declared.command.Command.TheVariants as command
use Rattle.plain_typing.specs.declared.typed.TheConstants.{BELL}
use Rattle.plain_model.specs.declared.fork.Fork.{Fork}
use Rattle.plain_model.specs.Commands.{is_forced}
use Rattle.plain_model.specs.FileCalls.{times_held}
use Rattle.plain_model.specs.FileEvents.{page_named}
use Rattle.plain_model.specs.State.{PlainJob, PlainState}
use Rattle.plain_model.specs.Unit.{printed}
use Rattle.plain_laws.specs.TypeLaws.{typed}
use Rattle.plain_refusals.specs.Causes.{Asking, first_there}
use Rattle.plain_refusals.specs.EventRefusals.{has_file}

-- a fork can't go on: it was forced, or has not run yet
abbrev pub cannot_go_on : Fork → Bool
cannot_go_on f = is_forced f.body.status || (f.body.units == 0)

-- WHY A COMMAND IS REFUSED: the words of each cause, in their order. An empty line, DIRECTORY and LOGOUT have none; a line that is no command
-- is always refused.
unfoldable pub words_of : PlainState → PlainJob → Command → Asking (List ℕ)
words_of s j (command.Run name) = (codes "?NO FILE", not (has_file s name)) ∷ (codes "?NO PROGRAM", is_none (page_at s.pages (page_named name 0))) ∷ []
words_of s j command.Start = (codes "?NO PROGRAM", is_none j.start) ∷ []
words_of s j command.Continue = (codes "?CANNOT", option_map_or cannot_go_on (map.get s.forks j.top) false) ∷ []
words_of s j (command.Delete name) = (codes "?NO FILE", not (has_file s name)) ∷ (codes "?FILE BUSY", nat_lt 0 (times_held s.jobs name)) ∷ []
words_of s j command.Unknown = (codes "?", true) ∷ []
words_of s j c = []

-- a command is refused with these words
abbrev pub IsRefused : PlainState → PlainJob → Command → List ℕ → Type 0
IsRefused s j c why = first_there (words_of s j c) ≡ Some why

-- a character that is typed is lost: the bell rings, and nothing changes
abbrev pub IsLost : PlainState → Tty → ℕ → Type 0
IsLost s t c = typed s t (c ∷ []) ≡ record { state = s; items = printed t (BELL ∷ []) }
