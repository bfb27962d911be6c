-- What users type: characters for the forks of their jobs, and lines for the monitor (CACM paper, "The executive").
use Rattle.std.specs.Prelude.{ℕ, List, [], ◌∷◌, ◌++◌, length, nat_lt, true, ◌==◌, if◌then◌else◌}
use Rattle.std.specs.Option.{option_map_or}
use Rattle.std.specs.FinMap as map
use Rattle.machine_names.specs.declared.character.TheConstants.{CARRIAGE_RETURN, LINE_END, LINE_FEED, PROMPT}
use Rattle.machine_names.specs.declared.names.ForkName.{ForkName}
use Rattle.machine_names.specs.declared.names.Tty.{Tty}
use Rattle.plain_typing.specs.declared.typed.Typed.{Typed}
use Rattle.plain_typing.specs.declared.typed.Typed.TheVariants.{Stored, Dropped, Posts, ControlC}
use Rattle.plain_typing.specs.declared.typed.TheConstants.{BELL, CONTROL_C, MOST_STORED}
use Rattle.plain_typing.specs.Characters.{read_as}
use Rattle.plain_typing.specs.Commands.{command_of}
use Rattle.plain_typing.specs.Lines.{InputLine}
use Rattle.plain_typing.specs.Typing.{fate_of, left_by}
use Rattle.script_texts.specs.declared.event.Item.{Item}
use Rattle.plain_model.specs.declared.fork.TerminalMode.{TerminalMode}
use Rattle.plain_model.specs.declared.fork.TerminalMode.TheVariants.{Command, Program}
use Rattle.plain_model.specs.State.{PlainState, PlainJob}
use Rattle.plain_model.specs.declared.fork.Fork.{Fork}
use Rattle.plain_model.specs.Forks.{change_fork, with_fork}
use Rattle.plain_model.specs.Interrupts.{forces, posted}
use Rattle.plain_model.specs.Trees.{readers_woken, with_mark}
use Rattle.plain_model.specs.Commands.{commanded, with_job_at}
use Rattle.plain_model.specs.Unit.{Effect, printed, shown_code, stopped}

-- a character as its terminal shows it
abbrev pub echo : Tty → ℕ → List Item
echo t code = printed t (shown_code code)

-- the bell rings: the character is lost
abbrev pub rings : PlainState → Tty → Effect
rings s t = record { state = s; items = printed t (BELL ∷ []) }

-- ---- control-C

-- the top fork has the freeze mark, where the forks of its job read the terminal
abbrev pub stopped_by : TerminalMode → PlainState → PlainJob → PlainState
stopped_by Program s j = change_fork s j.top (with_mark true)
stopped_by Command s j = s

-- control-C: the program stands still, and the monitor waits for a command
abbrev pub interrupted : PlainState → Tty → PlainJob → Effect
interrupted s t j = record { state = with_job_at (stopped_by j.mode s j) t (record j { mode = Command; line = [] }); items = printed t (94 ∷ 67 ∷ CARRIAGE_RETURN ∷ LINE_FEED ∷ PROMPT ∷ []) }

-- ---- typing for the forks of a job

-- what a job's forks have to read, and the codes that they have assigned
abbrev pub line_of : PlainJob → InputLine
line_of j = record { input = j.input; codes = j.codes }

-- a character is stored: it is echoed, and whoever waits for one runs again
abbrev pub stored : PlainState → Tty → PlainJob → ℕ → Effect
stored s t j code = let stored = with_job_at s t (record j { input = j.input ++ code ∷ [] }) in
    record { state = record stored { forks = readers_woken s.forks t }; items = echo t code }

-- a channel is posted to a fork: where that forces it, it has stopped
abbrev pub channel_posted : PlainState → ℕ → Fork → Effect
channel_posted s channel f = let g = posted f channel in if forces f.body.psi channel then stopped s g else record { state = with_fork s g; items = [] }

-- to the fork of a name, where it lives
abbrev pub posted_at : PlainState → ForkName → ℕ → Effect
posted_at s name channel = option_map_or (channel_posted s channel) (map.get s.forks name) (record { state = s; items = [] })

-- a character that became this; one that a fork has assigned is neither stored nor echoed
abbrev pub typed_so : Typed → PlainState → Tty → PlainJob → ℕ → Effect
typed_so Stored s t j code = stored s t j code
typed_so Dropped s t j code = rings s t
typed_so (Posts fork channel) s t j code = posted_at s fork channel
typed_so ControlC s t j code = interrupted s t j

-- ---- typing for the monitor

-- the line is over: it is the job's no longer, and its command is done
abbrev pub line_ended : PlainState → Tty → PlainJob → Effect
line_ended s t j = let left = record j { line = [] } in let e = commanded (with_job_at s t left) t left (command_of j.user j.line) in
    record e { items = echo t LINE_END ++ e.items }

-- one character more of the line, where that has room
abbrev pub line_typed : PlainState → Tty → PlainJob → ℕ → Effect
line_typed s t j code = if nat_lt (length j.line) MOST_STORED then record { state = with_job_at s t (record j { line = j.line ++ code ∷ [] }); items = echo t code } else rings s t

-- ---- all

-- a character as it is read, by who reads the terminal
unfoldable pub typed_one : TerminalMode → PlainState → Tty → PlainJob → ℕ → Effect
typed_one Program s t j code = typed_so (fate_of (record { input = j.input; codes = j.codes }) code) s t j code
typed_one Command s t j code = if code == CONTROL_C then interrupted s t j else (if code == LINE_END then line_ended s t j else line_typed s t j code)

-- what is done with a character that is typed at a terminal: once its job is gone, nothing
abbrev pub typed_at : PlainState → Tty → ℕ → Effect
typed_at s t c = option_map_or (λ j. typed_one j.mode s t j (read_as c)) (map.get s.jobs t.0) (record { state = s; items = [] })

-- the characters of a text, one after another
unfoldable pub typed_all : PlainState → Tty → List ℕ → Effect
typed_all s t [] = record { state = s; items = [] }
typed_all s t (c ∷ cs) = let e = typed_at s t c in let rest = typed_all e.state t cs in record rest { items = e.items ++ rest.items }
