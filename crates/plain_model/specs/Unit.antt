-- One unit of a fork: an interrupt that it takes, an instruction, or a trap (JSYS Manual, "Pseudo-interrupt system"; PDP-10 handbook,
-- "Instruction format").
use Rattle.std.specs.Prelude.{ℕ, List, [], ◌∷◌, ◌++◌, map, codes, decimal, is_some, Option, if◌then◌else◌, ◌==◌}
use Rattle.std.specs.Option.{option_map_or}
use Rattle.std.specs.FinMap as map_of
use Rattle.machine_names.specs.declared.names.Tty.{Tty}
use Rattle.machine_names.specs.declared.names.ForkName.{ForkName}
use Rattle.machine_names.specs.declared.character.TheConstants.{LINE_END, CARRIAGE_RETURN, LINE_FEED, PROMPT}
use Rattle.plain_model.specs.declared.fork.TerminalMode.TheVariants.{Command}
use Rattle.script_texts.specs.declared.status.ForkStatus.{ForkStatus}
use Rattle.script_texts.specs.declared.status.ForkStatus.TheVariants.{Halted, Forced}
use Rattle.plain_model.specs.declared.fork.Fork.{Fork}
use Rattle.script_texts.specs.declared.event.Item.{Item}
use Rattle.script_texts.specs.declared.event.Item.TheVariants.{Char, Refusal}
use Rattle.script_texts.specs.declared.event.Refusal.{Refusal as Cause}
use Rattle.plain_model.specs.State.{PlainState}
use Rattle.plain_pages.specs.PlainPages.{NamedPages}
use Rattle.plain_units.specs.Steps.{Planned, Ending, done, call, trap, need, stopped as unit_stopped, pages_left}
use Rattle.plain_model.specs.Calls.{posted_if}
use Rattle.plain_model.specs.Families.{Parts, Turned, call_turned}
use Rattle.plain_model.specs.Forks.{with_fork, with_regs, with_status, counted}
use Rattle.plain_model.specs.Trees.{end_told, tree_of}
use Rattle.plain_model.specs.declared.interrupt.Delivery.{Delivery}
use Rattle.plain_model.specs.declared.interrupt.Inspected.{Inspected}
use Rattle.plain_model.specs.declared.interrupt.Inspected.TheVariants.{Nothing, Delivers, Forces}
use Rattle.plain_model.specs.Inspections.{delivered, inspected, inspected_by, is_interrupted, stored_word}
use Rattle.plain_model.specs.Interrupts.{posted}
use Rattle.machine_names.specs.Orders.{name_cmp}
use Rattle.plain_units.specs.Units.{unit_on}
use Rattle.plain_units.specs.Blocks.{steps_on}
use Rattle.plain_units.specs.Instructions.{instruction}

-- what a step leaves, and what it shows
pub record Effect : Type 0 where
  pub state : PlainState
  pub items : List Item

-- an event that is refused changes nothing, and says why
abbrev pub refused : PlainState → Cause → Effect
refused s cause = record { state = s; items = Refusal cause ∷ [] }

-- characters that a terminal prints
abbrev pub printed : Tty → List ℕ → List Item
printed t cs = map (Char t) cs

-- the end of a line prints as carriage return and line feed
abbrev pub shown_code : ℕ → List ℕ
shown_code c = if c == LINE_END then CARRIAGE_RETURN ∷ LINE_FEED ∷ [] else c ∷ []

-- what a top fork that stops prints
abbrev pub stop_text : ForkStatus → List ℕ
stop_text Halted = CARRIAGE_RETURN ∷ LINE_FEED ∷ PROMPT ∷ []
stop_text (Forced channel) = CARRIAGE_RETURN ∷ LINE_FEED ∷ (codes "?FORCED " ++ (decimal channel ++ (CARRIAGE_RETURN ∷ LINE_FEED ∷ PROMPT ∷ [])))
stop_text status = []

-- a terminal in command mode, where it has a job
abbrev pub in_command_mode : PlainState → Tty → PlainState
in_command_mode s t = option_map_or (λ j. record s { jobs = map_of.insert s.jobs t.0 (record j { mode = Command }) }) (map_of.get s.jobs t.0) s

-- a fork has stopped: who waits for it runs again, and its superior is told; where it is a top fork it prints, and its terminal is in
-- command mode
abbrev pub stopped : PlainState → Fork → Effect
stopped s f = let put = with_fork s f in let t = record put { forks = end_told put.forks f } in
    if is_some f.superior then record { state = t; items = [] }
    else record { state = in_command_mode t f.name.tty; items = printed f.name.tty (stop_text f.body.status) }

-- a fork is behind a unit that leaves it in this status, which is its own
abbrev pub unit_ended : PlainState → Fork → ForkStatus → Effect
unit_ended s f Halted = stopped s (counted f)
unit_ended s f (Forced channel) = stopped s (counted f)
unit_ended s f status = record { state = with_fork s (counted f); items = [] }

-- the parts of the state that calls see and change, and the state with others
abbrev pub parts_of : PlainState → Parts name_cmp
parts_of s = record { tree = tree_of s; pages = s.pages; files = s.files; jobs = s.jobs; clock = s.clock }

abbrev pub with_parts : PlainState → Parts name_cmp → PlainState
with_parts s v = record s { forks = v.tree.forks; fork_serials = v.tree.serials; pages = v.pages; files = v.files; jobs = v.jobs }

-- the characters that a turn prints
abbrev pub turn_printed : Tty → Option ℕ → List Item
turn_printed t out = option_map_or (λ code. printed t (shown_code code)) out []

-- the fork that called is behind its unit
abbrev pub caller_ended : PlainState → Option Fork → Effect
caller_ended s caller = option_map_or (λ f. unit_ended s f f.body.status) caller (record { state = s; items = [] })

-- a turn of a call is over: what it prints, and then what is shown where its fork has stopped
abbrev pub turned : PlainState → Tty → Turned name_cmp → Effect
turned s t r = let e = caller_ended (with_parts s r.parts) r.caller in record e { items = turn_printed t r.out ++ e.items }

-- a turn of a monitor call; a number that is no call traps as an illegal instruction
abbrev pub called : PlainState → Fork → ℕ → Effect
called s f number = turned s f.name.tty (call_turned (λ name. name) (parts_of s) f.name f.body.regs number)

-- a unit has gone through: its fork has the registers that it leaves, and then the channel that it posts
abbrev pub went : PlainState → Fork → NamedPages → Ending → Effect
went s f pages e = let g = posted_if (with_regs f e.regs) e.post in unit_ended (record s { pages = pages }) g g.body.status

-- a unit is over: a trap changes nothing, leaves the program counter on the instruction, and posts its channel; a monitor call is done on
-- the state before the unit, so that no page is made for its fetch
abbrev pub over : PlainState → Fork → Planned name_cmp ⊥ → Effect
over s f (done t e) = went s f (pages_left f.name t e) e
over s f (unit_stopped (trap channel)) = unit_ended s (posted f channel) (posted f channel).body.status
over s f (unit_stopped (need none)) = absurd none
over s f (call number) = turned s f.name.tty (call_turned (λ name. name) (parts_of s) f.name f.body.regs number)

-- the unit of a fork that lives, its interrupts aside
abbrev pub instruction_unit : PlainState → Fork → Effect
instruction_unit s f = over s f (steps_on f.name f.body.regs (instruction f.body.regs) s.pages)

-- a channel is delivered, which is the whole unit
abbrev pub taken_up : PlainState → NamedPages → Fork → Delivery → Effect
taken_up s p f d = record { state = with_fork (record s { pages = stored_word p f d }) (counted (delivered f d)); items = [] }

-- What an inspection came to decides the unit: a channel is delivered, on the pages that this has made; or the fork is forced, and none is
-- made; and where no channel can be delivered the unit is that of the instruction.
abbrev pub decided : PlainState → Fork → NamedPages → Inspected → Effect
decided s f p Nothing = instruction_unit s f
decided s f p (Delivers d) = taken_up s p f d
decided s f p (Forces channel) = unit_ended s (with_status f (Forced channel)) (Forced channel)

-- the unit of a fork whose channels are looked at
abbrev pub interrupted_unit : PlainState → Fork → Effect
interrupted_unit s f = let came = inspected f s.pages in decided s f came.pages (inspected_by came.end)

-- the unit of a fork that lives
abbrev pub unit_of : PlainState → Fork → Effect
unit_of s f = if is_interrupted f.body.psi then interrupted_unit s f else instruction_unit s f

-- one unit of a fork
unfoldable pub unit : PlainState → ForkName → Effect
unit s f = option_map_or (unit_of s) (map_of.get s.forks f) (record { state = s; items = [] })
