-- Monitor calls: what a turn of one asks, how it ends, and what it leaves (JSYS Manual).
use Rattle.std.specs.Prelude.{ℕ, List, [], ◌∷◌, Bool, false, Option, None, Some, Result, Ok, Err, if◌then◌else◌, ◌==◌, unwrap_or, slice_set}
use Rattle.std.specs.List.{list_any}
use Rattle.std.specs.Option.{option_map, option_map_or, option_and_then}
use Rattle.std.specs.declared.cmp.Ordering.{Ordering}
use Rattle.plain_model.specs.declared.call.End.{End}
use Rattle.plain_model.specs.declared.call.End.TheVariants.{Done, Waits, Halts, Refused, Failed, Trap}
use Rattle.plain_model.specs.declared.call.Touched.{Touched}
use Rattle.plain_model.specs.declared.call.Touched.TheVariants.{Granted, Denied, Full}
use Rattle.plain_model.specs.declared.call.TheConstants.{NO_PAGE, NO_ROOM}
use Rattle.plain_units.specs.declared.channel.TheConstants.{ILLEGAL_INSTRUCTION}
use Rattle.machine_names.specs.declared.names.TheConstants.{ACCUMULATORS}
use Rattle.machine_names.specs.declared.names.ForkName.{ForkName}
use Rattle.machine_names.specs.declared.names.Tty.{Tty}
use Rattle.machine_names.specs.declared.names.PageName.{PageName}
use Rattle.machine_names.specs.declared.names.Slot.{Slot}
use Rattle.machine_names.specs.declared.names.Kind.{Kind}
use Rattle.plain_pages.specs.declared.map.NewMap.{NewMap}
use Rattle.plain_pages.specs.declared.map.MapEntry.{MapEntry}
use Rattle.plain_pages.specs.declared.map.MapEntry.TheVariants.{Empty}
use Rattle.plain_model.specs.declared.fork.Fork.{Fork}
use Rattle.script_texts.specs.declared.status.ForkStatus.TheVariants.{Wait, Halted}
use Rattle.script_texts.specs.declared.status.WaitOn.{WaitOn}
use Rattle.script_texts.specs.declared.status.WaitOn.TheVariants as on
use Rattle.plain_units.specs.declared.registers.Regs.{Regs}
use Rattle.plain_pages.specs.PlainPages.{PlainPages}
use Rattle.machine_names.specs.Orders.{FilePage}
use Rattle.plain_pages.specs.Maps.{entry_at}
use Rattle.plain_pages.specs.Room.{HasRoom}
use Rattle.plain_pages.specs.References.{Spot, in_map, in_file, Referred, granted, denied, full, page_at, reference, word_at}
use Rattle.plain_pages.specs.NewMaps.{with_map}
use Rattle.plain_model.specs.Forks.{with_regs, with_status}
use Rattle.plain_model.specs.Interrupts.{posted}
use Rattle.plain_model.specs.Trees.{PlainTree}
use Rattle.plain_units.specs.Steps.{Steps, Ending, Planned, done, call, trap, need, stopped as unit_stopped, pages_left}
use Rattle.plain_units.specs.Deeds.{next_pc}
use Rattle.plain_units.specs.Blocks.{block_steps, steps_on}

-- What is left of a turn that knows files by keys of its own, as by JFNs, and makes changes of some kind. What it asks, it is told of the
-- pages before it, with those that it made, and of the names and the room for files before it.
pub data Turn (F C : Type 0) : Type 0 where
  -- it looks at the entry of a slot, and goes on with that
  sees : Slot → (MapEntry → Turn F C) → Turn F C
  -- it looks for the page of a file, or at the end of a slot's chain, and goes on with its name, if one is named there
  finds : Spot F → (Option PageName → Turn F C) → Turn F C
  -- it takes the word at an offset of a file's page, which is 0 where the page isn't there
  reads : FilePage F → ℕ → (ℕ → Turn F C) → Turn F C
  -- it refers to a page, and makes what a reference makes for an owner; it goes on, told whether that was granted
  touches : Tty → Spot F → Kind → (Touched → Turn F C) → Turn F C
  -- it takes steps of a fork with these registers, which may make pages, and goes on with how they end; it traps where they trap
  takes : ForkName → Regs → Steps → (Ending → Turn F C) → Turn F C
  -- it makes the map of a new fork, and goes on, told whether there was room for that
  adds : ForkName → NewMap → (Bool → Turn F C) → Turn F C
  -- it looks up the name of a file, and goes on, told whether there is one
  looks : List ℕ → (Bool → Turn F C) → Turn F C
  -- it is to make a file of a name, and goes on, told whether one more may be there
  makes : List ℕ → (Bool → Turn F C) → Turn F C
  ends : End C → Turn F C

-- what a turn is told of files besides their pages: for which its keys stand, which names there are, and whether one more may be there
pub record Sight (F K : Type 0) : Type 0 where
  pub file_of : F → Option K
  pub is_name : List ℕ → Bool
  pub has_more : Bool

-- a turn that knows no file
abbrev pub no_files : {K : Type 0} → Sight ⊥ K
no_files = record { file_of = λ none. None; is_name = λ name. false; has_more = false }

-- how a turn comes out: its end, and the pages with those that it made until then
pub record Came {K : Type 0} (file_cmp : K → K → Ordering) (C : Type 0) : Type 0 where
  pub end : End C
  pub pages : PlainPages file_cmp

-- who calls, with which registers, among which forks
pub record Asked : Type 0 where
  pub who : ForkName
  pub regs : Regs
  pub tree : PlainTree

-- the program counter goes on by one, behind the call
abbrev pub behind_call : Regs → Regs
behind_call regs = record regs { pc = next_pc regs }

-- the registers with a word in an accumulator
abbrev pub with_ac : Regs → ℕ → ℕ → Regs
with_ac regs ac word = record regs { ac = slice_set regs.ac ac word }

-- the call is done, and returns with these registers
abbrev pub returning : {C : Type 0} → C → Regs → End C
returning change regs = Done change (behind_call regs) None None

-- a call with one return ends so where a reference was granted, and otherwise where there is no room for its page; where there is no
-- page it is refused
abbrev pub granted_or : {C : Type 0} → End C → End C → Touched → End C
granted_or e other Granted = e
granted_or e other Denied = Refused NO_PAGE
granted_or e other Full = other

-- it is refused where there is no page, or no room for one
abbrev pub if_granted : {C : Type 0} → End C → Touched → End C
if_granted e what = granted_or e (Refused NO_ROOM) what

-- what follows from what was named, or the code of an error
abbrev pub and_then : {A B : Type 0} → Result A ℕ → (A → Result B ℕ) → Result B ℕ
and_then (Ok a) next = next a
and_then (Err code) next = Err code

-- goes on with what was named, or is refused
abbrev pub given : {A F C : Type 0} → Result A ℕ → (A → Turn F C) → Turn F C
given (Ok a) next = next a
given (Err code) next = ends (Refused code)

-- the turn of a call by its number, among calls with theirs; a number that is none of these traps
abbrev pub numbered : {A F C : Type 0} → List (ℕ × (A → Turn F C)) → ℕ → A → Turn F C
numbered [] number a = ends (Trap ILLEGAL_INSTRUCTION)
numbered (row ∷ rows) number a = if row.0 == number then row.1 a else numbered rows number a

-- whether a number is one of those of these calls
abbrev pub is_among : {A F C : Type 0} → List (ℕ × (A → Turn F C)) → ℕ → Bool
is_among rows number = list_any (λ row. row.0 == number) rows

-- a turn refers to sixteen words of a fork from an address on, and goes on with them
abbrev pub with_block : {F C : Type 0} → ForkName → Regs → ℕ → Kind → (List ℕ → Turn F C) → Turn F C
with_block f regs a kind next = takes f regs (block_steps ACCUMULATORS a kind [] regs) (λ e. next e.regs.ac)

-- for which spot one of a turn stands, if it stands for one
abbrev pub spot_of : {F K : Type 0} → Sight F K → Spot F → Option (Spot K)
spot_of sight (in_map s) = Some (in_map s)
spot_of sight (in_file f) = option_map (λ k. in_file (record { file = k; page = f.page })) (sight.file_of f.file)

module _ {K : Type 0} {file_cmp : K → K → Ordering} where
  -- what comes of steps of a fork: they go on with the pages that they leave, or trap; a monitor call among them is none
  abbrev pub stepped : {A : Type 0} → ForkName → Planned file_cmp ⊥ → (PlainPages file_cmp → Ending → A) → (ℕ → A) → A
  stepped f (done t e) next trapped = next (pages_left f t e) e
  stepped f (unit_stopped (trap channel)) next trapped = trapped channel
  stepped f (unit_stopped (need none)) next trapped = absurd none
  stepped f (call number) next trapped = trapped ILLEGAL_INSTRUCTION

  -- the pages with the map of a new fork, where there is room for it
  abbrev pub with_added : PlainPages file_cmp → ForkName → NewMap → Bool → PlainPages file_cmp
  with_added p f entries room = if room then with_map p f entries else p

  -- the entry of a slot, which is empty where its fork isn't there
  abbrev pub entry_of : PlainPages file_cmp → Slot → MapEntry
  entry_of p s = unwrap_or (entry_at p.maps s) Empty

  -- what comes of a reference: a turn goes on with the pages that it leaves, told what it came to
  abbrev pub touched : {A : Type 0} → PlainPages file_cmp → Referred file_cmp → (PlainPages file_cmp → Touched → A) → A
  touched p (granted q) next = next q Granted
  touched p (denied kind) next = next p Denied
  touched p full next = next p Full

  -- how a turn comes out that is told of these pages
  unfoldable pub turn_on : {F C : Type 0} → Sight F K → PlainPages file_cmp → Turn F C → Came file_cmp C
  turn_on sight p (sees s next) = turn_on sight p (next (unwrap_or (entry_at p.maps s) Empty))
  turn_on sight p (finds at next) = turn_on sight p (next (option_and_then (page_at p) (spot_of sight at)))
  turn_on sight p (reads f offset next) = turn_on sight p (next (option_map_or (λ at. word_at p at offset) (spot_of sight (in_file f)) 0))
  turn_on sight p (touches owner at kind next) = touched p (option_map_or (λ s. reference p s kind owner) (spot_of sight at) (denied kind)) (λ q what. turn_on sight q (next what))
  turn_on sight p (takes f regs steps next) = stepped f (steps_on f regs steps p) (λ q e. turn_on sight q (next e)) (λ channel. record { end = Trap channel; pages = p })
  turn_on sight p (adds f entries next) = let q = with_map p f entries in let room = HasRoom q f.tty in turn_on sight (if room then q else p) (next room)
  turn_on sight p (looks name next) = turn_on sight p (next (sight.is_name name))
  turn_on sight p (makes name next) = turn_on sight p (next sight.has_more)
  turn_on sight p (ends e) = record { end = e; pages = p }

-- the last error of a fork
abbrev pub with_error : Fork → ℕ → Fork
with_error f code = record f { body = record f.body { error = code } }

-- a fork with a channel posted, if one is
abbrev pub posted_if : Fork → Option ℕ → Fork
posted_if f post = option_map_or (posted f) post f

-- a fork that waits; one that sleeps knows to which moment
abbrev pub with_wait : Fork → WaitOn → Fork
with_wait f (on.Sleep moment) = record f { body = record f.body { status = Wait (on.Sleep moment); sleep = Some moment } }
with_wait f what = with_status f (Wait what)

-- the fork that called, behind a turn but for its count of units: a refused call leaves its error, and traps where it has one return,
-- or returns by the first of two, with the code in accumulator 1; who waits stays on the call
unfoldable pub fork_behind : {C : Type 0} → Fork → End C → Fork
fork_behind f (Done change regs out post) = posted_if (with_regs f regs) post
fork_behind f (Waits what) = with_wait f what
fork_behind f Halts = with_status (with_regs f (behind_call f.body.regs)) Halted
fork_behind f (Failed code) = with_error (with_regs f (behind_call (with_ac f.body.regs 1 code))) code
fork_behind f (Refused code) = posted (with_error f code) ILLEGAL_INSTRUCTION
fork_behind f (Trap channel) = posted f channel

-- what a turn prints
abbrev pub out_of : {C : Type 0} → End C → Option ℕ
out_of (Done change regs out post) = out
out_of e = None

-- what a turn leaves of what its call changes: as it was, unless the turn is done, and else its change, on what it made
unfoldable pub parts_behind : {C V : Type 0} → (C → V → V) → V → V → End C → V
parts_behind changed old made (Done change regs out post) = changed change made
parts_behind changed old made e = old
