-- Each family of monitor calls by itself, as laws and proofs take it.
use Rattle.std.specs.Prelude.{ℕ, ◌%◌, List, [], ◌∷◌, Bool, if◌then◌else◌, nat_lt, Option, None, Some, is_some, slice_index}
use Rattle.std.specs.Option.{option_map, option_map_or}
use Rattle.std.specs.declared.cmp.Ordering.{Ordering}
use Rattle.std.specs.FinMap as map
use Rattle.plain_model.specs.declared.call.TheConstants.{PBOUT}
use Rattle.plain_units.specs.declared.channel.TheConstants.{ILLEGAL_INSTRUCTION}
use Rattle.plain_model.specs.declared.call.End.TheVariants.{Done}
use Rattle.plain_model.specs.declared.call.MapChange.{MapChange}
use Rattle.plain_model.specs.declared.call.ForkChange.{ForkChange}
use Rattle.plain_model.specs.declared.call.ForkChange.TheVariants.{Kill}
use Rattle.plain_model.specs.declared.call.InterruptChange.{InterruptChange}
use Rattle.plain_model.specs.declared.call.SleepChange.{SleepChange}
use Rattle.plain_model.specs.declared.call.FileChange.{FileChange}
use Rattle.plain_model.specs.declared.call.ByteChange.{ByteChange}
use Rattle.machine_names.specs.declared.names.ForkName.{ForkName}
use Rattle.machine_names.specs.declared.names.TheConstants.{MOST_FILES}
use Rattle.machine_names.specs.Orders.{name_cmp}
use Rattle.plain_files.specs.Sizes.{PlainFile}
use Rattle.plain_model.specs.declared.fork.Fork.{Fork}
use Rattle.plain_units.specs.declared.registers.Regs.{Regs}
use Rattle.plain_pages.specs.PlainPages.{PlainPages}
use Rattle.plain_model.specs.Interrupts.{posted}
use Rattle.plain_model.specs.Trees.{PlainTree}
use Rattle.plain_model.specs.Calls.{Asked, Turn, ends, Sight, no_files, Came, turn_on, numbered, is_among, fork_behind, parts_behind, out_of, behind_call}
use Rattle.plain_model.specs.MapCalls.{MapAsked, map_calls, map_changed}
use Rattle.plain_model.specs.FileCalls.{Jobs, JfnAsked, file_calls, file_changed, held_at, jfn_calls, times_held}
use Rattle.plain_model.specs.ForkCalls.{fork_calls, fork_changed}
use Rattle.plain_model.specs.Forks.{ForkMap}
use Rattle.plain_model.specs.InterruptCalls.{interrupt_calls, interrupt_changed, living_codes, with_codes_of}
use Rattle.plain_model.specs.ClockCalls.{ClockAsked, clock_calls, clock_changed}
use Rattle.plain_model.specs.ByteCalls.{ByteAsked, byte_calls, byte_changed, input_at, pages_of, ByteTurn}
use Rattle.plain_model.specs.StringCalls.{string_calls}
use Rattle.plain_model.specs.Families.{Parts, Turned, asks, asks_bytes, asks_clock, asks_jfns, asks_maps, behind, bytes_changed, files_seen, forks_changed, interrupts_changed, jfns_changed, names_seen, print_calls}

-- a family of calls: the calls by their numbers, what they are asked with, what they are told of files, and what their changes leave of
-- the parts
pub record Family {K : Type 0} (file_cmp : K → K → Ordering) (F A C : Type 0) : Type 0 where
  pub calls : List (ℕ × (A → Turn F C))
  pub asked : Parts file_cmp → ForkName → Regs → A
  pub sight : Parts file_cmp → ForkName → Sight F K
  pub changed : C → Parts file_cmp → Parts file_cmp

-- a family of calls as whoever makes a call sees it: which numbers are its own, and what is behind a turn
pub record Offer {K : Type 0} (file_cmp : K → K → Ordering) : Type 0 where
  pub has : ℕ → Bool
  pub turned : Parts file_cmp → ForkName → Regs → ℕ → Turned file_cmp

module _ {K : Type 0} {file_cmp : K → K → Ordering} where
  -- the turn of a call of a family by its number, as it comes out
  abbrev pub came_of : {F A C : Type 0} → Family file_cmp F A C → Parts file_cmp → ForkName → Regs → ℕ → Came file_cmp C
  came_of family v who regs number = turn_on (family.sight v who) v.pages (numbered family.calls number (family.asked v who regs))

  -- a family, offered
  abbrev pub offered : {F A C : Type 0} → Family file_cmp F A C → Offer file_cmp
  offered family = record {
    has = is_among family.calls;
    turned = λ v who regs number. behind family.changed v who (came_of family v who regs number);
  }

  -- a turn of the first of some families that has the number; a number that none has traps
  abbrev pub first_turned : List (Offer file_cmp) → Parts file_cmp → ForkName → Regs → ℕ → Turned file_cmp
  first_turned [] v who regs number = record { parts = v; caller = option_map (λ f. posted f ILLEGAL_INSTRUCTION) (map.get v.tree.forks who); out = None }
  first_turned (o ∷ os) v who regs number = if o.has number then o.turned v who regs number else first_turned os v who regs number

  -- a call that changes the fork that called alone
  abbrev pub own_changed : Unit {0} → Parts file_cmp → Parts file_cmp
  own_changed change v = v

  -- the calls that print
  abbrev pub printing : Family file_cmp ⊥ Regs (Unit {0})
  printing = record { calls = print_calls; asked = λ v who regs. regs; sight = λ v who. no_files; changed = own_changed }

  -- the fork calls
  abbrev pub forking : Family file_cmp ⊥ Asked ForkChange
  forking = record { calls = fork_calls; asked = asks; sight = λ v who. no_files; changed = forks_changed }

  -- the calls on pseudo-interrupts
  abbrev pub interrupting : Family file_cmp ⊥ Asked InterruptChange
  interrupting = record { calls = interrupt_calls; asked = asks; sight = λ v who. no_files; changed = interrupts_changed }

  -- a call on the clock changes a fork's sleep
  abbrev pub sleeps_changed : SleepChange → Parts file_cmp → Parts file_cmp
  sleeps_changed change v = record v { tree = clock_changed change v.tree }

  -- the calls on the clock
  abbrev pub timing : Family file_cmp ⊥ ClockAsked SleepChange
  timing = record { calls = clock_calls; asked = asks_clock; sight = λ v who. no_files; changed = sleeps_changed }

  -- the calls on files that change the fork that called alone
  abbrev pub filing : Family file_cmp ⊥ Asked (Unit {0})
  filing = record { calls = file_calls; asked = asks; sight = λ v who. no_files; changed = own_changed }

  module _ (key_of : List ℕ → K) where
    -- a call on maps changes pages
    abbrev pub pages_changed : MapChange → Parts file_cmp → Parts file_cmp
    pages_changed change v = record v { pages = map_changed key_of change v.pages }

    -- the calls on maps
    abbrev pub mapping : Family file_cmp (List ℕ) MapAsked MapChange
    mapping = record { calls = map_calls; asked = asks_maps; sight = files_seen key_of; changed = pages_changed }

    -- the calls on JFNs
    abbrev pub opening : Family file_cmp ⊥ JfnAsked FileChange
    opening = record { calls = jfn_calls; asked = asks_jfns; sight = names_seen; changed = jfns_changed key_of }

    -- calls that are asked with the same, and change the same
    abbrev pub on_bytes : (List (ℕ × (ByteAsked → ByteTurn))) → Family file_cmp (List ℕ) ByteAsked ByteChange
    on_bytes rows = record { calls = rows; asked = asks_bytes key_of; sight = files_seen key_of; changed = bytes_changed key_of }

    -- the calls on bytes
    abbrev pub bytes : Family file_cmp (List ℕ) ByteAsked ByteChange
    bytes = on_bytes byte_calls

    -- the calls on strings of bytes
    abbrev pub strings : Family file_cmp (List ℕ) ByteAsked ByteChange
    strings = on_bytes string_calls

    -- all families, where pages of files are under the keys of the files' names
    abbrev pub families : List (Offer file_cmp)
    families = offered printing ∷ offered forking ∷ offered interrupting ∷ offered timing ∷ offered mapping ∷ offered filing ∷ offered opening ∷ offered bytes ∷ offered strings ∷ []
