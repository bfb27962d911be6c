-- How a fork is made.
use Rattle.std.specs.Prelude.{◌≡◌, ◌≢◌, ℕ, ◌-◌, Option, None, Some, IsSome, Result, Ok, Err, if◌then◌else◌, is_none, nat_lt}
use Rattle.std.specs.Option.{option_map_or}
use Rattle.std.specs.FinMap as map
use Rattle.machine_names.specs.declared.names.Tty.{Tty}
use Rattle.machine_names.specs.declared.names.ForkName.{ForkName}
use Rattle.machine_names.specs.declared.names.TheConstants.{LAST_SERIAL}
use Rattle.plain_model.specs.declared.fork.Body.{Body}
use Rattle.plain_model.specs.declared.fork.Fork.{Fork}
use Rattle.plain_model.specs.Trees.{PlainTree, next_serial, next_name, free_slot, new_fork, with_body, with_made}
use Rattle.fork_tree.specs.declared.tree.NoFork.{NoFork}
use Rattle.fork_tree.specs.declared.tree.NoFork.TheVariants.{ForksFull, SerialsOut}

-- whether a job may have a fork more: not where each slot has one, nor where the terminal's serials are used up
abbrev pub room_for : PlainTree → Tty → Result (Unit {0}) NoFork
room_for tree t = if is_none (free_slot tree.forks t) then Err ForksFull else (if nat_lt LAST_SERIAL (next_serial tree t) then Err SerialsOut else Ok tt)

-- the slot for that fork, or why there is none
abbrev pub slot_for : PlainTree → Tty → Result ℕ NoFork
slot_for tree t = option_map_or (λ slot. if nat_lt LAST_SERIAL (next_serial tree t) then Err SerialsOut else Ok slot) (free_slot tree.forks t) (Err ForksFull)

-- a fork is made in a slot, with the next serial
abbrev pub with_new_in : PlainTree → Tty → Option ℕ → ℕ → PlainTree
with_new_in tree t superior slot = with_made tree (new_fork (next_name tree t) slot superior)

-- a fork is made in the least free slot
abbrev pub with_new : PlainTree → Tty → Option ℕ → PlainTree
with_new tree t superior = option_map_or (with_new_in tree t superior) (free_slot tree.forks t) tree

-- a fork is made, and its name answered; or it is refused, and nothing changes
abbrev pub Makes : PlainTree → PlainTree → Tty → Option ℕ → Result ForkName NoFork → Type 0
Makes old new t superior (Ok name) = (room_for old t ≡ Ok tt) × (name ≡ next_name old t) × (new ≡ with_new old t superior)
Makes old new t superior (Err cause) = (room_for old t ≡ Err cause) × (new ≡ old)

-- the name of the fork that was made last at a terminal
abbrev pub last_name : PlainTree → Tty → ForkName
last_name tree t = record { tty = t; serial = next_serial tree t - 1 }

-- each fork that was there is as it was, and nobody is there beside them but the one that was made last at a terminal
pub record AddsLast (t : Tty) (old new : PlainTree) : Type 0 where
  pub kept : (name : ForkName) (f : Fork) → map.get old.forks name ≡ Some f → map.get new.forks name ≡ Some f
  pub added : (name : ForkName) → map.get old.forks name ≡ None → IsSome (map.get new.forks name) → name ≡ last_name new t

-- so where of one fork, which is of that terminal, the body may be another
pub record AddsBeside (who : ForkName) (old new : PlainTree) : Type 0 where
  pub kept : (name : ForkName) (f : Fork) → name ≢ who → map.get old.forks name ≡ Some f → map.get new.forks name ≡ Some f
  pub own : (f : Fork) → map.get old.forks who ≡ Some f → (body : Body) × (map.get new.forks who ≡ Some (with_body body f))
  pub added : (name : ForkName) → map.get old.forks name ≡ None → IsSome (map.get new.forks name) → name ≡ last_name new who.tty
