use Rattle.std.proofs.Common.{◌≡◌, refl, arith, Bool, true, false, Option, Some, None, Ok, Err, ℕ}
use Rattle.std.specs.Prelude.{is_none, nat_lt, if◌then◌else◌}
use Rattle.plain_model.specs.Forks.{fork_in}
use Rattle.machine_names.specs.declared.names.TheConstants.{LAST_SERIAL}
use Rattle.plain_model.specs.Trees.{free_slot, next_serial}
use Rattle.fork_tree.specs.declared.tree.NoFork.TheVariants.{ForksFull, SerialsOut}
use Rattle.fork_tree.proofs.Kept.{full_room}
use Rattle.fork_tree.proofs.Listed.{full_listed, listed_full, listed_has, listed_most}
use Rattle.fork_tree.proofs.Ranges.{first_none, none_tells}
use Rattle.fork_tree.proofs.Slots.{in_found}
use Rattle.fork_tree.proofs.laws.a_full_job_has_thirty_forks.Goals as goal
use Rattle.plain_model.proofs.Shorthands.{is_free}

pub returns-clause-most : goal.returns-clause-most
returns-clause-most c = λ forks t. listed_most (fork_in forks t) 1 30

pub returns-clause-listed : goal.returns-clause-listed
returns-clause-listed c = λ tree f is lives.
    listed_has (fork_in tree.forks f.name.tty) 1 30 f.slot f (is.slotted.first f lives) (omega (arith, is.slotted.last f lives)) (in_found tree.forks is.slotted f.name.tty f.slot f (lives, refl, refl))

full_is : (o : Option ℕ) (b : Bool) → (if is_none o then Err ForksFull else (if b then Err SerialsOut else Ok (let u : Unit {0} = tt in u))) ≡ Err ForksFull → o ≡ None
full_is None b e = refl
full_is (Some n) true e = absurd (cc e)
full_is (Some n) false e = absurd (cc e)

pub returns-clause-full : goal.returns-clause-full
unfolding free_slot
returns-clause-full c = λ tree t. (
  λ e. listed_full (fork_in tree.forks t) 1 30 (none_tells (is_free tree.forks t) 1 30 (full_is (free_slot tree.forks t) (nat_lt LAST_SERIAL (next_serial tree t)) e)),
  λ e. full_room tree t (first_none (is_free tree.forks t) 1 30 (full_listed (fork_in tree.forks t) 1 30 e)),
)
