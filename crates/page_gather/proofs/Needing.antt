-- What is needed first, over whatever drum.
use Rattle.std.proofs.Common.{◌≡◌, ◌≤◌, ◌<◌, ℕ, Option, None, Some, true, false, refl, arith}
use Rattle.std.specs.Prelude.{IfSome}
use Rattle.std.specs.Option.{option_map}
use Rattle.page_homes.specs.declared.homes.Home.{Home}
use Rattle.machine_names.specs.declared.names.Kind.{Kind}
use Rattle.machine_names.specs.declared.names.Kind.TheVariants.{Read, Write, Execute}
use Rattle.machine_names.specs.declared.names.Slot.{Slot}
use Rattle.page_contracts.specs.declared.answers.Need.TheVariants as need
use Rattle.page_contracts.specs.declared.store.Room.{Room}
use Rattle.page_contracts.specs.declared.store.Room.TheVariants as room
use Rattle.page_contracts.specs.Stores.{StoreMeaning, IsNeeded}
use Rattle.page_gather.specs.declared.walk.Walked.{Walked}
use Rattle.page_gather.specs.declared.makings.Makings.{Makings}
use Rattle.page_gather.specs.declared.makings.Makings.TheVariants.{Nothing, Zero, Copy, Both}
use Rattle.page_gather.specs.Gathering.{AnswerNeeds, changes_of, concluded, homes_of, most_made}
use Rattle.page_gather.specs.Stepped.{StepNeeds, step_of}
use Rattle.page_gather.specs.Walks.{View, Ends, Goes, copied_walked}

-- one home at least, and two where a copy is made
pub one_made : (kind : Kind) → 1 ≤ most_made kind
one_made Read = omega arith
one_made Write = omega arith
one_made Execute = omega arith

pub two_made : (kind : Kind) (w : Walked) (slot : Slot) → copied_walked kind w ≡ Some slot → 2 ≤ most_made kind
two_made Read w slot e = absurd (cc e)
two_made Write w slot e = omega arith
two_made Execute w slot e = absurd (cc e)

-- as many homes as entries at most
pub homes_few : (m : Makings) → homes_of m ≤ changes_of m
homes_few Nothing = omega arith
homes_few (Zero c) = omega arith
homes_few (Copy c true) = omega arith
homes_few (Copy c false) = omega arith
homes_few (Both c d) = omega arith

module _ {P : Type 0} (store : StoreMeaning P) (p : P) where
  -- an entry needs nothing
  pub entry_needs : (v : View) → StepNeeds store p (step_of v)
  entry_needs (Ends empty a) = tt
  entry_needs (Goes serial page a) = tt

  page_first_needs : (most : ℕ) (away : Option Home) → IfSome away (λ home. IsNeeded store 1 p (need.Page home)) → AnswerNeeds store most p (concluded room.Enough (option_map (λ home. home.0) away))
  page_first_needs most None needs = tt
  page_first_needs most (Some home) needs = needs

  -- what is concluded from the room and the page
  pub concluded_needs : (most homes : ℕ) (r : Room) (away : Option Home) → homes ≤ most → (r ≡ room.NeedFrame → store.spare p < homes) → IfSome away (λ home. IsNeeded store 1 p (need.Page home)) → AnswerNeeds store most p (concluded r (option_map (λ home. home.0) away))
  concluded_needs most homes room.Full away few frames needs = tt
  concluded_needs most homes room.Enough away few frames needs = page_first_needs most away needs
  concluded_needs most homes room.NeedFrame None few frames needs = let less = frames refl in omega (arith, less, few)
  concluded_needs most homes room.NeedFrame (Some home) few frames needs = needs
