-- What a turn answers that changes the fork that called alone.
use Rattle.std.specs.Prelude.{◌≡◌}
use Rattle.plain_pages.specs.PlainPages.{NumberedPages}
use Rattle.plain_model.specs.Calls.{Turn, no_files, turn_on}
use Rattle.call_turns.specs.declared.answer.Answer.{Answer}
use Rattle.call_turns.specs.Answers.{FitsAnswer, IsDone, answer_of}

-- whatever the pages, it is how the turn ends, within its limits, and nothing is needed first
pub record Answers (t : Turn ⊥ (Unit {0})) (answer : Answer) : Type 0 where
  pub told : (p : NumberedPages) → answer ≡ answer_of (turn_on no_files p t).end
  pub done : IsDone answer
  pub fits : FitsAnswer answer
