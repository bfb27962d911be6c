use Rattle.std.proofs.Common.{not, ◌&&◌, List, refl, sym, ◌∙◌, ap, inl, inr}
use Rattle.std.proofs.lemmas.Bool.{cases_Bool}
use Rattle.std.proofs.Math.Bool.{and-false}
use Rattle.plain_model.specs.Forks.{runs_in}
use Rattle.plain_model.specs.Moves.{Move}
use Rattle.fork_lists.proofs.Chosen.{test_filled}
use Rattle.turn_forms.specs.Turns.{moved}
use Rattle.turn_forms.proofs.AllMoves.{all_followed}
use Rattle.turn_forms.proofs.ForkMoves.{made_moves, own_moves}
use Rattle.turn_forms.proofs.JobMoves.{all_moves, followed_moves}
use Rattle.turn_forms.proofs.laws.following_is_moving.Goals as goal

pub returns-clause-job : goal.returns-clause-job
returns-clause-job c = λ before after t l old new low tied keeps others.
    followed_moves before after old new t l.seen.items l.sched (test_filled l.sched tied.filled) (λ f here. (tied.each t).listed f here) (λ slot first last. (tied.each t).seen slot low first last) keeps
    ∙ ap (λ (ms : List Move). moved ms l.sched) (sym (all_moves before after old new t low others))

pub returns-clause-own : goal.returns-clause-own
returns-clause-own c = λ before after who l old new tied ran others.
    own_moves before after old new who who l.sched (test_filled l.sched tied.filled) ran (λ f other again. others f other) (λ apart. absurd (apart refl)) refl

pub returns-clause-made : goal.returns-clause-made
returns-clause-made c = made_moves

pub returns-clause-all : goal.returns-clause-all
returns-clause-all c = λ before after l old new tied keeps none_stops waiters.
    all_followed before after old new l.seen.items none_stops
    (λ f waits. elim (cases_Bool (runs_in after f)) [
      | inl runs ↦ ap (λ b. runs_in after f && not b) (waiters f waits runs) ∙ and-false (runs_in after f)
      | inr lost ↦ ap (λ b. b && not (runs_in before f)) lost
    ])
    keeps (λ t slot low first last. (tied.each t).seen slot low first last) l.sched (test_filled l.sched tied.filled) (λ f. (tied.each f.tty).listed f refl)
