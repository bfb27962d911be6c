-- Moves, waits and arrivals keep the lists to the forks that can run, and turns join.
use Rattle.std.proofs.Common.{◌≡◌, List, [], ◌∷◌, ◌++◌, Bool, refl, ◌∙◌, ap, subst}
use Rattle.machine_names.specs.declared.names.ForkName.{ForkName}
use Rattle.script_texts.specs.declared.event.Step.{Step}
use Rattle.job_sched.proofs.Ties.{arrived_listed, enters, leaves, waits_listed}
use Rattle.job_sched.specs.Schedules.{Schedule, arrived, started, stopped, waited}
use Rattle.job_sched.specs.Ties.{AreListed, with_fork, without_fork}
use Rattle.plain_model.specs.Moves.{Move, Stops, Starts}
use Rattle.plain_model.specs.Run.{apply, state_after}
use Rattle.plain_model.specs.State.{PlainState}
use Rattle.turn_forms.specs.Turns.{AreReady, Arrives, IsTurnOf, Silent, TakesTurns, Waits, behind, moved, moved_silently, runs_behind}

pub moved_listed : (runs : ForkName → Bool) (ms : List Move) (c : Schedule) → AreListed runs c → AreListed (runs_behind ms runs) (moved ms c)
moved_listed runs [] c listed = listed
moved_listed runs (Stops f ∷ ms) c listed = moved_listed (without_fork runs f) ms (stopped c f) (leaves runs c f listed)
moved_listed runs (Starts f ∷ ms) c listed = moved_listed (with_fork runs f) ms (started c f) (enters runs c f listed)

pub silent_listed : (runs : ForkName → Bool) (quiet : List Silent) (c : Schedule) → AreListed runs c → AreListed runs (moved_silently quiet c)
silent_listed runs [] c listed = listed
silent_listed runs (Waits need ∷ quiet) c listed = silent_listed runs quiet (waited c need) (waits_listed runs c need listed)
silent_listed runs (Arrives done ∷ quiet) c listed = silent_listed runs quiet (arrived c done) (arrived_listed runs c done listed)

silent_joins : (quiet more : List Silent) (c : Schedule) → moved_silently more (moved_silently quiet c) ≡ moved_silently (quiet ++ more) c
silent_joins [] more c = refl
silent_joins (Waits need ∷ quiet) more c = silent_joins quiet more (waited c need)
silent_joins (Arrives done ∷ quiet) more c = silent_joins quiet more (arrived c done)

-- what happens before turns may happen in two parts
sooner : (quiet : List Silent) (c d e : Schedule) (s : PlainState) (ys : List Step) → d ≡ moved_silently quiet c → TakesTurns d s ys e → TakesTurns c s ys e
sooner quiet c d e s [] is (more, end) = (quiet ++ more, end ∙ ap (moved_silently more) is ∙ silent_joins quiet more c)
sooner quiet c d e s (y ∷ ys) is (more, ready, turn, rest) =
    let same : moved_silently more d ≡ moved_silently (quiet ++ more) c = ap (moved_silently more) is ∙ silent_joins quiet more c in
    let all = subst (λ (u : Schedule). AreReady s.forks u × IsTurnOf u y × TakesTurns (behind s y u) (apply s y).state ys e) same (ready, turn, rest) in
    (quiet ++ more, all.0, all.1, all.2)

pub turns_join : (c d e : Schedule) (s : PlainState) (xs ys : List Step) → TakesTurns c s xs d → TakesTurns d (state_after s xs) ys e → TakesTurns c s (xs ++ ys) e
turns_join c d e s [] ys (quiet, is) more = sooner quiet c d e s ys is more
turns_join c d e s (x ∷ xs) ys (quiet, ready, turn, rest) more = (quiet, ready, turn, turns_join (behind s x (moved_silently quiet c)) d e (apply s x).state xs ys rest more)
