-- Where the same forks can run, nobody stops or starts, and the lists move silently alone.
use Rattle.std.proofs.Common.{◌≡◌, [], ◌++◌, Bool, true, false, not, ◌&&◌, filter, map, refl, sym, ◌∙◌, ap}
use Rattle.job_sched.specs.Schedules.{Schedule}
use Rattle.machine_names.specs.declared.names.ForkName.{ForkName}
use Rattle.plain_model.specs.Forks.{ForkMap, runs_in}
use Rattle.plain_model.specs.Moves.{Starts, Stops, lets_run, moves, names_of, stopped_of, waits_in}
use Rattle.turn_forms.specs.Turns.{moved}
use Rattle.turn_forms.proofs.Nothing.{all_fail}
use Rattle.page_waits.specs.Told.{MovesSilently, TookDeed}

never_both : (b : Bool) → (b && not b) ≡ false
never_both true = refl
never_both false = refl

pub no_moves : (before after : ForkMap) → ((g : ForkName) → runs_in after g ≡ runs_in before g) → moves before after ≡ []
unfolding moves
no_moves before after same =
    let stops : stopped_of before after ≡ [] = all_fail (λ n. runs_in before n && not (runs_in after n)) (λ n. ap (λ b. runs_in before n && not b) (same n) ∙ never_both (runs_in before n)) (names_of before) in
    let starts : lets_run before after ≡ [] = all_fail (λ n. runs_in after n && not (runs_in before n)) (λ n. ap (λ b. b && not (runs_in before n)) (same n) ∙ never_both (runs_in before n)) (names_of after) in
    λ i. map Stops (stops i) ++ (map Starts (filter (waits_in before) (starts i)) ++ map Starts (filter (λ n. not (waits_in before n)) (starts i)))

pub nothing_took : (f f' : ForkMap) (old new : Schedule) → f' ≡ f → MovesSilently old new → TookDeed f f' old new
nothing_took f f' old new same silent = record {
  begun = new;
  silent = silent;
  told = record { needs = []; are = sym (ap (λ ms. moved ms new) (no_moves f f' (λ g. ap (λ (fs : ForkMap). runs_in fs g) same))) };
}
