-- A run whose lists bring those closer that it passes over is fair.
use Rattle.std.proofs.Common.{◌≡◌, suc, ◌<◌, ◌≤◌, List, [], ◌∷◌, ◌++◌, length, length-append, refl, ◌∙◌, ap, subst, arith, true}
use Rattle.machine_names.specs.declared.names.ForkName.{ForkName}
use Rattle.script_texts.specs.declared.event.Step.{Step}
use Rattle.plain_model.specs.declared.bounds.TheConstants.{MOST_PASSED}
use Rattle.plain_model.specs.Forks.{ForkMap, IsRunnable}
use Rattle.plain_model.specs.Passing.{IsFair, IsPassedOver}
use Rattle.plain_model.specs.Run.{apply, state_after}
use Rattle.plain_model.specs.State.{PlainState}
use Rattle.job_sched.specs.Lines.{ahead_of, is_in_line}
use Rattle.job_sched.specs.Schedules.{Schedule}
use Rattle.job_sched.specs.Ties.{IsSound}
use Rattle.job_sched.proofs.Lines.{few}
use Rattle.fork_lists.specs.declared.lists.ForkLists.{ForkLists}
use Rattle.fork_lists.specs.Ties.{AreTied}
use Rattle.fork_lists.proofs.Nearing.{in_line}
use Rattle.paged_events.specs.PassedOver.{AreNear, ComeCloser}

-- fewer entries than may pass a fork over are fair
pub few_fair : (s : PlainState) (steps : List Step) → length steps < MOST_PASSED → IsFair s steps
few_fair s steps few f before passed after is over =
    let all = ap length is in
    let two = length-append before (passed ++ after) in
    let three = length-append passed after in
    omega (arith, few)

-- the last of entries
closer_behind : (c : Schedule) (s : PlainState) (xs ys : List Step) (c' : Schedule) → ComeCloser c s (xs ++ ys) c' → (mid : Schedule) × ComeCloser mid (state_after s xs) ys c'
closer_behind c s [] ys c' all = (c, all)
closer_behind c s (x ∷ xs) ys c' all = closer_behind all.1 (apply s x).state xs ys c' all.3

-- how near a fork is before them bounds how many pass it over
passed_few : (f : ForkName) (c : Schedule) (s : PlainState) (x : Step) (xs after : List Step) (c' : Schedule) → ComeCloser c s (x ∷ (xs ++ after)) c' → IsPassedOver f s (x ∷ xs) → suc (length xs) ≤ ahead_of f c
passed_few f c s x [] after c' all over = omega (arith, all.2.waits f over.0 over.1)
passed_few f c s x (y ∷ ys) after c' all over =
    let rest = passed_few f all.1 (apply s x).state y ys after c' all.3 over.2 in
    omega (arith, rest, all.2.closer f over.0 over.1 over.2.0)

near_first : (c : Schedule) (s : PlainState) (xs : List Step) (c' : Schedule) → ComeCloser c s xs c' → AreNear s.forks c
near_first c s [] c' all = all.0
near_first c s (x ∷ xs) c' all = all.0

-- they are fair
pub closer_fair : (c : Schedule) (s : PlainState) (steps : List Step) (c' : Schedule) → ComeCloser c s steps c' → IsFair s steps
closer_fair c s steps c' all f before [] after is over = omega arith
closer_fair c s steps c' all f before (x ∷ xs) after is over =
    let there = closer_behind c s before (x ∷ (xs ++ after)) c' (subst (λ (l : List Step). ComeCloser c s l c') is all) in
    let few = passed_few f there.0 (state_after s before) x xs after c' there.1 over in
    let near = near_first there.0 (state_after s before) (x ∷ (xs ++ after)) c' there.1 f over.0 in
    omega (arith, few, near)

-- where the lists have the forks that can run and none is in page wait, these stand in line
pub tied_line : (forks : ForkMap) (l : ForkLists) → AreTied forks l → l.sched.waiting ≡ [] → (f : ForkName) → IsRunnable forks f → is_in_line f l.sched ≡ true
tied_line forks l tied calm f runs = in_line f l.sched calm ((tied.each f.tty).listed f refl ∙ runs)

-- and are near
pub near_tied : (forks : ForkMap) (l : ForkLists) → AreTied forks l → l.sched.waiting ≡ [] → IsSound l.sched → AreNear forks l.sched
near_tied forks l tied calm sound f runs = few f l.sched sound (tied_line forks l tied calm f runs)
