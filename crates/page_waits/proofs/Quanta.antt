-- How much of a quantum may be used: behind a search that ended transfers nobody has used any, so a quantum ends only with all its units.
use Rattle.std.proofs.Common.{◌≡◌, ℕ, zero, suc, ◌+◌, ◌-◌, ◌≤◌, List, [], ◌∷◌, ◌++◌, Bool, true, false, ◌&&◌, nat_le, if◌then◌else◌, refl, sym, ◌∙◌, ap, arith}
use Rattle.std.proofs.lemmas.Bool.Decides.{nat_tests}
use Rattle.job_sched.specs.Schedules.{Schedule, arrived, first_seated, heads, put_to_wait, quantum_ended, rotated, sent_out, stands, started, stopped, turned, waited}
use Rattle.job_sched.specs.Units.{row_ran, unit_ran}
use Rattle.job_sched.specs.declared.member.Member.{Member}
use Rattle.machine_names.specs.declared.names.ForkName.{ForkName}
use Rattle.machine_names.specs.declared.names.TheConstants.{QUANTUM}
use Rattle.page_contracts.specs.declared.answers.Need.{Need}
use Rattle.page_waits.specs.Told.{TookRow, all_arrived}
use Rattle.plain_model.specs.Forks.{ForkMap}
use Rattle.plain_model.specs.Moves.{Move, Starts, Stops, moves}
use Rattle.turn_forms.specs.Turns.{Arrives, Silent, Waits, moved, moved_silently}

-- what happens silently uses nothing of a quantum
wait_unused : (ms : List Member) (need : Need) (c : Schedule) → c.used ≡ 0 → (put_to_wait ms need c).used ≡ 0
wait_unused [] need c none = none
wait_unused (m ∷ ms) need c none = refl

pub silent_unused : (xs : List Silent) (c : Schedule) → c.used ≡ 0 → (moved_silently xs c).used ≡ 0
silent_unused [] c none = none
silent_unused (Waits need ∷ xs) c none = silent_unused xs (waited c need) (wait_unused c.ready need c none)
silent_unused (Arrives need ∷ xs) c none = silent_unused xs (arrived c need) none

-- a unit uses one at most
seated_used : (os : List ForkName) (ks : List ℕ) (s : Schedule) → (first_seated os ks s).used ≡ s.used
seated_used [] ks s = refl
seated_used (o ∷ os) [] s = refl
seated_used (o ∷ os) (k ∷ ks) s = refl

rotated_used : (ms : List Member) (s : Schedule) → (rotated ms s).used ≤ s.used
rotated_used [] s = omega arith
rotated_used (m ∷ ms) s = omega arith

sent_used : (ms : List Member) (s : Schedule) → (sent_out ms s).used ≤ s.used
sent_used [] s = omega arith
sent_used (m ∷ ms) s = omega arith

turned_used : (os : List ForkName) (s : Schedule) → (turned os s).used ≤ s.used
turned_used [] s = rotated_used s.ready s
turned_used (o ∷ os) s =
    let out = sent_out s.ready s in
    let same = seated_used out.outside out.spare out in
    let less = sent_used s.ready s in
    omega arith

counted_used : (b : Bool) (s : Schedule) → (if b then quantum_ended s else (record s { used = s.used + 1 })).used ≤ s.used + 1
counted_used true s = let less = turned_used s.outside s in omega arith
counted_used false s = omega arith

unit_used : (ms : List Member) (s : Schedule) → (unit_ran ms s).used ≤ s.used + 1
unit_used [] s = omega arith
unit_used (m ∷ ms) s = counted_used (nat_le QUANTUM (s.used + 1)) s

row_used : (n : ℕ) (s : Schedule) → (row_ran n s).used ≤ s.used + n
unfolding row_ran
row_used zero s = omega arith
row_used (suc n) s =
    let one = unit_used s.ready s in
    let rest = row_used n (unit_ran s.ready s) in
    omega arith

-- and what forks start, stop or are told uses none
left_used : (b : Bool) (used : ℕ) → (if b then 0 else used) ≤ used
left_used true used = omega arith
left_used false used = omega arith

woken_used : (b : Bool) (s : Schedule) (f : ForkName) → (if b then s else (record s { outside = s.outside ++ f ∷ [] })).used ≡ s.used
woken_used true s f = refl
woken_used false s f = refl

moved_used : (ms : List Move) (s : Schedule) → (moved ms s).used ≤ s.used
moved_used [] s = omega arith
moved_used (Stops f ∷ ms) s =
    let rest = moved_used ms (stopped s f) in
    let less = left_used (heads f s.ready) s.used in
    omega arith
moved_used (Starts f ∷ ms) s =
    let rest = moved_used ms (started s f) in
    let same = woken_used (stands f s) s f in
    omega arith

told_used : (needs : List Need) (s : Schedule) → (all_arrived needs s).used ≡ s.used
told_used [] s = refl
told_used (need ∷ needs) s = told_used needs (arrived s need)

used_up : (head : Bool) (used : ℕ) → (head && nat_le QUANTUM (used + 1)) ≡ true → QUANTUM ≤ used + 1
used_up true used is = grind (arith, nat_tests, is)
used_up false used is = absurd cc

-- where nothing of a quantum was used, one ends only with a row of all its units
pub ends_whole : (f : ForkName) (count : ℕ) (ended : Bool) (before after : ForkMap) (old new : Schedule) → TookRow f count ended before after old new → old.used ≡ 0 → ended ≡ true → QUANTUM ≤ count
ends_whole f count ended before after old new row unused is =
    let begun = ap (λ (c : Schedule). c.used) row.silent.are ∙ silent_unused row.silent.silent old unused in
    let ran = row_ran (count - 1) row.begun in
    let now = moved (moves before after) ran in
    let units = row_used (count - 1) row.begun in
    let following = moved_used (moves before after) ran in
    let told = told_used row.counted.needs now in
    let last = used_up (heads f (all_arrived row.counted.needs now).ready) (all_arrived row.counted.needs now).used (sym row.counted.ends ∙ is) in
    omega arith
