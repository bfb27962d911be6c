-- The last unit of a row, and the end of a quantum.
use Rattle.std.proofs.Common.{◌≡◌, ℕ, ◌+◌, ◌*◌, ◌/◌, ◌<◌, ◌≤◌, List, [], ◌∷◌, length, Bool, true, false, ◌&&◌, cond, inr, refl, sym, ◌∙◌, ap, arith}
use Rattle.std.specs.Prelude.{nat_le, nat_lt}
use Rattle.std.proofs.lemmas.Bool.Decides.{nat_tests}
use Rattle.std.proofs.lemmas.Nat.{div_below, le-div}
use Rattle.machine_names.specs.declared.names.ForkName.{ForkName}
use Rattle.fork_lists.specs.Following.{last_counted}
use Rattle.job_sched.specs.declared.member.Member.{Member}
use Rattle.job_sched.specs.Schedules.{Schedule, heads}
use Rattle.job_sched.specs.Units.{IsRow, IsTimed, row_ran}
use Rattle.page_waits.specs.Told.{ends_quantum}

-- one unit of the head is a row
pub row_one : (f : ForkName) (s : Schedule) → heads f s.ready ≡ true → IsTimed s → IsRow 1 s
row_one f s head timed = record { head = some s.ready head; within = inr (omega (arith, timed)) }
  where
    some : (ms : List Member) → heads f ms ≡ true → 0 < length ms
    some [] is = absurd (cc is)
    some (m ∷ ms) is = omega arith

pub counted_head : (f : ForkName) (s : Schedule) → heads f s.ready ≡ true → last_counted f s ≡ row_ran 1 s
counted_head f s is = ap (λ b. cond b (row_ran 1 s) s) is

pub counted_other : (f : ForkName) (s : Schedule) → heads f s.ready ≡ false → last_counted f s ≡ s
counted_other f s is = ap (λ b. cond b (row_ran 1 s) s) is

pub ends_other : (f : ForkName) (s : Schedule) → heads f s.ready ≡ false → ends_quantum f s ≡ false
ends_other f s is = ap (λ b. b && nat_le 200 (s.used + 1)) is

-- a quantum ends by one unit where it is as long as what was run
pub ends_head : (f : ForkName) (s : Schedule) (ended : ℕ) → heads f s.ready ≡ true → ended ≡ (s.used + 1) / 200 → nat_lt 0 ended ≡ ends_quantum f s
ends_head f s ended is counts = by (nat_le 200 (s.used + 1)) refl ∙ sym (ap (λ b. b && nat_le 200 (s.used + 1)) is)
  where
    by : (b : Bool) → nat_le 200 (s.used + 1) ≡ b → nat_lt 0 ended ≡ nat_le 200 (s.used + 1)
    by true e =
        let long : 1 * 200 ≤ s.used + 1 = grind (arith, nat_tests, e) in
        let some : 1 ≤ (s.used + 1) / 200 = le-div 1 (s.used + 1) 200 (omega arith) long in
        let more : 0 < ended = omega (arith, some, counts) in
        grind (arith, nat_tests, more) ∙ sym e
    by false e =
        let short : s.used + 1 < 1 * 200 = grind (arith, nat_tests, e) in
        let none : (s.used + 1) / 200 < 1 = div_below (s.used + 1) 200 1 (omega arith) short in
        let zero_ended : ended ≡ 0 = omega (arith, none, counts) in
        grind (arith, nat_tests, zero_ended) ∙ sym e
