use Rattle.std.proofs.Common.{◌-◌, ◌^◌, subst, arith}
use Rattle.std.specs.Prelude.{ℤ}
use Rattle.word36.specs.Arithmetic.{added, subtracted}
use Rattle.ka10_alu.specs.Laws.{Sums}
use Rattle.ka10_alu.proofs.Sums.{sums, added_is, subtracted_is}
use Rattle.ka10_alu.proofs.laws.sums_are_signed.Goals as goal

pub returns-clause-add : goal.returns-clause-add
returns-clause-add c a m small_a small_m =
    let P : ℤ → Type 0 = λ z. Sums z (added a m) in
    subst P (added_is a m) (sums a m 0 small_a small_m (omega arith))

pub returns-clause-subtract : goal.returns-clause-subtract
returns-clause-subtract c a m small_a small_m =
    let P : ℤ → Type 0 = λ z. Sums z (subtracted a m) in
    subst P (subtracted_is a m small_m) (sums a (2 ^ 36 - 1 - m) 1 small_a (omega arith) (omega arith))
