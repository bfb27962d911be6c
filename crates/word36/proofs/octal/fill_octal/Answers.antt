use Rattle.std.proofs.Common.{◌≡◌, ℕ, ◌++◌, ◌-◌, ◌+◌, ◌%◌, ◌∙◌, length, drop, length-set, subst, ap, arith}
use Rattle.word36.specs.Octal.{octal_padded}
use Rattle.word36.proofs.OctalLemmas.{digit_written}
use Rattle.word36.proofs.octal.fill_octal.Goals as goal

pub loop-place-preserved : goal.loop-place-preserved
loop-place-preserved c =
    let many = length-set c.loop-place.digits (c.loop-place.place - 1) (48 + c.loop-place.rest % 8) in
    rw many (digit_written c.loop-place.place c.loop-place.rest c.loop-place.digits c.loop-place-test.true (omega arith) ∙ c.loop-place.invariant)

pub returns : goal.returns
unfolding octal_padded
returns c =
    let none : c.loop-place.place ≡ 0 = omega arith in
    let P : ℕ → Type 0 = λ p. octal_padded p c.loop-place.rest ++ drop p c.loop-place.digits ≡ octal_padded (length c.loop-place.digits) c.args.n in
    let written = subst P none c.loop-place.invariant in
    let many : length c.loop-place.digits ≡ length c.args.digits.now = omega arith in
    written ∙ ap (λ k. octal_padded k c.args.n) many
