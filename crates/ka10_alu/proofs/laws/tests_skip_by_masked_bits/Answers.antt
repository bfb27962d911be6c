use Rattle.std.proofs.Common.{◌≡◌, Bool, true, false, sym, subst}
use Rattle.std.specs.Prelude.{◌↔◌}
use Rattle.ka10_alu.specs.MaskedBits.{AreMaskedClear}
use Rattle.ka10_alu.proofs.MaskedBits.{clear_tells, not_clear_tells, skips_at}
use Rattle.ka10_alu.proofs.laws.tests_skip_by_masked_bits.Goals as goal

pub returns-clause-equal : goal.returns-clause-equal
returns-clause-equal c op a mask e = subst (λ (b : Bool). (b ≡ true) ↔ AreMaskedClear a mask) (sym (skips_at op a mask 1 e)) (clear_tells a mask)

pub returns-clause-not_equal : goal.returns-clause-not_equal
returns-clause-not_equal c op a mask e = subst (λ (b : Bool). (b ≡ false) ↔ AreMaskedClear a mask) (sym (skips_at op a mask 3 e)) (not_clear_tells a mask)
