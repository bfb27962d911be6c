-- Channels that are added to a word, or taken away.
use Rattle.std.proofs.Common.{◌≡◌, ◌⊎◌, inl, inr, ℕ, ◌-◌, ◌<◌, not, ◌||◌, ◌&&◌, refl, ◌∙◌, ap, arith, lit<, lit≤}
use Rattle.std.specs.Prelude.{◌==◌}
use Rattle.std.proofs.lemmas.Bool.{cases_eq}
use Rattle.std.proofs.lemmas.Nat.Bits.{bit_at-lt}
use Rattle.word36.specs.Words.{bit}
use Rattle.word36.specs.declared.opcodes.TheConstants.{ANDCM, IOR}
use Rattle.ka10_alu.specs.MaskedBits.{truth}
use Rattle.ka10_alu.proofs.MaskedBits.{boolean_bit}
use Rattle.psi_calls.specs.Laws.{AreAdded, AreTaken}

-- a bit is 0 or 1
either : (a : ℕ) → a < 2 → (a ≡ 0) ⊎ (a ≡ 1)
either a low = elim (cases_eq a 0) [
  | inl zero ↦ inl zero
  | inr ne ↦ inr (omega arith)
]

on_both : (P : ℕ → ℕ → Type 0) → P 0 0 → P 0 1 → P 1 0 → P 1 1 → (a b : ℕ) → a < 2 → b < 2 → P a b
on_both P p q r s a b first second = elim (either a first) [
  | inl zero ↦ elim (either b second) [
    | inl none ↦ rw (zero, none) p
    | inr one ↦ rw (zero, one) q
  ]
  | inr is ↦ elim (either b second) [
    | inl none ↦ rw (is, none) r
    | inr one ↦ rw (is, one) s
  ]
]

pub added : AreAdded
added some more channel low =
    ap (λ b. b == 1) (boolean_bit IOR some more channel (lit≤ tt, lit< tt) low)
    ∙ on_both (λ a b. (truth 7 a b == 1) ≡ ((a == 1) || (b == 1))) refl refl refl refl (bit some channel) (bit more channel) (bit_at-lt some (35 - channel)) (bit_at-lt more (35 - channel))

pub taken : AreTaken
taken some others channel low =
    ap (λ b. b == 1) (boolean_bit ANDCM some others channel (lit≤ tt, lit< tt) low)
    ∙ on_both (λ a b. (truth 4 a b == 1) ≡ ((a == 1) && not (b == 1))) refl refl refl refl (bit some channel) (bit others channel) (bit_at-lt some (35 - channel)) (bit_at-lt others (35 - channel))
