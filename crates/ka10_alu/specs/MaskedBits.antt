-- Boolean functions and tests, bit by bit.
use Rattle.std.specs.Prelude.{◌≡◌, ℕ, ◌+◌, ◌-◌, ◌*◌, ◌<◌, cond, ◌==◌}
use Rattle.std.specs.Int.{bit_at}
use Rattle.word36.specs.Words.{bit}

-- a Boolean function's number is its truth table: from the right the values at 1 and 1, 0 and 1, 1 and 0, 0 and 0 of accumulator and memory
abbrev pub truth : ℕ → ℕ → ℕ → ℕ
truth function a m = bit_at function (1 - a + 2 * (1 - m))

-- what a test makes of a masked bit, by its letter's number: it stays (N), or becomes 0 (Z), its complement (C), 1 (O)
abbrev pub changed : ℕ → ℕ → ℕ
changed letter a = cond (letter == 0) a (cond (letter == 1) 0 (cond (letter == 2) (1 - a) 1))

-- the masked bits are changed, and no others
pub record ChangesMasked (letter a mask result : ℕ) : Type 0 where
  pub masked : (i : ℕ) → i < 36 → bit mask i ≡ 1 → bit result i ≡ changed letter (bit a i)
  pub others : (i : ℕ) → i < 36 → bit mask i ≡ 0 → bit result i ≡ bit a i

-- the masked bits of a word are all 0
abbrev pub AreMaskedClear : ℕ → ℕ → Type 0
AreMaskedClear a mask = (i : ℕ) → i < 36 → bit mask i ≡ 1 → bit a i ≡ 0
