-- Instructions in a row.
use Rattle.std.proofs.Common.{◌≡◌, ◌≢◌, ◌⊎◌, inl, inr, ℕ, zero, suc, ◌+◌, ◌-◌, ◌^◌, ◌<◌, ◌≤◌, Bool, true, false, refl, sym, ◌∙◌, ap, arith}
use Rattle.std.specs.Prelude.{◌==◌, if◌then◌else◌}
use Rattle.std.proofs.lemmas.Bool.Decides.{nat_tests, eqb_tells}
use Rattle.word36.specs.Words.{left, right, joined, is_negative}
use Rattle.plain_units.specs.declared.registers.Regs.{Regs}
use Rattle.plain_units.specs.Deeds.{up, down, halves_up, next_pc, pc_word}
use Rattle.ka10_unit.specs.Laws.{ups, vector, GoesOver, Moving, moved, CopiesBlock}

-- one word fewer behind one word more is as many
pub down_up : (a : ℕ) → a < 2 ^ 36 → down (up a) ≡ a
down_up a h = omega (arith, h)

-- the right half of the word of a program counter
pub pc_right : (regs : Regs) → right (pc_word regs) ≡ next_pc regs
pc_right regs = omega arith

-- AOBJN

module _ (n first : ℕ) (any : 1 ≤ n) (some : n ≤ 2 ^ 17) (fits : first + n < 2 ^ 18) where
  at_word : (k : ℕ) → k < n → ups k (vector n first) ≡ joined (2 ^ 18 - n + k) (first + k)
  unfolding ups
  at_word zero h = omega (arith, some)
  at_word (suc k) h =
      let before = at_word k (omega (arith, h)) in
      let next : up (joined (2 ^ 18 - n + k) (first + k)) ≡ joined (2 ^ 18 - n + suc k) (first + suc k) = omega (arith, some, fits, h) in
      ap up before ∙ next

  behind : (k : ℕ) → k ≡ n → ups k (vector n first) ≡ first + n
  unfolding ups
  behind zero h = omega (arith, any, h)
  behind (suc k) h =
      let before = at_word k (omega (arith, h)) in
      let next : up (joined (2 ^ 18 - n + k) (first + k)) ≡ first + n = omega (arith, some, fits, h) in
      ap up before ∙ next

  pub gone_over : GoesOver n first
  gone_over = record {
    each = at_word;
    negative = λ k h. ap is_negative (at_word k h) ∙ below k h;
    last = behind n refl;
    ends = ap is_negative (behind n refl) ∙ above;
  }
    where
      below : (k : ℕ) → k < n → is_negative (joined (2 ^ 18 - n + k) (first + k)) ≡ true
      below k h = let high : 2 ^ 35 ≤ joined (2 ^ 18 - n + k) (first + k) = omega (arith, some, fits, h) in grind (arith, nat_tests)

      above : is_negative (first + n) ≡ false
      above = let low : first + n < 2 ^ 35 = omega (arith, fits) in grind (arith, nat_tests)

-- BLT

halves_joined : (l r : ℕ) → l + 1 < 2 ^ 18 → r + 1 < 2 ^ 18 → halves_up (joined l r) ≡ joined (l + 1) (r + 1)
halves_joined l r low high = omega (arith, low, high)

module _ (n from to : ℕ) (words : ℕ → ℕ) (low : from + n < 2 ^ 18) (high : to + n < 2 ^ 18) where
  abbrev start : Moving
  start = record { pointer = joined from to; words = words }

  pointer_at : (k : ℕ) → k ≤ n → (moved k start).pointer ≡ joined (from + k) (to + k)
  unfolding moved
  pointer_at zero h = omega arith
  pointer_at (suc k) h =
      let before = pointer_at k (omega (arith, h)) in
      let next : joined (from + k + 1) (to + k + 1) ≡ joined (from + suc k) (to + suc k) = omega arith in
      ap halves_up before ∙ halves_joined (from + k) (to + k) (omega (arith, low, h)) (omega (arith, high, h)) ∙ next

  left_at : (k : ℕ) → k ≤ n → left (moved k start).pointer ≡ from + k
  left_at k h = let at = pointer_at k h in omega (arith, at, high, h)

  right_at : (k : ℕ) → k ≤ n → right (moved k start).pointer ≡ to + k
  right_at k h = let at = pointer_at k h in omega (arith, at, high, h)

  -- a word that no unit so far stored
  kept : (k x : ℕ) → k ≤ n → (x < to) ⊎ (to + k ≤ x) → (moved k start).words x ≡ words x
  unfolding moved
  kept zero x h other = refl
  kept (suc k) x h other =
      let at = right_at k (omega (arith, h)) in
      let apart : (x == right (moved k start).pointer) ≡ false = tells at other in
      ap (λ b. if b then (moved k start).words (left (moved k start).pointer) else (moved k start).words x) apart ∙ kept k x (omega (arith, h)) (sooner other)
    where
      tells : right (moved k start).pointer ≡ to + k → (x < to) ⊎ (to + suc k ≤ x) → (x == right (moved k start).pointer) ≡ false
      tells e (inl l) = grind (arith, nat_tests)
      tells e (inr l) = grind (arith, nat_tests)

      sooner : (x < to) ⊎ (to + suc k ≤ x) → (x < to) ⊎ (to + k ≤ x)
      sooner (inl l) = inl l
      sooner (inr l) = inr (omega (arith, l))

  module _ (apart : (from + n ≤ to) ⊎ (to + n ≤ from)) where
    source : (k i : ℕ) → k ≤ n → i < n → k ≤ i → (from + i < to) ⊎ (to + k ≤ from + i)
    source k i h l m = by apart
      where
        by : (from + n ≤ to) ⊎ (to + n ≤ from) → (from + i < to) ⊎ (to + k ≤ from + i)
        by (inl e) = inl (omega (arith, e, l))
        by (inr e) = inr (omega (arith, e, h))

    copied : (k i : ℕ) → k ≤ n → i < k → (moved k start).words (to + i) ≡ words (from + i)
    unfolding moved
    copied zero i h l = absurd (omega (arith, l))
    copied (suc k) i h l = by (λ less earlier. copied k i less earlier) (eqb_tells (to + i) (right (moved k start).pointer))
      where
        less : k ≤ n
        less = omega (arith, h)

        chosen : Bool → ℕ
        chosen b = if b then (moved k start).words (left (moved k start).pointer) else (moved k start).words (to + i)

        by : (k ≤ n → i < k → (moved k start).words (to + i) ≡ words (from + i)) → (((to + i == right (moved k start).pointer) ≡ true) × (to + i ≡ right (moved k start).pointer)) ⊎ (((to + i == right (moved k start).pointer) ≡ false) × (to + i ≢ right (moved k start).pointer)) → chosen (to + i == right (moved k start).pointer) ≡ words (from + i)
        by before (inl e) =
            let last : i ≡ k = (let r = right_at k less in omega (arith, e.1, r)) in
            ap chosen e.0 ∙ ap (moved k start).words (left_at k less) ∙ kept k (from + k) less (source k k less (omega (arith, h)) (omega arith)) ∙ ap (λ j. words (from + j)) (sym last)
        by before (inr e) = ap chosen e.0 ∙ before less (earlier (λ same. e.1 (ap (λ j. to + j) same ∙ sym (right_at k less))))
          where
            earlier : i ≢ k → i < k
            earlier apart = omega (arith, apart, l)

    pub block_copied : CopiesBlock n from to words
    block_copied = record { copied = λ i l. copied n i (omega arith) l; others = λ x other. kept n x (omega arith) other }
