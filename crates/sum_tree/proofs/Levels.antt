-- A level of counts and the level above it.
use Rattle.std.proofs.Common.{◌≡◌, ◌≢◌, ℕ, zero, suc, ◌+◌, ◌-◌, ◌*◌, ◌/◌, ◌%◌, ◌<◌, ◌≤◌, inl, inr, List, [], ◌∷◌, Bool, true, false, length, replicate, set, map as each, refl, sym, ◌∙◌, ap, arith, get_or-set_same, get_or-set_other, get_or}
use Rattle.std.specs.Prelude.{slice_index}
use Rattle.std.proofs.lemmas.Bool.{cases_eq}
use Rattle.std.proofs.lemmas.List.{length-set}
use Rattle.sum_tree.specs.Sums.{AreSumsAbove, first_counts}
use Rattle.sum_tree.specs.Marks.{marks_below, one_if}

-- ---- sums

pub fewer : (f : ℕ → ℕ) (k m : ℕ) → first_counts f k ≤ first_counts f (k + m)
fewer f k zero = let e : k + zero ≡ k = omega arith in omega (arith, ap (first_counts f) e)
fewer f k (suc m) = let e : k + suc m ≡ suc (k + m) = omega arith in omega (arith, fewer f k m, ap (first_counts f) e)

pub no_more : (f : ℕ → ℕ) (k m : ℕ) → k ≤ m → first_counts f k ≤ first_counts f m
no_more f k m h = let e : k + (m - k) ≡ m = omega arith in omega (arith, fewer f k (m - k), ap (first_counts f) e)

-- one count is no more than all up to it
pub one_of : (f : ℕ → ℕ) (k m : ℕ) → k < m → f k ≤ first_counts f m
one_of f k m h = let e : suc k ≤ m = omega arith in omega (arith, no_more f (suc k) m e)

beyond : (xs : List ℕ) (i : ℕ) → length xs ≤ i → slice_index xs i ≡ 0
beyond [] i h = refl
beyond (x ∷ xs) zero h = absurd (omega arith)
beyond (x ∷ xs) (suc i) h = beyond xs i (omega arith)

module _ (counts above : List ℕ) (level : AreSumsAbove counts above) where
  -- sums of pairs are sums
  pub pairs_below : (m : ℕ) → first_counts (slice_index above) m ≡ first_counts (slice_index counts) (2 * m)
  pairs_below zero = refl
  pairs_below (suc m) =
      let e : 2 * suc m ≡ suc (suc (2 * m)) = omega arith in
      let f : 2 * m + 1 ≡ suc (2 * m) = omega arith in
      omega (arith, pairs_below m, level.each m, ap (first_counts (slice_index counts)) e, ap (slice_index counts) f)

  -- all counts together are all sums together
  pub all_alike : first_counts (slice_index above) (length above) ≡ first_counts (slice_index counts) (length counts)
  all_alike = elim (cases_eq (2 * length above) (length counts)) [
    | inl e ↦ pairs_below (length above) ∙ ap (first_counts (slice_index counts)) e
    | inr ne ↦
        let one : 2 * length above ≡ suc (length counts) = omega (arith, level.size) in
        omega (arith, pairs_below (length above), ap (first_counts (slice_index counts)) one, beyond counts (length counts) (omega arith))
  ]

  -- the counts below a number: the sums of pairs below it, and the last one where it is odd
  pub below_even : (n : ℕ) → n % 2 ≢ 1 → first_counts (slice_index above) (n / 2) ≡ first_counts (slice_index counts) n
  below_even n ne = let e : 2 * (n / 2) ≡ n = omega arith in pairs_below (n / 2) ∙ ap (first_counts (slice_index counts)) e

  pub below_odd : (n : ℕ) → n % 2 ≡ 1 → first_counts (slice_index above) (n / 2) + slice_index counts (n - 1) ≡ first_counts (slice_index counts) n
  below_odd n odd =
      let e : n ≡ suc (2 * (n / 2)) = omega arith in
      let f : n - 1 ≡ 2 * (n / 2) = omega arith in
      omega (arith, pairs_below (n / 2), ap (first_counts (slice_index counts)) e, ap (slice_index counts) f)

  module _ (n x y : ℕ) (within : n < length counts) (both : y + slice_index counts n ≡ x + slice_index above (n / 2)) where
    -- one count changes, and the one above it by as much
    pub level_changed : AreSumsAbove (set counts n x) (set above (n / 2) y)
    level_changed = record {
      several = omega (arith, level.several, length-set counts n x);
      size = omega (arith, level.size, length-set counts n x, length-set above (n / 2) y);
      each = λ i. elim (cases_eq i (n / 2)) [
        | inl e ↦ elim (cases_eq n (2 * i)) [
          | inl even ↦
              let first : slice_index (set counts n x) (2 * i) ≡ x = ap (slice_index (set counts n x)) (sym even) ∙ get_or-set_same counts n x 0 within in
              let was : slice_index counts n ≡ slice_index counts (2 * i) = ap (slice_index counts) even in
              let other : slice_index (set counts n x) (2 * i + 1) ≡ slice_index counts (2 * i + 1) = get_or-set_other counts n (2 * i + 1) x 0 (omega arith) in
              let up : slice_index (set above (n / 2) y) i ≡ y = ap (slice_index (set above (n / 2) y)) e ∙ get_or-set_same above (n / 2) y 0 (omega (arith, level.size)) in
              omega (arith, first, was, other, up, level.each i, both, ap (slice_index above) e)
          | inr odd ↦
              let is : n ≡ 2 * i + 1 = omega arith in
              let first : slice_index (set counts n x) (2 * i + 1) ≡ x = ap (slice_index (set counts n x)) (sym is) ∙ get_or-set_same counts n x 0 within in
              let was : slice_index counts n ≡ slice_index counts (2 * i + 1) = ap (slice_index counts) is in
              let other : slice_index (set counts n x) (2 * i) ≡ slice_index counts (2 * i) = get_or-set_other counts n (2 * i) x 0 (omega arith) in
              let up : slice_index (set above (n / 2) y) i ≡ y = ap (slice_index (set above (n / 2) y)) e ∙ get_or-set_same above (n / 2) y 0 (omega (arith, level.size)) in
              omega (arith, first, was, other, up, level.each i, both, ap (slice_index above) e)
        ]
        | inr ne ↦
            let up : slice_index (set above (n / 2) y) i ≡ slice_index above i = get_or-set_other above (n / 2) i y 0 ne in
            let one : slice_index (set counts n x) (2 * i) ≡ slice_index counts (2 * i) = get_or-set_other counts n (2 * i) x 0 (omega arith) in
            let other : slice_index (set counts n x) (2 * i + 1) ≡ slice_index counts (2 * i + 1) = get_or-set_other counts n (2 * i + 1) x 0 (omega arith) in
            omega (arith, up, one, other, level.each i)
      ];
    }

  -- above a count stands one that is no less
  pub no_less : (n : ℕ) → slice_index counts n ≤ slice_index above (n / 2)
  no_less n = elim (cases_eq n (2 * (n / 2))) [
    | inl even ↦ omega (arith, level.each (n / 2), ap (slice_index counts) even)
    | inr odd ↦ let is : n ≡ 2 * (n / 2) + 1 = omega arith in omega (arith, level.each (n / 2), ap (slice_index counts) is)
  ]

-- ---- marks

from_first : (f : ℕ → ℕ) (m : ℕ) → first_counts f (suc m) ≡ f 0 + first_counts (λ d. f (suc d)) m
from_first f zero = omega arith
from_first f (suc m) = omega (arith, from_first f m)

none_counted : (m : ℕ) → first_counts (λ d. 0) m ≡ 0
none_counted zero = refl
none_counted (suc m) = omega (arith, none_counted m)

pub marks_counted : (marks : List Bool) (n : ℕ) → first_counts (slice_index (each one_if marks)) n ≡ marks_below marks n
marks_counted [] n = none_counted n
marks_counted (m ∷ ms) zero = refl
marks_counted (m ∷ ms) (suc n) = from_first (slice_index (each one_if (m ∷ ms))) n ∙ ap (λ k. one_if m + k) (marks_counted ms n)

one_at_most : (b : Bool) → one_if b ≤ 1
one_at_most true = omega arith
one_at_most false = omega arith

pub few_marks : (marks : List Bool) (n : ℕ) → marks_below marks n ≤ length marks
few_marks [] n = omega arith
few_marks (m ∷ ms) zero = omega arith
few_marks (m ∷ ms) (suc n) = omega (arith, one_at_most m, few_marks ms n)

-- where one isn't marked, not all are
pub fewer_marks : (marks : List Bool) (n : ℕ) → n < length marks → get_or marks n false ≡ false → marks_below marks (length marks) < length marks
fewer_marks [] n h not = absurd (omega arith)
fewer_marks (m ∷ ms) zero h not = let z : one_if m ≡ 0 = ap one_if not in omega (arith, z, few_marks ms (length ms))
fewer_marks (m ∷ ms) (suc n) h not = omega (arith, one_at_most m, fewer_marks ms n (omega arith) not)

pub counted_at : (marks : List Bool) (n : ℕ) → slice_index (each one_if marks) n ≡ one_if (get_or marks n false)
counted_at [] n = refl
counted_at (m ∷ ms) zero = refl
counted_at (m ∷ ms) (suc n) = counted_at ms n

pub mark_changed : (marks : List Bool) (n : ℕ) (b : Bool) → set (each one_if marks) n (one_if b) ≡ each one_if (set marks n b)
mark_changed [] n b = refl
mark_changed (m ∷ ms) zero b = refl
mark_changed (m ∷ ms) (suc n) b = ap (λ l. one_if m ∷ l) (mark_changed ms n b)

pub nothing_changed : (marks : List Bool) (n : ℕ) (b : Bool) → get_or marks n false ≡ b → n < length marks → set marks n b ≡ marks
nothing_changed [] n b is h = refl
nothing_changed (m ∷ ms) zero b is h = ap (λ c. c ∷ ms) (sym is)
nothing_changed (m ∷ ms) (suc n) b is h = ap (λ l. m ∷ l) (nothing_changed ms n b is (omega arith))

pub none_marked : (n : ℕ) → each one_if (replicate n false) ≡ replicate n 0
none_marked zero = refl
none_marked (suc n) = ap (λ l. 0 ∷ l) (none_marked n)

pub each_length : (marks : List Bool) → length (each one_if marks) ≡ length marks
each_length [] = refl
each_length (m ∷ ms) = ap suc (each_length ms)
