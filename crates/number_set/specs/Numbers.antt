-- Sets of numbers.
use Rattle.std.specs.Prelude.{◌≡◌, ℕ, ◌≤◌, ◌<◌, true, false, refl}
use Rattle.std.specs.Ordering.{nat_cmp}
use Rattle.std.specs.Coded.{Coded, code_by, coded×, coded_ℕ}
use Rattle.std.specs.FinSet as set

-- some of the numbers below a bound
pub record Numbers : Type 0 where
  pub bound : ℕ
  pub members : set.FinSet nat_cmp

-- they are stored as their two parts
abbrev pub numbers_code : Coded Numbers
numbers_code =
    code_by (ℕ × set.FinSet nat_cmp) (coded× coded_ℕ (set.code coded_ℕ)) (λ s. (s.bound, s.members)) (λ p. record { bound = p.0; members = p.1 }) (λ _. refl)

-- each number from one on, below the bound, is there
abbrev pub AreAllThere : Numbers → ℕ → Type 0
AreAllThere s from = (k : ℕ) → from ≤ k → k < s.bound → set.contains s.members k ≡ true

-- the least number from one on that isn't there
pub record IsLeastAbsent (s : Numbers) (from n : ℕ) : Type 0 where
  pub after : from ≤ n
  pub below : n < s.bound
  pub absent : set.contains s.members n ≡ false
  pub there : (k : ℕ) → from ≤ k → k < n → set.contains s.members k ≡ true
