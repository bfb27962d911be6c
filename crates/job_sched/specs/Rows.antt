-- Numbers in rows: each number below a bound stands in one of some rows, once.
use Rattle.std.specs.Prelude.{◌≡◌, ℕ, zero, suc, ◌<◌, List, [], ◌∷◌, ◌++◌, length, map, sum, true, slice_index_or, set}
use Rattle.job_sched.specs.declared.rows.Row.{Row}
use Rattle.job_sched.specs.declared.rows.Row.TheVariants.{Free, Outside, Ready, Waiting}
use Rattle.frame_order.specs.FrameOrder.{IsOnce, stands_in, without}

-- the number of a row among the four
abbrev pub number : Row → ℕ
number Free = 0
number Outside = 1
number Ready = 2
number Waiting = 3

-- the bound, and the rows, each with its first number first
pub record Rows : Type 0 where
  pub numbers : ℕ
  pub rows : List (List ℕ)

-- one of the rows
abbrev pub row : Rows → ℕ → List ℕ
row r k = slice_index_or r.rows k []

-- how many numbers stand in all the rows
abbrev pub total : List (List ℕ) → ℕ
total rs = sum (map length rs)

-- the numbers below another, rising
unfoldable pub up_to : ℕ → List ℕ
up_to zero = []
up_to (suc n) = up_to n ++ n ∷ []

-- a number is taken out of the row in which it stands, and put last into one
abbrev pub moved : Rows → ℕ → ℕ → Rows
moved r n k = record r { rows = set (map (without n) r.rows) k (slice_index_or (map (without n) r.rows) k [] ++ n ∷ []) }

-- each number stands in one row, once
pub record IsRows (r : Rows) : Type 0 where
  pub once : (k : ℕ) → IsOnce (row r k)
  pub below : (k n : ℕ) → stands_in n (row r k) ≡ true → n < r.numbers
  pub apart : (j k n : ℕ) → stands_in n (row r j) ≡ true → stands_in n (row r k) ≡ true → j ≡ k
  pub total : total r.rows ≡ r.numbers
