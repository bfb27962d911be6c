-- Marks, and how many of them stand in front.
use Rattle.std.specs.Prelude.{ℕ, zero, suc, ◌+◌, List, [], ◌∷◌, Bool, if◌then◌else◌}

abbrev pub one_if : Bool → ℕ
one_if b = if b then 1 else 0

-- how many of the first marks are set
abbrev pub marks_below : List Bool → ℕ → ℕ
marks_below [] n = 0
marks_below (m ∷ ms) zero = 0
marks_below (m ∷ ms) (suc n) = one_if m + marks_below ms n
