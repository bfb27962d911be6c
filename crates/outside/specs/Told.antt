-- Bytes that an object of the outside may tell.
use Rattle.std.specs.Prelude.{◌≡◌, ℕ, List, [], ◌++◌, Option, Some}

-- bytes that are told have these behind them now
abbrev pub Grows : Option (List ℕ) → Option (List ℕ) → List ℕ → Type 0
Grows old new bytes = (xs : List ℕ) → old ≡ Some xs → new ≡ Some (xs ++ bytes)

-- bytes that are told began with these, and have lost them
abbrev pub Loses : Option (List ℕ) → Option (List ℕ) → List ℕ → Type 0
Loses old new bytes = (xs : List ℕ) → old ≡ Some xs → (ys : List ℕ) × (new ≡ Some ys) × (xs ≡ bytes ++ ys)

-- a number of 0 comes only where the bytes that are told are none
abbrev pub EndsOnly : Option (List ℕ) → ℕ → Type 0
EndsOnly old n = (xs : List ℕ) → old ≡ Some xs → n ≡ 0 → xs ≡ []

-- bytes that are told are the same now
abbrev pub Stays : Option (List ℕ) → Option (List ℕ) → Type 0
Stays old new = (xs : List ℕ) → old ≡ Some xs → new ≡ Some xs
