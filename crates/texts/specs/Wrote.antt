-- A text that is written as it comes.
use Rattle.std.specs.Prelude.{◌≡◌, ℕ, List, ◌++◌, Option, Some}

-- the bytes that a sink took, where it tells them
abbrev pub Told : Type 0
Told = Option (List ℕ)

-- bytes that are told have a front of these behind them now
abbrev pub GrowsPartly : Told → Told → List ℕ → Type 0
GrowsPartly old new bytes = (xs : List ℕ) → old ≡ Some xs → (front : List ℕ) × (rest : List ℕ) × (new ≡ Some (xs ++ front)) × (bytes ≡ front ++ rest)

-- since it told bytes, a sink took a text up to what is written after: whatever comes next, the two make the whole
pub record Wrote {X : Type 0} (old new : Told) (after whole : List X → List ℕ) : Type 0 where
  pub each : (told : List ℕ) → old ≡ Some told → (text : List ℕ) × (new ≡ Some (told ++ text)) × ((xs : List X) → text ++ after xs ≡ whole xs)

-- since it told bytes, a sink took a front of the text
pub record WrotePartly (old new : Told) (whole : List ℕ) : Type 0 where
  pub each : (told : List ℕ) → old ≡ Some told → (text : List ℕ) × (rest : List ℕ) × (new ≡ Some (told ++ text)) × (text ++ rest ≡ whole)
