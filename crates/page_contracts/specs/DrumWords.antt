-- The words of a drum.
use Rattle.std.specs.Prelude.{◌≡◌, ◌⊎◌, ℕ, List, Bool, true, Option, Some}

-- the words of a drum, one list a page
abbrev pub DrumWords : Type 0
DrumWords = List (List ℕ)

-- the words that stand on the drum: those that it tells, or any where nothing depends on them
abbrev pub Stands : Bool → Option DrumWords → DrumWords → Type 0
Stands flat held d = (held ≡ Some d) ⊎ (flat ≡ true)
