-- Where a deed stores its word, if it stores one.
use Rattle.std.specs.Prelude.{◌≡◌, ℕ, Option, None, Some, List}
use Rattle.machine_names.specs.declared.names.ForkName.{ForkName}
use Rattle.machine_names.specs.declared.names.Kind.TheVariants.{Read}
use Rattle.plain_pages.specs.PlainPages.{NumberedPages}
use Rattle.plain_units.specs.Deeds.{Store, nowhere, back, into, before}
use Rattle.ka10_spots.specs.Glide.{Takes}

-- no word is stored
abbrev pub IsNowhere : Store → Type 0
IsNowhere nowhere = Unit {0}
IsNowhere (back at w) = ⊥
IsNowhere (into at w) = ⊥
IsNowhere (before at w) = ⊥

-- a word is stored at an address, if any is, and behind all else
abbrev pub GoesTo : ℕ → Store → Type 0
GoesTo a nowhere = Unit {0}
GoesTo a (back at w) = at ≡ a
GoesTo a (into at w) = at ≡ a
GoesTo a (before at w) = ⊥

-- this word is stored at an address, before the accumulators are written
abbrev pub IsBefore : ℕ → ℕ → Store → Type 0
IsBefore a v nowhere = ⊥
IsBefore a v (back at w) = ⊥
IsBefore a v (into at w) = ⊥
IsBefore a v (before at w) = (at ≡ a) × (w ≡ v)

-- an operand: 0,,E, or the word at an address
abbrev pub IsOperand : ForkName → NumberedPages → List ℕ → Option ℕ → ℕ → ℕ → Type 0
IsOperand f p ac None e m = m ≡ e
IsOperand f p ac (Some from) e m = Takes f p ac from Read m
