-- What one line of a record says, and how its numbers are written.
use Rattle.std.specs.Prelude.{◌≡◌, ℕ, ◌<◌, ◌^◌, List, decimal, Option, None, Some}
use Rattle.script_texts.specs.declared.event.Event.{Event}
use Rattle.script_texts.specs.Limits.{FitsEvent, IsOuter}
use Rattle.script_texts.specs.Script.{IsDecimal}
use Rattle.script_texts.specs.Texts.{line_of}
use Rattle.script_texts.specs.RecordLines.{RecordLine, version, run, counts, said}
use Rattle.record_reader.specs.Order.{FitsLine}
use Rattle.record_reader.specs.declared.line.Said.{Said}
use Rattle.record_reader.specs.declared.line.Said.TheVariants.{Version, Run, Counts}

-- a text is the decimal digits of a number of 64 bits, without zeros in front
abbrev pub IsNumber : List ℕ → ℕ → Type 0
IsNumber text n = (n < 2 ^ 64) × (text ≡ decimal n)

-- decimal digits, at most as many as 64 bits need, write a number that these hold; zeros in front are not looked at
abbrev pub Writes : List ℕ → ℕ → Type 0
Writes text n = (n < 2 ^ 64) × IsDecimal 20 text n

-- the line that is meant
abbrev pub told : Said → RecordLine
told (Version pages) = version pages
told (Run s n) = run s n
told (Counts reads writes) = counts reads writes

-- and that which came last, if one did
abbrev pub told_last : Option Said → Option RecordLine
told_last None = None
told_last (Some said) = Some (told said)

-- a text is this line, which is within its limits
abbrev pub IsLineOf : List ℕ → RecordLine → Type 0
IsLineOf text l = (text ≡ said l) × FitsLine l

-- a text is no line of a record
abbrev pub IsNoLine : List ℕ → Type 0
IsNoLine text = (l : RecordLine) → IsLineOf text l → ⊥

-- a text is the canonical line of an event that a record has
abbrev pub IsEventLine : List ℕ → Event → Type 0
IsEventLine text e = FitsEvent e × IsOuter e × (text ≡ line_of e)
