-- How many transfers end, by the counts of a drum.
use Rattle.std.specs.Prelude.{◌≡◌, ◌⊎◌, ℕ, ◌+◌, ◌≤◌, Bool, true}
use Rattle.machine_names.specs.declared.names.TheConstants.{QUANTUM}

-- so many transfers at most end before an entry of a run is a unit or idle, and before a POKE or an EXAMINE is answered
abbrev pub most_transfers : ℕ
most_transfers = 4294967296

abbrev pub last_count : ℕ
last_count = 18446744073709551615

-- what a drum counts of transfers
pub record Counts (D : Type 0) : Type 0 where
  pub reads : D → ℕ
  pub writes : D → ℕ

-- so many transfers ended at least, or a count stands at its last value
abbrev pub Moved : {D : Type 0} → Counts D → ℕ → D → D → Type 0
Moved counts n drum drum' =
    (counts.reads drum + counts.writes drum + n ≤ counts.reads drum' + counts.writes drum') ⊎ (last_count ≤ counts.reads drum') ⊎ (last_count ≤ counts.writes drum')

-- SO MANY TRANSFERS ended at most, reads and writes together; a count at its last value rises no more
abbrev pub MovesAtMost : {D : Type 0} → Counts D → ℕ → D → D → Type 0
MovesAtMost counts n drum drum' = counts.reads drum' + counts.writes drum' ≤ counts.reads drum + counts.writes drum + n

-- Transfers end for a row of units only where nobody has used anything of a quantum: behind one a quantum ends with the row only if that is all of it.
abbrev pub EndsWhole : {D : Type 0} → Counts D → (ended : Bool) → (count : ℕ) → D → D → Type 0
EndsWhole counts ended count drum drum' = MovesAtMost counts 0 drum drum' ⊎ (ended ≡ true → QUANTUM ≤ count)
