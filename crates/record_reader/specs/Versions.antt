-- The record of a run that is done, in each version. A record of the second version begins with the size of the drum.
use Rattle.std.specs.Prelude.{ℕ, ◌^◌, ◌<◌, ◌≤◌, List, [], ◌∷◌, ◌++◌, length, Option, None, Some, All}
use Rattle.outside.specs.declared.TheConstants.{MOST_DRUM_PAGES}
use Rattle.script_texts.specs.declared.event.Step.{Step}
use Rattle.script_texts.specs.Limits.{FitsStep}
use Rattle.script_texts.specs.Script.{most_turns}
use Rattle.script_texts.specs.Texts.{record_text, runs_of}
use Rattle.script_texts.specs.RecordLines.{RecordLine, version, counts, said_all, lines_of_runs}
use Rattle.record_reader.specs.Verdicts.{most_record_bytes}

-- the line in front of the entries, where the drum's size is told: a record of the first version tells none
abbrev pub head_of : Option ℕ → List RecordLine
head_of None = []
head_of (Some pages) = version pages ∷ []

-- the lines of a record
abbrev pub lines_of_record : Option ℕ → List Step → ℕ → ℕ → List RecordLine
lines_of_record size entries reads writes = head_of size ++ (lines_of_runs (runs_of entries) ++ counts reads writes ∷ [])

-- its text
abbrev pub whole_record : Option ℕ → List Step → ℕ → ℕ → List ℕ
whole_record size entries reads writes = said_all (head_of size) ++ record_text entries reads writes

-- the size that lines tell of the drum: that of the first, where it is the version
abbrev pub size_told : List RecordLine → Option ℕ
size_told (version pages ∷ lines) = Some pages
size_told lines = None

-- a drum may have this size, where one is told
abbrev pub IsSize : Option ℕ → Type 0
IsSize None = Unit {0}
IsSize (Some pages) = (256 ≤ pages) × (pages ≤ MOST_DRUM_PAGES)

-- a record that can be read again: its entries and numbers are within their limits, and so is its text
pub record CanBeRead (size : Option ℕ) (entries : List Step) (reads writes : ℕ) : Type 0 where
  pub size_fits : IsSize size
  pub fit : All FitsStep entries
  pub few : length entries ≤ most_turns
  pub few_reads : reads < 2 ^ 64
  pub few_writes : writes < 2 ^ 64
  pub short : length (whole_record size entries reads writes) ≤ most_record_bytes
