-- The lines of a record as data: what each says, and which entries it tells.
use Rattle.std.specs.Prelude.{ℕ, List, [], ◌++◌, codes, decimal, map, replicate}
use Rattle.std.specs.List.{flat_map}
use Rattle.script_texts.specs.declared.event.Step.{Step}
use Rattle.script_texts.specs.Texts.{counts_text, ended, run_text}

-- what a line of a record says: its version, with the size of the drum, which a record of the first version doesn't tell; so many equal turns, or an
-- event; how often the drum was read and written
pub data RecordLine : Type 0 where
  version : ℕ → RecordLine
  run : Step → ℕ → RecordLine
  counts : ℕ → ℕ → RecordLine

-- a line as it is written, without its line feed
abbrev pub said : RecordLine → List ℕ
said (version pages) = codes "V 2 " ++ decimal pages
said (run s n) = run_text s n
said (counts reads writes) = counts_text reads writes

-- the bytes of lines, each with its line feed
abbrev pub said_all : List RecordLine → List ℕ
said_all lines = flat_map (λ l. ended (said l)) lines

-- the entries that a line tells
abbrev pub told_by : RecordLine → List Step
told_by (run s n) = replicate n s
told_by line = []

-- and those that lines tell
abbrev pub entries_told : List RecordLine → List Step
entries_told lines = flat_map told_by lines

-- runs of equal turns, and events, as lines
abbrev pub lines_of_runs : List (Step × ℕ) → List RecordLine
lines_of_runs rs = map (λ r. run r.0 r.1) rs
