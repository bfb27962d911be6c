-- Which entries a record has.
use Rattle.std.specs.Prelude.{◌≡◌, ℕ, ◌^◌, ◌<◌, List, length, All}
use Rattle.script_texts.specs.declared.event.Step.{Step}
use Rattle.script_texts.specs.Limits.{FitsStep}
use Rattle.script_texts.specs.Texts.{record_text}

-- what a record can tell: entries within their limits, and numbers that 64 bits hold, as larger ones need not differ in their digits
pub record FitsRecord (steps : List Step) (reads writes : ℕ) : Type 0 where
  pub fit : All FitsStep steps
  pub few : length steps < 2 ^ 64
  pub few_reads : reads < 2 ^ 64
  pub few_writes : writes < 2 ^ 64

-- a text is the record of these entries
pub record EntriesOf (text : List ℕ) (steps : List Step) : Type 0 where
  pub reads : ℕ
  pub writes : ℕ
  pub whole : text ≡ record_text steps reads writes
  pub fits : FitsRecord steps reads writes
