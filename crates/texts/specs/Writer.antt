-- What a writer stands for.
use Rattle.std.specs.Prelude.{◌≡◌, ◌⊎◌, ℕ, ◌<◌, ◌≤◌, List, ◌++◌, length, Some, Result, OnOk, OnErr}
use Rattle.outside.specs.Faults.{Rose}
use Rattle.outside.specs.declared.failure.Failed.{Failed}
use Rattle.outside.specs.Told.{Stays}
use Rattle.script_texts.specs.declared.event.Item.{Item}
use Rattle.script_texts.specs.declared.event.Step.{Step}
use Rattle.script_texts.specs.Taker.{StaysOnward}
use Rattle.script_texts.specs.Texts.{transcript, entries_text}
use Rattle.texts.specs.OpenLine.{text_after}
use Rattle.texts.specs.OpenRun.{record_after}
use Rattle.texts.specs.Turns.{open_run, run_count}
use Rattle.texts.specs.declared.writer.Writer.{Writer}
use Rattle.texts.specs.Wrote.{Told, Wrote, WrotePartly}
use Rattle.texts.specs.declared.last.Last.{Last}
use Rattle.texts.specs.Ends.{end_line, record_end}
use Rattle.texts.specs.Tally.{no_tally, tally}
use Rattle.texts.specs.declared.tally.Tally.{Tally}

-- it has the same sinks; no count has fallen, and its own rose exactly where one of theirs did
pub record IsOnward {T R : Type 0} (out_faults : T → ℕ) (rec_faults : R → ℕ) (first now : Writer T R) : Type 0 where
  pub out_name : now.out.ghost_name ≡ first.out.ghost_name
  pub rec_name : now.rec.ghost_name ≡ first.rec.ghost_name
  pub later : first.faults ≤ now.faults
  pub out_later : out_faults first.out.now ≤ out_faults now.out.now
  pub rec_later : rec_faults first.rec.now ≤ rec_faults now.rec.now
  pub cause : first.faults < now.faults → Rose (out_faults first.out.now) (out_faults now.out.now) ⊎ Rose (rec_faults first.rec.now) (rec_faults now.rec.now)
  pub out_counted : out_faults first.out.now < out_faults now.out.now → Rose first.faults now.faults
  pub rec_counted : rec_faults first.rec.now < rec_faults now.rec.now → Rose first.faults now.faults

-- neither of its sinks keeps anything back
pub record IsHandedOn {T R : Type 0} (out_handed : T → Type 0) (rec_handed : R → Type 0) (w : Writer T R) : Type 0 where
  pub out : out_handed w.out.now
  pub rec : rec_handed w.rec.now

-- each of its sinks has handed on what it kept, or has failed
pub record HandsOn {T R : Type 0} (out_handed : T → Type 0) (rec_handed : R → Type 0) (out_faults : T → ℕ) (rec_faults : R → ℕ) (old new : Writer T R) : Type 0 where
  pub out : out_handed new.out.now ⊎ Rose (out_faults old.out.now) (out_faults new.out.now)
  pub rec : rec_handed new.rec.now ⊎ Rose (rec_faults old.rec.now) (rec_faults new.rec.now)

-- how a call counts: it fails exactly where the writer's count rises, and the sinks are the same
pub record Counts {T R : Type 0} (out_faults : T → ℕ) (rec_faults : R → ℕ) (answer : Result (Unit {0}) Failed) (old new : Writer T R) : Type 0 where
  pub later : old.faults ≤ new.faults
  pub cause : OnErr answer (Rose old.faults new.faults)
  pub unfaulted : OnOk answer (new.faults ≡ old.faults)
  pub onward : StaysOnward (IsOnward out_faults rec_faults) old new

-- for each pair of lists of which this was so since a first writer, it still is
pub record Keeps {T R : Type 0} (so : Writer T R → Writer T R → List Item → List Step → Type 0) (old new : Writer T R) : Type 0 where
  pub each : (first : Writer T R) (is : List Item) (ss : List Step) → so first old is ss → so first new is ss

-- since the first, its sinks took the texts of these lists, but for the line and the run that are open; and it has counted them
pub record Stands {T R : Type 0} (out_taken : T → Told) (rec_taken : R → Told) (first now : Writer T R) (is : List Item) (ss : List Step) : Type 0 where
  pub out : Wrote (out_taken first.out.now) (out_taken now.out.now) (text_after now.line) (λ js. transcript (is ++ js))
  pub rec : Wrote (rec_taken first.rec.now) (rec_taken now.rec.now) (record_after (open_run now.run)) (λ ts. entries_text (ss ++ ts))
  pub count : run_count now.run ≤ length ss
  pub tallied : first.tally ≡ no_tally → now.tally ≡ tally is ss

-- since the first, each sink took a front of the text of its list
pub record IsCutWithin {T R : Type 0} (out_taken : T → Told) (rec_taken : R → Told) (first now : Writer T R) (is : List Item) (ss : List Step) : Type 0 where
  pub out : WrotePartly (out_taken first.out.now) (out_taken now.out.now) (transcript is)
  pub rec : WrotePartly (rec_taken first.rec.now) (rec_taken now.rec.now) (entries_text ss)

-- what its sinks took stays, and so do the line and the run that are open
pub record KeepsWritten {T R : Type 0} (out_taken : T → Told) (rec_taken : R → Told) (old new : Writer T R) : Type 0 where
  pub out : Stays (out_taken old.out.now) (out_taken new.out.now)
  pub rec : Stays (rec_taken old.rec.now) (rec_taken new.rec.now)
  pub line : new.line ≡ old.line
  pub run : new.run ≡ old.run
  pub tally : new.tally ≡ old.tally

-- since the first, its sinks took the texts of these lists, closed, with their last lines
pub record IsFinished {T R : Type 0} (out_taken : T → Told) (rec_taken : R → Told) (last : Last) (counts : Tally) (first now : Writer T R) (is : List Item) (ss : List Step) : Type 0 where
  pub out : (told : List ℕ) → out_taken first.out.now ≡ Some told → out_taken now.out.now ≡ Some (told ++ (transcript is ++ end_line last counts))
  pub rec : (told : List ℕ) → rec_taken first.rec.now ≡ Some told → rec_taken now.rec.now ≡ Some (told ++ (entries_text ss ++ record_end last))

-- since the first, each sink took a front of its closed text
pub record IsCutAtEnd {T R : Type 0} (out_taken : T → Told) (rec_taken : R → Told) (last : Last) (counts : Tally) (first now : Writer T R) (is : List Item) (ss : List Step) : Type 0 where
  pub out : WrotePartly (out_taken first.out.now) (out_taken now.out.now) (transcript is ++ end_line last counts)
  pub rec : WrotePartly (rec_taken first.rec.now) (rec_taken now.rec.now) (entries_text ss ++ record_end last)

-- for each pair for which it stood it is finished now
pub record Finishes {T R : Type 0} (out_taken : T → Told) (rec_taken : R → Told) (last : Last) (old new : Writer T R) : Type 0 where
  pub each : (first : Writer T R) (is : List Item) (ss : List Step) → Stands out_taken rec_taken first old is ss → IsFinished out_taken rec_taken last old.tally first new is ss

-- for each pair for which it stood it is cut within the closed texts now
pub record FailsAtEnd {T R : Type 0} (out_taken : T → Told) (rec_taken : R → Told) (last : Last) (old new : Writer T R) : Type 0 where
  pub each : (first : Writer T R) (is : List Item) (ss : List Step) → Stands out_taken rec_taken first old is ss → IsCutAtEnd out_taken rec_taken last old.tally first new is ss
