-- A record that a run wrote, read to its end.
use Rattle.std.proofs.Common.{◌≡◌, ◌≢◌, ℕ, List, [], refl, sym, ◌∙◌, ap, subst}
use Rattle.std.specs.Prelude.{Option, None, Some}
use Rattle.script_texts.specs.declared.event.Step.{Step}
use Rattle.script_texts.specs.RecordLines.{RecordLine}
use Rattle.record_reader.specs.Verdicts.{ReadsAs, Verdict, whole, bad, too_long}
use Rattle.record_reader.specs.Versions.{CanBeRead, lines_of_record, whole_record}
use Rattle.record_reader.specs.OneLine.{told_last}
use Rattle.record_reader.specs.declared.line.Said.{Said}
use Rattle.record_reader.specs.Reader.{HasRead, StandsIn, line_given, pending, verdict_given}
use Rattle.record_reader.specs.declared.reader.NextStep.{NextStep}
use Rattle.record_reader.specs.declared.reader.NextStep.TheVariants.{Size, Run, Counts, End, Bad, Long, ReadFault}
use Rattle.record_reader.specs.declared.reader.RecordReader.{RecordReader}
use Rattle.record_reader.proofs.OneReading.{one_reading}
use Rattle.record_reader.proofs.Written.{reads_whole}

-- an answer that gives no line gives a verdict, but for a failed read
some_verdict : (a : NextStep) → line_given a ≡ None → a ≢ ReadFault → (v : Verdict) × (verdict_given a ≡ Some v)
some_verdict (Size p) none here = absurd (cc none)
some_verdict (Run s n) none here = absurd (cc none)
some_verdict (Counts m n) none here = absurd (cc none)
some_verdict End none here = (whole, refl)
some_verdict (Bad n) none here = (bad n, refl)
some_verdict Long none here = (too_long, refl)
some_verdict ReadFault none here = absurd (here refl)

only_end : (a : NextStep) → verdict_given a ≡ Some whole → a ≡ End
only_end (Size p) is = absurd (cc is)
only_end (Run s n) is = absurd (cc is)
only_end (Counts m n) is = absurd (cc is)
only_end End is = refl
only_end (Bad n) is = let same : bad n ≡ whole = cc is in absurd (cc same)
only_end Long is = let same : too_long ≡ whole = cc is in absurd (cc same)
only_end ReadFault is = absurd (cc is)

pub reads_all : (size : Option ℕ) (ss : List Step) (reads writes : ℕ) (lines : List RecordLine) (a : NextStep) → CanBeRead size ss reads writes → line_given a ≡ None → a ≢ ReadFault
    → ((v : Verdict) → verdict_given a ≡ Some v → ReadsAs (whole_record size ss reads writes) lines v) → (lines ≡ lines_of_record size ss reads writes) × (a ≡ End)
reads_all size ss reads writes lines a can none here tells =
    let v = some_verdict a none here in
    let same = one_reading (whole_record size ss reads writes) lines (lines_of_record size ss reads writes) v.0 whole (tells v.0 v.1) (reads_whole size ss reads writes can) in
    (same.0, only_end a (subst (λ w. verdict_given a ≡ Some w) same.1 v.1))

pub not_fault : (a : NextStep) (l : RecordLine) → line_given a ≡ Some l → a ≢ ReadFault
not_fault a l is fault = let none : None ≡ Some l = sym (ap line_given fault) ∙ is in cc none

pub none_given : (o : Option Said) (a : NextStep) → told_last o ≡ line_given a → ((x : Said) → o ≡ Some x → ⊥) → line_given a ≡ None
none_given None a is none = sym is
none_given (Some x) a is none = absurd (none x refl)

-- a new reader stands before a whole text
pub stands_first : {S : Type 0} (left : S → Option (List ℕ)) (text : List ℕ) (r : RecordReader) (s : S) → pending r ≡ [] → HasRead r [] → left s ≡ Some text → StandsIn left text r s []
stands_first left text r s none has is = record { has = has; rest = text; text_is = refl; behind = (text, is, rw none refl) }
