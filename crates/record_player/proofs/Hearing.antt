-- What the reader answers next.
use Rattle.std.proofs.Common.{◌≡◌, ◌≢◌, ℕ, ◌+◌, ◌-◌, ◌<◌, ◌≤◌, List, [], ◌∷◌, ◌++◌, length, refl, sym, ◌∙◌, ap, subst, arith}
use Rattle.std.specs.Prelude.{Option, None, Some}
use Rattle.outside.specs.Faults.{Rose}
use Rattle.script_texts.specs.RecordLines.{RecordLine, version, run, counts}
use Rattle.record_reader.specs.Reader.{Advances, HasRead, IsOpen, StandsIn, line_given, verdict_given}
use Rattle.record_reader.specs.Verdicts.{ReadsAs, Verdict, most_record_bytes}
use Rattle.record_reader.specs.Versions.{size_told}
use Rattle.record_reader.specs.declared.reader.NextStep.{NextStep}
use Rattle.record_reader.specs.declared.reader.NextStep.TheVariants.{Size, Run, Counts, End, Bad, Long, ReadFault}
use Rattle.record_reader.specs.declared.reader.RecordReader.{RecordReader}
use Rattle.record_reader.proofs.Grown.{more_bytes}
use Rattle.record_player.specs.Hearing.{FaultsSo, Heard, TextHeard, size_ahead, size_given}

pub heard_next : (r r' : RecordReader) (read : List RecordLine) (next : NextStep) → HasRead r read → ((l : RecordLine) → line_given next ≡ Some l → Advances r r' l) → ((l : RecordLine) → line_given next ≡ Some l → IsOpen r')
    → ((n : ℕ) (lines : List RecordLine) → next ≡ Bad n → HasRead r lines → n ≡ length lines + 1) → Heard r' read next
heard_next r r' read next has advances still number = record {
  right = has.right;
  short = has.short;
  goes_on = λ l is. (advances l is).goes_on read has;
  has = λ l is. (advances l is).has_read read has;
  still = still;
  number = λ n is. number n read is has;
}

pub text_next : {S : Type 0} (left : S → Option (List ℕ)) (told : Option (List ℕ)) (r r' : RecordReader) (s s' : S) (read : List RecordLine) (next : NextStep) → ((text : List ℕ) → told ≡ Some text → StandsIn left text r s read)
    → ((text : List ℕ) (lines : List RecordLine) (l : RecordLine) → StandsIn left text r s lines → line_given next ≡ Some l → StandsIn left text r' s' (lines ++ l ∷ []))
    → ((text : List ℕ) (lines : List RecordLine) (v : Verdict) → StandsIn left text r s lines → verdict_given next ≡ Some v → ReadsAs text lines v) → TextHeard left told r' s' read next
text_next left told r r' s s' read next before stands decides = record {
  begins = λ text is. let h = before text is in (h.rest, record { text_is = h.text_is; right = h.has.right; short = h.has.short });
  stands = λ text l is given. stands text read l (before text is) given;
  decides = λ text v is given. decides text read v (before text is) given;
}

-- what gives a line is no failed read
pub not_fault : (next : NextStep) (l : RecordLine) → line_given next ≡ Some l → next ≢ ReadFault
not_fault next l given fault = let none : None ≡ Some l = sym (ap line_given fault) ∙ given in cc none

pub faults_next : (base before now : ℕ) (old : Type 0) (next : NextStep) → (old → ⊥) → FaultsSo base before old → before ≤ now → (next ≡ ReadFault → Rose before now) → (next ≢ ReadFault → now ≡ before) → FaultsSo base now (next ≡ ReadFault)
faults_next base before now old next went so later cause unfaulted =
    let same : before ≡ base = so.unfaulted went in
    record {
      later = omega (arith, same, later);
      unfaulted = λ none. unfaulted none ∙ same;
      cause = λ is. subst (λ n. Rose n now) same (cause is);
    }

-- ---- the size of the drum

first_size : (next : NextStep) (l : RecordLine) → line_given next ≡ Some l → size_told (l ∷ []) ≡ size_given next
first_size (Size pages) l is = let same : version pages ≡ l = cc is in subst (λ m. size_told (m ∷ []) ≡ Some pages) same refl
first_size (Run s n) l is = let same : run s n ≡ l = cc is in subst (λ m. size_told (m ∷ []) ≡ None) same refl
first_size (Counts reads writes) l is = let same : counts reads writes ≡ l = cc is in subst (λ m. size_told (m ∷ []) ≡ None) same refl
first_size End l is = absurd (cc is)
first_size (Bad n) l is = absurd (cc is)
first_size Long l is = absurd (cc is)
first_size ReadFault l is = absurd (cc is)

pub same_first : (m : RecordLine) (read more : List RecordLine) → size_told (m ∷ (read ++ more)) ≡ size_told (m ∷ read)
same_first (version pages) read more = refl
same_first (run s n) read more = refl
same_first (counts reads writes) read more = refl

-- with the line that was given
pub size_with : (read : List RecordLine) (next : NextStep) (l : RecordLine) → line_given next ≡ Some l → size_told (read ++ l ∷ []) ≡ size_ahead read next
size_with [] next l is = first_size next l is
size_with (m ∷ read) next l is = same_first m read (l ∷ [])

-- and behind it
pub size_behind : (read : List RecordLine) (l : RecordLine) (next : NextStep) → size_ahead (read ++ l ∷ []) next ≡ size_told (read ++ l ∷ [])
size_behind [] l next = refl
size_behind (m ∷ read) l next = refl

no_size : (next : NextStep) → line_given next ≡ None → size_given next ≡ None
no_size (Size pages) is = absurd (cc is)
no_size (Run s n) is = refl
no_size (Counts reads writes) is = refl
no_size End is = refl
no_size (Bad n) is = refl
no_size Long is = refl
no_size ReadFault is = refl

-- where no line was given
pub size_without : (read : List RecordLine) (next : NextStep) → line_given next ≡ None → size_told read ≡ size_ahead read next
size_without [] next none = sym (no_size next none)
size_without (m ∷ read) next none = refl

-- ---- how much may still be read

-- one more than the bytes that may still be given, where a line was
abbrev pub ahead : Option RecordLine → ℕ → ℕ
ahead None bytes = 0
ahead (Some l) bytes = most_record_bytes + 1 - bytes

pub nearer : (r r' : RecordReader) (read : List RecordLine) (l : RecordLine) (given given' : Option RecordLine) → given ≡ Some l → HasRead r (read ++ l ∷ []) → ((m : RecordLine) → given' ≡ Some m → HasRead r' ((read ++ l ∷ []) ++ m ∷ [])) → ahead given' r'.passed.bytes < ahead given r.passed.bytes
nearer r r' read l given None is has then_has = subst (λ o. 0 < ahead o r.passed.bytes) (sym is) (omega (arith, has.bytes, has.short))
nearer r r' read l given (Some m) is has then_has =
    let now = then_has m refl in
    subst (λ o. ahead (Some m) r'.passed.bytes < ahead o r.passed.bytes) (sym is) (omega (arith, has.bytes, now.bytes, now.short, more_bytes (read ++ l ∷ []) m))

-- the faults up to a first answer
pub faults_first : (base now : ℕ) (next : NextStep) → base ≤ now → (next ≡ ReadFault → Rose base now) → (next ≢ ReadFault → now ≡ base) → FaultsSo base now (next ≡ ReadFault)
faults_first base now next later cause unfaulted = record { later = later; unfaulted = unfaulted; cause = cause }
