-- How the playing of a record ends.
use Rattle.std.proofs.Common.{◌≡◌, ◌≢◌, ℕ, suc, ◌+◌, ◌-◌, ◌^◌, ◌<◌, ◌≤◌, List, [], ◌∷◌, ◌++◌, length, replicate, false, refl, sym, ◌∙◌, ap, subst, arith, length-append, append_assoc}
use Rattle.std.specs.Prelude.{Option, None, Some}
use Rattle.std.proofs.lemmas.List.{append-nil}
use Rattle.script_texts.specs.declared.event.Step.{Step}
use Rattle.script_texts.specs.RecordLines.{RecordLine, run, said_all, told_by, entries_told}
use Rattle.script_texts.specs.Script.{most_turns}
use Rattle.script_texts.specs.Taker.{max_steps}
use Rattle.page_contracts.specs.DrumWords.{DrumWords}
use Rattle.plain_model.specs.Run.{state_after}
use Rattle.monitor_core.specs.Systems.{FitsPages, state_of}
use Rattle.event_items.specs.Giving.{Standing}
use Rattle.outside.specs.Faults.{Rose}
use Rattle.record_reader.specs.Order.{AreRecordLines, turns_on}
use Rattle.record_reader.specs.Reader.{HasRead, line_given, verdict_given}
use Rattle.record_reader.specs.Verdicts.{most_record_bytes, whole, bad, too_long}
use Rattle.record_reader.specs.Versions.{size_told}
use Rattle.record_reader.specs.declared.reader.NextStep.{NextStep}
use Rattle.record_reader.specs.declared.reader.NextStep.TheVariants as answers
use Rattle.record_reader.specs.declared.reader.RecordReader.{RecordReader}
use Rattle.record_player.specs.declared.replay_end.ReplayEnd.{ReplayEnd}
use Rattle.record_player.specs.declared.replay_end.ReplayEnd.TheVariants.{Done, Bad, Illegal, Long, ReadFault, WriteFault, Memory}
use Rattle.record_player.specs.declared.stage.Stage.{Stage}
use Rattle.record_player.specs.Hearing.{FaultsSo, Heard, TextHeard, size_ahead, size_given}
use Rattle.record_player.specs.Played.{CanPlay}
use Rattle.record_player.specs.Stages.{BrokenLine, CutLine, Gives, NoLine, PlayedOn, StoppedBy}
use Rattle.record_player.proofs.Entries.{are_played, few_entries, parted, parted_at, told_more}
use Rattle.record_player.proofs.Gone.{cut_append, gives_append}
use Rattle.record_player.proofs.Hearing.{size_with, size_without}

-- so few entries are counted
few_lines : (read : List RecordLine) → AreRecordLines read → length (said_all read) ≤ most_record_bytes → length (entries_told read) < max_steps
few_lines read right short = omega (arith, few_entries read right short, right.few)

-- and a line more is within what a stage may do
pub few_ahead : (r : RecordReader) (read : List RecordLine) (next : NextStep) (l : RecordLine) → Heard r read next → line_given next ≡ Some l → (done : ℕ) → done ≡ length (entries_told read) → done + turns_on l + 1 ≤ 2 ^ 51
few_ahead r read next l heard given done is = omega (arith, is, few_entries read heard.right heard.short, (heard.goes_on l given).few)

-- where no read failed
none_failed : (base now : ℕ) (how : ReplayEnd) {Failed : Type 0} → (how ≡ ReadFault → ⊥) → (Failed → ⊥) → FaultsSo base now Failed → FaultsSo base now (how ≡ ReadFault)
none_failed base now how other none f = record { later = f.later; unfaulted = λ no. f.unfaulted none; cause = λ is. absurd (other is) }

module _ {P T S : Type 0} {b : _} (fault_count : T → ℕ) (stands cut : Standing T) (left : S → Option (List ℕ)) (m mid m' : Stage P b) (out between out' : T) (told : Option (List ℕ)) (first next : NextStep) (r : RecordReader) (s : S) (read : List RecordLine)
    (heard : Heard r read next) (text : TextHeard left told r s read next) (size : size_ahead read next ≡ size_given first) (new : m.done ≡ 0) (gives : Gives stands m mid out between (entries_told read)) where
  -- by an answer that gives no line, all that was told was played
  module _ (answer : NextStep) (none : line_given answer ≡ None) (quiet : NoLine stands mid m' between out' next answer) where
    all : Gives stands m m' out out' (entries_told read)
    all = subst (Gives stands m m' out out') (append-nil (entries_told read)) (gives_append stands m mid m' out between out' (entries_told read) [] gives quiet.gives)

    its_size : size_told read ≡ size_given first
    its_size = size_without read next (ap line_given quiet.same ∙ none) ∙ size

    few : length (entries_told read) < max_steps
    few = few_lines read heard.right heard.short

  by_done : NoLine stands mid m' between out' next answers.End → PlayedOn stands cut m.system m'.system out out' told first Done
  by_done quiet = record {
    read = read;
    entries = entries_told read;
    right = heard.right;
    few = few answers.End refl quiet;
    numbered = tt;
    size = its_size answers.End refl quiet;
    was_read = λ t is. text.decides t whole is (ap verdict_given quiet.same);
    each = λ d f. let x = (all answers.End refl quiet).each d f in record { played = (refl, are_played (state_of m.system d) (entries_told read) x.1.legal); given = x.1.given };
    left = λ is d f. let x = (all answers.End refl quiet).each d f in (x.0, x.1.state);
  }

  by_bad : (n : ℕ) → NoLine stands mid m' between out' next (answers.Bad n) → PlayedOn stands cut m.system m'.system out out' told first (Bad n)
  by_bad n quiet = record {
    read = read;
    entries = entries_told read;
    right = heard.right;
    few = few (answers.Bad n) refl quiet;
    numbered = heard.number n quiet.same;
    size = its_size (answers.Bad n) refl quiet;
    was_read = λ t is. text.decides t (bad n) is (ap verdict_given quiet.same);
    each = λ d f. let x = (all (answers.Bad n) refl quiet).each d f in record { played = (refl, are_played (state_of m.system d) (entries_told read) x.1.legal); given = x.1.given };
    left = λ is. absurd (cc is);
  }

  by_long : NoLine stands mid m' between out' next answers.Long → PlayedOn stands cut m.system m'.system out out' told first Long
  by_long quiet = record {
    read = read;
    entries = entries_told read;
    right = heard.right;
    few = few answers.Long refl quiet;
    numbered = tt;
    size = its_size answers.Long refl quiet;
    was_read = λ t is. text.decides t too_long is (ap verdict_given quiet.same);
    each = λ d f. let x = (all answers.Long refl quiet).each d f in record { played = (refl, are_played (state_of m.system d) (entries_told read) x.1.legal); given = x.1.given };
    left = λ is. absurd (cc is);
  }

  by_read_fault : NoLine stands mid m' between out' next answers.ReadFault → PlayedOn stands cut m.system m'.system out out' told first ReadFault
  by_read_fault quiet = record {
    read = read;
    entries = entries_told read;
    right = heard.right;
    few = few answers.ReadFault refl quiet;
    numbered = tt;
    size = its_size answers.ReadFault refl quiet;
    was_read = text.begins;
    each = λ d f. let x = (all answers.ReadFault refl quiet).each d f in record { played = (refl, are_played (state_of m.system d) (entries_told read) x.1.legal); given = x.1.given };
    left = λ is. absurd (cc is);
  }

  -- within a line: of its entries so many were played
  module _ (step : Step) (count : ℕ) (same : next ≡ answers.Run step count) where
    given : line_given next ≡ Some (run step count)
    given = ap line_given same

    with_line : List RecordLine
    with_line = read ++ run step count ∷ []

    has : HasRead r (read ++ run step count ∷ [])
    has = heard.has (run step count) given

    line_size : size_told (read ++ run step count ∷ []) ≡ size_given first
    line_size = size_with read next (run step count) given ∙ size

    -- the entries of the lines, up to one in the last
    split : (k : ℕ) → k < count → entries_told (read ++ run step count ∷ []) ≡ (entries_told read ++ replicate k step) ++ step ∷ replicate (count - (k + 1)) step
    split k less =
        told_more read (run step count) ∙ ap (λ xs. entries_told read ++ xs) (parted count k step less)
        ∙ sym (append_assoc (entries_told read) (replicate k step) (step ∷ replicate (count - (k + 1)) step))

    split_at : (k : ℕ) → k ≤ count → entries_told (read ++ run step count ∷ []) ≡ (entries_told read ++ replicate k step) ++ replicate (count - k) step
    split_at k few =
        told_more read (run step count) ∙ ap (λ xs. entries_told read ++ xs) (parted_at count k step few)
        ∙ sym (append_assoc (entries_told read) (replicate k step) (replicate (count - k) step))

    few_before : (k : ℕ) → k ≤ count → length (entries_told read ++ replicate k step) < max_steps
    few_before k few =
        omega (arith, ap length (split_at k few), length-append (entries_told read ++ replicate k step) (replicate (count - k) step), few_lines (read ++ run step count ∷ []) has.right has.short)

  by_illegal : (n : ℕ) → BrokenLine stands mid m' between out' next n → PlayedOn stands cut m.system m'.system out out' told first (Illegal n)
  by_illegal n broken =
      let step = broken.step in
      let k = broken.breaks.played in
      let before = entries_told read ++ replicate k step in
      let all : Gives stands m m' out out' (entries_told read ++ replicate k step) = gives_append stands m mid m' out between out' (entries_told read) (replicate k step) gives broken.breaks.gives in
      record {
        read = read ++ run step broken.count ∷ [];
        entries = before;
        right = (has step broken.count broken.same).right;
        few = few_before step broken.count broken.same k (omega (arith, broken.breaks.fewer));
        numbered = tt;
        size = line_size step broken.count broken.same;
        was_read = λ t is. let h = text.stands t (run step broken.count) is (given step broken.count broken.same) in (h.rest, record { text_is = h.text_is; right = h.has.right; short = h.has.short });
        each = λ d f.
            let x = all.each d f in
            record {
              played = record {
                entry = step;
                later = replicate (broken.count - (k + 1)) step;
                whole = split step broken.count broken.same k broken.breaks.fewer;
                numbered = omega (arith, broken.numbered, all.count, new);
                played = are_played (state_of m.system d) before x.1.legal;
                broken = λ can. broken.breaks.broken d x.0 (subst (λ z. CanPlay z step) (sym x.1.state) can);
              };
              given = x.1.given;
            };
        left = λ is. absurd (cc is);
      }

  by_write_fault : CutLine fault_count stands cut mid between out' next → PlayedOn stands cut m.system m'.system out out' told first WriteFault
  by_write_fault line =
      let step = line.step in
      let k = line.fails.played in
      let before = entries_told read ++ replicate k step in
      let cut_in = cut_append stands cut m mid out between out' (entries_told read) (replicate k step) gives line.fails.cut_in in
      record {
        read = read ++ run step line.count ∷ [];
        entries = before;
        right = (has step line.count line.same).right;
        few = few_before step line.count line.same k line.fails.few;
        numbered = tt;
        size = line_size step line.count line.same;
        was_read = λ t is. let h = text.stands t (run step line.count) is (given step line.count line.same) in (h.rest, record { text_is = h.text_is; right = h.has.right; short = h.has.short });
        each = λ d f.
            let x = cut_in.each d f in
            record { played = (are_played (state_of m.system d) before x.legal, (replicate (line.count - k) step, split_at step line.count line.same k line.fails.few)); given = x.given };
        left = λ is. absurd (cc is);
      }

  pub stopped_on : (how : ReplayEnd) → StoppedBy fault_count stands cut mid m' between out' next how → PlayedOn stands cut m.system m'.system out out' told first how
  stopped_on Done by = by_done by
  stopped_on (Bad n) by = by_bad n by
  stopped_on (Illegal n) by = by_illegal n by
  stopped_on Long by = by_long by
  stopped_on ReadFault by = by_read_fault by
  stopped_on WriteFault by = by_write_fault by
  stopped_on Memory by = absurd by

module _ {P T : Type 0} {b : _} (fault_count : T → ℕ) (stands cut : Standing T) (mid m' : Stage P b) (between out' : T) (next : NextStep) where
  -- it was not for want of memory that it ended
  pub not_memory : (how : ReplayEnd) → StoppedBy fault_count stands cut mid m' between out' next how → how ≢ Memory
  not_memory Memory by is = absurd by
  not_memory Done by is = absurd (cc is)
  not_memory (Bad n) by is = absurd (cc is)
  not_memory (Illegal n) by is = absurd (cc is)
  not_memory Long by is = absurd (cc is)
  not_memory ReadFault by is = absurd (cc is)
  not_memory WriteFault by is = absurd (cc is)

  -- it was a failed read exactly where the answer was one
  pub stopped_faults : (base now : ℕ) (how : ReplayEnd) → StoppedBy fault_count stands cut mid m' between out' next how → FaultsSo base now (next ≡ answers.ReadFault) → FaultsSo base now (how ≡ ReadFault)
  stopped_faults base now Done by f = none_failed base now Done (λ is. cc is) (λ is. let other = by.same in absurd (cc (is, other))) f
  stopped_faults base now (Bad n) by f = none_failed base now (Bad n) (λ is. cc is) (λ is. let other = by.same in absurd (cc (is, other))) f
  stopped_faults base now (Illegal n) by f = none_failed base now (Illegal n) (λ is. cc is) (λ is. let other = by.same in absurd (cc (is, other))) f
  stopped_faults base now Long by f = none_failed base now Long (λ is. cc is) (λ is. let other = by.same in absurd (cc (is, other))) f
  stopped_faults base now ReadFault by f = record { later = f.later; unfaulted = λ no. absurd (no refl); cause = λ is. f.cause by.same }
  stopped_faults base now WriteFault by f = none_failed base now WriteFault (λ is. cc is) (λ is. let other = by.same in absurd (cc (is, other))) f
  stopped_faults base now Memory by f = absurd by

  -- a taker that failed has counted it
  pub stopped_rose : (how : ReplayEnd) → StoppedBy fault_count stands cut mid m' between out' next how → (out : T) → fault_count out ≤ fault_count between → how ≡ WriteFault → Rose (fault_count out) (fault_count out')
  stopped_rose WriteFault by out later is = omega (arith, later, by.fails.rose)
  stopped_rose Done by out later is = absurd (cc is)
  stopped_rose (Bad n) by out later is = absurd (cc is)
  stopped_rose (Illegal n) by out later is = absurd (cc is)
  stopped_rose Long by out later is = absurd (cc is)
  stopped_rose ReadFault by out later is = absurd (cc is)
  stopped_rose Memory by out later is = absurd by
