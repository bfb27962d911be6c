-- The record of a run, played.
use Rattle.std.proofs.Common.{◌≡◌, ◌≢◌, ℕ, ◌+◌, ◌<◌, ◌≤◌, List, [], ◌∷◌, ◌++◌, length, true, refl, sym, ◌∙◌, ap, subst, arith, append_assoc, length-append}
use Rattle.std.specs.Prelude.{Option, None, Some}
use Rattle.std.specs.Option.{unwrap_or}
use Rattle.std.proofs.lemmas.List.{append-nil}
use Rattle.outside.specs.Told.{Grows}
use Rattle.script_texts.specs.declared.event.Step.{Step}
use Rattle.script_texts.specs.RecordLines.{RecordLine, version, run, counts, entries_told}
use Rattle.script_texts.specs.Script.{most_turns}
use Rattle.script_texts.specs.Texts.{transcript}
use Rattle.script_texts.specs.Taker.{max_steps}
use Rattle.plain_model.specs.State.{PlainState, opening}
use Rattle.plain_model.specs.Run.{AreLegal, items_of}
use Rattle.record_reader.specs.Verdicts.{ReadsAs, Verdict, whole, bad, too_long}
use Rattle.record_reader.specs.Versions.{CanBeRead, lines_of_record, size_told, whole_record}
use Rattle.record_reader.proofs.OneReading.{begins_all, one_reading}
use Rattle.record_reader.proofs.Written.{reads_whole, size_again, told_again}
use Rattle.record_player.specs.declared.replay_end.ReplayEnd.{ReplayEnd}
use Rattle.record_player.specs.declared.replay_end.ReplayEnd.TheVariants.{Done, Bad, Illegal, Long, ReadFault, WriteFault, Memory}
use Rattle.record_player.specs.Played.{ArePlayed, BreaksAt, CanPlay}
use Rattle.record_player.specs.Plays.{Plays, pages_of, start_of}
use Rattle.record_player.specs.Replays.{IsJudged, Replays}
use Rattle.record_player.proofs.Entries.{are_played, legal_unmarked, played_at, told_both}
use Rattle.record_player.proofs.Hearing.{same_first}

-- lines that tell an entry tell the size, if any do
size_front : (read more : List RecordLine) → (entries_told read ≡ [] → ⊥) → size_told (read ++ more) ≡ size_told read
size_front [] more some = absurd (some refl)
size_front (l ∷ read) more some = same_first l read more

module _ (asked : ℕ) (size : Option ℕ) (entries : List Step) (reads writes : ℕ) (can : CanBeRead size entries reads writes) where
  abbrev text : List ℕ
  text = whole_record size entries reads writes

  abbrev lines : List RecordLine
  lines = lines_of_record size entries reads writes

  abbrev start : PlainState
  start = opening (unwrap_or size asked)

  reading : ReadsAs text lines whole
  reading = reads_whole size entries reads writes can

  starts : (read : List RecordLine) → size_told read ≡ size → start_of asked read ≡ start
  starts read is = ap (λ o. opening (unwrap_or o asked)) is

  same_text : (t : List ℕ) → Some text ≡ Some t → text ≡ t
  same_text t is = cc is

  module _ (legal : AreLegal true start entries) where
    can_all : ArePlayed start entries
    can_all = are_played start entries (legal_unmarked start entries legal)

    pub plays : Plays asked (Some text) Done
    plays = record {
      read = lines;
      entries = entries;
      right = reading.begins.right;
      few = omega (arith, can.few);
      numbered = tt;
      was_read = λ t is. subst (λ x. ReadsAs x lines whole) (same_text t is) reading;
      played = (sym (told_again size entries reads writes), subst (λ s. ArePlayed s entries) (sym (starts lines (size_again size entries reads writes))) can_all);
    }

    -- an entry that can't be played is none of these
    never_illegal : (n : ℕ) → Plays asked (Some text) (Illegal n) → ⊥
    never_illegal n p =
        let b = p.played in
        let w = p.was_read text refl in
        let front = begins_all text p.read lines w.0 whole w.1 reading in
        let some : entries_told p.read ≡ [] → ⊥ = λ none. omega (arith, ap length (sym b.whole ∙ none), length-append p.entries (b.entry ∷ b.later)) in
        let its_size : size_told p.read ≡ size = sym (size_front p.read front.0 some) ∙ (ap size_told (sym front.1) ∙ size_again size entries reads writes) in
        let all : entries ≡ p.entries ++ b.entry ∷ (b.later ++ entries_told front.0) =
        sym (told_again size entries reads writes) ∙ (ap entries_told front.1 ∙ (told_both p.read front.0 ∙ (ap (λ xs. xs ++ entries_told front.0) b.whole ∙ append_assoc p.entries (b.entry ∷ b.later) (entries_told front.0)))) in
        let played : ArePlayed start (p.entries ++ b.entry ∷ (b.later ++ entries_told front.0)) = subst (ArePlayed start) all can_all in
        b.broken (played_at (start_of asked p.read) p.entries b.entry (b.later ++ entries_told front.0) (subst (λ s. ArePlayed s (p.entries ++ b.entry ∷ (b.later ++ entries_told front.0))) (sym (starts p.read its_size)) played))

    pub ends_done : (how : ReplayEnd) → IsJudged how → Plays asked (Some text) how → how ≡ Done
    ends_done Done judged p = refl
    ends_done (Bad n) judged p = let same : bad n ≡ whole = (one_reading text p.read lines (bad n) whole (p.was_read text refl) reading).1 in absurd (cc same)
    ends_done (Illegal n) judged p = absurd (never_illegal n p)
    ends_done Long judged p = let same : too_long ≡ whole = (one_reading text p.read lines too_long whole (p.was_read text refl) reading).1 in absurd (cc same)
    ends_done ReadFault judged p = absurd judged
    ends_done WriteFault judged p = absurd judged
    ends_done Memory judged p = absurd judged

  pub shows : (out out' : Option (List ℕ)) → Replays asked (Some text) Done out out' → Grows out out' (transcript (items_of start entries))
  shows out out' r =
      let p = r.plays in
      let same : p.read ≡ lines = (one_reading text p.read lines whole whole (p.was_read text refl) reading).0 in
      let told : p.entries ≡ entries = p.played.0 ∙ (ap entries_told same ∙ told_again size entries reads writes) in
      let begins : start_of asked p.read ≡ start = starts p.read (ap size_told same ∙ size_again size entries reads writes) in
      let shown : items_of (start_of asked p.read) p.entries ≡ items_of start entries = ap (λ s. items_of s p.entries) begins ∙ ap (items_of start) told in
      subst (Grows out out') (append-nil (transcript (items_of start entries))) (subst (λ is. Grows out out' (transcript is ++ [])) shown r.shown)
