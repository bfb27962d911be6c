-- What an answer says of a whole text, of which some lines were read.
use Rattle.std.proofs.Common.{◌≡◌, ℕ, List, [], ◌∷◌, ◌++◌, sym, ◌∙◌, ap, append_assoc}
use Rattle.std.specs.Prelude.{Option}
use Rattle.std.proofs.lemmas.Grind.{flat_map-append}
use Rattle.std.proofs.lemmas.List.{append-nil}
use Rattle.script_texts.specs.Texts.{ended}
use Rattle.script_texts.specs.RecordLines.{RecordLine, said, said_all}
use Rattle.line_buffer.specs.Feeds.{AllLeft}
use Rattle.record_reader.specs.Verdicts.{EndsAs, ReadsAs, Verdict}
use Rattle.record_reader.specs.Reader.{Advances, StandsIn, TakesFront, pending}
use Rattle.record_reader.specs.declared.reader.RecordReader.{RecordReader}

one_more : (read : List RecordLine) (l : RecordLine) (rest : List ℕ) → said_all (read ++ l ∷ []) ++ rest ≡ said_all read ++ (said l ++ 10 ∷ rest)
one_more read l rest =
    let behind : said_all (read ++ l ∷ []) ≡ said_all read ++ ended (said l) = flat_map-append (λ m. ended (said m)) read (l ∷ []) ∙ ap (λ x. said_all read ++ x) (append-nil (ended (said l))) in
    ap (λ x. x ++ rest) behind ∙ (append_assoc (said_all read) (ended (said l)) rest ∙ ap (λ x. said_all read ++ x) (append_assoc (said l) (10 ∷ []) rest))

module _ {S : Type 0} (left : S → Option (List ℕ)) (text : List ℕ) (old : RecordReader) (s : S) (read : List RecordLine) (h : StandsIn left text old s read) where
  pub still_stands : (new : RecordReader) (s' : S) (l : RecordLine) → AllLeft left (pending old) s (TakesFront left new s' l) → Advances old new l → StandsIn left text new s' (read ++ l ∷ [])
  still_stands new s' l takes moves =
      let front = takes.each h.rest h.behind in
      record {
        has = moves.has_read read h.has;
        rest = front.0;
        text_is = h.text_is ∙ (ap (λ x. said_all read ++ x) front.1 ∙ sym (one_more read l front.0));
        behind = front.2;
      }

  pub reads_as : (v : Verdict) → AllLeft left (pending old) s (EndsAs read v) → ReadsAs text read v
  reads_as v ends = record {
    rest = h.rest;
    begins = record { text_is = h.text_is; right = h.has.right; short = h.has.short };
    ends = ends.each h.rest h.behind;
  }
