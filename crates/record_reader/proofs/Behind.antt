-- What a line at the front makes of the rest of a record.
use Rattle.std.proofs.Common.{◌≡◌, ◌⊎◌, inl, inr, ℕ, ◌+◌, ◌<◌, ◌≤◌, List, ◌∷◌, ◌++◌, length, drop, refl, sym, ◌∙◌, ap, arith, append_assoc, length-append}
use Rattle.std.specs.Prelude.{Option}
use Rattle.line_buffer.specs.Feeds.{AllLeft, EndsWithin, GoesBeyond, IsFed, Reads, StopsWithin}
use Rattle.script_lang.proofs.Judging.{fed_more}
use Rattle.line_buffer.proofs.Reading.{beyond_line, feed_behind, reads_left}
use Rattle.script_texts.specs.RecordLines.{RecordLine, said, said_all}
use Rattle.record_reader.specs.Order.{GoesOnWith}
use Rattle.record_reader.specs.Verdicts.{IsBadBehind, IsLongBehind, most_record_bytes}
use Rattle.record_reader.specs.Reader.{FrontIsBad, FrontIsLong, TakesFront, pending}
use Rattle.record_reader.specs.declared.reader.RecordReader.{RecordReader}

fed_told : (held : List ℕ) (n : ℕ) (fed : IsFed held n) (told : List ℕ) → held ++ told ≡ fed.line ++ 10 ∷ (fed.more ++ told)
fed_told held n fed told = ap (λ l. l ++ told) fed.whole ∙ append_assoc fed.line (10 ∷ fed.more) told

pub long_front : (read : List RecordLine) (held : List ℕ) (n : ℕ) → IsFed held n → length (said_all read) ≤ most_record_bytes → most_record_bytes ≤ length (said_all read) + n → FrontIsLong read held
long_front read held n fed short over told =
    let whole = fed_told held n fed told in
    record {
      within = short;
      beyond = omega (arith, ap length whole, length-append fed.line (10 ∷ (fed.more ++ told)), fed.long, over);
      none = λ line more is. omega (arith, feed_behind fed.line (10 ∷ (fed.more ++ told)) line more fed.plain (sym whole ∙ is), fed.long, over);
    }

pub bad_front : (read : List RecordLine) (held : List ℕ) (n : ℕ) (fed : IsFed held n) → length (said_all read) + n < most_record_bytes → ((l : RecordLine) → fed.line ≡ said l → GoesOnWith read l → ⊥) → FrontIsBad read held
bad_front read held n fed near none told = inl (fed.line, fed.more ++ told, fed_told held n fed told, fed.plain, omega (arith, near, fed.long), none)

-- a first line that ends within the room, which is too long or does not
pub ends_bad : (read : List RecordLine) (least room : ℕ) (xs told : List ℕ) → ((l : RecordLine) → GoesOnWith read l → length (said l) ≤ 256) → room + length (said_all read) ≡ most_record_bytes → (256 < least) ⊎ (room < least) → EndsWithin least room xs → IsBadBehind read (xs ++ told)
ends_bad read least room xs told short whole over ends =
    let long : 256 < length ends.line = elim over [ inl h ↦ omega (arith, h, ends.far) | inr h ↦ absurd (omega (arith, h, ends.far, ends.near)) ] in
    let behind = ap (λ l. l ++ told) ends.whole ∙ append_assoc ends.line (10 ∷ ends.more) told in
    inl (ends.line, ends.more ++ told, behind, ends.plain, omega (arith, whole, ends.near), (λ l is goes. omega (arith, long, ap length is, short l goes)))

-- a last line without a line feed
pub stops_bad : (read : List RecordLine) (least room : ℕ) (xs : List ℕ) → room + length (said_all read) ≡ most_record_bytes → 0 < least → StopsWithin least room xs → IsBadBehind read xs
stops_bad read least room xs whole some stops = inr ((λ none. omega (arith, ap length none, stops.far, some)), stops.plain, omega (arith, whole, stops.near))

pub goes_long : (read : List RecordLine) (room : ℕ) (xs told : List ℕ) → room + length (said_all read) ≡ most_record_bytes → GoesBeyond room xs → IsLongBehind read (xs ++ told)
goes_long read room xs told whole goes = record {
  within = omega (arith, whole);
  beyond = omega (arith, whole, goes.long, length-append xs told);
  none = λ line more is. omega (arith, whole, beyond_line room xs told line more goes is);
}

pub gives_line : (old new : RecordReader) (n : ℕ) (l : RecordLine) (fed : IsFed (pending old) n) → fed.line ≡ said l → pending new ≡ drop (n + 1) (pending old) → pending old ≡ said l ++ 10 ∷ pending new
gives_line old new n l fed is left = fed.whole ∙ (ap (λ x. x ++ 10 ∷ fed.more) is ∙ ap (λ x. said l ++ 10 ∷ x) (sym (left ∙ fed_more (pending old) n fed)))

module _ {S : Type 0} (left : S → Option (List ℕ)) where
  -- the line at the front of what is held now, and what stands behind it is pending
  pub takes_front : {Needs : List ℕ → Type 0} {held mid : List ℕ} {s t : S} (new : RecordReader) (l : RecordLine) → Reads left Needs held s t (λ xs. xs ≡ mid) → mid ≡ said l ++ 10 ∷ pending new → AllLeft left held s (TakesFront left new t l)
  takes_front new l r front = record {
    each = λ xs rest.
        let now = reads_left left r xs rest in
        (pending new ++ now.0, now.2 ∙ (ap (λ x. x ++ now.0) (r.is ∙ front) ∙ append_assoc (said l) (10 ∷ pending new) now.0), (now.0, now.1, refl));
  }
