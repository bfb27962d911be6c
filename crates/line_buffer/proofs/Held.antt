-- Bytes that are held in a buffer: what a move and a read make of them, and where their first line ends.
use Rattle.std.proofs.Common.{◌≡◌, ℕ, ◌+◌, ◌-◌, ◌<◌, ◌≤◌, List, ◌∷◌, ◌++◌, length, get_or, take, drop, sym, ◌∙◌, ap, arith, length-take, length-drop, length-append}
use Rattle.std.specs.Prelude.{Option, None, Some, MatchOption}
use Rattle.std.specs.List.{copy_within}
use Rattle.std.proofs.lemmas.Bool.{eq-eqb, eqb-true}
use Rattle.std.proofs.lemmas.List.{drop-take, drop-drop, drop_more, take-append-drop, take_at, take-append-le, length-take-le, get_or-take}
use Rattle.std.proofs.lemmas.List.Elements.{All-from_get_or}
use Rattle.std.proofs.Math.Seq.{take-append-add}
use Rattle.memchr.specs.Find.{IsFirstByte, is_byte}
use Rattle.script_texts.specs.Script.{HasNoFeed}
use Rattle.line_buffer.specs.Feeds.{IsFed}
use borrow.Rule.Slice.PartMut.{put_mid}

-- the part of a list from one place up to another
abbrev pub part : List ℕ → ℕ → ℕ → List ℕ
part xs from to = take (to - from) (drop from xs)

pub part_skipped : (xs : List ℕ) (from to n : ℕ) → n ≤ to - from → part xs (from + n) to ≡ drop n (part xs from to)
part_skipped xs from to n few =
    let split : to - from ≡ n + (to - (from + n)) = omega arith in
    sym (ap (λ k. drop n (take k (drop from xs))) split ∙ (drop-take n (to - (from + n)) (drop from xs) ∙ ap (λ l. take (to - (from + n)) l) (drop-drop n from xs)))

pub length-part : (xs : List ℕ) (from to : ℕ) → to ≤ length xs → length (part xs from to) ≡ to - from
length-part xs from to inside = omega (arith, length-take (to - from) (drop from xs), length-drop from xs)

moved_front : (xs : List ℕ) (from to : ℕ) → to ≤ length xs → take (to - from) (copy_within xs from to 0) ≡ part xs from to
moved_front xs from to inside = take_at (part xs from to) (drop (0 + (to - from)) xs) (to - from) (length-part xs from to inside)

-- what was held, moved to the front, and a piece behind it
pub part_filled : (xs moved piece : List ℕ) (from to m n : ℕ) → to ≤ length xs → moved ≡ copy_within xs from to 0 → n ≤ length piece
    → part (put_mid (to - from) m moved piece) 0 (to - from + n) ≡ part xs from to ++ take n piece
part_filled xs moved piece from to m n inside same few =
    let front : take (to - from) moved ≡ part xs from to = ap (λ l. take (to - from) l) same ∙ moved_front xs from to inside in
    let back = drop m (drop (to - from) moved) in
    let whole : put_mid (to - from) m moved piece ≡ part xs from to ++ (piece ++ back) = ap (λ l. l ++ (piece ++ back)) front in
    let long : to - from + n - 0 ≡ length (part xs from to) + n = omega (arith, length-part xs from to inside) in
    ap (λ k. take k (put_mid (to - from) m moved piece)) long
    ∙ (ap (λ l. take (length (part xs from to) + n) l) whole
    ∙ (take-append-add (part xs from to) (piece ++ back) n ∙ ap (λ l. part xs from to ++ l) (take-append-le n piece back few)))

-- the first line feed that a search finds
pub fed_by_search : (bytes : List ℕ) (found : Option ℕ) → IsFirstByte (is_byte 10) bytes found → MatchOption found (HasNoFeed bytes) (IsFed bytes)
fed_by_search bytes None none = All-from_get_or (λ c. c ≡ 10 → ⊥) bytes 0 (λ i inside e. none i (omega arith) inside (eq-eqb (get_or bytes i 0) 10 e))
fed_by_search bytes (Some n) is = record {
  line = take n bytes;
  more = drop (n + 1) bytes;
  whole =
      let here : get_or bytes n 0 ≡ 10 = eqb-true (get_or bytes n 0) 10 is.1 in
      sym (take-append-drop n bytes) ∙ ap (λ l. take n bytes ++ l) (drop_more bytes n 0 is.0.high ∙ ap (λ c. c ∷ drop (n + 1) bytes) here);
  plain = All-from_get_or (λ c. c ≡ 10 → ⊥) (take n bytes) 0 (λ i inside e.
      let below : i < n = omega (arith, inside, length-take n bytes) in
      is.0.before i (omega arith) below (eq-eqb (get_or bytes i 0) 10 (sym (get_or-take n bytes i 0 below) ∙ e)));
  long = length-take-le n bytes (omega (arith, is.0.high));
}

pub fed_inside : (bytes : List ℕ) (n : ℕ) → IsFed bytes n → n < length bytes
fed_inside bytes n fed = omega (arith, ap length fed.whole, length-append fed.line (10 ∷ fed.more), fed.long)
