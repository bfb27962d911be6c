-- A text has one reading: its lines are told apart by their line feeds, each says one thing, and one verdict holds behind them.
use Rattle.std.proofs.Common.{◌≡◌, ◌⊎◌, inl, inr, ℕ, ◌+◌, ◌<◌, ◌≤◌, List, [], ◌∷◌, ◌++◌, length, refl, sym, ◌∙◌, ap, subst, arith, append_assoc, length-append}
use Rattle.std.specs.Prelude.{Option, None, Some}
use Rattle.std.proofs.lemmas.Grind.{flat_map-append}
use Rattle.std.proofs.lemmas.List.{append-nil}
use Rattle.script_texts.specs.Texts.{ended}
use Rattle.script_texts.specs.RecordLines.{RecordLine, said, said_all}
use Rattle.line_buffer.proofs.Splits.{one_split, no_split}
use Rattle.texts.proofs.RecordApart.{first_line}
use Rattle.record_reader.specs.Order.{FitsLine, MayFollow, AreInOrder, AreRecordLines, GoesOnWith, turns_on, turns_on_all}
use Rattle.record_reader.specs.Verdicts.{BeginsWith, EndsAs, IsBadBehind, ReadsAs, Verdict, whole, bad, too_long, most_record_bytes}
use Rattle.record_reader.proofs.Grown.{last_from, last_of_all}
use Rattle.record_reader.proofs.OneLine.{one_said, plain_said}

-- ---- lines that stand in others

turns_within : (read : List RecordLine) (l : RecordLine) (ls : List RecordLine) → turns_on_all read + turns_on l ≤ turns_on_all (read ++ l ∷ ls)
turns_within [] l ls = omega arith
turns_within (m ∷ read) l ls = omega (arith, turns_within read l ls)

within_order : (before : Option RecordLine) (read : List RecordLine) (l : RecordLine) (ls : List RecordLine) → AreInOrder before (read ++ l ∷ ls) → FitsLine l × MayFollow (last_from before read) l
within_order before [] l ls order = (order.0, order.1)
within_order before (m ∷ read) l ls order = within_order (Some m) read l ls order.2

-- a line that stands in a record goes on with those before it
goes_on_within : (read : List RecordLine) (l : RecordLine) (ls : List RecordLine) → AreRecordLines (read ++ l ∷ ls) → GoesOnWith read l
goes_on_within read l ls right =
    let order = within_order None read l ls right.in_order in
    record { fits = order.0; follows = subst (λ x. MayFollow x l) (sym (last_of_all read)) order.1; few = omega (arith, right.few, turns_within read l ls) }

-- The second lines are the first and then more, which stand at the front of the first rest.
record Extends (ls : List RecordLine) (r : List ℕ) (ms : List RecordLine) (s : List ℕ) : Type 0 where
  extra : List RecordLine
  lines : ms ≡ ls ++ extra
  rest : r ≡ said_all extra ++ s

extends_behind : (l m : RecordLine) (ls ms : List RecordLine) (r s : List ℕ) → l ≡ m → Extends ls r ms s → Extends (l ∷ ls) r (m ∷ ms) s
extends_behind l m ls ms r s same g = record { extra = g.extra; lines = let tails = g.lines in cc (same, tails); rest = g.rest }

first_behind : (l : RecordLine) (ls : List RecordLine) (r : List ℕ) → said_all (l ∷ ls) ++ r ≡ said l ++ 10 ∷ (said_all ls ++ r)
first_behind l ls r = ap (λ x. x ++ r) (first_line l ls) ∙ append_assoc (said l) (10 ∷ said_all ls) r

compare : (b c : Option RecordLine) (ls ms : List RecordLine) (r s : List ℕ) → AreInOrder b ls → AreInOrder c ms → said_all ls ++ r ≡ said_all ms ++ s → Extends ls r ms s ⊎ Extends ms s ls r
compare b c [] ms r s p q h = inl (record { extra = ms; lines = refl; rest = h })
compare b c (l ∷ ls) [] r s p q h = inr (record { extra = l ∷ ls; lines = refl; rest = sym h })
compare b c (l ∷ ls) (m ∷ ms) r s p q h =
    let split = one_split 10 (said l) (said m) (said_all ls ++ r) (said_all ms ++ s) (plain_said l p.0) (plain_said m q.0) (sym (first_behind l ls r) ∙ (h ∙ first_behind m ms s)) in
    let same : l ≡ m = one_said l m p.0 q.0 split.0 in
    elim (compare (Some l) (Some m) ls ms r s p.2 q.2 split.1) [
      | inl g ↦ inl (extends_behind l m ls ms r s same g)
      | inr g ↦ inr (extends_behind m l ms ls s r (sym same) g)
    ]

-- ---- behind lines at which a reading ends, no line goes on with them

module _ (read : List RecordLine) (l : RecordLine) (more : List ℕ) (goes : GoesOnWith read l) (near : length (said_all read) + length (said l) < most_record_bytes) where
  goes_past : (v : Verdict) (rest : List ℕ) → rest ≡ said l ++ 10 ∷ more → EndsAs read v rest → ⊥
  goes_past whole rest is none = omega (arith, ap length (sym is ∙ none), length-append (said l) (10 ∷ more))
  goes_past (bad n) rest is (number, inl b) = let split = one_split 10 b.0 (said l) b.1 more b.3 (plain_said l goes.fits) (sym b.2 ∙ is) in b.5 l split.0 goes
  goes_past (bad n) rest is (number, inr b) = no_split 10 rest (said l) more b.1 is
  goes_past too_long rest is long = omega (arith, long.none (said l) more is, near)

said_both : (read lines : List RecordLine) → length (said_all (read ++ lines)) ≡ length (said_all read) + length (said_all lines)
said_both read lines = ap length (flat_map-append (λ m. ended (said m)) read lines) ∙ length-append (said_all read) (said_all lines)

no_more : (ls ms extra : List RecordLine) (r s : List ℕ) (v : Verdict) → EndsAs ls v r → AreRecordLines ms → length (said_all ms) ≤ most_record_bytes → ms ≡ ls ++ extra → r ≡ said_all extra ++ s → (ls ≡ ms) × (r ≡ s)
no_more ls ms [] r s v ends right short lines rest = (sym (lines ∙ append-nil ls), rest)
no_more ls ms (l ∷ extra) r s v ends right short lines rest =
    let goes = goes_on_within ls l extra (subst AreRecordLines lines right) in
    let near : length (said_all ls) + length (said l) < most_record_bytes = omega (arith, short, ap (λ x. length (said_all x)) lines, said_both ls (l ∷ extra), ap length (first_line l extra), length-append (said l) (10 ∷ said_all extra)) in
    absurd (goes_past ls l (said_all extra ++ s) goes near v r (rest ∙ first_behind l extra s) ends)

-- ---- one verdict holds

not_bad_end : (read : List RecordLine) (rest : List ℕ) → rest ≡ [] → IsBadBehind read rest → ⊥
not_bad_end read rest none (inl b) = omega (arith, ap length (sym b.2 ∙ none), length-append b.0 (10 ∷ b.1))
not_bad_end read rest none (inr b) = b.0 none

not_bad_long : (read : List RecordLine) (rest : List ℕ) → EndsAs read too_long rest → IsBadBehind read rest → ⊥
not_bad_long read rest long (inl b) = omega (arith, b.4, long.none b.0 b.1 b.2)
not_bad_long read rest long (inr b) = omega (arith, b.2, long.beyond)

not_end_long : (read : List RecordLine) (rest : List ℕ) → rest ≡ [] → EndsAs read too_long rest → ⊥
not_end_long read rest none long = omega (arith, ap length none, long.within, long.beyond)

one_end : (read : List RecordLine) (rest : List ℕ) (v w : Verdict) → EndsAs read v rest → EndsAs read w rest → v ≡ w
one_end read rest whole whole p q = refl
one_end read rest whole (bad n) p q = absurd (not_bad_end read rest p q.1)
one_end read rest whole too_long p q = absurd (not_end_long read rest p q)
one_end read rest (bad m) whole p q = absurd (not_bad_end read rest q p.1)
one_end read rest (bad m) (bad n) p q = ap bad (p.0 ∙ sym q.0)
one_end read rest (bad m) too_long p q = absurd (not_bad_long read rest q p.1)
one_end read rest too_long whole p q = absurd (not_end_long read rest q p)
one_end read rest too_long (bad n) p q = absurd (not_bad_long read rest p q.1)
one_end read rest too_long too_long p q = refl

-- ---- the whole text

module _ (text : List ℕ) where
  compared : (ls ms : List RecordLine) (r s : List ℕ) → BeginsWith text ls r → BeginsWith text ms s → Extends ls r ms s ⊎ Extends ms s ls r
  compared ls ms r s p q = compare None None ls ms r s p.right.in_order q.right.in_order (sym p.text_is ∙ q.text_is)

  pub begins_all : (read lines : List RecordLine) (rest : List ℕ) (v : Verdict) → BeginsWith text read rest → ReadsAs text lines v → (more : List RecordLine) × (lines ≡ read ++ more)
  begins_all read lines rest v p q = elim (compared lines read q.rest rest q.begins p) [
    | inl g ↦ ([], let same = no_more lines read g.extra q.rest rest v q.ends p.right p.short g.lines g.rest in same.0 ∙ sym (append-nil read))
    | inr g ↦ (g.extra, g.lines)
  ]

  same_place : (ls ms : List RecordLine) (v w : Verdict) (p : ReadsAs text ls v) (q : ReadsAs text ms w) → (ls ≡ ms) × (p.rest ≡ q.rest)
  same_place ls ms v w p q = elim (compared ls ms p.rest q.rest p.begins q.begins) [
    | inl g ↦ no_more ls ms g.extra p.rest q.rest v p.ends q.begins.right q.begins.short g.lines g.rest
    | inr g ↦ let same = no_more ms ls g.extra q.rest p.rest w q.ends p.begins.right p.begins.short g.lines g.rest in (sym same.0, sym same.1)
  ]

  pub one_reading : (ls ms : List RecordLine) (v w : Verdict) → ReadsAs text ls v → ReadsAs text ms w → (ls ≡ ms) × (v ≡ w)
  one_reading ls ms v w p q =
      let same = same_place ls ms v w p q in
      let lines = same.0 in
      let rest = same.1 in
      (lines, one_end ms q.rest v w (subst (λ x. EndsAs ms v x) rest (subst (λ x. EndsAs x v p.rest) lines p.ends)) q.ends)
