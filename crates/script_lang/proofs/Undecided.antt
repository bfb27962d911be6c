-- What is not decided by bytes is not decided by fewer, and what decides.
use Rattle.std.proofs.Common.{◌≡◌, inl, inr, ℕ, ◌+◌, ◌≤◌, List, [], ◌∷◌, ◌++◌, length, take, drop, refl, sym, ◌∙◌, ap, subst, arith, append_assoc, length-append}
use Rattle.std.specs.Prelude.{◌↔◌, IsTrue, Option}
use Rattle.std.proofs.Math.Dec.{leb}
use Rattle.std.proofs.lemmas.List.{append-nil, take-append-le, take_at}
use Rattle.std.proofs.lemmas.Bool.{cases_lt, le-leb, leb-true}
use Rattle.std.proofs.lemmas.List.Elements.{All-take}
use Rattle.script_texts.specs.declared.event.Event.{Event}
use Rattle.script_texts.specs.Script.{Gives, GiveAll, HasNoFeed, IsBlank, joined, most_bytes}
use Rattle.line_buffer.specs.Feeds.{IsFed, Reads}
use Rattle.script_lang.specs.Lines.{Advances, GivesFront, IsPassedOver, IsUndecided, Skips, given, lines_given, pending}
use Rattle.script_lang.specs.declared.lines.Lines.{Lines}
use Rattle.script_lang.proofs.Judging.{fed_line, gives_both, gives_line, gives_none, gives_nothing, line_front, lines_both, lines_none, lines_one}
use Rattle.line_buffer.proofs.Splits.{IsNot, no_split, one_split}

-- a line that gives no event
blank_line : (line : List ℕ) (mine : List Event) → mine ≡ [] → Gives line mine → IsBlank line
blank_line line mine none gives = elim gives.1 [ inl event ↦ cc (none, event.2) | inr blank ↦ blank.0 ]

no_events : (front back : List Event) → [] ≡ front ++ back → (front ≡ []) × (back ≡ [])
no_events [] back same = (refl, sym same)
no_events (e ∷ front) back same = cc same

-- the first of lines that give no event, and those behind it
first_blank : (line : List ℕ) (lines : List (List ℕ)) → GiveAll (line ∷ lines) [] → Gives line [] × GiveAll lines []
first_blank line lines all =
    let none = no_events all.0 all.1 all.2 in
    (subst (Gives line) none.0 all.3, subst (GiveAll lines) none.1 all.4)

-- bytes that end within the first line have no line feed
within_line : (xs ys line rest : List ℕ) → HasNoFeed line → length xs ≤ length line → xs ++ ys ≡ line ++ rest → HasNoFeed xs
within_line xs ys line rest plain few same =
    let front : take (length xs) line ≡ xs = sym (take-append-le (length xs) line rest few) ∙ (ap (λ l. take (length xs) l) (sym same) ∙ take_at xs ys (length xs) refl) in
    subst HasNoFeed front (All-take (IsNot 10) (length xs) line plain)

-- bytes that go on behind a front
behind_front : (xs ys front rest : List ℕ) → length front ≤ length xs → xs ++ ys ≡ front ++ rest → (more : List ℕ) × (xs ≡ front ++ more) × (more ++ ys ≡ rest)
behind_front xs ys [] rest long same = (xs, refl, same)
behind_front [] ys (c ∷ front) rest long same = absurd (omega arith)
behind_front (d ∷ xs) ys (c ∷ front) rest long same =
    let heads : d ≡ c = cc same in
    let tails : xs ++ ys ≡ front ++ rest = cc same in
    let more = behind_front xs ys front rest (omega arith) tails in
    (more.0, cc (heads, more.1), more.2)

undecided_plain : (before : ℕ) (xs : List ℕ) → HasNoFeed xs → before + length xs ≤ most_bytes → IsUndecided before xs
undecided_plain before xs plain within = record { front = []; rest = xs; count = 0; whole = refl; lines = lines_none; plain = plain; within = within }

undecided_line : (before : ℕ) (line xs : List ℕ) → Gives line [] → IsUndecided (before + length (line ++ 10 ∷ [])) xs → IsUndecided before ((line ++ 10 ∷ []) ++ xs)
undecided_line before line xs gives u = record {
  front = (line ++ 10 ∷ []) ++ u.front;
  rest = u.rest;
  count = 1 + u.count;
  whole = ap (λ l. (line ++ 10 ∷ []) ++ l) u.whole ∙ sym (append_assoc (line ++ 10 ∷ []) u.front u.rest);
  lines = lines_both (line ++ 10 ∷ []) u.front 1 u.count [] [] (lines_one line [] gives) u.lines;
  plain = u.plain;
  within = omega (arith, u.within, length-append (line ++ 10 ∷ []) xs);
}

undecided_front : (lines : List (List ℕ)) (before : ℕ) (xs ys rest : List ℕ) → GiveAll lines [] → HasNoFeed rest → xs ++ ys ≡ joined lines ++ rest → before + length xs ≤ most_bytes → IsUndecided before xs
undecided_front [] before xs ys rest gives plain same within =
    undecided_plain before xs (within_line xs ys rest [] plain (omega (arith, ap length same, length-append xs ys)) (same ∙ sym (append-nil rest))) within
undecided_front (line ∷ lines) before xs ys rest gives plain same within =
    let first = first_blank line lines gives in
    let whole : xs ++ ys ≡ (line ++ 10 ∷ []) ++ (joined lines ++ rest) = same ∙ append_assoc (line ++ 10 ∷ []) (joined lines) rest in
    let long : length (line ++ 10 ∷ []) ≡ length line + 1 = length-append line (10 ∷ []) in
    elim (cases_lt (length line) (length xs)) [
      | inr few ↦ undecided_plain before xs (within_line xs ys line (10 ∷ (joined lines ++ rest)) first.0.0.no_feed few (whole ∙ append_assoc line (10 ∷ []) (joined lines ++ rest))) within
      | inl far ↦
          let more = behind_front xs ys (line ++ 10 ∷ []) (joined lines ++ rest) (omega (arith, long, far)) whole in
          let back : IsUndecided (before + length (line ++ 10 ∷ [])) more.0 = undecided_front lines (before + length (line ++ 10 ∷ [])) more.0 ys rest first.1 plain more.2
          (omega (arith, within, ap length more.1, length-append (line ++ 10 ∷ []) more.0)) in
          subst (IsUndecided before) (sym more.1) (undecided_line before line more.0 first.0 back)
    ]

-- what is not decided by bytes is not decided by those at their front
pub undecided_earlier : (before : ℕ) (xs ys : List ℕ) → IsUndecided before (xs ++ ys) → IsUndecided before xs
undecided_earlier before xs ys u =
    undecided_front u.lines.lines before xs ys u.rest u.lines.gives u.plain (u.whole ∙ ap (λ l. l ++ u.rest) u.lines.whole) (omega (arith, u.within, length-append xs ys))

-- where what comes next was known, the source was not read
pub unread : {S : Type 0} (left : S → Option (List ℕ)) (before : ℕ) (held : List ℕ) (s t : S) (Is : List ℕ → Type 0) → Reads left (IsUndecided before) held s t Is → (IsUndecided before held → ⊥) → t ≡ s
unread left before held s t Is r known = elim r.needed [ inl same ↦ same.0 | inr p ↦ absurd (known (undecided_earlier before held p.before p.needed)) ]

first_passes : (lines : List (List ℕ)) (before : ℕ) (held : List ℕ) (n : ℕ) (fed : IsFed held n) (rest : List ℕ) → GiveAll lines [] → HasNoFeed rest → held ≡ joined lines ++ rest → before + length held ≤ most_bytes → IsPassedOver before fed.line
first_passes [] before held n fed rest gives plain same within = absurd (no_split 10 rest fed.line fed.more plain (sym same ∙ fed.whole))
first_passes (line ∷ lines) before held n fed rest gives plain same within =
    let first = first_blank line lines gives in
    let whole : held ≡ line ++ 10 ∷ (joined lines ++ rest) = same ∙ (append_assoc (line ++ 10 ∷ []) (joined lines) rest ∙ append_assoc line (10 ∷ []) (joined lines ++ rest)) in
    let here = one_split 10 fed.line line fed.more (joined lines ++ rest) fed.plain first.0.0.no_feed (sym fed.whole ∙ whole) in (
      subst IsBlank (sym here.0) (blank_line line [] refl first.0),
      omega (arith, ap length here.0, first.0.0.short),
      omega (arith, within, ap length fed.whole, length-append fed.line (10 ∷ fed.more)),
    )

-- a first line that gives no event is passed over
pub undecided_passes : (before : ℕ) (held : List ℕ) (n : ℕ) (fed : IsFed held n) → IsUndecided before held → IsPassedOver before (take n held)
undecided_passes before held n fed u =
    subst (IsPassedOver before) (sym (fed_line held n fed)) (first_passes u.lines.lines before held n fed u.rest u.lines.gives u.plain (u.whole ∙ ap (λ l. l ++ u.rest) u.lines.whole) u.within)

pub skips_none : (l : Lines) → given l ≤ most_bytes → Skips l l
skips_none l short = record { blank = gives_nothing l; short = short; turns = refl; stage = refl }

-- one more line without an event was passed over
pub skips_line : (a b c : Lines) (n : ℕ) (fed : IsFed (pending b) n) → Skips a b → IsPassedOver (given b) (take n (pending b)) → pending c ≡ drop (n + 1) (pending b) → lines_given c ≡ lines_given b + 1 → given c ≡ given b + (n + 1)
    → Advances b c 0 → c.stage ≡ b.stage → Skips a c
skips_line a b c n fed skips over left lines bytes far stage =
    let line : IsPassedOver (given b) fed.line = subst (IsPassedOver (given b)) (fed_line (pending b) n fed) over in
    let gives = gives_line b c n fed [] (gives_none fed.line fed.plain line.1 line.0) left lines bytes in
    let both = gives_both a b c [] [] (pending a) (pending b) skips.blank (line_front b b c [] refl refl gives) in
    record {
      blank = subst (GivesFront a c []) (sym skips.blank.whole) both;
      short = far.short;
      turns = omega (arith, far.more_turns, skips.turns);
      stage = stage ∙ skips.stage;
    }

-- bytes without a line feed are undecided exactly where they are within the room
pub plain_decides : (before room : ℕ) (bytes : List ℕ) → HasNoFeed bytes → room + before ≡ most_bytes → IsTrue (leb (length bytes) room) ↔ IsUndecided before bytes
plain_decides before room bytes plain whole =
    ((λ is. undecided_plain before bytes plain (omega (arith, leb-true (length bytes) room is, whole))), (λ u. le-leb (length bytes) room (omega (arith, u.within, whole))))
