-- One text has one verdict: its lines are told apart by their line feeds, each gives one thing, and
-- each verdict holds at one place.
use Rattle.std.proofs.Common.{◌≡◌, ◌⊎◌, inl, inr, ℕ, ◌+◌, ◌≤◌, List, [], ◌∷◌, ◌++◌, length, refl, sym, ◌∙◌, ap, subst, arith, append_assoc, length-append}
use Rattle.std.proofs.lemmas.Grind.{flat_map-append}
use Rattle.std.proofs.lemmas.List.{append-nil}
use Rattle.script_texts.specs.declared.event.Event.{Event}
use Rattle.script_texts.specs.Script.{BeginsWith, Gives, GiveAll, IsBadLine, IsBadRest, IsLongRest, IsScript, IsTooLong, StopsAt, joined, most_bytes, most_turns, turns_in, turns_of}
use Rattle.line_buffer.proofs.Splits.{one_split, no_split}
use Rattle.script_lang.proofs.KeywordBytes.{blank_spells_none}
use Rattle.script_lang.proofs.Spellings.{one_event}

pub gives_once : (line : List ℕ) (es fs : List Event) → Gives line es → Gives line fs → es ≡ fs
gives_once line es fs (short, inl p) (_, inl q) = p.2 ∙ (ap (λ e. e ∷ []) (one_event line p.0 q.0 p.1 q.1) ∙ sym q.2)
gives_once line es fs (short, inl p) (_, inr q) = absurd (blank_spells_none line p.0 q.0 p.1)
gives_once line es fs (short, inr p) (_, inl q) = absurd (blank_spells_none line q.0 p.0 q.1)
gives_once line es fs (short, inr p) (_, inr q) = p.1 ∙ sym q.1

-- The second lines are the first and then more, which stand at the front of the first rest.
record GoesOn (ls : List (List ℕ)) (es : List Event) (r : List ℕ) (ms : List (List ℕ)) (fs : List Event) (s : List ℕ) : Type 0 where
  extra : List (List ℕ)
  more : List Event
  lines : ms ≡ ls ++ extra
  events : fs ≡ es ++ more
  rest : r ≡ joined extra ++ s
  gives : GiveAll extra more

first_line : (l : List ℕ) (ls : List (List ℕ)) (r : List ℕ) → joined (l ∷ ls) ++ r ≡ l ++ 10 ∷ (joined ls ++ r)
first_line l ls r = append_assoc (l ++ 10 ∷ []) (joined ls) r ∙ append_assoc l (10 ∷ []) (joined ls ++ r)

goes_on_behind : (l m : List ℕ) (ls ms : List (List ℕ)) (mine yours es fs : List Event) (r s : List ℕ) → l ≡ m → mine ≡ yours → GoesOn ls es r ms fs s → GoesOn (l ∷ ls) (mine ++ es) r (m ∷ ms) (yours ++ fs) s
goes_on_behind l m ls ms mine yours es fs r s same events g = record {
  extra = g.extra;
  more = g.more;
  lines = let tails = g.lines in cc (same, tails);
  events = ap (λ x. yours ++ x) g.events ∙ (ap (λ x. x ++ (es ++ g.more)) (sym events) ∙ sym (append_assoc mine es g.more));
  rest = g.rest;
  gives = g.gives;
}

compare : (ls ms : List (List ℕ)) (es fs : List Event) (r s : List ℕ) → GiveAll ls es → GiveAll ms fs → joined ls ++ r ≡ joined ms ++ s → GoesOn ls es r ms fs s ⊎ GoesOn ms fs s ls es r
compare [] ms es fs r s p q h = inl (record { extra = ms; more = fs; lines = refl; events = ap (λ x. x ++ fs) (sym p); rest = h; gives = q })
compare (l ∷ ls) [] es fs r s p q h = inr (record { extra = l ∷ ls; more = es; lines = refl; events = ap (λ x. x ++ es) (sym q); rest = sym h; gives = p })
compare (l ∷ ls) (m ∷ ms) es fs r s p q h =
    let split = one_split 10 l m (joined ls ++ r) (joined ms ++ s) p.3.0.no_feed q.3.0.no_feed (sym (first_line l ls r) ∙ (h ∙ first_line m ms s)) in
    let mine : p.0 ≡ q.0 = gives_once m p.0 q.0 (subst (λ x. Gives x p.0) split.0 p.3) q.3 in
    elim (compare ls ms p.1 q.1 r s p.4 q.4 split.1) [
      | inl g ↦ inl (subst (λ x. GoesOn (l ∷ ls) es r (m ∷ ms) x s) (sym q.2) (subst (λ x. GoesOn (l ∷ ls) x r (m ∷ ms) (q.0 ++ q.1) s) (sym p.2) (goes_on_behind l m ls ms p.0 q.0 p.1 q.1 r s split.0 mine g)))
      | inr g ↦ inr (subst (λ x. GoesOn (m ∷ ms) x s (l ∷ ls) es r) (sym q.2) (subst (λ x. GoesOn (m ∷ ms) (q.0 ++ q.1) s (l ∷ ls) x r) (sym p.2) (goes_on_behind m l ms ls q.0 p.0 q.1 p.1 s r (sym split.0) (sym mine) g)))
    ]

-- A text begins with lines of a script that end within the limits, and no further line does.
record Halts (text : List ℕ) (events : List Event) : Type 0 where
  begins : BeginsWith text events
  short : length begins.front ≤ most_bytes
  stops : (line more : List ℕ) (mine : List Event) → begins.rest ≡ line ++ 10 ∷ more → Gives line mine → turns_in events + turns_in mine ≤ most_turns → length begins.front + (length line + 1) ≤ most_bytes → ⊥

-- two halts are at one place
record IsSame (text : List ℕ) (es fs : List Event) (a : BeginsWith text es) (b : BeginsWith text fs) : Type 0 where
  events : fs ≡ es
  front : b.front ≡ a.front
  rest : a.rest ≡ b.rest
  count : b.count ≡ a.count

pub turns_in-append : (es fs : List Event) → turns_in (es ++ fs) ≡ turns_in es + turns_in fs
turns_in-append [] fs = omega arith
turns_in-append (e ∷ es) fs = let rest = turns_in-append es fs in omega (arith, rest)

no_more : (text : List ℕ) (es fs : List Event) (a : Halts text es) (b : Halts text fs) (extra : List (List ℕ)) (more : List Event) → b.begins.lines.lines ≡ a.begins.lines.lines ++ extra → fs ≡ es ++ more
    → a.begins.rest ≡ joined extra ++ b.begins.rest → GiveAll extra more → IsSame text es fs a.begins b.begins
no_more text es fs a b [] more lines events rest gives =
    let same : b.begins.lines.lines ≡ a.begins.lines.lines = lines ∙ append-nil a.begins.lines.lines in
    record {
      events = events ∙ (ap (λ x. es ++ x) gives ∙ append-nil es);
      front = b.begins.lines.whole ∙ (ap joined same ∙ sym a.begins.lines.whole);
      rest = rest;
      count = sym b.begins.lines.many ∙ (ap length same ∙ a.begins.lines.many);
    }
no_more text es fs a b (l ∷ ls) more lines events rest gives =
    let turns : turns_in fs ≡ turns_in es + (turns_in gives.0 + turns_in gives.1) =
    ap turns_in events ∙ (turns_in-append es more ∙ ap (λ n. turns_in es + n) (ap turns_in gives.2 ∙ turns_in-append gives.0 gives.1)) in
    let front : b.begins.front ≡ a.begins.front ++ joined (l ∷ ls) =
    b.begins.lines.whole ∙ (ap joined lines ∙ (flat_map-append (λ x. x ++ 10 ∷ []) a.begins.lines.lines (l ∷ ls) ∙ ap (λ x. x ++ joined (l ∷ ls)) (sym a.begins.lines.whole))) in
    let long : length b.begins.front ≡ length a.begins.front + (length l + 1 + length (joined ls)) =
    omega (arith, ap length front, length-append a.begins.front (joined (l ∷ ls)), length-append (l ++ 10 ∷ []) (joined ls), length-append l (10 ∷ [])) in
    absurd (a.stops l (joined ls ++ b.begins.rest) gives.0 (rest ∙ first_line l ls b.begins.rest) gives.3 (omega (arith, turns, b.begins.few)) (omega (arith, long, b.short)))

turned : (text : List ℕ) (es fs : List Event) (a : BeginsWith text es) (b : BeginsWith text fs) → IsSame text fs es b a → IsSame text es fs a b
turned text es fs a b s = record { events = sym s.events; front = sym s.front; rest = sym s.rest; count = sym s.count }

same_place : (text : List ℕ) (es fs : List Event) (a : Halts text es) (b : Halts text fs) → IsSame text es fs a.begins b.begins
same_place text es fs a b =
    let x = a.begins in
    let y = b.begins in
    let whole : joined x.lines.lines ++ x.rest ≡ joined y.lines.lines ++ y.rest =
    ap (λ l. l ++ x.rest) (sym x.lines.whole) ∙ (sym x.whole ∙ (y.whole ∙ ap (λ l. l ++ y.rest) y.lines.whole)) in
    elim (compare x.lines.lines y.lines.lines es fs x.rest y.rest x.lines.gives y.lines.gives whole) [
      | inl g ↦ no_more text es fs a b g.extra g.more g.lines g.events g.rest g.gives
      | inr g ↦ turned text es fs x y (no_more text fs es b a g.extra g.more g.lines g.events g.rest g.gives)
    ]

-- a whole script halts at its end
abbrev begins_script : (text : List ℕ) (es : List Event) → IsScript text es → BeginsWith text es
begins_script text es s = record { front = text; rest = []; count = s.count; whole = sym (append-nil text); lines = s.lines; few = s.few }

abbrev halts_script : (text : List ℕ) (es : List Event) (s : IsScript text es) → Halts text es
halts_script text es s = record {
  begins = begins_script text es s;
  short = s.short;
  stops = λ line more mine rest gives few near. omega (arith, ap length rest, length-append line (10 ∷ more));
}

-- no line of a script is bad
good_line : (so_far : ℕ) (line : List ℕ) (mine : List Event) → Gives line mine → so_far + turns_in mine ≤ most_turns → IsBadLine so_far line → ⊥
good_line so_far line mine (short, given) few (inl long) = omega (arith, short.short, long)
good_line so_far line mine (short, inl p) few (inr (inl none)) = none.0 p.0 p.1
good_line so_far line mine (short, inr p) few (inr (inl none)) = none.1 p.0
good_line so_far line mine (short, inl p) few (inr (inr over)) =
    let same : over.0 ≡ p.0 = one_event line over.0 p.0 over.1 p.1 in
    let turns : turns_in mine ≡ turns_of over.0 + 0 = ap turns_in p.2 ∙ ap (λ e. turns_of e + 0) (sym same) in
    omega (arith, turns, over.2, few)
good_line so_far line mine (short, inr p) few (inr (inr over)) = blank_spells_none line over.0 p.0 over.1

bad_stops : (before so_far : ℕ) (rest line more : List ℕ) (mine : List Event) → IsBadRest before so_far rest → rest ≡ line ++ 10 ∷ more → Gives line mine → so_far + turns_in mine ≤ most_turns → ⊥
bad_stops before so_far rest line more mine (inl bad) same gives few =
    let split = one_split 10 line bad.0 more bad.1 gives.0.no_feed bad.3 (sym same ∙ bad.2) in
    good_line so_far line mine gives few (subst (IsBadLine so_far) (sym split.0) bad.5)
bad_stops before so_far rest line more mine (inr last) same gives few = no_split 10 rest line more last.1 same

bad_short : (before so_far : ℕ) (rest : List ℕ) → IsBadRest before so_far rest → before ≤ most_bytes
bad_short before so_far rest (inl bad) = omega (arith, bad.4)
bad_short before so_far rest (inr last) = omega (arith, last.2)

abbrev halts_bad : (n : ℕ) (text : List ℕ) (es : List Event) → StopsAt n text es → Halts text es
halts_bad n text es s = record {
  begins = s.begins;
  short = bad_short (length s.begins.front) (turns_in es) s.begins.rest s.bad;
  stops = λ line more mine rest gives few near. bad_stops (length s.begins.front) (turns_in es) s.begins.rest line more mine s.bad rest gives few;
}

abbrev halts_long : (text : List ℕ) (es : List Event) → IsTooLong text es → Halts text es
halts_long text es s = record {
  begins = s.begins;
  short = s.long.0;
  stops = λ line more mine rest gives few near. omega (arith, s.long.2 line more rest, near);
}

-- a bad rest is no end
bad_some : (before so_far : ℕ) (rest : List ℕ) → IsBadRest before so_far rest → rest ≡ [] → ⊥
bad_some before so_far rest (inl bad) none = omega (arith, ap length (sym bad.2 ∙ none), length-append bad.0 (10 ∷ bad.1))
bad_some before so_far rest (inr last) none = last.0 none

-- a bad rest does not pass the limit first
bad_not_long : (before so_far : ℕ) (rest : List ℕ) → IsBadRest before so_far rest → IsLongRest before rest → ⊥
bad_not_long before so_far rest (inl bad) long = omega (arith, bad.4, long.2 bad.0 bad.1 bad.2)
bad_not_long before so_far rest (inr last) long = omega (arith, last.2, long.1)

pub script_once : (text : List ℕ) (es fs : List Event) → IsScript text es → IsScript text fs → es ≡ fs
script_once text es fs s t = let same = same_place text es fs (halts_script text es s) (halts_script text fs t) in sym same.events

pub stops_once : (text : List ℕ) (m n : ℕ) (es fs : List Event) → StopsAt m text es → StopsAt n text fs → (m ≡ n) × (es ≡ fs)
stops_once text m n es fs s t =
    let same = same_place text es fs (halts_bad m text es s) (halts_bad n text fs t) in
    (omega (arith, s.numbered, t.numbered, same.count), sym same.events)

pub long_once : (text : List ℕ) (es fs : List Event) → IsTooLong text es → IsTooLong text fs → es ≡ fs
long_once text es fs s t = let same = same_place text es fs (halts_long text es s) (halts_long text fs t) in sym same.events

pub script_not_bad : (text : List ℕ) (n : ℕ) (es fs : List Event) → IsScript text es → StopsAt n text fs → ⊥
script_not_bad text n es fs s t =
    let same = same_place text es fs (halts_script text es s) (halts_bad n text fs t) in
    bad_some (length t.begins.front) (turns_in fs) t.begins.rest t.bad (sym same.rest)

pub script_not_long : (text : List ℕ) (es fs : List Event) → IsScript text es → IsTooLong text fs → ⊥
script_not_long text es fs s t =
    let same = same_place text es fs (halts_script text es s) (halts_long text fs t) in
    omega (arith, s.short, t.long.1, ap length same.front, ap length (sym same.rest))

pub bad_not_too_long : (text : List ℕ) (n : ℕ) (es fs : List Event) → StopsAt n text es → IsTooLong text fs → ⊥
bad_not_too_long text n es fs s t =
    let same = same_place text es fs (halts_bad n text es s) (halts_long text fs t) in
    let rest : IsLongRest (length s.begins.front) s.begins.rest = subst (λ k. IsLongRest k s.begins.rest) (ap length same.front) (subst (IsLongRest (length t.begins.front)) (sym same.rest) t.long) in
    bad_not_long (length s.begins.front) (turns_in es) s.begins.rest s.bad rest
