-- Rows of words: each word stands in a field behind its space, and a row is one list of words.
use Rattle.std.proofs.Common.{◌≡◌, inl, inr, ℕ, ◌+◌, ◌≤◌, ◌<◌, ◌*◌, List, [], ◌∷◌, ◌++◌, length, get_or, set, take, drop, refl, sym, ◌∙◌, ap, subst, arith, length-append, All}
use Rattle.std.proofs.lemmas.List.{drop-set-lt, drop_more, length-take-le, take-append-drop}
use Rattle.std.proofs.lemmas.List.Elements.{All-head, All-tail}
use Rattle.script_texts.specs.declared.event.WordRow.{WordRow}
use Rattle.script_texts.specs.Limits.{FitsRow}
use Rattle.script_texts.specs.Script.{IsOctal, WordFields}
use Rattle.script_texts.specs.Texts.{field}
use Rattle.script_lang.specs.Fields.{IsBehind, IsHead}
use Rattle.script_lang.specs.Rows.{StartsNoWord, StartsWord}
use Rattle.script_lang.proofs.Fronts.{octal_field, head_once}
use Rattle.script_lang.proofs.Sequences.{IsSequence, one_sequence}

pub fields_behind : (text ws : List ℕ) → WordFields text ws → IsBehind text
fields_behind text [] h = inl h
fields_behind text (w ∷ ws) h = inr (h.0 ++ h.1, h.2)

word_head : (text : List ℕ) (w : ℕ) (rest : List ℕ) (s : StartsWord text w rest) → IsHead (drop 1 text) s.front rest
word_head text w rest s = record { whole = ap (λ l. drop 1 l) s.whole; plain = (octal_field 12).plain s.front w s.octal; behind = s.behind }

word_once : (text : List ℕ) (v w : ℕ) (x y : List ℕ) → StartsWord text v x → StartsWord text w y → (v ≡ w) × (x ≡ y)
word_once text v w x y p q =
    let same = head_once (drop 1 text) (drop 1 text) p.front q.front x y refl (word_head text v x p) (word_head text w y q) in
    ((octal_field 12).once q.front v w (subst (λ a. IsOctal 12 a v) same.0 p.octal) q.octal, same.1)

pub rowing : IsSequence StartsWord WordFields
rowing = record {
  nil = refl;
  none = λ text h. h;
  more = λ text w rest ws first h. (first.front, rest, first.whole, first.octal, h);
  parts = λ text w ws h. (h.1, record { front = h.0; whole = h.2; octal = h.3; behind = fields_behind h.1 ws h.4 }, h.4);
  once = word_once;
  some = λ w rest first. omega (arith, ap length first.whole);
}

-- a field behind its space, and what stands behind it
pub starts_word : (text front rest : List ℕ) (w : ℕ) → IsHead text front rest → IsOctal 12 front w → StartsWord (32 ∷ text) w rest
starts_word text front rest w head octal = record { front = front; whole = ap field head.whole; octal = octal; behind = head.behind }

pub starts_no_word : (text front rest : List ℕ) → IsHead text front rest → ((w : ℕ) → IsOctal 12 front w → ⊥) → StartsNoWord (32 ∷ text)
starts_no_word text front rest head none w more s =
    let same = head_once text text front s.front rest more refl head (word_head (32 ∷ text) w more s) in
    none w (subst (λ a. IsOctal 12 a w) (sym same.0) s.octal)

pub starts_with_space : (text : List ℕ) → ((rest : List ℕ) → text ≡ 32 ∷ rest → ⊥) → StartsNoWord text
starts_with_space text none w more s = none (s.front ++ more) s.whole

all_zero : (xs ys : List ℕ) → All (λ w. w ≡ 0) xs → All (λ w. w ≡ 0) ys → length xs ≡ length ys → xs ≡ ys
all_zero [] [] p q n = refl
all_zero [] (y ∷ ys) p q n = absurd (omega (arith, n))
all_zero (x ∷ xs) [] p q n = absurd (omega (arith, n))
all_zero (x ∷ xs) (y ∷ ys) p q n =
    let heads : x ≡ y = All-head (λ w. w ≡ 0) x xs p ∙ sym (All-head (λ w. w ≡ 0) y ys q) in
    let tails : xs ≡ ys = all_zero xs ys (All-tail (λ w. w ≡ 0) x xs p) (All-tail (λ w. w ≡ 0) y ys q) (omega (arith, n)) in
    cc (heads, tails)

same_row : (r s : WordRow) → r.count ≡ s.count → r.words ≡ s.words → r ≡ s
same_row r s count words i = record { count = count i; words = words i }

-- the same fields make one row
pub one_row : (x y : List ℕ) (m n : ℕ) (r s : WordRow) → x ≡ y → WordFields x (take r.count r.words) → WordFields y (take s.count s.words) → FitsRow m r → FitsRow n s → r ≡ s
one_row x y m n r s same p q f g =
    let front : take r.count r.words ≡ take s.count s.words = one_sequence rowing y (take r.count r.words) (take s.count s.words) (subst (λ t. WordFields t (take r.count r.words)) same p) q in
    let r_long : length (take r.count r.words) ≡ r.count = length-take-le r.count r.words (omega (arith, f.most, f.room)) in
    let s_long : length (take s.count s.words) ≡ s.count = length-take-le s.count s.words (omega (arith, g.most, g.room)) in
    let count : r.count ≡ s.count = omega (arith, ap length front, r_long, s_long) in
    let r_whole : take r.count r.words ++ drop r.count r.words ≡ r.words = take-append-drop r.count r.words in
    let s_whole : take s.count s.words ++ drop s.count s.words ≡ s.words = take-append-drop s.count s.words in
    let back : drop r.count r.words ≡ drop s.count s.words = all_zero (drop r.count r.words) (drop s.count s.words) f.rest g.rest
    (omega (arith, ap length r_whole, ap length s_whole, length-append (take r.count r.words) (drop r.count r.words), length-append (take s.count s.words) (drop s.count s.words), f.room, g.room, count, r_long, s_long)) in
    same_row r s count (sym r_whole ∙ (ap (λ l. l ++ drop r.count r.words) front ∙ (ap (λ l. take s.count s.words ++ l) back ∙ s_whole)))

pub fields_short : (text ws : List ℕ) → WordFields text ws → length text ≤ length ws * 13
fields_short text [] h = omega (arith, ap length h)
fields_short text (w ∷ ws) h = omega (arith, ap length h.2, length-append h.0 h.1, h.3.0.1, fields_short h.1 ws h.4)

-- the words past the count stay 0 as one more is put in
pub zeros_set : (ws : List ℕ) (i w : ℕ) → i < length ws → All (λ v. v ≡ 0) (drop i ws) → All (λ v. v ≡ 0) (drop (i + 1) (set ws i w))
zeros_set ws i w inside h =
    let rest = All-tail (λ v. v ≡ 0) (get_or ws i 0) (drop (i + 1) ws) (subst (All (λ v. v ≡ 0)) (drop_more ws i 0 inside) h) in
    subst (All (λ v. v ≡ 0)) (sym (drop-set-lt (i + 1) ws i w (omega arith))) rest
