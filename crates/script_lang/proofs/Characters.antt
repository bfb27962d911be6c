-- What is typed: each character is one byte, or a backslash and three digits.
use Rattle.std.proofs.Common.{◌≡◌, ◌≢◌, ◌⊎◌, inl, inr, ℕ, ◌≤◌, ◌<◌, List, [], ◌∷◌, ◌++◌, length, take, drop, refl, sym, ◌∙◌, ap, subst, arith, length-append, All}
use Rattle.std.specs.Prelude.{Option, Some, None, MatchOption}
use Rattle.std.specs.List.{flat_map}
use Rattle.std.proofs.lemmas.Bool.Decides.{nat_tests}
use Rattle.std.proofs.lemmas.List.{take_at, drop_at}
use Rattle.std.proofs.lemmas.List.Elements.{All-cons, All-nil}
use Rattle.word36.proofs.OctalLemmas.{length-octal_padded}
use Rattle.word36.specs.Octal.{octal_value}
use Rattle.script_texts.specs.Script.{IsOctal, Types, TypesOne}
use Rattle.script_texts.specs.Texts.{escaped}
use Rattle.script_lang.specs.Typing.{EscapesFirst, EscapesNone, TypesFirst, TypesNone}
use Rattle.script_lang.proofs.Sequences.{IsSequence}

-- behind a backslash and three digits of a character stands the rest
escape_behind : (text digits rest : List ℕ) (c : ℕ) → text ≡ 92 ∷ (digits ++ rest) → length digits ≡ 3 → IsOctal 3 digits c → (drop 4 text ≡ rest) × (octal_value (take 3 (drop 1 text)) ≡ c)
escape_behind text digits rest c whole three octal =
    let behind : drop 1 text ≡ digits ++ rest = ap (λ l. drop 1 l) whole in
    (ap (λ l. drop 4 l) whole ∙ drop_at digits rest 3 three, ap (λ l. octal_value (take 3 l)) behind ∙ (ap octal_value (take_at digits rest 3 three) ∙ octal.1))

-- what a text types first stands at its front
record IsFirst (text : List ℕ) (c : ℕ) (rest : List ℕ) : Type 0 where
  is : ((text ≡ c ∷ rest) × (c ≢ 92)) ⊎ ((digits : List ℕ) × (text ≡ 92 ∷ (digits ++ rest)) × (length digits ≡ 3) × IsOctal 3 digits c)

first_is : (text front rest : List ℕ) (c : ℕ) → text ≡ front ++ rest → TypesOne front c → IsFirst text c rest
first_is text front rest c whole (inl h) = record { is = inl (whole ∙ ap (λ l. l ++ rest) h.0, h.3) }
first_is text front rest c whole (inr h) = record { is = inr (h.0, whole ∙ ap (λ l. l ++ rest) h.1, h.2, h.3) }

firsts : (text : List ℕ) (c d : ℕ) (x y : List ℕ) → IsFirst text c x → IsFirst text d y → (c ≡ d) × (x ≡ y)
firsts text c d x y p q = elim p.is [
  | inl m ↦ elim q.is [
    | inl n ↦ let same : c ∷ x ≡ d ∷ y = sym m.0 ∙ n.0 in (cc same, cc same)
    | inr n ↦ let same : c ∷ x ≡ 92 ∷ (n.0 ++ y) = sym m.0 ∙ n.1 in absurd (m.1 (cc same))
  ]
  | inr m ↦ elim q.is [
    | inl n ↦ let same : d ∷ y ≡ 92 ∷ (m.0 ++ x) = sym n.0 ∙ m.1 in absurd (n.1 (cc same))
    | inr n ↦
        let a = escape_behind text m.0 x c m.1 m.2 m.3 in
        let b = escape_behind text n.0 y d n.1 n.2 n.3 in
        (sym a.1 ∙ b.1, sym a.0 ∙ b.0)
  ]
]

first_once : (text : List ℕ) (c d : ℕ) (x y : List ℕ) → TypesFirst text c x → TypesFirst text d y → (c ≡ d) × (x ≡ y)
first_once text c d x y p q = firsts text c d x y (first_is text p.front x c p.whole p.types) (first_is text q.front y d q.whole q.types)

one_some : (front : List ℕ) (c : ℕ) → TypesOne front c → 0 < length front
one_some front c (inl h) = omega (arith, ap length h.0)
one_some front c (inr h) = omega (arith, ap length h.1)

pub typing : IsSequence TypesFirst Types
typing = record {
  nil = refl;
  none = λ text h. h;
  more = λ text c rest cs first h. (first.front, rest, first.whole, first.types, h);
  parts = λ text c cs h. (h.1, record { front = h.0; whole = h.2; types = h.3 }, h.4);
  once = first_once;
  some = λ c rest first. omega (arith, ap length first.whole, length-append first.front rest, one_some first.front c first.types);
}

-- the first three bytes of digits of a character are these
pub escape_digits : (text front : List ℕ) (c : ℕ) (rest : List ℕ) → front ≡ take 3 text → EscapesFirst text c rest → IsOctal 3 front c
escape_digits text front c rest is e = subst (λ l. IsOctal 3 l c) (sym (is ∙ (ap (λ l. take 3 l) e.whole ∙ take_at e.digits rest 3 e.three))) e.octal

-- a backslash is followed by three digits of a character
pub escapes_types : (text : List ℕ) (c : ℕ) (rest : List ℕ) → EscapesFirst text c rest → TypesFirst (92 ∷ text) c rest
escapes_types text c rest e = record {
  front = 92 ∷ e.digits;
  whole = ap (λ l. 92 ∷ l) e.whole;
  types = inr (e.digits, refl, e.three, e.octal, e.small);
}

escapes_only : (text front rest : List ℕ) (c : ℕ) → 92 ∷ text ≡ front ++ rest → TypesOne front c → EscapesFirst text c rest
escapes_only text front rest c whole (inl h) = let same : 92 ∷ text ≡ c ∷ rest = whole ∙ ap (λ l. l ++ rest) h.0 in absurd (h.3 (cc same))
escapes_only text front rest c whole (inr h) =
    let same : 92 ∷ text ≡ 92 ∷ (h.0 ++ rest) = whole ∙ ap (λ l. l ++ rest) h.1 in
    record { digits = h.0; whole = cc same; three = h.2; octal = h.3; small = h.4 }

pub escapes_none : (text : List ℕ) → EscapesNone text → TypesNone (92 ∷ text)
escapes_none text none c rest first = none c rest (escapes_only text first.front rest c first.whole first.types)

-- what is read behind a backslash is what the text types first
pub escapes_read : {R : Type 0} (read : Option R) (value : R → ℕ) (left : R → List ℕ) (text : List ℕ) (c : ℕ) (rest : List ℕ) → text ≡ c ∷ rest → c ≡ 92
    → MatchOption read (EscapesNone rest) (λ p. EscapesFirst rest (value p) (left p)) → MatchOption read (TypesNone text) (λ p. TypesFirst text (value p) (left p))
escapes_read None value left text c rest whole is h = let same : text ≡ 92 ∷ rest = whole ∙ ap (λ d. d ∷ rest) is in subst TypesNone (sym same) (escapes_none rest h)
escapes_read (Some p) value left text c rest whole is h =
    let same : text ≡ 92 ∷ rest = whole ∙ ap (λ d. d ∷ rest) is in
    subst (λ l. TypesFirst l (value p) (left p)) (sym same) (escapes_types rest (value p) (left p) h)

-- a text that does not begin with a backslash types its first byte
pub plain_types : (c : ℕ) (rest : List ℕ) → 32 ≤ c → c ≤ 126 → c ≢ 92 → TypesFirst (c ∷ rest) c rest
plain_types c rest low high other = record { front = c ∷ []; whole = refl; types = inl (refl, low, high, other) }

one_small : (front : List ℕ) (c : ℕ) → TypesOne front c → c < 128
one_small front c (inl h) = omega (arith, h.2)
one_small front c (inr h) = h.4

pub types_small : (text cs : List ℕ) → Types text cs → All (λ c. c < 128) cs
types_small text [] h = All-nil (λ c. c < 128)
types_small text (c ∷ cs) h = All-cons (λ c. c < 128) c cs (one_small h.0 c h.3) (types_small h.1 cs h.4)

escaped_short : (c : ℕ) → length (escaped c) ≤ 4
escaped_short c = grind (arith, nat_tests, length-octal_padded 3 c)

escaped_plain : (c : ℕ) → 32 ≤ c → c ≤ 126 → c ≢ 92 → length (escaped c) ≡ 1
escaped_plain c low high other = grind (arith, nat_tests)

one_longer : (front : List ℕ) (c : ℕ) → TypesOne front c → length (escaped c) ≤ length front
one_longer front c (inl h) = omega (arith, ap length h.0, escaped_plain c h.1 h.2 h.3)
one_longer front c (inr h) = omega (arith, ap length h.1, h.2, escaped_short c)

-- the canonical text of what is typed is no longer than any other
pub types_longer : (text cs : List ℕ) → Types text cs → length (flat_map escaped cs) ≤ length text
types_longer text [] h = omega arith
types_longer text (c ∷ cs) h =
    omega (arith, ap length h.2, length-append h.0 h.1, length-append (escaped c) (flat_map escaped cs), one_longer h.0 c h.3, types_longer h.1 cs h.4)
