-- One bit of a word is set or cleared.
use Rattle.std.proofs.Common.{◌≡◌, ◌≢◌, ℕ, ◌*◌, ◌-◌, ◌/◌, ◌%◌, ◌^◌, ◌<◌, ◌≤◌, ◌==◌, inl, inr, List, length, get_or, set as put, true, false, Option, Some, None, MatchOption, bit_and, bit_or, sym, ◌∙◌, ap, subst, arith, w64, get_or-set_same, get_or-set_other}
use Rattle.std.proofs.lemmas.Bool.{cases_eq}
use Rattle.std.proofs.lemmas.List.{get_or_read, length-set}
use Rattle.std.proofs.lemmas.Nat.{le_or_l, or_lt}
use Rattle.std.proofs.lemmas.Nat.Bits.{bit_at_set_same, bit_at_set_other, bit_at_clear_same, bit_at_clear_other, bit_at_ones}
use Rattle.std.specs.Int.{bit_at, bit_not}
use Rattle.std.specs.FinSet as set
use Rattle.number_set.specs.Numbers.{Numbers}
use Rattle.number_set.specs.Words.{AreFull, IsRoom, has_bit, is_full, numbers_of}
use Rattle.number_set.proofs.Members.{added, added_other, gone, gone_other, one_more, one_less}

-- what holds of an answer is replaced by what follows from it
pub match_moved : {A : Type 0} (o : Option A) (P P' : Type 0) (Q Q' : A → Type 0) → (P → P') → ((a : A) → Q a → Q' a) → MatchOption o P Q → MatchOption o P' Q'
match_moved None P P' Q Q' none some is = none is
match_moved (Some a) P P' Q Q' none some is = some a is

-- there are as many words as before
pub room_kept : (bound i x : ℕ) (words : List ℕ) → IsRoom bound (length words) → IsRoom bound (length (put words i x))
room_kept bound i x words room = subst (IsRoom bound) (sym (length-set words i x)) room

pub few_kept : (i x : ℕ) (words : List ℕ) → length words ≤ 1 → length (put words i x) ≤ 1
few_kept i x words few = omega (arith, few, length-set words i x)

-- the word of a number below the bound is there, and is the one that was read
pub word_read : (bound n word : ℕ) (words : List ℕ) (s : Numbers) → IsRoom bound (length words) → numbers_of bound words ≡ s → n < s.bound
    → word ≡ get_or words (n / 64) word → (n < bound) × (n / 64 < length words) × (get_or words (n / 64) 0 ≡ word)
word_read bound n word words s room is below read =
    let low : n < bound = omega (arith, below, ap (λ (q : Numbers). q.bound) is) in
    let inside : n / 64 < length words = omega (arith, room.enough) in
    (low, inside, sym (get_or_read words (n / 64) word inside read 0))

module _ (words : List ℕ) (n word : ℕ) (inside : n / 64 < length words) (read : get_or words (n / 64) 0 ≡ word) where
  abbrev pub set_word : ℕ
  set_word = bit_or word (1 * 2 ^ (n % 64) % 2 ^ 64)

  abbrev pub cleared_word : ℕ
  cleared_word = bit_and word (bit_not w64 (1 * 2 ^ (n % 64) % 2 ^ 64))

  -- the bits of other words stay, whatever a word becomes
  other_bit : (x k : ℕ) → ((k / 64 ≡ n / 64) → bit_at x (k % 64) ≡ bit_at word (k % 64)) → has_bit (put words (n / 64) x) k ≡ has_bit words k
  other_bit x k alike = ap (λ b. b == 1) (elim (cases_eq (k / 64) (n / 64)) [
    | inl e ↦
        ap (λ i. bit_at (get_or (put words (n / 64) x) i 0) (k % 64)) e
        ∙ ap (λ w. bit_at w (k % 64)) (get_or-set_same words (n / 64) x 0 inside) ∙ alike e
        ∙ sym (ap (λ i. bit_at (get_or words i 0) (k % 64)) e ∙ ap (λ w. bit_at w (k % 64)) read)
    | inr ne ↦ ap (λ w. bit_at w (k % 64)) (get_or-set_other words (n / 64) (k / 64) x 0 ne)
  ])

  other_place : (k : ℕ) → k ≢ n → k / 64 ≡ n / 64 → k % 64 ≢ n % 64
  other_place k ne e same = ne (omega arith)

  own_bit : (x b : ℕ) → bit_at x (n % 64) ≡ b → has_bit (put words (n / 64) x) n ≡ (b == 1)
  own_bit x b is = ap (λ w. bit_at w (n % 64) == 1) (get_or-set_same words (n / 64) x 0 inside) ∙ ap (λ c. c == 1) is

  pub numbers_more : (bound : ℕ) → n < bound → numbers_of bound (put words (n / 64) set_word) ≡ record { bound = bound; members = set.insert (numbers_of bound words).members n }
  numbers_more bound below = ap (λ m. let s : Numbers = record { bound = bound; members = m } in s) (
      one_more (has_bit words) (has_bit (put words (n / 64) set_word)) bound n below
      (own_bit set_word 1 (bit_at_set_same w64 word (n % 64) (omega arith)))
      (λ k ne. other_bit set_word k (λ e. bit_at_set_other w64 word (n % 64) (omega arith) (k % 64) (other_place k ne e)))
      )

  pub numbers_less : (bound : ℕ) → n < bound → numbers_of bound (put words (n / 64) cleared_word) ≡ record { bound = bound; members = set.remove (numbers_of bound words).members n }
  numbers_less bound below = ap (λ m. let s : Numbers = record { bound = bound; members = m } in s) (
      one_less (has_bit words) (has_bit (put words (n / 64) cleared_word)) bound n below
      (own_bit cleared_word 0 (bit_at_clear_same w64 word (n % 64) (omega arith)))
      (λ k ne. other_bit cleared_word k (λ e. bit_at_clear_other w64 word (n % 64) (omega arith) (k % 64) (omega arith) (other_place k ne e)))
      )

  -- a word that isn't full once a bit was set wasn't full before
  pub set_not_full : (set_word == 2 ^ 64 - 1) ≡ false → (word == 2 ^ 64 - 1) ≡ false
  set_not_full not_full = elim (cases_eq word (2 ^ 64 - 1)) [
    | inl e ↦
        let least = le_or_l word (1 * 2 ^ (n % 64) % 2 ^ 64) in
        let most = or_lt 64 word (1 * 2 ^ (n % 64) % 2 ^ 64) (omega arith) (omega arith) in
        let full : set_word ≡ 2 ^ 64 - 1 = omega arith in
        absurd (let no : false ≡ true = sym not_full ∙ grind (arith, full) in cc)
    | inr ne ↦ grind (arith, ne)
  ]

  -- a word of which a bit was cleared isn't full
  pub cleared_not_full : (cleared_word == 2 ^ 64 - 1) ≡ false
  cleared_not_full = elim (cases_eq cleared_word (2 ^ 64 - 1)) [
    | inl e ↦ absurd (omega (arith, bit_at_clear_same w64 word (n % 64) (omega arith), ap (λ w. bit_at w (n % 64)) e, bit_at_ones 64 (n % 64) (omega arith)))
    | inr ne ↦ grind (arith, ne)
  ]

  same_full : (x v : ℕ) → v ≡ n / 64 → is_full (put words (n / 64) x) v ≡ (x == 2 ^ 64 - 1)
  same_full x v e = ap (λ i. get_or (put words (n / 64) x) i 0 == 2 ^ 64 - 1) e ∙ ap (λ w. w == 2 ^ 64 - 1) (get_or-set_same words (n / 64) x 0 inside)

  other_full : (x v : ℕ) → v ≢ n / 64 → is_full (put words (n / 64) x) v ≡ is_full words v
  other_full x v ne = ap (λ w. w == 2 ^ 64 - 1) (get_or-set_other words (n / 64) v x 0 ne)

  module _ (f : Numbers) (full : AreFull words f) (x : ℕ) where
    -- a word that was full stays so, and one that wasn't doesn't become so
    pub full_kept : (x == 2 ^ 64 - 1) ≡ (word == 2 ^ 64 - 1) → AreFull (put words (n / 64) x) f
    full_kept alike = record {
      several = omega (arith, full.several, length-set words (n / 64) x);
      bound = full.bound ∙ sym (length-set words (n / 64) x);
      each = λ v. full.each v ∙ elim (cases_eq v (n / 64)) [
        | inl e ↦ ap (is_full words) e ∙ ap (λ w. w == 2 ^ 64 - 1) read ∙ sym (same_full x v e ∙ alike)
        | inr ne ↦ sym (other_full x v ne)
      ];
    }

    pub full_more : (x == 2 ^ 64 - 1) ≡ true → AreFull (put words (n / 64) x) (record f { members = set.insert f.members (n / 64) })
    full_more is = record {
      several = omega (arith, full.several, length-set words (n / 64) x);
      bound = full.bound ∙ sym (length-set words (n / 64) x);
      each = λ v. elim (cases_eq v (n / 64)) [
        | inl e ↦ added f.members (n / 64) v e ∙ sym (same_full x v e ∙ is)
        | inr ne ↦ added_other f.members (n / 64) v ne ∙ full.each v ∙ sym (other_full x v ne)
      ];
    }

    pub full_less : (x == 2 ^ 64 - 1) ≡ false → AreFull (put words (n / 64) x) (record f { members = set.remove f.members (n / 64) })
    full_less is = record {
      several = omega (arith, full.several, length-set words (n / 64) x);
      bound = full.bound ∙ sym (length-set words (n / 64) x);
      each = λ v. elim (cases_eq v (n / 64)) [
        | inl e ↦ gone f.members (n / 64) v e ∙ sym (same_full x v e ∙ is)
        | inr ne ↦ gone_other f.members (n / 64) v ne ∙ full.each v ∙ sym (other_full x v ne)
      ];
    }
