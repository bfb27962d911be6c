-- The least number whose bit isn't set.
use Rattle.std.proofs.Common.{◌≡◌, ℕ, ◌+◌, ◌*◌, ◌-◌, ◌/◌, ◌%◌, ◌^◌, ◌<◌, ◌≤◌, ◌==◌, ◌⊎◌, inl, inr, List, length, get_or, replicate, true, false, Option, Some, None, MatchOption, bit_or, refl, sym, ◌∙◌, ap, subst, arith, w64}
use Rattle.std.proofs.lemmas.Bool.{cases_eq, cases_lt}
use Rattle.std.proofs.lemmas.List.{get_or-replicate, get_or_past, length-replicate}
use Rattle.std.proofs.Math.Pow.{pow-lt}
use Rattle.std.proofs.lemmas.Nat.{or_lt}
use Rattle.std.proofs.lemmas.Nat.Bits.{same_from_bits_below, bit_at_or, bit_at_ones, bit_at_ones_above, bit_at-trailing_ones, bit_at-lt, bit_at-zero}
use Rattle.std.specs.Int.{bit_at, trailing_ones}
use Rattle.std.specs.Int.Count.{count_trailing_zeros}
use Rattle.std.specs.FinSet as set
use Rattle.number_set.specs.Numbers.{AreAllThere, IsLeastAbsent, Numbers}
use Rattle.number_set.specs.Words.{AreFull, IsFirstClear, IsRoom, has_bit, is_full, numbers_of}
use Rattle.number_set.proofs.Members.{there_below, none_pass}

abbrev zeros : ℕ → List ℕ
zeros count = replicate count 0

zero_word : (count i : ℕ) → (i < count) ⊎ (count ≤ i) → get_or (zeros count) i 0 ≡ 0
zero_word count i (inl inside) = get_or-replicate count i 0 0 inside
zero_word count i (inr past) = get_or_past (zeros count) i 0 (omega (arith, length-replicate {A = ℕ} count 0, past))

-- zero words have no number
pub no_numbers : (bound count : ℕ) → numbers_of bound (zeros count) ≡ record { bound = bound; members = set.empty }
no_numbers bound count = ap (λ m. let s : Numbers = record { bound = bound; members = m } in s)
    (none_pass (has_bit (zeros count)) bound (λ q. ap (λ w. bit_at w (q % 64) == 1) (zero_word count (q / 64) (cases_lt (q / 64) count)) ∙ ap (λ b. b == 1) (bit_at-zero (q % 64))))

-- and none of them is full
pub none_full : (count : ℕ) → 1 < count → AreFull (zeros count) (record { bound = count; members = set.empty })
none_full count several = record {
  several = omega (arith, length-replicate {A = ℕ} count 0, several);
  bound = sym (length-replicate {A = ℕ} count 0);
  each = λ w. set.contains-empty _ w ∙ sym (ap (λ v. v == 2 ^ 64 - 1) (zero_word count w (cases_lt w count)));
}

-- so many words are enough, and no more than it takes
pub room_made : (bound count : ℕ) → bound < 2 ^ 64 → count ≡ (bound + 63) / 64 → IsRoom bound count
room_made bound count fits is = record { fits = fits; enough = omega arith; few = omega arith }

-- the bit of a number isn't set, but those of all numbers before it, from one on
pub record IsGap (words : List ℕ) (from n : ℕ) : Type 0 where
  pub after : from ≤ n
  pub clear : has_bit words n ≡ false
  pub set_before : (k : ℕ) → from ≤ k → k < n → has_bit words k ≡ true

is_one : (b : ℕ) → b ≡ 1 → (b == 1) ≡ true
is_one b e = grind arith

is_zero : (b : ℕ) → b ≡ 0 → (b == 1) ≡ false
is_zero b e = grind arith

-- the bit of a number, by its word and its place
pub bit_there : (words : List ℕ) (k i p : ℕ) → k / 64 ≡ i → k % 64 ≡ p → bit_at (get_or words i 0) p ≡ 1 → has_bit words k ≡ true
bit_there words k i p word place is =
    is_one _ (ap (λ j. bit_at (get_or words j 0) (k % 64)) word ∙ ap (bit_at (get_or words i 0)) place ∙ is)

pub bit_away : (words : List ℕ) (k i p : ℕ) → k / 64 ≡ i → k % 64 ≡ p → bit_at (get_or words i 0) p ≡ 0 → has_bit words k ≡ false
bit_away words k i p word place is =
    is_zero _ (ap (λ j. bit_at (get_or words j 0) (k % 64)) word ∙ ap (bit_at (get_or words i 0)) place ∙ is)

-- each number of a full word is there
pub all_of_full : (words : List ℕ) (k : ℕ) → is_full words (k / 64) ≡ true → has_bit words k ≡ true
all_of_full words k full =
    let ones : get_or words (k / 64) 0 ≡ 2 ^ 64 - 1 = grind (arith, full) in
    is_one _ (ap (λ w. bit_at w (k % 64)) ones ∙ bit_at_ones 64 (k % 64) (omega arith))

module _ (word from : ℕ) (fits : word < 2 ^ 64) (small : from < 64) where
  abbrev low_ones : ℕ
  low_ones = 1 * 2 ^ from % 2 ^ 64 - 1

  abbrev with_low : ℕ
  with_low = bit_or word low_ones

  low_is : low_ones ≡ 2 ^ from - 1
  low_is = let less = pow-lt small in ap (λ m. m - 1) (let is : 1 * 2 ^ from % 2 ^ 64 ≡ 2 ^ from = omega (arith, less) in is)

  with_low_fits : with_low < 2 ^ 64
  with_low_fits = or_lt 64 word low_ones fits (omega arith)

  bit_before : (i : ℕ) → i < from → bit_at with_low i ≡ 1
  bit_before i less =
      let one : bit_at low_ones i ≡ 1 = ap (λ m. bit_at m i) low_is ∙ bit_at_ones from i less in
      omega (arith, bit_at_or word low_ones i, one, bit_at-lt word i)

  bit_after : (i : ℕ) → from ≤ i → bit_at with_low i ≡ bit_at word i
  bit_after i far =
      let none : bit_at low_ones i ≡ 0 = ap (λ m. bit_at m i) low_is ∙ bit_at_ones_above from i far in
      omega (arith, bit_at_or word low_ones i, none)

  -- the ones at the end, the bits before the first one taken as set
  pub first_clear_is : IsFirstClear word from (trailing_ones w64 with_low)
  unfolding count_trailing_zeros
  first_clear_is = elim (cases_lt (with_low + 1) (2 ^ 64)) [
    | inl some ↦
        let at = bit_at-trailing_ones w64 with_low some in
        let far : from ≤ trailing_ones w64 with_low = elim (cases_lt (trailing_ones w64 with_low) from) [
          | inl less ↦ absurd (omega (arith, at.1, bit_before (trailing_ones w64 with_low) less))
          | inr more ↦ more
        ] in
        record {
          after = far;
          within = omega (arith, at.0);
          clear = λ less. sym (bit_after (trailing_ones w64 with_low) far) ∙ at.1;
          passed = λ k after before. sym (bit_after k after) ∙ at.2 k before;
        }
    | inr all ↦
        let full : with_low ≡ 2 ^ 64 - 1 = omega (arith, with_low_fits) in
        let most : trailing_ones w64 with_low ≡ 64 = ap (trailing_ones w64) full in
        record {
          after = omega arith;
          within = omega arith;
          clear = λ less. absurd (omega arith);
          passed = λ k after before. sym (bit_after k after) ∙ ap (λ m. bit_at m k) full ∙ bit_at_ones 64 k (omega arith);
        }
  ]

-- a word that isn't full has a clear bit
pub clear_there : (word i : ℕ) → word < 2 ^ 64 → (word == 2 ^ 64 - 1) ≡ false → IsFirstClear word 0 i → i < 64
clear_there word i fits some first = elim (cases_lt i 64) [
  | inl less ↦ less
  | inr past ↦
      let full : word ≡ 2 ^ 64 - 1 = same_from_bits_below 64 word (2 ^ 64 - 1) fits (omega arith)
      (λ k less. first.passed k (omega arith) (omega arith) ∙ sym (bit_at_ones 64 k less)) in
      absurd (let no : false ≡ true = sym some ∙ grind (arith, full) in cc)
]

-- a word that isn't full, and those before it, from one on, are
pub record IsNextWord (words : List ℕ) (from next : ℕ) : Type 0 where
  pub later : from ≤ next
  pub inside : next < length words
  pub some : is_full words next ≡ false
  pub full : (v : ℕ) → from ≤ v → v < next → is_full words v ≡ true

pub next_word : (words : List ℕ) (f s : Numbers) (from next : ℕ) → AreFull words f → s ≡ f → IsLeastAbsent s from next → IsNextWord words from next
next_word words f s from next full same least =
    let is : IsLeastAbsent f from next = subst (λ (q : Numbers). IsLeastAbsent q from next) same least in
    record {
      later = is.after;
      inside = omega (arith, is.below, full.bound);
      some = sym (full.each next) ∙ is.absent;
      full = λ v low high. sym (full.each v) ∙ is.there v low high;
    }

-- the numbers of words that there are, below the bound and up to the end of its word, fit
pub word_fits : (bound count next : ℕ) → IsRoom bound count → next < count → 64 * next < 2 ^ 64 - 63
word_fits bound count next room inside = omega (arith, room.few, room.fits)

module _ (words : List ℕ) (from : ℕ) where
  -- found in the word of the first number
  pub gap_in_word : (word i : ℕ) → get_or words (from / 64) 0 ≡ word → IsFirstClear word (from % 64) i → i < 64 → IsGap words from (64 * (from / 64) + i)
  gap_in_word word i read first less = record {
    after = omega (arith, first.after);
    clear = bit_away words (64 * (from / 64) + i) (from / 64) i (omega arith) (omega arith) (ap (λ w. bit_at w i) read ∙ first.clear less);
    set_before = λ k after before.
        bit_there words k (from / 64) (k % 64) (omega arith) refl (ap (λ w. bit_at w (k % 64)) read ∙ first.passed (k % 64) (omega arith) (omega arith));
  }

  -- each number of that word is there, from the first one on
  abbrev pub IsPassed : Type 0
  IsPassed = (k : ℕ) → from ≤ k → k / 64 ≡ from / 64 → has_bit words k ≡ true

  pub word_passed : (word i : ℕ) → get_or words (from / 64) 0 ≡ word → IsFirstClear word (from % 64) i → 64 ≤ i → IsPassed
  word_passed word i read first most k after same =
      bit_there words k (from / 64) (k % 64) same refl (ap (λ w. bit_at w (k % 64)) read ∙ first.passed (k % 64) (omega arith) (omega arith))

  -- the words from the next one on, up to another, are full
  abbrev pub AreFullTo : ℕ → Type 0
  AreFullTo next = (v : ℕ) → from / 64 + 1 ≤ v → v < next → is_full words v ≡ true

  passed_to : (next : ℕ) → IsPassed → AreFullTo next → (k : ℕ) → from ≤ k → k / 64 < next → has_bit words k ≡ true
  passed_to next passed full k after before = elim (cases_eq (k / 64) (from / 64)) [
    | inl e ↦ passed k after e
    | inr ne ↦ all_of_full words k (full (k / 64) (omega arith) before)
  ]

  -- found in a later word
  pub gap_later : (next word i : ℕ) → IsPassed → IsNextWord words (from / 64 + 1) next → get_or words next 0 ≡ word → IsFirstClear word 0 i → i < 64
      → IsGap words from (64 * next + i)
  gap_later next word i passed is read first less = record {
    after = omega (arith, is.later);
    clear = bit_away words (64 * next + i) next i (omega arith) (omega arith) (ap (λ w. bit_at w i) read ∙ first.clear less);
    set_before = λ k after before. elim (cases_lt (k / 64) next) [
      | inl lower ↦ passed_to next passed is.full k after lower
      | inr more ↦
          let same : k / 64 ≡ next = omega arith in
          bit_there words k next (k % 64) same refl (ap (λ w. bit_at w (k % 64)) read ∙ first.passed (k % 64) (omega arith) (omega arith))
    ];
  }

  module _ (bound : ℕ) (s : Numbers) (view : numbers_of bound words ≡ s) where
    -- no number is left
    pub none_left : IsRoom bound (length words) → IsPassed → AreFullTo (length words) → AreAllThere s from
    none_left room passed full = subst (λ (q : Numbers). AreAllThere q from) view
        (λ k after below. there_below (has_bit words) bound k below ∙ passed_to (length words) passed full k after (omega (arith, room.enough)))

    gap_found : (n : ℕ) (o : Option ℕ) → IsGap words from n → MatchOption o (bound ≤ n) (λ m. (m ≡ n) × (n < bound))
        → MatchOption o (AreAllThere (numbers_of bound words) from) (IsLeastAbsent (numbers_of bound words) from)
    gap_found n None gap beyond = λ k after below. there_below (has_bit words) bound k below ∙ gap.set_before k after (omega (arith, beyond))
    gap_found n (Some m) gap is = record {
      after = omega (arith, is.0, gap.after);
      below = omega (arith, is.0, is.1);
      absent = there_below (has_bit words) bound m (omega (arith, is.0, is.1)) ∙ ap (has_bit words) is.0 ∙ gap.clear;
      there = λ k after before. there_below (has_bit words) bound k (omega (arith, is.0, is.1)) ∙ gap.set_before k after (omega (arith, is.0));
    }

    -- the least number, if it is below the bound
    pub gap_below : (n : ℕ) (o : Option ℕ) → IsGap words from n → MatchOption o (s.bound ≤ n) (λ m. (m ≡ n) × (n < s.bound))
        → MatchOption o (AreAllThere s from) (IsLeastAbsent s from)
    gap_below n o gap is = subst (λ (q : Numbers). MatchOption o (AreAllThere q from) (IsLeastAbsent q from)) view
        (gap_found n o gap (subst (λ (q : Numbers). MatchOption o (q.bound ≤ n) (λ m. (m ≡ n) × (n < q.bound))) (sym view) is))
