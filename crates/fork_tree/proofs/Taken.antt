-- The bits of a job: those of the slots that have a fork.
use Rattle.std.proofs.Common.{◌≡◌, ◌≢◌, ℕ, ◌*◌, ◌%◌, ◌^◌, ◌<◌, ◌≤◌, true, false, List, length, get_or, set, Option, None, Some, refl, sym, ◌∙◌, ap, arith, w32, ◌⊎◌, inl, inr, get_or-set_same, get_or-set_other, length-set}
use Rattle.std.specs.Prelude.{is_none, replicate, slice_index}
use Rattle.std.specs.Int.{bit_at, bit_not, trailing_ones}
use Rattle.std.specs.Int.Bits.{bit_and, bit_or}
use Rattle.std.specs.Option.{option_map}
use Rattle.std.proofs.lemmas.Bool.{cases_eq, cases_lt}
use Rattle.std.proofs.lemmas.List.{get_or-replicate, get_or_past, length-replicate, set-get_or}
use Rattle.std.proofs.Math.Pow.{pow-lt}
use Rattle.std.proofs.lemmas.Nat.{and_le_l, or_lt}
use Rattle.std.proofs.lemmas.Nat.Bits.{bit_at-pow_other, bit_at-trailing_ones, bit_at_clear_other, bit_at_clear_same, bit_at_set_other, bit_at_set_same}
use Rattle.machine_names.specs.declared.names.Tty.{Tty}
use Rattle.machine_names.specs.declared.names.TheConstants.{TERMINALS, MOST_FORKS}
use Rattle.plain_model.specs.declared.fork.Fork.{Fork}
use Rattle.plain_model.specs.Forks.{fork_in}
use Rattle.plain_model.specs.Trees.{free_slot}
use Rattle.fork_tree.specs.Places.{AreTaken, IsWholeTable, forks_of, place_bit, place_in}
use Rattle.fork_tree.proofs.Ranges.{first_found, first_none}
use Rattle.fork_tree.proofs.Tables.{in_place}
use Rattle.fork_tree.proofs.TableChanges.{table_changed}
use Rattle.plain_model.proofs.Shorthands.{is_free}

-- no fork stands in any place
pub taken_none : (places : List (Option Fork)) (n : ℕ) (taken : List ℕ) → places ≡ replicate n None → taken ≡ replicate TERMINALS 1 → AreTaken places taken
taken_none places n taken free ones = record {
  all_jobs = ap length ones ∙ length-replicate {A = ℕ} TERMINALS 1;
  few = λ t below. omega (arith, one t below);
  lowest = λ t below. ap (λ w. bit_at w 0) (one t below);
  each = λ t slot job low high.
      ap (λ w. bit_at w slot) (one t.0 job)
      ∙ (bit_at-pow_other 0 slot (λ h. omega (arith, h, low))
      ∙ sym (ap (λ p. place_bit (get_or p (place_in t slot) None)) free ∙ ap place_bit (nothing (place_in t slot) (cases_lt (place_in t slot) n))));
}
  where
    one : (t : ℕ) → t < TERMINALS → slice_index taken t ≡ 1
    one t below = ap (λ l. get_or l t 0) ones ∙ get_or-replicate TERMINALS t 1 0 below

    nothing : (i : ℕ) → (i < n) ⊎ (n ≤ i) → get_or (replicate {A = Option Fork} n None) i None ≡ None
    nothing i (inl within) = get_or-replicate n i None None within
    nothing i (inr past) = get_or_past (replicate {A = Option Fork} n None) i None (omega (arith, length-replicate {A = Option Fork} n None, past))

-- what is in a place is changed, but for its name and slot
module _ (places : List (Option Fork)) (slots lasts taken : List ℕ) (i : ℕ) (change : Fork → Fork) (name : (f : Fork) → f.name ≡ (change f).name) (slot : (f : Fork) → f.slot ≡ (change f).slot)
    (is : IsWholeTable places slots lasts taken) where
  still : (o : Option Fork) → o ≡ get_or places i None → (j : ℕ) → place_bit (get_or places j None) ≡ place_bit (get_or (set places i (option_map change o)) j None)
  still None e j = ap (λ p. place_bit (get_or p j None)) (sym (ap (set places i) e ∙ set-get_or places i None))
  still (Some f) e j = by (cases_eq j i) (cases_lt i (length places))
    where
      by : (j ≡ i) ⊎ (j ≢ i) → (i < length places) ⊎ (length places ≤ i) → place_bit (get_or places j None) ≡ place_bit (get_or (set places i (Some (change f))) j None)
      by (inl same) (inl within) =
          ap place_bit (ap (λ k. get_or places k None) same ∙ sym e)
          ∙ sym (ap place_bit (ap (λ k. get_or (set places i (Some (change f))) k None) same ∙ get_or-set_same places i (Some (change f)) None within))
      by (inl same) (inr far) = let h : Some f ≡ None = e ∙ get_or_past places i None far in absurd (cc h)
      by (inr ne) far = ap place_bit (sym (get_or-set_other places i j (Some (change f)) None ne))

  pub whole_changed : (o : Option Fork) → o ≡ get_or places i None → IsWholeTable (set places i (option_map change o)) slots lasts taken
  whole_changed o e = record {
    table = table_changed places slots lasts i change name slot is.table o e;
    bits = record {
      all_jobs = is.bits.all_jobs;
      few = is.bits.few;
      lowest = is.bits.lowest;
      each = λ t s job low high. is.bits.each t s job low high ∙ still o e (place_in t s);
    };
  }

-- a fork comes into a place or goes, and the bit of its slot is set or cleared
module _ (places : List (Option Fork)) (taken : List ℕ) (i slot : ℕ) (t : Tty) (o : Option Fork) (word : ℕ) (is : AreTaken places taken) (known : t.0 < TERMINALS) (low : 1 ≤ slot) (high : slot ≤ MOST_FORKS)
    (place : i ≡ place_in t slot) (within : i < length places) (few : word < 2 ^ 31) (bit : bit_at word slot ≡ place_bit o)
    (others : (k : ℕ) → k ≤ MOST_FORKS → k ≢ slot → bit_at word k ≡ bit_at (slice_index taken t.0) k) where
  abbrev taken' : List ℕ
  taken' = set taken t.0 word

  word_at : (u : ℕ) → u ≡ t.0 → slice_index taken' u ≡ word
  word_at u same = ap (λ k. get_or taken' k 0) same ∙ get_or-set_same taken t.0 word 0 (omega (arith, is.all_jobs, known))

  word_still : (u : ℕ) → u ≢ t.0 → slice_index taken' u ≡ slice_index taken u
  word_still u ne = get_or-set_other taken t.0 u word 0 ne

  -- the other slots keep their bits and what they have
  elsewhere : (u : Tty) (k : ℕ) → u.0 < TERMINALS → 1 ≤ k → k ≤ MOST_FORKS → place_in u k ≢ i → bit_at (slice_index taken' u.0) k ≡ bit_at (slice_index taken u.0) k
      → bit_at (slice_index taken' u.0) k ≡ place_bit (get_or (set places i o) (place_in u k) None)
  elsewhere u k job from upto ne bits_still = bits_still ∙ (is.each u k job from upto ∙ ap place_bit (sym (get_or-set_other places i (place_in u k) o None ne)))

  pub taken_set : AreTaken (set places i o) taken'
  taken_set = record {
    all_jobs = length-set taken t.0 word ∙ is.all_jobs;
    few = λ u below. elim (cases_eq u t.0) [ inl same ↦ omega (arith, word_at u same, few) | inr ne ↦ omega (arith, word_still u ne, is.few u below) ];
    lowest = λ u below. elim (cases_eq u t.0) [
      | inl same ↦ ap (λ w. bit_at w 0) (word_at u same) ∙ (others 0 (omega arith) (λ h. omega (arith, h, low)) ∙ is.lowest t.0 known)
      | inr ne ↦ ap (λ w. bit_at w 0) (word_still u ne) ∙ is.lowest u below
    ];
    each = λ u k job from upto. by u k job from upto (cases_eq u.0 t.0) (cases_eq k slot);
  }
    where
      by : (u : Tty) (k : ℕ) → u.0 < TERMINALS → 1 ≤ k → k ≤ MOST_FORKS → (u.0 ≡ t.0) ⊎ (u.0 ≢ t.0) → (k ≡ slot) ⊎ (k ≢ slot) → bit_at (slice_index taken' u.0) k ≡ place_bit (get_or (set places i o) (place_in u k) None)
      by u k job from upto (inr ne) at = elsewhere u k job from upto (λ h. ne (omega (arith, h, place, upto, high))) (ap (λ w. bit_at w k) (word_still u.0 ne))
      by u k job from upto (inl same) (inr ne) =
          elsewhere u k job from upto (λ h. ne (omega (arith, h, place, same)))
          (ap (λ w. bit_at w k) (word_at u.0 same) ∙ (others k upto ne ∙ ap (λ j. bit_at (get_or taken j 0) k) (sym same)))
      by u k job from upto (inl same) (inl at) =
          let here : place_in u k ≡ i = omega (arith, place, same, at) in
          ap (λ w. bit_at w k) (word_at u.0 same) ∙ (ap (bit_at word) at
          ∙ (bit ∙ ap place_bit (sym (ap (λ j. get_or (set places i o) j None) here ∙ get_or-set_same places i o None within))))

free_of : (o : Option Fork) → place_bit o ≡ 0 → is_none o ≡ true
free_of None e = refl
free_of (Some f) e = absurd (omega (arith, e))

taken_of : (o : Option Fork) → place_bit o ≡ 1 → is_none o ≡ false
taken_of None e = absurd (omega (arith, e))
taken_of (Some f) e = refl

-- the lowest bit that is not set is that of the least free slot
module _ (places : List (Option Fork)) (slots lasts taken : List ℕ) (is : IsWholeTable places slots lasts taken) (t : Tty) (known : t.0 < TERMINALS) where
  abbrev lowest_clear : ℕ
  lowest_clear = trailing_ones w32 (slice_index taken t.0)

  bit_is : (k : ℕ) → 1 ≤ k → k ≤ MOST_FORKS → bit_at (slice_index taken t.0) k ≡ place_bit (fork_in (forks_of places) t k)
  bit_is k low high = is.bits.each t k known low high ∙ ap place_bit (in_place places slots lasts is.table t k (place_in t k) high refl)

  tells : (lowest_clear < 32) × (bit_at (slice_index taken t.0) lowest_clear ≡ 0) × ((k : ℕ) → k < lowest_clear → bit_at (slice_index taken t.0) k ≡ 1)
  tells = bit_at-trailing_ones w32 (slice_index taken t.0) (omega (arith, is.bits.few t.0 known))

  pub clear_below : lowest_clear < 32
  clear_below = tells.0

  from_one : 1 ≤ lowest_clear
  from_one = elim (cases_lt 0 lowest_clear) [
    | inl above ↦ above
    | inr none ↦ (
        let at : lowest_clear ≡ 0 = omega (arith, none) in
        absurd (omega (arith, is.bits.lowest t.0 known, sym (ap (bit_at (slice_index taken t.0)) at) ∙ tells.1)))
  ]

  below_taken : (k : ℕ) → 1 ≤ k → k < lowest_clear → k ≤ MOST_FORKS → is_free (forks_of places) t k ≡ false
  below_taken k low below high = taken_of (fork_in (forks_of places) t k) (sym (bit_is k low high) ∙ tells.2 k below)

  pub clear_free : lowest_clear ≤ MOST_FORKS → free_slot (forks_of places) t ≡ Some lowest_clear
  unfolding free_slot
  clear_free high =
      first_found (is_free (forks_of places) t) 1 MOST_FORKS lowest_clear (λ k low below. below_taken k low below (omega (arith, below, high))) from_one (omega (arith, high))
      (free_of (fork_in (forks_of places) t lowest_clear) (sym (bit_is lowest_clear from_one high) ∙ tells.1))

  pub none_clear : MOST_FORKS < lowest_clear → free_slot (forks_of places) t ≡ None
  unfolding free_slot
  none_clear far = first_none (is_free (forks_of places) t) 1 MOST_FORKS (λ k low below. below_taken k low (omega (arith, below, far)) (omega (arith, below)))

-- the bit of a slot is set for a fork that comes, and cleared for one that goes
module _ (places : List (Option Fork)) (taken : List ℕ) (i slot word : ℕ) (t : Tty) (is : AreTaken places taken) (known : t.0 < TERMINALS) (low : 1 ≤ slot) (high : slot ≤ MOST_FORKS) (place : i ≡ place_in t slot)
    (within : i < length places) (word_is : word ≡ slice_index taken t.0) where
  few_now : word < 2 ^ 31
  few_now = omega (arith, word_is, is.few t.0 known)

  same_bit : (k : ℕ) → bit_at word k ≡ bit_at (slice_index taken t.0) k
  same_bit k = ap (λ w. bit_at w k) word_is

  small : 2 ^ slot < 2 ^ 31
  small = pow-lt {i = slot} {j = 31} (omega (arith, high))

  pub taken_put : (f : Fork) → AreTaken (set places i (Some f)) (set taken t.0 (bit_or word (1 * 2 ^ slot % 2 ^ 32)))
  taken_put f =
      taken_set places taken i slot t (Some f) (bit_or word (1 * 2 ^ slot % 2 ^ 32)) is known low high place within
      (or_lt 31 word (1 * 2 ^ slot % 2 ^ 32) few_now (omega (arith, small)))
      (bit_at_set_same w32 word slot (omega (arith, high)))
      (λ k upto ne. bit_at_set_other w32 word slot (omega (arith, high)) k ne ∙ same_bit k)

  pub taken_gone : AreTaken (set places i None) (set taken t.0 (bit_and word (bit_not w32 (1 * 2 ^ slot % 2 ^ 32))))
  taken_gone =
      taken_set places taken i slot t None (bit_and word (bit_not w32 (1 * 2 ^ slot % 2 ^ 32))) is known low high place within
      (omega (arith, and_le_l word (bit_not w32 (1 * 2 ^ slot % 2 ^ 32)), few_now))
      (bit_at_clear_same w32 word slot (omega (arith, high)))
      (λ k upto ne. bit_at_clear_other w32 word slot (omega (arith, high)) k (omega (arith, upto)) ne ∙ same_bit k)
