-- How many a look finds, number by number.
use Rattle.std.proofs.Common.{◌≡◌, ◌≢◌, ℕ, zero, suc, ◌+◌, ◌<◌, ◌≤◌, List, length, true, false, Option, None, Some, refl, arith, ◌⊎◌, inl, inr}
use Rattle.std.specs.Prelude.{is_none}
use Rattle.std.specs.List.{cons_option, filter_map, range_with_len}
use Rattle.std.proofs.lemmas.Bool.{cases_eq}

module _ {X : Type 0} where
  cons_same : (o o' : Option X) (xs ys : List X) → is_none o' ≡ is_none o → length ys ≡ length xs → length (cons_option o' ys) ≡ length (cons_option o xs)
  cons_same None None xs ys e h = h
  cons_same None (Some y) xs ys e h = absurd (cc e)
  cons_same (Some x) None xs ys e h = absurd (cc e)
  cons_same (Some x) (Some y) xs ys e h = omega (arith, h)

  cons_also : (o o' : Option X) (xs ys : List X) → is_none o' ≡ is_none o → length ys + 1 ≡ length xs → length (cons_option o' ys) + 1 ≡ length (cons_option o xs)
  cons_also None None xs ys e h = h
  cons_also None (Some y) xs ys e h = absurd (cc e)
  cons_also (Some x) None xs ys e h = absurd (cc e)
  cons_also (Some x) (Some y) xs ys e h = omega (arith, h)

  cons_fewer : (o o' : Option X) (xs ys : List X) → is_none o ≡ false → is_none o' ≡ true → length ys ≡ length xs → length (cons_option o' ys) + 1 ≡ length (cons_option o xs)
  cons_fewer None o' xs ys some none h = absurd (cc some)
  cons_fewer (Some x) None xs ys some none h = omega (arith, h)
  cons_fewer (Some x) (Some y) xs ys some none h = absurd (cc none)

  module _ (look look' : ℕ → Option X) where
    -- as many, where each finds alike
    pub listed_same : (from n : ℕ) → ((k : ℕ) → from ≤ k → is_none (look' k) ≡ is_none (look k)) → length (filter_map look' (range_with_len from n)) ≡ length (filter_map look (range_with_len from n))
    listed_same from zero same = refl
    listed_same from (suc n) same =
        cons_same (look from) (look' from) (filter_map look (range_with_len (from + 1) n)) (filter_map look' (range_with_len (from + 1) n)) (same from (omega arith)) (listed_same (from + 1) n (λ k later. same k (omega arith)))

    -- one fewer, where all find alike but for one that is no longer found
    pub listed_fewer : (from n k : ℕ) → from ≤ k → k < from + n → is_none (look k) ≡ false → is_none (look' k) ≡ true → ((i : ℕ) → i ≢ k → is_none (look' i) ≡ is_none (look i))
        → length (filter_map look' (range_with_len from n)) + 1 ≡ length (filter_map look (range_with_len from n))
    listed_fewer from zero k low high some none same = absurd (omega arith)
    listed_fewer from (suc n) k low high some none same = by (listed_fewer (from + 1) n k) (cases_eq from k)
      where
        by : (from + 1 ≤ k → k < from + 1 + n → is_none (look k) ≡ false → is_none (look' k) ≡ true → ((i : ℕ) → i ≢ k → is_none (look' i) ≡ is_none (look i))
            → length (filter_map look' (range_with_len (from + 1) n)) + 1 ≡ length (filter_map look (range_with_len (from + 1) n)))
            → (from ≡ k) ⊎ (from ≢ k) → length (filter_map look' (range_with_len from (suc n))) + 1 ≡ length (filter_map look (range_with_len from (suc n)))
        by rest (inl at) =
            cons_fewer (look from) (look' from) (filter_map look (range_with_len (from + 1) n)) (filter_map look' (range_with_len (from + 1) n))
            (rw at some) (rw at none) (listed_same (from + 1) n (λ i later. same i (λ e. omega (arith, e, at, later))))
        by rest (inr past) =
            cons_also (look from) (look' from) (filter_map look (range_with_len (from + 1) n)) (filter_map look' (range_with_len (from + 1) n)) (same from past)
            (rest (omega (arith, past)) (omega arith) some none same)
