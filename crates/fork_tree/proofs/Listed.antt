-- What a look finds, number by number, as a list.
use Rattle.std.proofs.Common.{◌≡◌, ℕ, zero, suc, ◌+◌, ◌<◌, ◌≤◌, List, length, false, Option, None, Some, refl, sym, ◌∙◌, ap, subst, arith, ◌⊎◌, inl, inr}
use Rattle.std.specs.Prelude.{Contains, is_none}
use Rattle.std.specs.List.{cons_option, filter_map, range_with_len}
use Rattle.std.proofs.lemmas.Bool.{cases_lt}

module _ {X : Type 0} where
  cons_length : (o : Option X) (xs : List X) → length xs ≤ length (cons_option o xs)
  cons_length None xs = omega arith
  cons_length (Some x) xs = omega arith

  cons_most : (o : Option X) (xs : List X) (n : ℕ) → length xs ≤ n → length (cons_option o xs) ≤ suc n
  cons_most None xs n h = omega (arith, h)
  cons_most (Some x) xs n h = omega (arith, h)

  cons_full : (o : Option X) (xs : List X) (n : ℕ) → is_none o ≡ false → length xs ≡ n → length (cons_option o xs) ≡ suc n
  cons_full None xs n some h = absurd (cc some)
  cons_full (Some x) xs n some h = omega (arith, h)

  cons_some : (o : Option X) (xs : List X) (n : ℕ) → length xs ≤ n → length (cons_option o xs) ≡ suc n → (is_none o ≡ false) × (length xs ≡ n)
  cons_some None xs n most h = absurd (omega (arith, most, h))
  cons_some (Some x) xs n most h = (refl, omega (arith, h))

  has_more : (o : Option X) (xs : List X) (x : X) → Contains xs x → Contains (cons_option o xs) x
  has_more None xs x h = h
  has_more (Some y) xs x h = (suc h.0, omega (arith, h.1), h.2)

  module _ (look : ℕ → Option X) where
    pub listed_most : (from n : ℕ) → length (filter_map look (range_with_len from n)) ≤ n
    listed_most from zero = omega arith
    listed_most from (suc n) = cons_most (look from) (filter_map look (range_with_len (from + 1) n)) n (listed_most (from + 1) n)

    pub listed_full : (from n : ℕ) → ((k : ℕ) → from ≤ k → k < from + n → is_none (look k) ≡ false) → length (filter_map look (range_with_len from n)) ≡ n
    listed_full from zero all = refl
    listed_full from (suc n) all =
        cons_full (look from) (filter_map look (range_with_len (from + 1) n)) n (all from (omega arith) (omega arith)) (listed_full (from + 1) n (λ k low high. all k (omega arith) (omega arith)))

    pub full_listed : (from n : ℕ) → length (filter_map look (range_with_len from n)) ≡ n → (k : ℕ) → from ≤ k → k < from + n → is_none (look k) ≡ false
    full_listed from zero e k low high = absurd (omega arith)
    full_listed from (suc n) e k low high =
        by (full_listed (from + 1) n) (cons_some (look from) (filter_map look (range_with_len (from + 1) n)) n (listed_most (from + 1) n) e) (cases_lt from k)
      where
        by : (length (filter_map look (range_with_len (from + 1) n)) ≡ n → (k : ℕ) → from + 1 ≤ k → k < from + 1 + n → is_none (look k) ≡ false)
            → (is_none (look from) ≡ false) × (length (filter_map look (range_with_len (from + 1) n)) ≡ n) → (from < k) ⊎ (k ≤ from) → is_none (look k) ≡ false
        by rest r (inl later) = rest r.1 k (omega arith) (omega arith)
        by rest r (inr at) = let same : k ≡ from = omega arith in ap (λ n. is_none (look n)) same ∙ r.0

    pub listed_has : (from n k : ℕ) (x : X) → from ≤ k → k < from + n → look k ≡ Some x → Contains (filter_map look (range_with_len from n)) x
    listed_has from zero k x low high e = absurd (omega arith)
    listed_has from (suc n) k x low high e = by (listed_has (from + 1) n k x) (cases_lt from k)
      where
        by : (from + 1 ≤ k → k < from + 1 + n → look k ≡ Some x → Contains (filter_map look (range_with_len (from + 1) n)) x) → (from < k) ⊎ (k ≤ from)
            → Contains (filter_map look (range_with_len from (suc n))) x
        by rest (inl later) = has_more (look from) (filter_map look (range_with_len (from + 1) n)) x (rest (omega arith) (omega arith) e)
        by rest (inr at) =
            let same : k ≡ from = omega arith in
            let here : look from ≡ Some x = ap look (sym same) ∙ e in
            subst (λ o. Contains (cons_option o (filter_map look (range_with_len (from + 1) n))) x) (sym here) (0, omega arith, refl)
