-- The characters of packed words.
use Rattle.std.proofs.Common.{◌≡◌, ℕ, zero, suc, ◌+◌, ◌-◌, ◌*◌, ◌/◌, ◌%◌, ◌^◌, ◌<◌, List, [], ◌∷◌, length, get_or, drop, refl, sym, ◌∙◌, ap, arith}
use Rattle.std.proofs.lemmas.List.{get_or-drop}
use Rattle.asm_core.specs.Places.{character, five, packed}

-- the characters of five in a word
module _ (a b c d e : ℕ) (ha : a < 128) (hb : b < 128) (hc : c < 128) (hd : d < 128) (he : e < 128) where
  abbrev word : ℕ
  word = a * 2 ^ 29 + b * 2 ^ 22 + c * 2 ^ 15 + d * 2 ^ 8 + e * 2

  first_back : word / 2 ^ 29 % 2 ^ 7 ≡ a
  first_back = omega arith

  second_back : word / 2 ^ 22 % 2 ^ 7 ≡ b
  second_back = omega arith

  third_back : word / 2 ^ 15 % 2 ^ 7 ≡ c
  third_back = omega arith

  fourth_back : word / 2 ^ 8 % 2 ^ 7 ≡ d
  fourth_back = omega arith

  fifth_back : word / 2 % 2 ^ 7 ≡ e
  fifth_back = omega arith

  even : word % 2 ≡ 0
  even = omega arith

seven : (text : List ℕ) (i : ℕ) → character text i < 128
seven text i = omega arith

five_back : (text : List ℕ) (j : ℕ) → j < 5 → five text / 2 ^ (29 - 7 * j) % 2 ^ 7 ≡ character text j
five_back text zero h = first_back (character text 0) (character text 1) (character text 2) (character text 3) (character text 4) (seven text 0) (seven text 1) (seven text 2) (seven text 3) (seven text 4)
five_back text (suc zero) h = second_back (character text 0) (character text 1) (character text 2) (character text 3) (character text 4) (seven text 0) (seven text 1) (seven text 2) (seven text 3) (seven text 4)
five_back text (suc (suc zero)) h = third_back (character text 0) (character text 1) (character text 2) (character text 3) (character text 4) (seven text 0) (seven text 1) (seven text 2) (seven text 3) (seven text 4)
five_back text (suc (suc (suc zero))) h = fourth_back (character text 0) (character text 1) (character text 2) (character text 3) (character text 4) (seven text 0) (seven text 1) (seven text 2) (seven text 3) (seven text 4)
five_back text (suc (suc (suc (suc zero)))) h = fifth_back (character text 0) (character text 1) (character text 2) (character text 3) (character text 4) (seven text 0) (seven text 1) (seven text 2) (seven text 3) (seven text 4)
five_back text (suc (suc (suc (suc (suc j))))) h = absurd (omega arith)

five_even : (text : List ℕ) → five text % 2 ≡ 0
five_even text = even (character text 0) (character text 1) (character text 2) (character text 3) (character text 4) (seven text 0) (seven text 1) (seven text 2) (seven text 3) (seven text 4)

drop_none : (k : ℕ) → drop {A = ℕ} k [] ≡ []
drop_none zero = refl
drop_none (suc k) = refl

drop_more : (m n : ℕ) (text : List ℕ) → drop m (drop n text) ≡ drop (n + m) text
drop_more m zero text = ap (λ k. drop k text) (omega arith)
drop_more m (suc n) [] = drop_none m ∙ sym (drop_none (suc n + m))
drop_more m (suc n) (c ∷ cs) = let more : suc n + m ≡ suc (n + m) = omega arith in drop_more m n cs ∙ ap (λ k. drop k (c ∷ cs)) (sym more)

-- so many words
pub length_packed : (n : ℕ) (text : List ℕ) → length (packed n text) ≡ n
unfolding packed
length_packed zero text = refl
length_packed (suc n) text = ap suc (length_packed n (drop 5 text))

-- each is that of its five characters
packed_at : (n : ℕ) (text : List ℕ) (k : ℕ) → k < n → get_or (packed n text) k 0 ≡ five (drop (5 * k) text)
unfolding packed
packed_at zero text k h = absurd (omega arith)
packed_at (suc n) text zero h = refl
packed_at (suc n) text (suc k) h =
    let more : 5 + 5 * k ≡ 5 * suc k = omega arith in
    packed_at n (drop 5 text) k (omega arith) ∙ ap five (drop_more (5 * k) 5 text ∙ ap (λ m. drop m text) more)

pub packed_back : (text : List ℕ) (n k j : ℕ) → k < n → j < 5 → get_or (packed n text) k 0 / 2 ^ (29 - 7 * j) % 2 ^ 7 ≡ character text (5 * k + j)
packed_back text n k j hk hj =
    ap (λ w. w / 2 ^ (29 - 7 * j) % 2 ^ 7) (packed_at n text k hk) ∙ (five_back (drop (5 * k) text) j hj ∙ ap (λ c. c % 2 ^ 7) (get_or-drop (5 * k) text j 0))

pub packed_even : (text : List ℕ) (n k : ℕ) → k < n → get_or (packed n text) k 0 % 2 ≡ 0
packed_even text n k h = ap (λ w. w % 2) (packed_at n text k h) ∙ five_even (drop (5 * k) text)
