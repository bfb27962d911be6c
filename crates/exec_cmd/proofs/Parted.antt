-- The words of a line that is parted at its spaces.
use Rattle.std.proofs.Common.{◌≡◌, ◌≢◌, ℕ, suc, ◌+◌, ◌<◌, ◌≤◌, List, [], ◌∷◌, ◌++◌, length, get_or, take, drop, Bool, true, false, cond, Some, None, ne_eqb, refl, sym, ◌∙◌, ap, arith, ◌⊎◌, inl, inr, All, length-take}
use Rattle.std.specs.Prelude.{not}
use Rattle.std.specs.List.{filter, onto_first, position, position_or_len, slice_split}
use Rattle.std.proofs.lemmas.Bool.{eqb-true, eqb-false, ltb-true, ltb-false, cases_lt}
use Rattle.std.proofs.Math.Seq.{drop-cons}
use Rattle.std.specs.Option.{unwrap_or}
use Rattle.std.proofs.lemmas.List.{append-nil, take-append-drop, drop_all, get_or-take}
use Rattle.std.proofs.lemmas.List.Elements.{All-head, All-tail, All-weaker, All-from_get_or, filter-append}
use Rattle.std.proofs.lemmas.List.Splits.{slice_split_none}
use Rattle.std.proofs.lemmas.List.Sums.{fails_before_first, passes_at_first, prefix_len-le-length}
use Rattle.plain_typing.specs.Words.{is_space, is_word, words}

-- a list is split into one part at least
record Begins (parts : List (List ℕ)) : Type 0 where
  first : List ℕ
  others : List (List ℕ)
  whole : parts ≡ first ∷ others

onto_begins : (x : ℕ) (parts : List (List ℕ)) → Begins parts → Begins (onto_first x parts)
onto_begins x parts b = record { first = x ∷ b.first; others = b.others; whole = ap (onto_first x) b.whole }

begins_by : (b : Bool) (x : ℕ) (parts : List (List ℕ)) → Begins parts → Begins (cond b ([] ∷ parts) (onto_first x parts))
begins_by true x parts b = record { first = []; others = parts; whole = refl }
begins_by false x parts b = onto_begins x parts b

split_begins : (xs : List ℕ) → Begins (slice_split is_space xs)
split_begins [] = record { first = []; others = []; whole = refl }
split_begins (x ∷ xs) = begins_by (is_space x) x (slice_split is_space xs) (split_begins xs)

onto-append : (x : ℕ) (parts more : List (List ℕ)) → Begins parts → onto_first x (parts ++ more) ≡ onto_first x parts ++ more
onto-append x parts more b = ap (λ l. onto_first x (l ++ more)) b.whole ∙ sym (ap (λ l. onto_first x l ++ more) b.whole)

append_by : (b : Bool) (x : ℕ) (whole parts more : List (List ℕ)) → Begins parts → whole ≡ parts ++ more
    → cond b ([] ∷ whole) (onto_first x whole) ≡ cond b ([] ∷ parts) (onto_first x parts) ++ more
append_by true x whole parts more b e = ap (λ l. [] ∷ l) e
append_by false x whole parts more b e = ap (onto_first x) e ∙ onto-append x parts more b

split-append : (front rest : List ℕ) → slice_split is_space (front ++ 32 ∷ rest) ≡ slice_split is_space front ++ slice_split is_space rest
split-append [] rest = refl
split-append (x ∷ front) rest =
    append_by (is_space x) x (slice_split is_space (front ++ 32 ∷ rest)) (slice_split is_space front) (slice_split is_space rest) (split_begins front) (split-append front rest)

pub words-append : (front rest : List ℕ) → words (front ++ 32 ∷ rest) ≡ words front ++ words rest
unfolding words
words-append front rest = ap (filter is_word) (split-append front rest) ∙ filter-append is_word (slice_split is_space front) (slice_split is_space rest)

pub words-nil : words [] ≡ []
unfolding words
words-nil = refl

pub words-one : (c : ℕ) (cs : List ℕ) → All (λ d. d ≢ 32) (c ∷ cs) → words (c ∷ cs) ≡ (c ∷ cs) ∷ []
unfolding words
words-one c cs h =
    ap (filter is_word) (slice_split_none is_space (c ∷ cs) (All-weaker (λ d. d ≢ 32) (λ d. is_space d ≡ false) (λ d ne. ne_eqb d 32 ne) (c ∷ cs) h))

words-space : (rest : List ℕ) → words (32 ∷ rest) ≡ words rest
words-space rest = words-append [] rest ∙ ap (λ l. l ++ words rest) words-nil

-- spaces in front are passed over
pub words-spaces : (front rest : List ℕ) → All (λ c. c ≡ 32) front → words (front ++ rest) ≡ words rest
words-spaces [] rest h = refl
words-spaces (c ∷ front) rest h =
    ap (λ d. words (d ∷ (front ++ rest))) (All-head (λ c. c ≡ 32) c front h) ∙ (words-space (front ++ rest) ∙ words-spaces front rest (All-tail (λ c. c ≡ 32) c front h))

-- a word at the front of a line, which ends at a space or with the line
words-front : (word rest : List ℕ) → (word ≡ [] → ⊥) → All (λ d. d ≢ 32) word → (rest ≡ []) ⊎ ((more : List ℕ) × (rest ≡ 32 ∷ more)) → words (word ++ rest) ≡ word ∷ words rest
words-front [] rest some h end = absurd (some refl)
words-front (c ∷ cs) rest some h (inl none) =
    ap (λ l. words ((c ∷ cs) ++ l)) none ∙ (ap words (append-nil (c ∷ cs)) ∙ (words-one c cs h ∙ ap (λ l. (c ∷ cs) ∷ l) (sym (ap words none ∙ words-nil))))
words-front (c ∷ cs) rest some h (inr on) =
    ap (λ l. words ((c ∷ cs) ++ l)) on.1 ∙ (words-append (c ∷ cs) on.0
    ∙ (ap (λ l. l ++ words on.0) (words-one c cs h) ∙ ap (λ l. (c ∷ cs) ∷ l) (sym (ap words on.1 ∙ words-space on.0))))

-- where the first word of a line begins
module _ (line : List ℕ) where
  abbrev start : ℕ
  start = position_or_len (λ c. not (is_space c)) line

  before : All (λ c. c ≡ 32) (take start line)
  before = All-from_get_or (λ c. c ≡ 32) (take start line) 0 (λ i h. here i (omega (arith, length-take start line, h)))
    where
      spaced : (b : Bool) → not b ≡ false → b ≡ true
      spaced true e = refl
      spaced false e = absurd (cc e)

      here : (i : ℕ) → i < start → get_or (take start line) i 0 ≡ 32
      here i h = get_or-take start line i 0 h ∙ eqb-true (get_or line i 0) 32 (spaced (is_space (get_or line i 0)) (fails_before_first (λ c. not (is_space c)) line i 0 h))

  pub words-behind : words line ≡ words (drop start line)
  words-behind = ap words (sym (take-append-drop start line)) ∙ words-spaces (take start line) (drop start line) before

  pub words-blank : length line ≤ start → words line ≡ []
  words-blank h = words-behind ∙ (ap words (drop_all start line h) ∙ words-nil)

-- where a line that begins with a word ends it
module _ (rest : List ℕ) where
  abbrev end : ℕ
  end = position_or_len is_space rest

  within : All (λ c. c ≢ 32) (take end rest)
  within = All-from_get_or (λ c. c ≢ 32) (take end rest) 0 (λ i h. here i (omega (arith, length-take end rest, h)))
    where
      here : (i : ℕ) → i < end → get_or (take end rest) i 0 ≡ 32 → ⊥
      here i h e = eqb-false (get_or rest i 0) 32 (fails_before_first is_space rest i 0 h) (sym (get_or-take end rest i 0 h) ∙ e)

  ends : (drop end rest ≡ []) ⊎ ((more : List ℕ) × (drop end rest ≡ 32 ∷ more))
  ends = at (cases_lt end (length rest))
    where
      at : (end < length rest) ⊎ (length rest ≤ end) → (drop end rest ≡ []) ⊎ ((more : List ℕ) × (drop end rest ≡ 32 ∷ more))
      at (inl h) = inr (drop (suc end) rest, drop-cons rest end 0 h ∙ ap (λ c. c ∷ drop (suc end) rest) (eqb-true (get_or rest end 0) 32 (passes_at_first is_space rest 0 h)))
      at (inr h) = inl (drop_all end rest h)

  pub words-first : (c : ℕ) (cs : List ℕ) → rest ≡ c ∷ cs → c ≢ 32 → words rest ≡ take end rest ∷ words (drop end rest)
  words-first c cs opened ne = ap words (sym (take-append-drop end rest)) ∙ words-front (take end rest) (drop end rest) some within ends
    where
      ahead : (line : List ℕ) → line ≡ c ∷ cs → take (position_or_len is_space line) line ≡ [] → ⊥
      ahead [] e none = cc e
      ahead (d ∷ ds) e none =
          let same : d ≡ c = cc e in
          let on : is_space d ≡ false = ne_eqb d 32 (λ is. ne (sym same ∙ is)) in
          let front : take (cond (not (is_space d)) (1 + position_or_len is_space ds) 0) (d ∷ ds) ≡ d ∷ take (position_or_len is_space ds) ds =
          (let one : 1 + position_or_len is_space ds ≡ suc (position_or_len is_space ds) = omega arith in
          ap (λ b. take (cond (not b) (1 + position_or_len is_space ds) 0) (d ∷ ds)) on ∙ ap (λ n. take n (d ∷ ds)) one) in
          let clash : [] ≡ d ∷ take (position_or_len is_space ds) ds = sym none ∙ front in
          cc clash

      some : take end rest ≡ [] → ⊥
      some = ahead rest opened

-- the first word of a line that has one
pub first-word : (line : List ℕ) → position_or_len (λ c. not (is_space c)) line < length line
    → (let rest = drop (position_or_len (λ c. not (is_space c)) line) line in
    words line ≡ take (position_or_len is_space rest) rest ∷ words (drop (position_or_len is_space rest) rest))
first-word line h = words-behind line ∙ words-first (drop (start line) line) (get_or line (start line) 0) (drop (suc (start line)) line) (drop-cons line (start line) 0 h) here
  where
    spaced : (b : Bool) → not b ≡ true → b ≡ false
    spaced true e = absurd (cc e)
    spaced false e = refl

    here : get_or line (start line) 0 ≡ 32 → ⊥
    here = eqb-false (get_or line (start line) 0) 32 (spaced (is_space (get_or line (start line) 0)) (passes_at_first (λ c. not (is_space c)) line 0 h))

-- a position that was found, and one that was not
module _ (p : ℕ → Bool) (xs : List ℕ) where
  at_some : (b : Bool) (n i : ℕ) → (b ≡ true → n < length xs) → cond b (Some n) None ≡ Some i → (i ≡ n) × (n < length xs)
  at_some true n i h e = (let same : n ≡ i = cc e in sym same, h refl)
  at_some false n i h e = absurd (cc e)

  pub found : (i : ℕ) → position p xs ≡ Some i → (i ≡ position_or_len p xs) × (position_or_len p xs < length xs)
  found i e = at_some _ (position_or_len p xs) i (ltb-true (position_or_len p xs) (length xs)) e

  at_none : (b : Bool) (n : ℕ) → (b ≡ false → length xs ≤ n) → cond b (Some n) None ≡ None → length xs ≤ n
  at_none true n h e = absurd (cc e)
  at_none false n h e = h refl

  pub not_found : position p xs ≡ None → length xs ≤ position_or_len p xs
  not_found e = at_none _ (position_or_len p xs) (ltb-false (position_or_len p xs) (length xs)) e

  at_or : (b : Bool) (n : ℕ) → (b ≡ false → length xs ≤ n) → n ≤ length xs → unwrap_or (cond b (Some n) None) (length xs) ≡ n
  at_or true n h most = refl
  at_or false n h most = omega (arith, h refl, most)

  pub found_or : unwrap_or (position p xs) (length xs) ≡ position_or_len p xs
  found_or = at_or _ (position_or_len p xs) (ltb-false (position_or_len p xs) (length xs)) (prefix_len-le-length (λ x. not (p x)) xs)
