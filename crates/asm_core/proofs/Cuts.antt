-- Where a text is cut.
use Rattle.std.proofs.Common.{◌≡◌, ℕ, suc, ◌+◌, ◌<◌, ◌≤◌, List, [], ◌∷◌, length, take, drop, Bool, true, false, cond, Option, Some, None, refl, sym, ◌∙◌, ap, arith}
use Rattle.std.specs.Prelude.{not, if◌then◌else◌, ◌==◌}
use Rattle.std.specs.List.{position, position_or_len}
use Rattle.std.specs.Option.{unwrap_or}
use Rattle.std.proofs.lemmas.Bool.{ltb-true, ltb-false}
use Rattle.std.proofs.lemmas.List.Sums.{prefix_len-le-length}
use Rattle.asm_core.specs.Cutting.{before_cut, cut, if_alone, onto_piece, pieces, remainder}

-- a position that was found, and one that was not
module _ (p : ℕ → Bool) (xs : List ℕ) where
  at_some : (b : Bool) (n i : ℕ) → (b ≡ true → n < length xs) → cond b (Some n) None ≡ Some i → (i ≡ n) × (n < length xs)
  at_some true n i h e = (let same : n ≡ i = cc e in sym same, h refl)
  at_some false n i h e = absurd (cc e)

  pub found : (i : ℕ) → position p xs ≡ Some i → (i ≡ position_or_len p xs) × (position_or_len p xs < length xs)
  found i e = at_some _ (position_or_len p xs) i (ltb-true (position_or_len p xs) (length xs)) e

  at_none : (b : Bool) (n : ℕ) → (b ≡ false → length xs ≤ n) → cond b (Some n) None ≡ None → length xs ≤ n
  at_none true n h e = absurd (cc e)
  at_none false n h e = h refl

  pub not_found : position p xs ≡ None → length xs ≤ position_or_len p xs
  not_found e = at_none _ (position_or_len p xs) (ltb-false (position_or_len p xs) (length xs)) e

  at_or : (b : Bool) (n : ℕ) → (b ≡ false → length xs ≤ n) → n ≤ length xs → unwrap_or (cond b (Some n) None) (length xs) ≡ n
  at_or true n h most = refl
  at_or false n h most = omega (arith, h refl, most)

  pub found_or : unwrap_or (position p xs) (length xs) ≡ position_or_len p xs
  found_or = at_or _ (position_or_len p xs) (ltb-false (position_or_len p xs) (length xs)) (prefix_len-le-length (λ x. not (p x)) xs)

  pub found_within : position_or_len p xs ≤ length xs
  found_within = prefix_len-le-length (λ x. not (p x)) xs

abbrev pub place : ℕ → List ℕ → ℕ
place mark xs = position_or_len (λ c. c == mark) xs

module _ (mark c : ℕ) (cs : List ℕ) where
  found_by : (b : Bool) → cond (not b) (1 + place mark cs) 0 < suc (length cs) → (place mark cs < length cs → cut mark cs ≡ Some (take (place mark cs) cs, drop (place mark cs + 1) cs))
      → (if b then Some ([], cs) else before_cut c (cut mark cs)) ≡ Some (take (cond (not b) (1 + place mark cs) 0) (c ∷ cs), drop (cond (not b) (1 + place mark cs) 0 + 1) (c ∷ cs))
  found_by true h e = refl
  found_by false h e =
      let one : 1 + place mark cs ≡ suc (place mark cs) = omega arith in
      let two : 1 + place mark cs + 1 ≡ suc (place mark cs + 1) = omega arith in
      ap (before_cut c) (e (omega arith)) ∙ (ap (λ n. Some (take n (c ∷ cs), drop (suc (place mark cs + 1)) (c ∷ cs))) (sym one) ∙ ap (λ n. Some (take (1 + place mark cs) (c ∷ cs), drop n (c ∷ cs))) (sym two))

  missed_by : (b : Bool) → suc (length cs) ≤ cond (not b) (1 + place mark cs) 0 → (length cs ≤ place mark cs → cut mark cs ≡ None) → (if b then Some ([], cs) else before_cut c (cut mark cs)) ≡ None
  missed_by true h e = absurd (omega arith)
  missed_by false h e = ap (before_cut c) (e (omega arith))

-- a text with the mark is cut at the first one
pub cut_found : (mark : ℕ) (xs : List ℕ) → place mark xs < length xs → cut mark xs ≡ Some (take (place mark xs) xs, drop (place mark xs + 1) xs)
unfolding cut
cut_found mark [] h = absurd (omega arith)
cut_found mark (c ∷ cs) h = found_by mark c cs (c == mark) h (cut_found mark cs)

-- and one without it is not
pub cut_missed : (mark : ℕ) (xs : List ℕ) → length xs ≤ place mark xs → cut mark xs ≡ None
unfolding cut
cut_missed mark [] h = refl
cut_missed mark (c ∷ cs) h = missed_by mark c cs (c == mark) h (cut_missed mark cs)

uncut : (c : ℕ) (o : Option (List ℕ × List ℕ)) → before_cut c o ≡ None → o ≡ None
uncut c None e = refl
uncut c (Some p) e = absurd (cc e)

got : {x y : List ℕ × List ℕ} → Some x ≡ Some y → x ≡ y
got e = cc e

-- the pieces of a text that is cut
module _ (mark : ℕ) where
  pieces_by : (b : Bool) (c : ℕ) (cs front behind : List ℕ) → (if b then Some ([], cs) else before_cut c (cut mark cs)) ≡ Some (front, behind)
      → ((f g : List ℕ) → cut mark cs ≡ Some (f, g) → pieces mark cs ≡ f ∷ pieces mark g)
      → (if b then [] ∷ pieces mark cs else onto_piece c (pieces mark cs)) ≡ front ∷ pieces mark behind
  pieces_by true c cs front behind e h = ap (λ p. p.0 ∷ pieces mark p.1) (got e)
  pieces_by false c cs front behind e h = at (cut mark cs) refl e
    where
      at : (o : Option (List ℕ × List ℕ)) → cut mark cs ≡ o → before_cut c o ≡ Some (front, behind) → onto_piece c (pieces mark cs) ≡ front ∷ pieces mark behind
      at None is e = absurd (cc e)
      at (Some (f, g)) is e =
          ap (onto_piece c) (h f g is) ∙ ap (λ p. p.0 ∷ pieces mark p.1) (got e)

  pub cut_pieces : (xs front behind : List ℕ) → cut mark xs ≡ Some (front, behind) → pieces mark xs ≡ front ∷ pieces mark behind
  unfolding cut pieces
  cut_pieces [] front behind e = absurd (cc e)
  cut_pieces (c ∷ cs) front behind e = pieces_by (c == mark) c cs front behind e (cut_pieces cs)

  alone_by : (b : Bool) (c : ℕ) (cs : List ℕ) → (if b then Some ([], cs) else before_cut c (cut mark cs)) ≡ None → (cut mark cs ≡ None → pieces mark cs ≡ [])
      → (if b then [] ∷ pieces mark cs else onto_piece c (pieces mark cs)) ≡ []
  alone_by true c cs e h = absurd (cc e)
  alone_by false c cs e h = ap (onto_piece c) (h (uncut c (cut mark cs) e))

  pub uncut_pieces : (xs : List ℕ) → cut mark xs ≡ None → pieces mark xs ≡ []
  unfolding cut pieces
  uncut_pieces [] e = refl
  uncut_pieces (c ∷ cs) e = alone_by (c == mark) c cs e (uncut_pieces cs)

  behind_by : (b : Bool) (c : ℕ) (cs front behind : List ℕ) → (if b then Some ([], cs) else before_cut c (cut mark cs)) ≡ Some (front, behind)
      → ((f g : List ℕ) → cut mark cs ≡ Some (f, g) → remainder mark cs ≡ remainder mark g)
      → (if b then remainder mark cs else if_alone (c ∷ cs) (pieces mark cs) (remainder mark cs)) ≡ remainder mark behind
  behind_by true c cs front behind e h = ap (λ p. remainder mark p.1) (got e)
  behind_by false c cs front behind e h = at (cut mark cs) refl e
    where
      at : (o : Option (List ℕ × List ℕ)) → cut mark cs ≡ o → before_cut c o ≡ Some (front, behind) → if_alone (c ∷ cs) (pieces mark cs) (remainder mark cs) ≡ remainder mark behind
      at None is e = absurd (cc e)
      at (Some (f, g)) is e =
          ap (λ l. if_alone (c ∷ cs) l (remainder mark cs)) (cut_pieces cs f g is) ∙ (h f g is ∙ ap (λ p. remainder mark p.1) (got e))

  -- what stands behind the last mark, in a text that is cut
  pub cut_remainder : (xs front behind : List ℕ) → cut mark xs ≡ Some (front, behind) → remainder mark xs ≡ remainder mark behind
  unfolding cut remainder
  cut_remainder [] front behind e = absurd (cc e)
  cut_remainder (c ∷ cs) front behind e = behind_by (c == mark) c cs front behind e (cut_remainder cs)

  whole_by : (b : Bool) (c : ℕ) (cs : List ℕ) → (if b then Some ([], cs) else before_cut c (cut mark cs)) ≡ None
      → (if b then remainder mark cs else if_alone (c ∷ cs) (pieces mark cs) (remainder mark cs)) ≡ c ∷ cs
  whole_by true c cs e = absurd (cc e)
  whole_by false c cs e = ap (λ l. if_alone (c ∷ cs) l (remainder mark cs)) (uncut_pieces cs (uncut c (cut mark cs) e))

  pub uncut_remainder : (xs : List ℕ) → cut mark xs ≡ None → remainder mark xs ≡ xs
  unfolding cut remainder
  uncut_remainder [] e = refl
  uncut_remainder (c ∷ cs) e = whole_by (c == mark) c cs e
