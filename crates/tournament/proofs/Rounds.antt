-- A round of keys and the round above it.
use Rattle.std.proofs.Common.{◌≡◌, ℕ, ◌+◌, ◌*◌, ◌/◌, ◌<◌, ◌≤◌, inl, inr, List, length, set, true, false, cond, Option, Some, None, refl, sym, ◌∙◌, ap, arith, get_or-set_same, get_or-set_other}
use Rattle.std.specs.Prelude.{nat_le}
use Rattle.std.proofs.lemmas.Bool.{cases_eq, cases_lt}
use Rattle.std.proofs.lemmas.List.{length-set}
use Rattle.tournament.specs.Keys.{AreAbsent, IsLeast, IsRoundAbove, goes_first, key_of, lesser}

-- one key changes, and the one above it
pub round_changed : (keys above : List (Option ℕ)) (n : ℕ) (key best : Option ℕ) → IsRoundAbove keys above → n < length keys
    → best ≡ lesser (key_of (set keys n key) (2 * (n / 2))) (key_of (set keys n key) (2 * (n / 2) + 1)) → IsRoundAbove (set keys n key) (set above (n / 2) best)
round_changed keys above n key best round inside is = record {
  several = omega (arith, round.several, length-set keys n key);
  size = omega (arith, round.size, length-set keys n key, length-set above (n / 2) best);
  each = λ i. elim (cases_eq i (n / 2)) [
    | inl e ↦
        ap (key_of (set above (n / 2) best)) e ∙ get_or-set_same above (n / 2) best None (omega (arith, round.size)) ∙ is
        ∙ sym (ap (λ j. lesser (key_of (set keys n key) (2 * j)) (key_of (set keys n key) (2 * j + 1))) e)
    | inr ne ↦
        get_or-set_other above (n / 2) i best None ne ∙ round.each i
        ∙ sym (ap (λ o. lesser o (key_of (set keys n key) (2 * i + 1))) (get_or-set_other keys n (2 * i) key None (omega arith))
        ∙ ap (λ o. lesser (key_of keys (2 * i)) o) (get_or-set_other keys n (2 * i + 1) key None (omega arith)))
  ];
}

pub few_kept : (keys : List (Option ℕ)) (n : ℕ) (key : Option ℕ) → length keys ≤ 1 → length (set keys n key) ≤ 1
few_kept keys n key few = omega (arith, few, length-set keys n key)

greater : (a b : ℕ) → b < a → nat_le a b ≡ false
greater a b less = grind (arith, less)

no_greater : (a b : ℕ) → a ≤ b → nat_le a b ≡ true
no_greater a b more = grind (arith, more)

-- the lesser of two keys is no greater than one of them
lesser_one : (one other : Option ℕ) (key : ℕ) → one ≡ Some key → (least : ℕ) × (lesser one other ≡ Some least) × (least ≤ key)
lesser_one None other key is = absurd (cc is)
lesser_one (Some a) None key is = let same : a ≡ key = cc in (a, refl, omega arith)
lesser_one (Some a) (Some b) key is =
    let same : a ≡ key = cc in
    elim (cases_lt b a) [
      | inl less ↦ (b, ap (λ t. cond t (Some a) (Some b)) (greater a b less), omega arith)
      | inr more ↦ (a, ap (λ t. cond t (Some a) (Some b)) (no_greater a b more), omega arith)
    ]

lesser_other : (one other : Option ℕ) (key : ℕ) → other ≡ Some key → (least : ℕ) × (lesser one other ≡ Some least) × (least ≤ key)
lesser_other one None key is = absurd (cc is)
lesser_other None (Some b) key is = let same : b ≡ key = cc in (b, refl, omega arith)
lesser_other (Some a) (Some b) key is =
    let same : b ≡ key = cc in
    elim (cases_lt b a) [
      | inl less ↦ (b, ap (λ t. cond t (Some a) (Some b)) (greater a b less), omega arith)
      | inr more ↦ (a, ap (λ t. cond t (Some a) (Some b)) (no_greater a b more), omega arith)
    ]

-- the first key isn't the lesser one where the other goes before it
behind : (one other : Option ℕ) (key : ℕ) → goes_first one other ≡ false → lesser one other ≡ Some key → one ≡ Some key → ⊥
behind one None key not least is = absurd (cc not)
behind None (Some b) key not least is = absurd (cc is)
behind (Some a) (Some b) key not least is =
    let same : a ≡ key = cc in
    let last : Some b ≡ Some key = ap (λ t. cond t (Some a) (Some b)) (sym not) ∙ least in
    let also : b ≡ key = cc in
    let is_le : nat_le a b ≡ true = grind (arith, same, also) in
    absurd (cc (not, is_le))

module _ (keys above : List (Option ℕ)) (round : IsRoundAbove keys above) where
  -- above a key stands one that is no greater
  above_key : (m key : ℕ) → key_of keys m ≡ Some key → (least : ℕ) × (key_of above (m / 2) ≡ Some least) × (least ≤ key)
  above_key m key is = elim (cases_eq (2 * (m / 2)) m) [
    | inl e ↦
        let at = lesser_one (key_of keys (2 * (m / 2))) (key_of keys (2 * (m / 2) + 1)) key (ap (key_of keys) e ∙ is) in
        (at.0, round.each (m / 2) ∙ at.1, at.2)
    | inr ne ↦
        let at = lesser_other (key_of keys (2 * (m / 2))) (key_of keys (2 * (m / 2) + 1)) key (ap (key_of keys) (let e : 2 * (m / 2) + 1 ≡ m = omega arith in e) ∙ is) in
        (at.0, round.each (m / 2) ∙ at.1, at.2)
  ]

  pub none_below : AreAbsent above → AreAbsent keys
  none_below none m = at (key_of keys m) refl
    where
      at : (o : Option ℕ) → key_of keys m ≡ o → o ≡ None
      at None is = refl
      at (Some key) is = let one = above_key m key is in absurd (cc (one.1, none (m / 2)))

  module _ (p : ℕ) (least : IsLeast above p) where
    least_key : (m key : ℕ) → key_of keys m ≡ Some key → least.key ≤ key
    least_key m key is = let one = above_key m key is in omega (arith, least.least (m / 2) one.0 one.1, one.2)

    pair_before : (m : ℕ) → key_of keys m ≡ Some least.key → p ≤ m / 2
    pair_before m is =
        let one = above_key m least.key is in
        let same : one.0 ≡ least.key = omega (arith, least.least (m / 2) one.0 one.1, one.2) in
        least.first (m / 2) (one.1 ∙ ap (λ (k : ℕ). let o : Option ℕ = Some k in o) same)

    pair_is : lesser (key_of keys (2 * p)) (key_of keys (2 * p + 1)) ≡ Some least.key
    pair_is = sym (round.each p) ∙ least.has

    pub first_wins : goes_first (key_of keys (2 * p)) (key_of keys (2 * p + 1)) ≡ true → IsLeast keys (2 * p)
    first_wins is = record {
      key = least.key;
      has = ap (λ t. cond t (key_of keys (2 * p)) (key_of keys (2 * p + 1))) (sym is) ∙ pair_is;
      least = least_key;
      first = λ m same. omega (arith, pair_before m same);
    }

    pub other_wins : goes_first (key_of keys (2 * p)) (key_of keys (2 * p + 1)) ≡ false → IsLeast keys (2 * p + 1)
    other_wins not = record {
      key = least.key;
      has = ap (λ t. cond t (key_of keys (2 * p)) (key_of keys (2 * p + 1))) (sym not) ∙ pair_is;
      least = least_key;
      first = λ m is. elim (cases_lt m (2 * p + 1)) [
        | inl less ↦
            let same : m ≡ 2 * p = omega (arith, pair_before m is) in
            absurd (behind (key_of keys (2 * p)) (key_of keys (2 * p + 1)) least.key not pair_is (sym (ap (key_of keys) same) ∙ is))
        | inr more ↦ more
      ];
    }
