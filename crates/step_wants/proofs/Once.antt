-- Homes of which each is counted once.
use Rattle.std.proofs.Common.{◌≡◌, ℕ, ◌≤◌, List, [], ◌∷◌, length, Bool, true, false, ◌||◌, cond, refl, sym, ◌∙◌, ap, arith}
use Rattle.std.specs.Prelude.{◌==◌, nat_eq}
use Rattle.std.specs.Set.{is_member, unique_keys}
use Rattle.std.specs.List.{AllByRecursion, IsDistinct, list_any}
use Rattle.std.proofs.lemmas.Bool.Decides.{nat_tests}
use Rattle.std.proofs.lemmas.Cmp.{nat_eq_equiv}
use Rattle.std.proofs.lemmas.Map.Keys.{IsDistinct-cons}
use Rattle.std.proofs.lemmas.Map.Made.{length-le_from_is_member}

abbrev has : ℕ → List ℕ → Bool
has home homes = list_any (λ h. h == home) homes

-- whether a number is there, whichever way it is compared
has_either : (home : ℕ) (xs : List ℕ) → is_member nat_eq xs home ≡ has home xs
has_either home [] = refl
has_either home (x ∷ xs) = ap (λ b. b || is_member nat_eq xs home) (nat_eq_equiv.symm home x) ∙ ap (λ b. (x == home) || b) (has_either home xs)

pub has_once : (home : ℕ) (xs : List ℕ) → has home (unique_keys nat_eq xs) ≡ has home xs
has_once home [] = refl
has_once home (x ∷ xs) = by (is_member nat_eq xs x) refl (has_once home xs)
  where
    by : (b : Bool) → is_member nat_eq xs x ≡ b → has home (unique_keys nat_eq xs) ≡ has home xs → has home (cond b (unique_keys nat_eq xs) (x ∷ unique_keys nat_eq xs)) ≡ ((x == home) || has home xs)
    by false is rest = ap (λ b. (x == home) || b) rest
    by true is rest = rest ∙ whether (x == home) refl
      where
        whether : (b : Bool) → (x == home) ≡ b → has home xs ≡ (b || has home xs)
        whether true e =
            let same : x ≡ home = grind (arith, nat_tests, e) in
            sym (has_either home xs) ∙ ap (is_member nat_eq xs) (sym same) ∙ is
        whether false e = refl

none_equal : (p : ℕ → Bool) (xs : List ℕ) → list_any p xs ≡ false → AllByRecursion (λ y. p y ≡ false) xs
none_equal p [] none = tt
none_equal p (x ∷ xs) none = by (p x) refl none (none_equal p xs)
  where
    by : (b : Bool) → p x ≡ b → (b || list_any p xs) ≡ false → (list_any p xs ≡ false → AllByRecursion (λ y. p y ≡ false) xs) → AllByRecursion (λ y. p y ≡ false) (x ∷ xs)
    by true is e rest = absurd (cc e)
    by false is e rest = (is, rest e)

once_apart : (xs : List ℕ) → IsDistinct nat_eq (unique_keys nat_eq xs)
unfolding IsDistinct
once_apart [] = tt
once_apart (x ∷ xs) = by (is_member nat_eq xs x) refl (once_apart xs)
  where
    by : (b : Bool) → is_member nat_eq xs x ≡ b → IsDistinct nat_eq (unique_keys nat_eq xs) → IsDistinct nat_eq (cond b (unique_keys nat_eq xs) (x ∷ unique_keys nat_eq xs))
    by true is rest = rest
    by false is rest =
        IsDistinct-cons nat_eq x (unique_keys nat_eq xs) (none_equal (nat_eq x) (unique_keys nat_eq xs) (has_either x (unique_keys nat_eq xs) ∙ has_once x xs ∙ sym (has_either x xs) ∙ is)) rest

-- numbers that are all among others are no more than those, each counted once
pub few_once : (xs ys : List ℕ) → ((h : ℕ) → has h xs ≡ true → has h ys ≡ true) → length (unique_keys nat_eq xs) ≤ length ys
few_once xs ys within =
    length-le_from_is_member nat_eq_equiv (unique_keys nat_eq xs) ys (once_apart xs) (λ q is. has_either q ys ∙ within q (sym (has_once q xs) ∙ sym (has_either q (unique_keys nat_eq xs)) ∙ is))
