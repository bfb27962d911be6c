-- The oldest transfers of a queue end, one after another.
use Rattle.std.proofs.Common.{◌≡◌, ℕ, zero, suc, ◌≤◌, List, [], ◌∷◌, drop, map, refl, ◌∙◌, ap, arith}
use Rattle.std.specs.Prelude.{take}
use Rattle.job_sched.specs.Schedules.{Schedule, arrived}
use Rattle.page_contracts.specs.declared.answers.Need.{Need}
use Rattle.page_waits.specs.Told.{all_arrived}

drop_nil : {A : Type 0} (n : ℕ) → drop {A = A} n [] ≡ []
drop_nil zero = refl
drop_nil (suc n) = refl

-- one more
pub drop_next : {A : Type 0} (n : ℕ) (xs : List A) → drop 1 (drop n xs) ≡ drop (suc n) xs
drop_next zero xs = refl
drop_next (suc n) [] = refl
drop_next (suc n) (x ∷ xs) = drop_next n xs

-- where none is left, none is left later
pub drop_none : {A : Type 0} (k n : ℕ) (xs : List A) → k ≤ n → drop k xs ≡ [] → drop n xs ≡ []
drop_none zero n xs low none = ap (drop n) none ∙ drop_nil n
drop_none (suc k) zero xs low none = absurd (omega (arith, low))
drop_none (suc k) (suc n) [] low none = refl
drop_none (suc k) (suc n) (x ∷ xs) low none = drop_none k n xs (omega (arith, low)) none

-- what is left of a list tells what is left of what it tells
pub drop_map : {A B : Type 0} (f : A → B) (n : ℕ) (xs : List A) → drop n (map f xs) ≡ map f (drop n xs)
drop_map f zero xs = refl
drop_map f (suc n) [] = refl
drop_map f (suc n) (x ∷ xs) = drop_map f n xs

take_nil : {A : Type 0} (n : ℕ) → take {A = A} n [] ≡ []
take_nil zero = refl
take_nil (suc n) = refl

-- where none is left, no more are taken
pub take_rest : {A : Type 0} (k n : ℕ) (xs : List A) → k ≤ n → drop k xs ≡ [] → take n xs ≡ take k xs
take_rest zero n xs low none = ap (take n) none ∙ take_nil n
take_rest (suc k) zero xs low none = absurd (omega (arith, low))
take_rest (suc k) (suc n) [] low none = refl
take_rest (suc k) (suc n) (x ∷ xs) low none = ap (λ ys. x ∷ ys) (take_rest k n xs (omega (arith, low)) none)

-- one more is told
pub arrived_next : (k : ℕ) (xs : List Need) (y : Need) (ys : List Need) (c : Schedule) → drop k xs ≡ y ∷ ys → all_arrived (take (suc k) xs) c ≡ arrived (all_arrived (take k xs) c) y
arrived_next zero xs y ys c is = ap (λ zs. all_arrived (take 1 zs) c) is
arrived_next (suc k) [] y ys c is = absurd (cc is)
arrived_next (suc k) (x ∷ xs) y ys c is = arrived_next k xs y ys (arrived c x) is
