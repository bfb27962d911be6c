-- How many homes are free, and how many are taken.
use Rattle.std.proofs.Common.{◌≡◌, ℕ, ◌+◌, List, [], ◌∷◌, Bool, cond, not, refl, sym, ◌∙◌, ap, arith}
use Rattle.std.specs.Prelude.{count_by, length, map}
use Rattle.std.specs.List.{sum_by}
use Rattle.std.proofs.lemmas.List.Sums.{sum_by-cons}
use Rattle.page_contracts.specs.Stores.{HomePlace, away, free, free_homes, here, is_free, is_taken}

free_taken : (p : HomePlace) → is_free p ≡ not (is_taken p)
free_taken free = refl
free_taken away = refl
free_taken (here words) = refl

-- it is said by which homes are taken
pub free_mapped : (ps qs : List HomePlace) → map is_taken ps ≡ map is_taken qs → free_homes ps ≡ free_homes qs
free_mapped ps qs same = count ps ∙ ap (λ bs. sum_by (λ b. cond (not b) 1 0) bs) same ∙ sym (count qs)
  where
    count : (ps : List HomePlace) → free_homes ps ≡ sum_by (λ b. cond (not b) 1 0) (map is_taken ps)
    count [] = refl
    count (p ∷ ps) =
        let here : ◌≡◌ {A = ℕ} (cond (is_free p) 1 0) (cond (not (is_taken p)) 1 0) = ap (λ b. cond b 1 0) (free_taken p) in
        omega (arith, here, count ps, sum_by-cons (λ (q : HomePlace). cond (is_free q) 1 0) p ps, sum_by-cons (λ (b : Bool). cond (not b) 1 0) (is_taken p) (map is_taken ps))

-- each home is one or the other
pub taken_or_free : (ps : List HomePlace) → count_by is_taken ps + free_homes ps ≡ length ps
taken_or_free [] = refl
taken_or_free (p ∷ ps) = omega (arith, one p, taken_or_free ps, sum_by-cons (λ (q : HomePlace). cond (is_taken q) 1 0) p ps, sum_by-cons (λ (q : HomePlace). cond (is_free q) 1 0) p ps)
  where
    one : (q : HomePlace) → ◌≡◌ {A = ℕ} (cond (is_taken q) 1 0 + cond (is_free q) 1 0) 1
    one free = refl
    one away = refl
    one (here words) = refl
