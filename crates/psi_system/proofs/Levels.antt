-- A level that goes before those in progress is within them.
use Rattle.std.proofs.Common.{◌≡◌, ℕ, zero, suc, ◌-◌, ◌≤◌, Bool, true, false, List, [], ◌∷◌, length, take, Option, Some, refl, sym, subst, arith}
use Rattle.std.specs.Prelude.{find, slice_set, slice_index_or, not}
use Rattle.std.specs.List.{list_any, range_with_len}
use Rattle.plain_model.specs.declared.fork.Psi.{Psi}
use Rattle.plain_model.specs.declared.interrupt.Found.{Found}
use Rattle.plain_model.specs.Inspections.{goes_before, with_level}
use Rattle.psi_system.specs.Laws.{IsWithin}

-- a level that is in progress stands behind one that goes before
behind_one : (n m : ℕ) (levels : List Bool) → not (list_any (λ on. on) (take n levels)) ≡ true → slice_index_or levels m false ≡ true → n ≤ m
behind_one zero m levels before here = omega arith
behind_one (suc n) m [] before here = absurd (cc here)
behind_one (suc n) zero (true ∷ levels) before here = absurd (cc before)
behind_one (suc n) zero (false ∷ levels) before here = absurd (cc here)
behind_one (suc n) (suc m) (true ∷ levels) before here = absurd (cc before)
behind_one (suc n) (suc m) (false ∷ levels) before here = let rest : n ≤ m = behind_one n m levels before here in omega (arith, rest)

-- three levels
three : (levels : List Bool) → length levels ≡ 3 → (a : Bool) × (b : Bool) × (c : Bool) × (levels ≡ a ∷ b ∷ c ∷ [])
three [] h = absurd (omega arith)
three (a ∷ []) h = absurd (omega arith)
three (a ∷ b ∷ []) h = absurd (omega arith)
three (a ∷ b ∷ c ∷ []) h = (a, b, c, refl)
three (a ∷ b ∷ c ∷ d ∷ levels) h = absurd (omega arith)

-- the least of some levels of which another is in progress too
abbrev least_with : ℕ → List Bool → Option ℕ
least_with level levels = find (λ l. slice_index_or (slice_set levels (level - 1) true) (l - 1) false) (range_with_len 1 3)

abbrev is_within : ℕ → List Bool → Type 0
is_within level levels = (least_with level levels ≡ Some level) × (slice_set (slice_set levels (level - 1) true) (level - 1) false ≡ levels)

within : (level : ℕ) (a b c : Bool) → 1 ≤ level → level ≤ 3 → not (list_any (λ on. on) (take level (a ∷ b ∷ c ∷ []))) ≡ true → is_within level (a ∷ b ∷ c ∷ [])
within zero a b c low high before = absurd (omega arith)
within (suc zero) true b c low high before = absurd (cc before)
within (suc zero) false b c low high before = (refl, refl)
within (suc (suc zero)) true b c low high before = absurd (cc before)
within (suc (suc zero)) false true c low high before = absurd (cc before)
within (suc (suc zero)) false false c low high before = (refl, refl)
within (suc (suc (suc zero))) true b c low high before = absurd (cc before)
within (suc (suc (suc zero))) false true c low high before = absurd (cc before)
within (suc (suc (suc zero))) false false true low high before = absurd (cc before)
within (suc (suc (suc zero))) false false false low high before = (refl, refl)
within (suc (suc (suc (suc level)))) a b c low high before = absurd (omega arith)

pub level_within : (psi : Psi) (found : Found) → length psi.levels ≡ 3 → 1 ≤ found.level → found.level ≤ 3 → goes_before found.level psi ≡ true → IsWithin psi (with_level psi found) found.level
level_within psi found room low high before = record {
  before = λ l first here. (let behind : found.level ≤ l - 1 = behind_one found.level (l - 1) psi.levels before here in omega (arith, behind, first));
  least = all.0;
  back = all.1;
}
  where
    all : is_within found.level psi.levels
    all =
        let t = three psi.levels room in
        subst (is_within found.level) (sym t.3) (within found.level t.0 t.1 t.2 low high (subst (λ (levels : List Bool). not (list_any (λ on. on) (take found.level levels)) ≡ true) t.3 before))
