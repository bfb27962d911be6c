-- Texts in the order of their bytes.
use Rattle.std.proofs.Common.{◌≡◌, ◌⊎◌, inl, inr, ℕ, List, [], ◌∷◌, ◌++◌, true, false, refl, sym, ◌∙◌, ap}
use Rattle.std.specs.Ordering.{nat_cmp, is_lt, ordering_reverse, ordering_then}
use Rattle.std.specs.declared.cmp.Ordering.{Ordering}
use Rattle.std.specs.declared.cmp.Ordering.TheVariants.{Less, Equal, Greater}
use Rattle.std.proofs.lemmas.Cmp.{nat_cmp_total, nat_list_cmp_total, tied_itself}
use Rattle.std.specs.FinMap.{nat_cmp-IsAntisymmetric, slice_cmp-IsAntisymmetric}
use Rattle.machine_names.specs.Orders.{name_cmp}
use Rattle.plain_files.specs.Directory.{ComesBefore}

pub before_itself : (a : List ℕ) → ComesBefore a a → ⊥
before_itself a h = let tied : name_cmp a a ≡ Equal = tied_itself nat_list_cmp_total a in cc (tied, h)

pub before_both : (a b c : List ℕ) → ComesBefore a b → ComesBefore b c → ComesBefore a c
before_both a b c p q = nat_list_cmp_total.trans a b c p q

pub before_back : (a b : List ℕ) → ComesBefore a b → ComesBefore b a → ⊥
before_back a b p q = before_itself a (before_both a b a p q)

-- of two texts one comes before the other, or they are one text
pub compared : (a b : List ℕ) → ComesBefore a b ⊎ ((a ≡ b) ⊎ ComesBefore b a)
compared a b = elim (name_cmp a b) as (λ o. name_cmp a b ≡ o → ComesBefore a b ⊎ ((a ≡ b) ⊎ ComesBefore b a)) [
  | Less ↦ λ is. inl is
  | Equal ↦ λ is. inr (inl (slice_cmp-IsAntisymmetric nat_cmp-IsAntisymmetric a b is))
  | Greater ↦ λ is. inr (inr (nat_list_cmp_total.antisymm b a ∙ ap ordering_reverse is))
] refl

less_is : (o : Ordering) → is_lt o ≡ true → o ≡ Less
less_is Less h = refl
less_is Equal h = cc h
less_is Greater h = cc h

pub before_is : (a b : List ℕ) → is_lt (name_cmp a b) ≡ true → ComesBefore a b
before_is a b h = less_is (name_cmp a b) h

pub is_before_true : (a b : List ℕ) → ComesBefore a b → is_lt (name_cmp a b) ≡ true
is_before_true a b h = ap is_lt h

pub not_before : (a b : List ℕ) → is_lt (name_cmp a b) ≡ false → ComesBefore a b → ⊥
not_before a b fails h = let holds = ap is_lt h in cc (holds, fails)

-- a text does not come before what it begins with
pub front_first : (p rest : List ℕ) → ComesBefore (p ++ rest) p → ⊥
front_first [] [] h = cc h
front_first [] (y ∷ rest) h = cc h
front_first (x ∷ p) rest h = front_first p rest (sym (ap (λ o. ordering_then o (name_cmp (p ++ rest) p)) (tied_itself nat_cmp_total x)) ∙ h)

-- what stands between a front and a text that begins with it begins with it too
pub between : (p a rest : List ℕ) → (ComesBefore a p → ⊥) → ComesBefore a (p ++ rest) → (more : List ℕ) × (a ≡ p ++ more)
between [] a rest late h = (a, refl)
between (x ∷ p) [] rest late h = absurd (late refl)
between (x ∷ p) (y ∷ a) rest late h =
    elim (nat_cmp y x) as (λ o. nat_cmp y x ≡ o → (ordering_then o (name_cmp a p) ≡ Less → ⊥) → ordering_then o (name_cmp a (p ++ rest)) ≡ Less
    → (more : List ℕ) × (y ∷ a ≡ x ∷ (p ++ more))) [
      | Less ↦ λ is late h. absurd (late refl)
      | Equal ↦ λ is late h. let rest_is = between p a rest late h in (rest_is.0, λ i. nat_cmp-IsAntisymmetric y x is i ∷ rest_is.1 i)
      | Greater ↦ λ is late h. absurd (cc h)
    ] refl late h
