-- What is put into a map.
use Rattle.std.proofs.Common.{◌≡◌, Bool, true, false, cond, Option, Some, refl, sym, ◌∙◌, ap}
use Rattle.std.specs.Ordering.{eq_by_cmp}
use Rattle.std.specs.declared.cmp.Ordering.{Ordering}
use Rattle.std.specs.Cmp.{IsTotalOrder, Equal-is}
use Rattle.std.specs.FinMap as fin

-- what is put under a key last is there
pub insert_twice : {K V : Type 0} {R : K → K → Ordering} (o : IsTotalOrder R) (apart : fin.IsAntisymmetric R) (m : fin.FinMap R V) (k : K) (v w : V) → fin.insert (fin.insert m k v) k w ≡ fin.insert m k w
insert_twice {R = R} o apart m k v w = fin.same_map o apart _ _ (λ q. fin.get-insert o (fin.insert m k v) k w q ∙ ap (cond (eq_by_cmp R q k) (Some w)) (fin.get-insert o m k v q) ∙ shadowed (eq_by_cmp R q k) (fin.get m q) ∙ sym (fin.get-insert o m k w q))
  where
    shadowed : (b : Bool) (e : Option _) → cond b (Some w) (cond b (Some v) e) ≡ cond b (Some w) e
    shadowed true e = refl
    shadowed false e = refl

-- to put what is there changes nothing
pub insert_again : {K V : Type 0} {R : K → K → Ordering} (o : IsTotalOrder R) (apart : fin.IsAntisymmetric R) (m : fin.FinMap R V) (k : K) (v : V) → fin.get m k ≡ Some v → fin.insert m k v ≡ m
insert_again {R = R} o apart m k v h = fin.same_map o apart _ _ (λ q. fin.get-insert o m k v q ∙ by q (eq_by_cmp R q k) refl)
  where
    by : (q : _) (b : Bool) → eq_by_cmp R q k ≡ b → cond b (Some v) (fin.get m q) ≡ fin.get m q
    by q true tied = sym (ap (fin.get m) (apart q k ((Equal-is (R q k)).0 tied)) ∙ h)
    by q false tied = refl
