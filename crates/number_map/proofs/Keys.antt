-- Numbers as keys of a finite map.
use Rattle.std.proofs.Common.{◌≡◌, ◌≢◌, ℕ, Some, None, true, false, cond, ◌∙◌, ap, arith, rules}
use Rattle.std.specs.Ordering.{eq_by_cmp, nat_cmp}
use Rattle.std.specs.Cmp.{unsigned_tied}
use Rattle.std.proofs.lemmas.Cmp.{nat_cmp_total}
use Rattle.std.specs.FinMap as map
use Rattle.std.specs.FinMap.{nat_cmp-IsAntisymmetric}

-- a number ties with itself alone
pub tied : (q k : ℕ) → q ≡ k → eq_by_cmp nat_cmp q k ≡ true
tied q k e = unsigned_tied q k ∙ grind (arith, rules)

pub untied : (q k : ℕ) → q ≢ k → eq_by_cmp nat_cmp q k ≡ false
untied q k ne = unsigned_tied q k ∙ grind (arith, rules)

module _ {V : Type 0} (m : map.FinMap nat_cmp V) (k q : ℕ) where
  pub get_put : (v : V) → q ≡ k → map.get (map.insert m k v) q ≡ Some v
  get_put v e = map.get-insert nat_cmp_total m k v q ∙ ap (λ b. cond b (Some v) (map.get m q)) (tied q k e)

  pub get_put_other : (v : V) → q ≢ k → map.get (map.insert m k v) q ≡ map.get m q
  get_put_other v ne = map.get-insert nat_cmp_total m k v q ∙ ap (λ b. cond b (Some v) (map.get m q)) (untied q k ne)

  pub get_gone : q ≡ k → map.get (map.remove m k) q ≡ None
  get_gone e = map.get-remove nat_cmp_total m k q ∙ ap (λ b. cond b None (map.get m q)) (tied q k e)

  pub get_gone_other : q ≢ k → map.get (map.remove m k) q ≡ map.get m q
  get_gone_other ne = map.get-remove nat_cmp_total m k q ∙ ap (λ b. cond b None (map.get m q)) (untied q k ne)

-- maps that answer alike are one
pub same : {V : Type 0} (m n : map.FinMap nat_cmp V) → ((q : ℕ) → map.get m q ≡ map.get n q) → m ≡ n
same m n alike = map.same_map nat_cmp_total nat_cmp-IsAntisymmetric m n alike
