-- What an answer of a sink tells.
use Rattle.std.proofs.Common.{◌≡◌, ℕ, List, Option, Result, Ok, Err, OnOk, OnErr, sym, ◌∙◌, subst}
use Rattle.outside.specs.Told.{Grows}
use Rattle.outside.specs.declared.failure.Failed.{Failed}
use Rattle.texts.specs.Wrote.{GrowsPartly}

-- what is so where a call went, or failed, is so of one that answered the same
pub went : (P : Type 0) {r s : Result (Unit {0}) Failed} {u : Unit {0}} → s ≡ r → s ≡ Ok u → OnOk r P → P
went P same is h = subst (λ x. OnOk x P) (sym same ∙ is) h

pub failed : (P : Type 0) {r s : Result (Unit {0}) Failed} {e : Failed} → s ≡ r → s ≡ Err e → OnErr r P → P
failed P same is h = subst (λ x. OnErr x P) (sym same ∙ is) h

-- what holds is so where a call goes
pub any_ok : {A : Type 0} {P : Type 0} (r : Result A Failed) → P → OnOk r P
any_ok (Ok a) h = h
any_ok (Err e) h = tt

-- what holds is so at any failure
pub any_err : {A : Type 0} {P : Type 0} (r : Result A Failed) → P → OnErr r P
any_err (Ok a) h = tt
any_err (Err e) h = h

pub same_grows : (a b : Option (List ℕ)) (x y : List ℕ) → x ≡ y → Grows a b x → Grows a b y
same_grows a b x y e h = subst (Grows a b) e h

pub same_partly : (a b : Option (List ℕ)) (x y : List ℕ) → x ≡ y → GrowsPartly a b x → GrowsPartly a b y
same_partly a b x y e h = subst (GrowsPartly a b) e h
