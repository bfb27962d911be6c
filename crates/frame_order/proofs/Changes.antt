-- An order with one more frame, and with one fewer.
use Rattle.std.proofs.Common.{◌≡◌, ◌≢◌, ℕ, ◌<◌, ◌==◌, inl, inr, List, [], ◌∷◌, ◌++◌, Bool, true, false, not, cond, ◌||◌, refl, sym, ◌∙◌, ap, subst, arith}
use Rattle.std.proofs.lemmas.Bool.{cases_eq}
use Rattle.frame_order.specs.FrameOrder.{Order, stands_in, without, IsOnce, IsOrder}
use Rattle.frame_order.proofs.Orders.{once_push, once_at, found, stands_push, stands_around, without_found, stands_in-append}

pub same_test : (f g : ℕ) → f ≡ g → (f == g) ≡ true
same_test f g e = grind arith

pub other_test : (f g : ℕ) → f ≢ g → (f == g) ≡ false
other_test f g e = grind arith

pub or_none : (b : Bool) → (b || false) ≡ b
or_none true = refl
or_none false = refl

or_true : (b : Bool) → (b || true) ≡ true
or_true true = refl
or_true false = refl

pub order_pushed : (o : Order) (f : ℕ) → IsOrder o → f < o.frames → stands_in f o.order ≡ false → IsOrder (record o { order = o.order ++ f ∷ [] })
order_pushed o f is below absent = record {
  once = once_push f o.order is.once absent;
  below = λ g here. elim (stands_push g f o.order here) [ inl before ↦ is.below g before | inr last ↦ omega arith ];
}

pub order_taken : (o : Order) (f : ℕ) → IsOrder o → stands_in f o.order ≡ true → IsOrder (record o { order = without f o.order })
order_taken o f is here =
    let at = found f o.order here in
    let once : IsOnce (at.front ++ f ∷ at.rest) = subst IsOnce at.is is.once in
    let same : without f o.order ≡ at.front ++ at.rest = ap (without f) at.is ∙ without_found f at.front at.rest once in
    record {
      once = subst IsOnce (sym same) (once_at f at.front at.rest once).once;
      below = λ g there. is.below g (subst (λ (fs : List ℕ). stands_in g fs ≡ true) (sym at.is) (stands_around g f at.front at.rest (subst (λ (fs : List ℕ). stands_in g fs ≡ true) same there)));
    }

pub stands_pushed : (g f : ℕ) (fs : List ℕ) → stands_in g (fs ++ f ∷ []) ≡ (stands_in g fs || (g == f))
stands_pushed g f fs = stands_in-append g fs (f ∷ []) ∙ ap (λ (b : Bool). stands_in g fs || b) (or_none (g == f))

pub stands_last : (g f : ℕ) (fs : List ℕ) → g ≡ f → stands_in g (fs ++ f ∷ []) ≡ true
stands_last g f fs same = stands_pushed g f fs ∙ ap (λ (b : Bool). stands_in g fs || b) (same_test g f same) ∙ or_true (stands_in g fs)

pub stands_before : (g f : ℕ) (fs : List ℕ) → g ≢ f → stands_in g (fs ++ f ∷ []) ≡ stands_in g fs
stands_before g f fs other = stands_pushed g f fs ∙ ap (λ (b : Bool). stands_in g fs || b) (other_test g f other) ∙ or_none (stands_in g fs)

pub absent_taken : (f : ℕ) (fs : List ℕ) → stands_in f (without f fs) ≡ false
absent_taken f [] = refl
absent_taken f (g ∷ gs) = elim (cases_eq f g) [
  | inl same ↦ ap (λ (b : Bool). stands_in f (cond (not b) (g ∷ without f gs) (without f gs))) (same_test f g same) ∙ absent_taken f gs
  | inr other ↦
      ap (λ (b : Bool). stands_in f (cond (not b) (g ∷ without f gs) (without f gs))) (other_test f g other)
      ∙ ap (λ (b : Bool). b || stands_in f (without f gs)) (other_test f g other) ∙ absent_taken f gs
]

pub stands_taken : (f h : ℕ) (fs : List ℕ) → h ≢ f → stands_in h (without f fs) ≡ stands_in h fs
stands_taken f h [] apart = refl
stands_taken f h (g ∷ gs) apart = elim (cases_eq f g) [
  | inl same ↦
      ap (λ (b : Bool). stands_in h (cond (not b) (g ∷ without f gs) (without f gs))) (same_test f g same) ∙ stands_taken f h gs apart
      ∙ ap (λ (b : Bool). b || stands_in h gs) (sym (other_test h g (λ e. apart (e ∙ sym same))))
  | inr other ↦
      ap (λ (b : Bool). stands_in h (cond (not b) (g ∷ without f gs) (without f gs))) (other_test f g other)
      ∙ ap (λ (b : Bool). (h == g) || b) (stands_taken f h gs apart)
]
