-- A need is noted, or told.
use Rattle.std.proofs.Common.{◌≡◌, ℕ, zero, suc, ◌+◌, ◌<◌, ◌==◌, inl, inr, List, [], ◌∷◌, ◌++◌, map, replicate, slice_get, Some, None, Bool, true, false, not, cond, ◌||◌, refl, sym, ◌∙◌, ap, subst, arith, set, get_or}
use Rattle.std.specs.List.{list_any}
use Rattle.std.proofs.lemmas.Bool.{cases_eq, true≢false, false≢true, eq-eqb, ne_eqb}
use Rattle.std.proofs.lemmas.List.{get_or-set_same, get_or-set_other, length-set, length-replicate, get_or_read, map-append}
use Rattle.frame_order.specs.FrameOrder.{Order, IsOnce, stands_in, without}
use Rattle.frame_order.proofs.Changes.{order_pushed, order_taken, stands_last, stands_before, absent_taken, stands_taken, same_test}
use Rattle.frame_order.proofs.Orders.{stands_first}
use Rattle.page_contracts.specs.declared.answers.Need.{Need}
use Rattle.page_contracts.specs.declared.answers.Need.TheVariants.{Page, Frame}
use Rattle.page_contracts.specs.Stores.{same_need, noted}
use Rattle.paged_store.specs.UntoldNeeds.{Needs, need_at, needs_view, IsBelow, AreNoted, number_of}

-- needs are the same where their numbers are
same_at : (homes n m : ℕ) → same_need (need_at homes n) (need_at homes m) ≡ (n == m)
same_at homes n m = elim (cases_eq n homes) [
  | inl e ↦ elim (cases_eq m homes) [
    | inl e' ↦ ap (λ (b : Bool). same_need (cond b Frame (Page (record { 0 = n }))) (need_at homes m)) (eq-eqb n homes e)
        ∙ ap (λ (b : Bool). same_need Frame (cond b Frame (Page (record { 0 = m })))) (eq-eqb m homes e') ∙ sym (eq-eqb n m (e ∙ sym e'))
    | inr ne ↦ ap (λ (b : Bool). same_need (cond b Frame (Page (record { 0 = n }))) (need_at homes m)) (eq-eqb n homes e)
        ∙ ap (λ (b : Bool). same_need Frame (cond b Frame (Page (record { 0 = m })))) (ne_eqb m homes ne) ∙ sym (ne_eqb n m (λ s. ne (sym s ∙ e)))
  ]
  | inr ne ↦ elim (cases_eq m homes) [
    | inl e ↦ ap (λ (b : Bool). same_need (cond b Frame (Page (record { 0 = n }))) (need_at homes m)) (ne_eqb n homes ne)
        ∙ ap (λ (b : Bool). same_need (Page (record { 0 = n })) (cond b Frame (Page (record { 0 = m })))) (eq-eqb m homes e) ∙ sym (ne_eqb n m (λ s. ne (s ∙ e)))
    | inr ne' ↦ ap (λ (b : Bool). same_need (cond b Frame (Page (record { 0 = n }))) (need_at homes m)) (ne_eqb n homes ne)
        ∙ ap (λ (b : Bool). same_need (Page (record { 0 = n })) (cond b Frame (Page (record { 0 = m })))) (ne_eqb m homes ne')
  ]
]

any_at : (homes n : ℕ) (ns : List ℕ) → list_any (same_need (need_at homes n)) (map (need_at homes) ns) ≡ stands_in n ns
any_at homes n [] = refl
any_at homes n (m ∷ ms) = ap (λ (b : Bool). b || list_any (same_need (need_at homes n)) (map (need_at homes) ms)) (same_at homes n m) ∙ ap (λ (b : Bool). (n == m) || b) (any_at homes n ms)

false_at : (n h : ℕ) → get_or (replicate n false) h false ≡ false
false_at zero h = refl
false_at (suc n) zero = refl
false_at (suc n) (suc h) = false_at n h

pub noted_none : (homes : ℕ) → AreNoted (record { frames = homes + 1; order = [] }) (replicate (homes + 1) false) homes
noted_none homes = record {
  room = refl;
  size = length-replicate (homes + 1) false;
  order = record { once = tt; below = λ f here. absurd (false≢true here) };
  each = λ n. false_at (homes + 1) n;
}

pub number_below : (homes : ℕ) (need : Need) → IsBelow homes need → number_of homes need < homes + 1
number_below homes (Page home) below = omega arith
number_below homes Frame below = omega arith

pub need_is : (homes : ℕ) (need : Need) → IsBelow homes need → need_at homes (number_of homes need) ≡ need
need_is homes (Page home) below = ap (λ (b : Bool). cond b Frame (Page (record { 0 = home.0 }))) (ne_eqb home.0 homes (λ e. let l : home.0 < home.0 = subst (λ (n : ℕ). home.0 < n) (sym e) below in absurd (omega arith)))
need_is homes Frame below = ap (λ (b : Bool). cond b Frame (Page (record { 0 = homes }))) (eq-eqb homes homes refl)

module _ (o : Order) (flags : List Bool) (homes : ℕ) (is : AreNoted o flags homes) where
  pub noted_more : (n : ℕ) → n < homes + 1 → get_or flags n false ≡ false → AreNoted (record o { order = o.order ++ n ∷ [] }) (set flags n true) homes
  noted_more n below free = record {
    room = is.room;
    size = length-set flags n true ∙ is.size;
    order = order_pushed o n is.order (omega (arith, is.room)) (sym (is.each n) ∙ free);
    each = λ k. elim (cases_eq k n) [
      | inl e ↦ ap (λ (j : ℕ). get_or (set flags n true) j false) e ∙ get_or-set_same flags n true false (omega (arith, is.size)) ∙ sym (stands_last k n o.order e)
      | inr other ↦ get_or-set_other flags n k true false other ∙ is.each k ∙ sym (stands_before k n o.order other)
    ];
  }

  pub noted_view_more : (n : ℕ) → get_or flags n false ≡ false → map (need_at homes) (o.order ++ n ∷ []) ≡ noted (need_at homes n) (map (need_at homes) o.order)
  noted_view_more n free =
      map-append (need_at homes) o.order (n ∷ [])
      ∙ sym (ap (λ (b : Bool). cond b (map (need_at homes) o.order) (map (need_at homes) o.order ++ (need_at homes n ∷ []))) (any_at homes n o.order ∙ sym (is.each n) ∙ free))

  pub noted_view_same : (n : ℕ) → get_or flags n false ≡ true → map (need_at homes) o.order ≡ noted (need_at homes n) (map (need_at homes) o.order)
  noted_view_same n there =
      sym (ap (λ (b : Bool). cond b (map (need_at homes) o.order) (map (need_at homes) o.order ++ (need_at homes n ∷ []))) (any_at homes n o.order ∙ sym (is.each n) ∙ there))

  pub told_first : (n : ℕ) → stands_in n o.order ≡ true → AreNoted (record o { order = without n o.order }) (set flags n false) homes
  told_first n here = record {
    room = is.room;
    size = length-set flags n false ∙ is.size;
    order = order_taken o n is.order here;
    each = λ k. elim (cases_eq k n) [
      | inl e ↦ ap (λ (j : ℕ). get_or (set flags n false) j false) e ∙ get_or-set_same flags n false false (let b = is.order.below n here in omega (arith, is.size, is.room))
          ∙ sym (ap (λ (j : ℕ). stands_in j (without n o.order)) e ∙ absent_taken n o.order)
      | inr other ↦ get_or-set_other flags n k false false other ∙ is.each k ∙ sym (stands_taken n k o.order other)
    ];
  }

pub first_stands : (ns : List ℕ) (n : ℕ) → slice_get ns 0 ≡ Some n → stands_in n ns ≡ true
first_stands [] n is = absurd cc
first_stands (m ∷ ms) n is = let same : m ≡ n = cc in subst (λ (k : ℕ). stands_in k (m ∷ ms) ≡ true) same (stands_first m ms)

without_absent : (n : ℕ) (ns : List ℕ) → stands_in n ns ≡ false → without n ns ≡ ns
without_absent n [] absent = refl
without_absent n (m ∷ ms) absent = at (n == m) absent (without_absent n ms)
  where
    at : (b : Bool) → (b || stands_in n ms) ≡ false → (stands_in n ms ≡ false → without n ms ≡ ms) → cond (not b) (m ∷ without n ms) (without n ms) ≡ m ∷ ms
    at true is rest = absurd (true≢false is)
    at false is rest = ap (λ (l : List ℕ). m ∷ l) (rest is)

-- what was to be told first, and the rest
pub told_view : (homes : ℕ) (ns : List ℕ) (n : ℕ) → IsOnce ns → slice_get ns 0 ≡ Some n → map (need_at homes) ns ≡ need_at homes n ∷ map (need_at homes) (without n ns)
told_view homes [] n once first = absurd cc
told_view homes (m ∷ ms) n once first =
    let same : n ≡ m = cc in
    let gone : without n (m ∷ ms) ≡ ms = ap (λ (b : Bool). cond (not b) (m ∷ without n ms) (without n ms)) (same_test n m same)
    ∙ without_absent n ms (ap (λ (k : ℕ). stands_in k ms) same ∙ once.0) in
    ap (λ (k : ℕ). need_at homes k ∷ map (need_at homes) ms) (sym same) ∙ ap (λ (l : List ℕ). need_at homes n ∷ map (need_at homes) l) (sym gone)

pub told_none : (homes : ℕ) (ns : List ℕ) → slice_get ns 0 ≡ None → map (need_at homes) ns ≡ []
told_none homes [] is = refl
told_none homes (n ∷ ns) is = absurd cc

module _ (o : Order) (flags : List Bool) (homes : ℕ) (is : AreNoted o flags homes) (now : Needs) (view : needs_view homes o ≡ now) where
  pub below_view : (need : Need) → IsBelow now.homes need → IsBelow homes need
  below_view need below = subst (λ (v : Needs). IsBelow v.homes need) (sym view) below

  pub flag_read : (need : Need) (b : Bool) → IsBelow now.homes need → b ≡ get_or flags (number_of homes need) b → get_or flags (number_of homes need) false ≡ b
  flag_read need b below read = sym (get_or_read flags (number_of homes need) b (let l = number_below homes need (below_view need below) in omega (arith, l, is.size)) read false)

  pub noted_there : (need : Need) → IsBelow now.homes need → get_or flags (number_of homes need) false ≡ true → now ≡ record { homes = now.homes; needs = noted need now.needs }
  noted_there need below there =
      subst (λ (v : Needs). v ≡ record { homes = v.homes; needs = noted need v.needs }) view
      (ap (λ (l : List Need). let v : Needs = record { homes = homes; needs = l } in v)
      (noted_view_same o flags homes is (number_of homes need) there ∙ ap (λ (d : Need). noted d (map (need_at homes) o.order)) (need_is homes need (below_view need below))))

  pub noted_new : (need : Need) → IsBelow now.homes need → get_or flags (number_of homes need) false ≡ false
      → needs_view homes (record o { order = o.order ++ number_of homes need ∷ [] }) ≡ record { homes = now.homes; needs = noted need now.needs }
  noted_new need below free =
      subst (λ (v : Needs). needs_view homes (record o { order = o.order ++ number_of homes need ∷ [] }) ≡ record { homes = v.homes; needs = noted need v.needs }) view
      (ap (λ (l : List Need). let v : Needs = record { homes = homes; needs = l } in v)
      (noted_view_more o flags homes is (number_of homes need) free ∙ ap (λ (d : Need). noted d (map (need_at homes) o.order)) (need_is homes need (below_view need below))))

  pub told_now : (n : ℕ) → slice_get o.order 0 ≡ Some n → now.needs ≡ need_at homes n ∷ map (need_at homes) (without n o.order)
  told_now n first = ap (λ (v : Needs). v.needs) (sym view) ∙ told_view homes o.order n is.order.once first

  pub none_now : slice_get o.order 0 ≡ None → now.needs ≡ []
  none_now none = ap (λ (v : Needs). v.needs) (sym view) ∙ told_none homes o.order none
