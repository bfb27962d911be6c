-- What a number put last into a row makes of the rows.
use Rattle.std.proofs.Common.{◌≡◌, ◌≢◌, ℕ, zero, suc, ◌+◌, ◌<◌, ◌≤◌, ◌⊎◌, ◌↔◌, IsTrue, inl, inr, List, [], ◌∷◌, ◌++◌, length, Bool, true, false, refl, sym, ◌∙◌, ap, subst, arith, set, map, get_or, slice_index, length-append, replicate}
use Rattle.std.proofs.lemmas.Bool.{cases_eq}
use Rattle.std.proofs.lemmas.List.{get_or-set_same, get_or-set_other, length-set, length-replicate}
use Rattle.frame_order.specs.FrameOrder.{Order, IsOrder, IsOnce, stands_in, without}
use Rattle.frame_order.proofs.Changes.{order_taken, stands_last, stands_before, absent_taken, stands_taken}
use Rattle.frame_order.proofs.Orders.{found, without_found, without_absent, not_true, once_push, stands_push}
use Rattle.job_sched.specs.declared.rows.Orders.{Orders}
use Rattle.job_sched.specs.declared.rows.Row.{Row}
use Rattle.job_sched.specs.declared.rows.Row.TheVariants.{Free, Outside, Ready, Waiting}
use Rattle.job_sched.specs.Rows.{number, IsRows, row, moved, up_to}
use Rattle.job_sched.specs.Orders.{rows_view, order_at, with_order, taken_from, put_in, tally, AreKept}

-- a row is that of its order
pub row_is : (o : Orders) (stands : List ℕ) (k : ℕ) → row (rows_view o stands) k ≡ (order_at o k).order
row_is o stands zero = refl
row_is o stands (suc zero) = refl
row_is o stands (suc (suc zero)) = refl
row_is o stands (suc (suc (suc zero))) = refl
row_is o stands (suc (suc (suc (suc k)))) = refl

with_same : (o : Orders) (k : ℕ) (x : Order) → k < 4 → order_at (with_order o k x) k ≡ x
with_same o zero x small = refl
with_same o (suc zero) x small = refl
with_same o (suc (suc zero)) x small = refl
with_same o (suc (suc (suc zero))) x small = refl
with_same o (suc (suc (suc (suc k)))) x small = absurd (omega arith)

with_other : (o : Orders) (k j : ℕ) (x : Order) → j ≢ k → order_at (with_order o k x) j ≡ order_at o j
with_other o zero zero x other = absurd (other refl)
with_other o zero (suc zero) x other = refl
with_other o zero (suc (suc zero)) x other = refl
with_other o zero (suc (suc (suc zero))) x other = refl
with_other o zero (suc (suc (suc (suc j)))) x other = refl
with_other o (suc zero) zero x other = refl
with_other o (suc zero) (suc zero) x other = absurd (other refl)
with_other o (suc zero) (suc (suc zero)) x other = refl
with_other o (suc zero) (suc (suc (suc zero))) x other = refl
with_other o (suc zero) (suc (suc (suc (suc j)))) x other = refl
with_other o (suc (suc zero)) zero x other = refl
with_other o (suc (suc zero)) (suc zero) x other = refl
with_other o (suc (suc zero)) (suc (suc zero)) x other = absurd (other refl)
with_other o (suc (suc zero)) (suc (suc (suc zero))) x other = refl
with_other o (suc (suc zero)) (suc (suc (suc (suc j)))) x other = refl
with_other o (suc (suc (suc zero))) zero x other = refl
with_other o (suc (suc (suc zero))) (suc zero) x other = refl
with_other o (suc (suc (suc zero))) (suc (suc zero)) x other = refl
with_other o (suc (suc (suc zero))) (suc (suc (suc zero))) x other = absurd (other refl)
with_other o (suc (suc (suc zero))) (suc (suc (suc (suc j)))) x other = refl
with_other o (suc (suc (suc (suc k)))) j x other = refl

tally_with : (o : Orders) (k : ℕ) (x : Order) → k < 4 → tally (with_order o k x) + length (order_at o k).order ≡ tally o + length x.order
tally_with o zero x small = omega arith
tally_with o (suc zero) x small = omega arith
tally_with o (suc (suc zero)) x small = omega arith
tally_with o (suc (suc (suc zero))) x small = omega arith
tally_with o (suc (suc (suc (suc k)))) x small = absurd (omega arith)

-- one number fewer stands in an order from which one was taken
length_without : (n : ℕ) (o : Order) → IsOrder o → stands_in n o.order ≡ true → length (without n o.order) + 1 ≡ length o.order
length_without n o is here =
    let at = found n o.order here in
    let once : IsOnce (at.front ++ n ∷ at.rest) = subst IsOnce at.is is.once in
    let same : without n o.order ≡ at.front ++ at.rest = ap (without n) at.is ∙ without_found n at.front at.rest once in
    let long = ap length same ∙ length-append at.front at.rest in
    let all = ap length at.is ∙ length-append at.front (n ∷ at.rest) in
    let behind : length (n ∷ at.rest) ≡ suc (length at.rest) = refl in
    omega arith

or_not : (b : Bool) → (b ≡ true) ⊎ (b ≡ false)
or_not true = inl refl
or_not false = inr refl

once_without : (n : ℕ) (o : Order) → IsOrder o → IsOnce (without n o.order)
once_without n o is = elim (or_not (stands_in n o.order)) [
  | inl here ↦ (order_taken o n is here).once
  | inr absent ↦ subst IsOnce (sym (without_absent n o.order absent)) is.once
]

below_at : (o : Orders) (stands : List ℕ) → AreKept o stands → (k n : ℕ) → stands_in n (order_at o k).order ≡ true → n < length stands
below_at o stands kept zero n here = let is = kept.frames 0 (omega arith) in let under = (kept.orders 0).below n here in omega arith
below_at o stands kept (suc zero) n here = let is = kept.frames 1 (omega arith) in let under = (kept.orders 1).below n here in omega arith
below_at o stands kept (suc (suc zero)) n here = let is = kept.frames 2 (omega arith) in let under = (kept.orders 2).below n here in omega arith
below_at o stands kept (suc (suc (suc zero))) n here = let is = kept.frames 3 (omega arith) in let under = (kept.orders 3).below n here in omega arith
below_at o stands kept (suc (suc (suc (suc k)))) n here = absurd cc

-- the rows of what is kept
pub rows_kept : (o : Orders) (stands : List ℕ) → AreKept o stands → IsRows (rows_view o stands)
rows_kept o stands kept = record {
  once = λ k. subst IsOnce (sym (row_is o stands k)) (kept.orders k).once;
  below = λ k n here. below_at o stands kept k n (sym (ap (stands_in n) (row_is o stands k)) ∙ here);
  apart = λ j k n here there.
      sym (kept.only j n (sym (ap (stands_in n) (row_is o stands j)) ∙ here)) ∙ kept.only k n (sym (ap (stands_in n) (row_is o stands k)) ∙ there);
  total = let all = kept.total in omega arith;
}

-- the orders behind a move
abbrev pub moved_in : Orders → List ℕ → ℕ → ℕ → Orders
moved_in o stands k n = put_in (taken_from o (slice_index stands n) n) k n

module _ (o : Orders) (stands : List ℕ) (n : ℕ) (kept : AreKept o stands) (inside : n < length stands) where
  -- a number that is taken from where it stands stands nowhere then
  pub taken_at : (j : ℕ) → (order_at (taken_from o (slice_index stands n) n) j).order ≡ without n (order_at o j).order
  taken_at j = elim (cases_eq j (slice_index stands n)) [
    | inl same ↦
        ap (λ (i : ℕ). (order_at (taken_from o (slice_index stands n) n) i).order) same
        ∙ ap (λ (x : Order). x.order) (with_same o (slice_index stands n) (record (order_at o (slice_index stands n)) { order = without n (order_at o (slice_index stands n)).order }) (kept.listed n inside))
        ∙ sym (ap (λ (i : ℕ). without n (order_at o i).order) same)
    | inr other ↦
        ap (λ (x : Order). x.order) (with_other o (slice_index stands n) j (record (order_at o (slice_index stands n)) { order = without n (order_at o (slice_index stands n)).order }) other)
        ∙ sym (without_absent n (order_at o j).order (not_true _ (λ here. other (sym (kept.only j n here)))))
  ]

  pub taken_frames : (j : ℕ) → (order_at (taken_from o (slice_index stands n) n) j).frames ≡ (order_at o j).frames
  taken_frames j = elim (cases_eq j (slice_index stands n)) [
    | inl same ↦
        ap (λ (i : ℕ). (order_at (taken_from o (slice_index stands n) n) i).frames) same
        ∙ ap (λ (x : Order). x.frames) (with_same o (slice_index stands n) (record (order_at o (slice_index stands n)) { order = without n (order_at o (slice_index stands n)).order }) (kept.listed n inside))
        ∙ sym (ap (λ (i : ℕ). (order_at o i).frames) same)
    | inr other ↦
        ap (λ (x : Order). x.frames) (with_other o (slice_index stands n) j (record (order_at o (slice_index stands n)) { order = without n (order_at o (slice_index stands n)).order }) other)
  ]

  pub absent_at : (j : ℕ) → stands_in n (order_at (taken_from o (slice_index stands n) n) j).order ≡ false
  absent_at j = ap (stands_in n) (taken_at j) ∙ absent_taken n (order_at o j).order

  module _ (k : ℕ) (small : k < 4) where
    pub moved_here : (order_at (moved_in o stands k n) k).order ≡ without n (order_at o k).order ++ n ∷ []
    moved_here =
        ap (λ (x : Order). x.order) (with_same (taken_from o (slice_index stands n) n) k (record (order_at (taken_from o (slice_index stands n) n) k) { order = (order_at (taken_from o (slice_index stands n) n) k).order ++ n ∷ [] }) small)
        ∙ ap (λ (ms : List ℕ). ms ++ n ∷ []) (taken_at k)

    pub moved_there : (j : ℕ) → j ≢ k → (order_at (moved_in o stands k n) j).order ≡ without n (order_at o j).order
    moved_there j other =
        ap (λ (x : Order). x.order) (with_other (taken_from o (slice_index stands n) n) k j (record (order_at (taken_from o (slice_index stands n) n) k) { order = (order_at (taken_from o (slice_index stands n) n) k).order ++ n ∷ [] }) other)
        ∙ taken_at j

    pub moved_frames : (j : ℕ) → (order_at (moved_in o stands k n) j).frames ≡ (order_at o j).frames
    moved_frames j = elim (cases_eq j k) [
      | inl same ↦
          ap (λ (i : ℕ). (order_at (moved_in o stands k n) i).frames) same
          ∙ ap (λ (x : Order). x.frames) (with_same (taken_from o (slice_index stands n) n) k (record (order_at (taken_from o (slice_index stands n) n) k) { order = (order_at (taken_from o (slice_index stands n) n) k).order ++ n ∷ [] }) small)
          ∙ taken_frames k ∙ sym (ap (λ (i : ℕ). (order_at o i).frames) same)
      | inr other ↦
          ap (λ (x : Order). x.frames) (with_other (taken_from o (slice_index stands n) n) k j (record (order_at (taken_from o (slice_index stands n) n) k) { order = (order_at (taken_from o (slice_index stands n) n) k).order ++ n ∷ [] }) other)
          ∙ taken_frames j
    ]

    -- who stands where behind the move
    stands_other : (m j : ℕ) → m ≢ n → stands_in m (order_at (moved_in o stands k n) j).order ≡ stands_in m (order_at o j).order
    stands_other m j other = elim (cases_eq j k) [
      | inl same ↦
          ap (λ (i : ℕ). stands_in m (order_at (moved_in o stands k n) i).order) same
          ∙ ap (stands_in m) moved_here ∙ stands_before m n (without n (order_at o k).order) other ∙ stands_taken n m (order_at o k).order other
          ∙ sym (ap (λ (i : ℕ). stands_in m (order_at o i).order) same)
      | inr apart ↦ ap (stands_in m) (moved_there j apart) ∙ stands_taken n m (order_at o j).order other
    ]

    stands_here : stands_in n (order_at (moved_in o stands k n) k).order ≡ true
    stands_here = ap (stands_in n) moved_here ∙ stands_last n n (without n (order_at o k).order) refl

    stands_only : (j : ℕ) → stands_in n (order_at (moved_in o stands k n) j).order ≡ true → k ≡ j
    stands_only j here = elim (cases_eq j k) [
      | inl same ↦ sym same
      | inr apart ↦
          let none : stands_in n (order_at (moved_in o stands k n) j).order ≡ false = ap (stands_in n) (moved_there j apart) ∙ absent_taken n (order_at o j).order in
          absurd cc
    ]

    order_moved : (j : ℕ) → IsOrder (order_at (moved_in o stands k n) j)
    order_moved j = elim (cases_eq j k) [
      | inl same ↦
          let frames : (order_at o k).frames ≡ length stands = kept.frames k small in
          let placed = once_push n (without n (order_at o k).order) in
          subst (λ (i : ℕ). IsOrder (order_at (moved_in o stands k n) i)) (sym same)
          (record {
            once = subst IsOnce (sym moved_here) (placed (once_without n (order_at o k) (kept.orders k)) (absent_taken n (order_at o k).order));
            below = λ m here. elim (cases_eq m n) [
              | inl it ↦ let is = moved_frames k in omega arith
              | inr other ↦
                  let is = moved_frames k in
                  let under = (kept.orders k).below m (sym (stands_other m k other) ∙ here) in
                  omega arith
            ];
          })
      | inr apart ↦ record {
        once = subst IsOnce (sym (moved_there j apart)) (once_without n (order_at o j) (kept.orders j));
        below = λ m here. elim (cases_eq m n) [
          | inl it ↦
              let none : stands_in m (order_at (moved_in o stands k n) j).order ≡ false =
              ap (λ (i : ℕ). stands_in i (order_at (moved_in o stands k n) j).order) it ∙ ap (stands_in n) (moved_there j apart) ∙ absent_taken n (order_at o j).order in
              absurd cc
          | inr other ↦
              let is = moved_frames j in
              let under = (kept.orders j).below m (sym (stands_other m j other) ∙ here) in
              omega arith
        ];
      }
    ]

    total_moved : tally (moved_in o stands k n) ≡ length stands
    total_moved =
        let out : Order = record (order_at o (slice_index stands n)) { order = without n (order_at o (slice_index stands n)).order } in
        let first = tally_with o (slice_index stands n) out (kept.listed n inside) in
        let fewer = length_without n (order_at o (slice_index stands n)) (kept.orders (slice_index stands n)) (kept.here n inside) in
        let mid_at = order_at (taken_from o (slice_index stands n) n) k in
        let second = tally_with (taken_from o (slice_index stands n) n) k (record mid_at { order = mid_at.order ++ n ∷ [] }) small in
        let more = length-append mid_at.order (n ∷ []) in
        let one : length (n ∷ []) ≡ 1 = refl in
        let all = kept.total in
        omega arith

    pub kept_moved : AreKept (moved_in o stands k n) (set stands n k)
    kept_moved = record {
      frames = λ j below. moved_frames j ∙ kept.frames j below ∙ sym (length-set stands n k);
      orders = order_moved;
      listed = λ m below. elim (cases_eq m n) [
        | inl same ↦ let is = ap (slice_index (set stands n k)) same ∙ get_or-set_same stands n k 0 inside in omega arith
        | inr other ↦
            let is : slice_index (set stands n k) m ≡ slice_index stands m = get_or-set_other stands n m k 0 other in
            let long = length-set stands n k in
            let old = kept.listed m (omega arith) in
            omega arith
      ];
      here = λ m below. elim (cases_eq m n) [
        | inl same ↦
            let is : slice_index (set stands n k) m ≡ k = ap (slice_index (set stands n k)) same ∙ get_or-set_same stands n k 0 inside in
            ap (λ (j : ℕ). stands_in m (order_at (moved_in o stands k n) j).order) is
            ∙ ap (λ (i : ℕ). stands_in i (order_at (moved_in o stands k n) k).order) same ∙ stands_here
        | inr other ↦
            let is : slice_index (set stands n k) m ≡ slice_index stands m = get_or-set_other stands n m k 0 other in
            let long = length-set stands n k in
            ap (λ (j : ℕ). stands_in m (order_at (moved_in o stands k n) j).order) is
            ∙ stands_other m (slice_index stands m) other ∙ kept.here m (omega arith)
      ];
      only = λ j m here. elim (cases_eq m n) [
        | inl same ↦
            ap (slice_index (set stands n k)) same ∙ get_or-set_same stands n k 0 inside
            ∙ stands_only j (sym (ap (λ (i : ℕ). stands_in i (order_at (moved_in o stands k n) j).order) same) ∙ here)
        | inr other ↦ get_or-set_other stands n m k 0 other ∙ kept.only j m (sym (stands_other m j other) ∙ here)
      ];
      total = total_moved ∙ sym (length-set stands n k);
    }

four : (a e b f c g d h : List ℕ) → a ≡ e → b ≡ f → c ≡ g → d ≡ h → a ∷ b ∷ c ∷ d ∷ [] ≡ e ∷ f ∷ g ∷ h ∷ []
four a e b f c g d h p q r s = cc

pub view_moved : (o : Orders) (stands : List ℕ) (n : ℕ) (kept : AreKept o stands) (inside : n < length stands) (k : ℕ) → k < 4
    → rows_view (moved_in o stands k n) (set stands n k) ≡ moved (rows_view o stands) n k
view_moved o stands n kept inside zero small =
    let here = moved_here o stands n kept inside 0 small in
    let there = moved_there o stands n kept inside 0 small in
    ap (λ (long : ℕ). record { numbers = long; rows = (rows_view (moved_in o stands 0 n) (set stands n 0)).rows }) (length-set stands n 0)
    ∙ ap (λ (rows : List (List ℕ)). record { numbers = length stands; rows = rows })
    (four _ _ _ _ _ _ _ _ here (there 1 (λ e. absurd (omega arith))) (there 2 (λ e. absurd (omega arith))) (there 3 (λ e. absurd (omega arith))))
view_moved o stands n kept inside (suc zero) small =
    let here = moved_here o stands n kept inside 1 small in
    let there = moved_there o stands n kept inside 1 small in
    ap (λ (long : ℕ). record { numbers = long; rows = (rows_view (moved_in o stands 1 n) (set stands n 1)).rows }) (length-set stands n 1)
    ∙ ap (λ (rows : List (List ℕ)). record { numbers = length stands; rows = rows })
    (four _ _ _ _ _ _ _ _ (there 0 (λ e. absurd (omega arith))) here (there 2 (λ e. absurd (omega arith))) (there 3 (λ e. absurd (omega arith))))
view_moved o stands n kept inside (suc (suc zero)) small =
    let here = moved_here o stands n kept inside 2 small in
    let there = moved_there o stands n kept inside 2 small in
    ap (λ (long : ℕ). record { numbers = long; rows = (rows_view (moved_in o stands 2 n) (set stands n 2)).rows }) (length-set stands n 2)
    ∙ ap (λ (rows : List (List ℕ)). record { numbers = length stands; rows = rows })
    (four _ _ _ _ _ _ _ _ (there 0 (λ e. absurd (omega arith))) (there 1 (λ e. absurd (omega arith))) here (there 3 (λ e. absurd (omega arith))))
view_moved o stands n kept inside (suc (suc (suc zero))) small =
    let here = moved_here o stands n kept inside 3 small in
    let there = moved_there o stands n kept inside 3 small in
    ap (λ (long : ℕ). record { numbers = long; rows = (rows_view (moved_in o stands 3 n) (set stands n 3)).rows }) (length-set stands n 3)
    ∙ ap (λ (rows : List (List ℕ)). record { numbers = length stands; rows = rows })
    (four _ _ _ _ _ _ _ _ (there 0 (λ e. absurd (omega arith))) (there 1 (λ e. absurd (omega arith))) (there 2 (λ e. absurd (omega arith))) here)
view_moved o stands n kept inside (suc (suc (suc (suc k)))) small = absurd (omega arith)

-- the numbers below another are once there, and those alone
pub stands_up : (m n : ℕ) → stands_in m (up_to n) ≡ true → m < n
unfolding up_to
stands_up m zero here = absurd cc
stands_up m (suc n) here = elim (stands_push m n (up_to n) here) [ inl before ↦ let under = stands_up m n before in omega arith | inr last ↦ omega arith ]

pub up_absent : (n : ℕ) → stands_in n (up_to n) ≡ false
up_absent n = not_true _ (λ here. let under = stands_up n n here in omega arith)

pub up_below : (m n : ℕ) → m < n → stands_in m (up_to n) ≡ true
unfolding up_to
up_below m zero under = absurd (omega arith)
up_below m (suc n) under = elim (cases_eq m n) [
  | inl same ↦ stands_last m n (up_to n) same
  | inr other ↦ stands_before m n (up_to n) other ∙ up_below m n (omega arith)
]

pub up_once : (n : ℕ) → IsOnce (up_to n)
unfolding up_to
up_once zero = tt
up_once (suc n) = once_push n (up_to n) (up_once n) (up_absent n)

pub length-up : (n : ℕ) → length (up_to n) ≡ n
unfolding up_to
length-up zero = refl
length-up (suc n) = length-append (up_to n) (n ∷ []) ∙ ap (λ k. k + 1) (length-up n) ∙ omega arith

pub zeros : (n m : ℕ) → slice_index (replicate n 0) m ≡ 0
zeros zero m = refl
zeros (suc n) zero = refl
zeros (suc n) (suc m) = zeros n m

all_first : ℕ → Orders
all_first n = record { free = record { frames = n; order = up_to n }; outside = record { frames = n; order = [] }; ready = record { frames = n; order = [] }; waiting = record { frames = n; order = [] } }

frames_first : (n k : ℕ) → k < 4 → (order_at (all_first n) k).frames ≡ n
unfolding all_first
frames_first n zero small = refl
frames_first n (suc zero) small = refl
frames_first n (suc (suc zero)) small = refl
frames_first n (suc (suc (suc zero))) small = refl
frames_first n (suc (suc (suc (suc k)))) small = absurd (omega arith)

no_order : (n : ℕ) → IsOrder (record { frames = n; order = [] })
no_order n = record { once = tt; below = λ f here. absurd cc }

orders_first : (n k : ℕ) → IsOrder (order_at (all_first n) k)
unfolding all_first
orders_first n zero = record { once = up_once n; below = λ f here. stands_up f n here }
orders_first n (suc zero) = no_order n
orders_first n (suc (suc zero)) = no_order n
orders_first n (suc (suc (suc zero))) = no_order n
orders_first n (suc (suc (suc (suc k)))) = no_order 0

only_first : (n k m : ℕ) → stands_in m (order_at (all_first n) k).order ≡ true → 0 ≡ k
unfolding all_first
only_first n zero m here = refl
only_first n (suc zero) m here = absurd cc
only_first n (suc (suc zero)) m here = absurd cc
only_first n (suc (suc (suc zero))) m here = absurd cc
only_first n (suc (suc (suc (suc k)))) m here = absurd cc

-- all numbers in the first row
pub kept_first : (n : ℕ) → AreKept (record { free = record { frames = n; order = up_to n }; outside = record { frames = n; order = [] }; ready = record { frames = n; order = [] }; waiting = record { frames = n; order = [] } }) (replicate n 0)
unfolding all_first
kept_first n = record {
  frames = λ k small. frames_first n k small ∙ sym (length-replicate {A = ℕ} n 0);
  orders = orders_first n;
  listed = λ m below. let is = zeros n m in omega arith;
  here = λ m below.
      let long = length-replicate {A = ℕ} n 0 in
      ap (λ k. stands_in m (order_at (all_first n) k).order) (zeros n m) ∙ up_below m n (omega arith);
  only = λ k m here. zeros n m ∙ only_first n k m here;
  total = let long = length-up n in let as_many = length-replicate {A = ℕ} n 0 in omega arith;
}

pub kept_boot : (n : ℕ) (a b c d : Order) (stands : List ℕ)
    → a ≡ record { frames = n; order = up_to n } → b ≡ record { frames = n; order = [] } → c ≡ record { frames = n; order = [] } → d ≡ record { frames = n; order = [] }
    → stands ≡ replicate n 0 → AreKept (record { free = a; outside = b; ready = c; waiting = d }) stands
kept_boot n a b c d stands p q r s t =
    let is : record { free = a; outside = b; ready = c; waiting = d }
    ≡ record { free = record { frames = n; order = up_to n }; outside = record { frames = n; order = [] }; ready = record { frames = n; order = [] }; waiting = record { frames = n; order = [] } } = cc in
    subst (λ (o : Orders). AreKept o stands) (sym is) (subst (λ (ms : List ℕ). AreKept (record { free = record { frames = n; order = up_to n }; outside = record { frames = n; order = [] }; ready = record { frames = n; order = [] }; waiting = record { frames = n; order = [] } }) ms) (sym t) (kept_first n))

-- the orders after the two changes of a move
pub record IsMove (o last : Orders) (stands : List ℕ) (n k : ℕ) : Type 0 where
  pub kept : AreKept last (set stands n k)
  pub view : rows_view last (set stands n k) ≡ moved (rows_view o stands) n k
  pub rows : IsRows (rows_view last (set stands n k))

pub is_absent : (o mid : Orders) (stands : List ℕ) (n k at : ℕ) → AreKept o stands → n < length stands
    → at ≡ slice_index stands n → mid ≡ taken_from o at n → stands_in n (order_at mid k).order ≡ false
is_absent o mid stands n k at kept inside is out =
    ap (λ (x : Orders). stands_in n (order_at x k).order) (out ∙ ap (λ (i : ℕ). taken_from o i n) is) ∙ absent_at o stands n kept inside k

pub is_move : (o mid last : Orders) (stands : List ℕ) (n k at : ℕ) → AreKept o stands → n < length stands → k < 4
    → at ≡ slice_index stands n → mid ≡ taken_from o at n → last ≡ put_in mid k n → IsMove o last stands n k
is_move o mid last stands n k at kept inside small is out in_ =
    let last_is : last ≡ moved_in o stands k n = in_ ∙ ap (λ (x : Orders). put_in x k n) (out ∙ ap (λ (i : ℕ). taken_from o i n) is) in
    subst (λ (x : Orders). IsMove o x stands n k) (sym last_is) (record {
      kept = kept_moved o stands n kept inside k small;
      view = view_moved o stands n kept inside k small;
      rows = rows_kept (moved_in o stands k n) (set stands n k) (kept_moved o stands n kept inside k small);
    })

-- the number of the row in which a number stands
pub number_at : (rs : List Row) (n : ℕ) (k : Row) → k ≡ get_or rs n k → number k ≡ get_or (map number rs) n (number k)
number_at [] n k is = refl
number_at (r ∷ rs) zero k is = ap number is
number_at (r ∷ rs) (suc n) k is = number_at rs n k is

pub row_small : (k : Row) → number k < 4
row_small Free = omega arith
row_small Outside = omega arith
row_small Ready = omega arith
row_small Waiting = omega arith

-- it stands in that row
pub here_at : (o : Orders) (stands : List ℕ) (n k : ℕ) → AreKept o stands → n < length stands → k ≡ slice_index stands n → stands_in n (row (rows_view o stands) k) ≡ true
here_at o stands n k kept inside is =
    ap (λ (i : ℕ). stands_in n (row (rows_view o stands) i)) is ∙ ap (stands_in n) (row_is o stands (slice_index stands n)) ∙ kept.here n inside

-- where all are free
pub all_free : (n : ℕ) → map number (replicate n Free) ≡ replicate n 0
all_free zero = refl
all_free (suc n) = ap (λ (ks : List ℕ). 0 ∷ ks) (all_free n)

-- where no member stands, by the test
pub low_row : (k : Row) (b : Bool) → (IsTrue b ↔ (2 ≤ number k)) → b ≡ false → number k < 2
low_row Free b is not_so = omega arith
low_row Outside b is not_so = omega arith
low_row Ready b is not_so = absurd (cc (is.1 (omega arith), not_so))
low_row Waiting b is not_so = absurd (cc (is.1 (omega arith), not_so))

pub not_waiting : (k : Row) → (k ≡ Waiting → ⊥) → number k < 3
not_waiting Free other = omega arith
not_waiting Outside other = omega arith
not_waiting Ready other = omega arith
not_waiting Waiting other = absurd (other refl)
