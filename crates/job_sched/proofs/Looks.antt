-- Where a fork stands, and what is found of it.
use Rattle.std.proofs.Common.{◌≡◌, ◌≢◌, ℕ, ◌<◌, ◌≤◌, ◌==◌, inl, inr, List, [], ◌∷◌, ◌++◌, map, filter, Bool, true, false, not, cond, ◌||◌, ◌⊎◌, None, Some, slice_index, refl, sym, ◌∙◌, ap, subst, arith}
use Rattle.std.specs.List.{find, list_any}
use Rattle.std.proofs.lemmas.Bool.{cases_eq}
use Rattle.std.proofs.lemmas.List.{map-append}
use Rattle.frame_order.specs.FrameOrder.{Order, IsOnce, stands_in, without}
use Rattle.frame_order.proofs.Changes.{same_test, other_test}
use Rattle.frame_order.proofs.Orders.{stands_first, stands_behind, not_true}
use Rattle.machine_names.specs.declared.names.ForkName.{ForkName}
use Rattle.machine_names.specs.Orders.{same_fork}
use Rattle.machine_names.specs.Bounds.{IsForkName}
use Rattle.job_sched.specs.declared.member.Member.{Member}
use Rattle.job_sched.specs.declared.member.Waiter.{Waiter}
use Rattle.job_sched.specs.Rows.{Rows, row}
use Rattle.job_sched.specs.Schedules.{member_of, members, is_member, is_waiter}
use Rattle.job_sched.specs.Places.{spot, name_index, schedule_of, AreNamed, IsKept, IsThere}

pub same_self : (f : ForkName) → same_fork f f ≡ true
same_self f = grind arith

pub same_name : (f g : ForkName) → same_fork f g ≡ true → f ≡ g
same_name f g same = grind arith

bool_cases : (b : Bool) → (b ≡ true) ⊎ (b ≡ false)
bool_cases true = inl refl
bool_cases false = inr refl

-- a name has its own index
pub index_own : (f g : ForkName) → IsForkName f → IsForkName g → name_index f ≡ name_index g → f ≡ g
index_own f g fits also same =
    let low = fits.2 in
    let lower = also.2 in
    let tty : f.tty.0 ≡ g.tty.0 = omega arith in
    let serial : f.serial ≡ g.serial = omega arith in
    let name : ℕ → ℕ → ForkName = λ t n. record { tty = record { 0 = t }; serial = n } in
    ap (λ (t : ℕ). name t f.serial) tty ∙ ap (name g.tty.0) serial

-- of the places of forks, this one is the fork's
pub tells : (r : Rows) (spots : List Waiter) (places : List ℕ) (f : ForkName) (p : ℕ) → AreNamed r spots places → IsThere r spots f p
    → (k q : ℕ) → 1 ≤ k → stands_in q (row r k) ≡ true → same_fork f (spot spots q).fork ≡ (p == q)
tells r spots places f p names there k q some here = elim (cases_eq p q) [
  | inl same ↦
      ap (λ (i : ℕ). same_fork f (spot spots i).fork) (sym same) ∙ ap (same_fork f) there.fork ∙ same_self f ∙ sym (same_test p q same)
  | inr other ↦
      not_true _ (λ e.
      let fork : f ≡ (spot spots q).fork = same_name f (spot spots q).fork e in
      let mine = (names.placed there.row_at p there.some there.here).leads in
      let its = (names.placed k q some here).leads in
      let index : name_index (spot spots p).fork ≡ name_index (spot spots q).fork = ap name_index (there.fork ∙ fork) in
      other (sym mine ∙ ap (slice_index places) index ∙ its))
      ∙ sym (other_test p q other)
]

or_first : (a b : Bool) → (a || b) ≡ false → a ≡ false
or_first true b e = absurd cc
or_first false b e = refl

or_second : (a b : Bool) → (a || b) ≡ false → b ≡ false
or_second true b e = absurd cc
or_second false b e = e

or_rest : (a b : Bool) → (a || b) ≡ true → a ≡ false → b ≡ true
or_rest true b e none = absurd cc
or_rest false b e none = e

or_true : (a b : Bool) → b ≡ true → (a || b) ≡ true
or_true true b e = refl
or_true false b e = e

or_left_true : (a b : Bool) → a ≡ true → (a || b) ≡ true
or_left_true true b e = refl
or_left_true false b e = absurd cc

or_cases : (a b : Bool) → (a || b) ≡ true → (a ≡ true) ⊎ (b ≡ true)
or_cases true b e = inl refl
or_cases false b e = inr e

or_assoc : (a b c d : Bool) → d ≡ (b || c) → (a || d) ≡ ((a || b) || c)
or_assoc true b c d e = refl
or_assoc false b c d e = e

pub stands_append : (q : ℕ) (xs ys : List ℕ) → stands_in q (xs ++ ys) ≡ (stands_in q xs || stands_in q ys)
stands_append q [] ys = refl
stands_append q (x ∷ xs) ys = or_assoc (q == x) (stands_in q xs) (stands_in q ys) (stands_in q (xs ++ ys)) (stands_append q xs ys)

map_twice : (spots : List Waiter) (xs : List ℕ) → map member_of (map (spot spots) xs) ≡ map (λ q. member_of (spot spots q)) xs
map_twice spots [] = refl
map_twice spots (x ∷ xs) = ap (λ (ms : List Member). member_of (spot spots x) ∷ ms) (map_twice spots xs)

module _ {A : Type 0} (g : ℕ → A) (test : A → Bool) (p : ℕ) where
  -- all but one
  pub filter_others : (xs : List ℕ) → ((q : ℕ) → stands_in q xs ≡ true → test (g q) ≡ (p == q))
      → filter (λ a. not (test a)) (map g xs) ≡ map g (without p xs)
  filter_others [] tells = refl
  filter_others (x ∷ xs) tells =
      let rest = filter_others xs (λ q here. tells q (stands_behind q x xs here)) in
      let first = tells x (stands_first x xs) in
      ap (λ (b : Bool). cond (not b) (g x ∷ filter (λ a. not (test a)) (map g xs)) (filter (λ a. not (test a)) (map g xs))) first
      ∙ elim (bool_cases (p == x)) [
        | inl same ↦
            ap (λ (b : Bool). cond (not b) (g x ∷ filter (λ a. not (test a)) (map g xs)) (filter (λ a. not (test a)) (map g xs))) same
            ∙ rest ∙ sym (ap (λ (b : Bool). map g (cond (not b) (x ∷ without p xs) (without p xs))) same)
        | inr other ↦
            ap (λ (b : Bool). cond (not b) (g x ∷ filter (λ a. not (test a)) (map g xs)) (filter (λ a. not (test a)) (map g xs))) other
            ∙ ap (λ bs. g x ∷ bs) rest ∙ sym (ap (λ (b : Bool). map g (cond (not b) (x ∷ without p xs) (without p xs))) other)
      ]

  -- none of them
  pub filter_none : (xs : List ℕ) → ((q : ℕ) → stands_in q xs ≡ true → test (g q) ≡ (p == q)) → stands_in p xs ≡ false
      → filter test (map g xs) ≡ []
  filter_none [] tells absent = refl
  filter_none (x ∷ xs) tells absent =
      let first = tells x (stands_first x xs) in
      let other : (p == x) ≡ false = or_first (p == x) (stands_in p xs) absent in
      ap (λ (b : Bool). cond b (g x ∷ filter test (map g xs)) (filter test (map g xs))) (first ∙ other)
      ∙ filter_none xs (λ q here. tells q (stands_behind q x xs here)) (or_second (p == x) (stands_in p xs) absent)

  pub filter_own : (xs : List ℕ) → ((q : ℕ) → stands_in q xs ≡ true → test (g q) ≡ (p == q)) → IsOnce xs → stands_in p xs ≡ true
      → filter test (map g xs) ≡ g p ∷ []
  filter_own [] tells once here = absurd cc
  filter_own (x ∷ xs) tells once here =
      let first = tells x (stands_first x xs) in
      elim (cases_eq p x) [
        | inl same ↦
            ap (λ (b : Bool). cond b (g x ∷ filter test (map g xs)) (filter test (map g xs))) (first ∙ same_test p x same)
            ∙ ap (λ bs. g x ∷ bs) (filter_none xs (λ q there. tells q (stands_behind q x xs there)) (subst (λ (i : ℕ). stands_in i xs ≡ false) (sym same) once.0))
            ∙ ap (λ (i : ℕ). g i ∷ []) (sym same)
        | inr other ↦
            let apart : (p == x) ≡ false = other_test p x other in
            ap (λ (b : Bool). cond b (g x ∷ filter test (map g xs)) (filter test (map g xs))) (first ∙ apart)
            ∙ filter_own xs (λ q there. tells q (stands_behind q x xs there)) once.1 (or_rest (p == x) (stands_in p xs) here apart)
      ]

  pub find_own : (xs : List ℕ) → ((q : ℕ) → stands_in q xs ≡ true → test (g q) ≡ (p == q)) → stands_in p xs ≡ true
      → find test (map g xs) ≡ Some (g p)
  find_own [] tells here = absurd cc
  find_own (x ∷ xs) tells here =
      let first = tells x (stands_first x xs) in
      elim (cases_eq p x) [
        | inl same ↦
            ap (λ (b : Bool). cond b (Some (g x)) (find test (map g xs))) (first ∙ same_test p x same) ∙ ap (λ (i : ℕ). Some (g i)) (sym same)
        | inr other ↦
            let apart : (p == x) ≡ false = other_test p x other in
            ap (λ (b : Bool). cond b (Some (g x)) (find test (map g xs))) (first ∙ apart)
            ∙ find_own xs (λ q there. tells q (stands_behind q x xs there)) (or_rest (p == x) (stands_in p xs) here apart)
      ]

-- where no place passes a test
pub find_none : {A : Type 0} (g : ℕ → A) (test : A → Bool) (xs : List ℕ) → ((q : ℕ) → stands_in q xs ≡ true → test (g q) ≡ false) → find test (map g xs) ≡ None
find_none g test [] none = refl
find_none g test (x ∷ xs) none =
    ap (λ (b : Bool). cond b (Some (g x)) (find test (map g xs))) (none x (stands_first x xs)) ∙ find_none g test xs (λ q here. none q (stands_behind q x xs here))

pub filter_all : {A : Type 0} (g : ℕ → A) (test : A → Bool) (xs : List ℕ) → ((q : ℕ) → stands_in q xs ≡ true → test (g q) ≡ false)
    → filter (λ a. not (test a)) (map g xs) ≡ map g xs
filter_all g test [] none = refl
filter_all g test (x ∷ xs) none =
    ap (λ (b : Bool). cond (not b) (g x ∷ filter (λ a. not (test a)) (map g xs)) (filter (λ a. not (test a)) (map g xs))) (none x (stands_first x xs))
    ∙ ap (λ bs. g x ∷ bs) (filter_all g test xs (λ q here. none q (stands_behind q x xs here)))

pub filter_nothing : {A : Type 0} (g : ℕ → A) (test : A → Bool) (xs : List ℕ) → ((q : ℕ) → stands_in q xs ≡ true → test (g q) ≡ false)
    → filter test (map g xs) ≡ []
filter_nothing g test [] none = refl
filter_nothing g test (x ∷ xs) none =
    ap (λ (b : Bool). cond b (g x ∷ filter test (map g xs)) (filter test (map g xs))) (none x (stands_first x xs))
    ∙ filter_nothing g test xs (λ q here. none q (stands_behind q x xs here))

pub any_none : {A : Type 0} (g : ℕ → A) (test : A → Bool) (xs : List ℕ) → ((q : ℕ) → stands_in q xs ≡ true → test (g q) ≡ false) → list_any test (map g xs) ≡ false
any_none g test [] none = refl
any_none g test (x ∷ xs) none =
    ap (λ (b : Bool). b || list_any test (map g xs)) (none x (stands_first x xs)) ∙ any_none g test xs (λ q here. none q (stands_behind q x xs here))

pub any_some : {A : Type 0} (g : ℕ → A) (test : A → Bool) (p : ℕ) (xs : List ℕ) → stands_in p xs ≡ true → test (g p) ≡ true → list_any test (map g xs) ≡ true
any_some g test p [] here passes = absurd cc
any_some g test p (x ∷ xs) here passes = elim (cases_eq p x) [
  | inl same ↦ ap (λ (b : Bool). b || list_any test (map g xs)) (subst (λ (i : ℕ). test (g i) ≡ true) same passes)
  | inr other ↦
      or_true (test (g x)) (list_any test (map g xs)) (any_some g test p xs (or_rest (p == x) (stands_in p xs) here (other_test p x other)) passes)
]

-- the members by their places
pub members_at : (r : Rows) (spots : List Waiter) (spare : List ℕ) (used : ℕ)
    → members (schedule_of r spots spare used) ≡ map (λ q. member_of (spot spots q)) (row r 2 ++ row r 3)
members_at r spots spare used =
    ap (λ (ms : List Member). map (λ q. member_of (spot spots q)) (row r 2) ++ ms) (map_twice spots (row r 3))
    ∙ sym (map-append (λ q. member_of (spot spots q)) (row r 2) (row r 3))

-- it is in one of the two rows
pub in_rows : (q : ℕ) (xs ys : List ℕ) → stands_in q (xs ++ ys) ≡ true → (stands_in q xs ≡ true) ⊎ (stands_in q ys ≡ true)
in_rows q xs ys here = or_cases (stands_in q xs) (stands_in q ys) (sym (stands_append q xs ys) ∙ here)

module _ (r : Rows) (numbers : Order) (spots : List Waiter) (places seats : List ℕ) (used : ℕ) (kept : IsKept r numbers spots places seats used) (f : ForkName) where
  -- a member is found by its name
  pub member_found : (p k : ℕ) → IsThere r spots f p → stands_in p (row r 2 ++ row r 3) ≡ true
      → find (is_member f) (members (schedule_of r spots numbers.order used)) ≡ Some (member_of (spot spots p))
  member_found p k there here =
      ap (find (is_member f)) (members_at r spots numbers.order used)
      ∙ find_own (λ q. member_of (spot spots q)) (is_member f) p (row r 2 ++ row r 3)
      (λ q at. elim (in_rows q (row r 2) (row r 3) at) [
        | inl ready ↦ tells r spots places f p kept.names there 2 q (omega arith) ready
        | inr waiting ↦ tells r spots places f p kept.names there 3 q (omega arith) waiting
      ]) here

  pub no_member : ((k q : ℕ) → 2 ≤ k → stands_in q (row r k) ≡ true → same_fork f (spot spots q).fork ≡ false)
      → find (is_member f) (members (schedule_of r spots numbers.order used)) ≡ None
  no_member none =
      ap (find (is_member f)) (members_at r spots numbers.order used)
      ∙ find_none (λ q. member_of (spot spots q)) (is_member f) (row r 2 ++ row r 3)
      (λ q at. elim (in_rows q (row r 2) (row r 3) at) [
        | inl ready ↦ none 2 q (omega arith) ready
        | inr waiting ↦ none 3 q (omega arith) waiting
      ])

  pub waiter_found : (p : ℕ) → IsThere r spots f p → stands_in p (row r 3) ≡ true → find (is_waiter f) (map (spot spots) (row r 3)) ≡ Some (spot spots p)
  waiter_found p there here = find_own (spot spots) (is_waiter f) p (row r 3) (λ q at. tells r spots places f p kept.names there 3 q (omega arith) at) here

  -- none but the fork's own place tells of it
  pub none_but : (p j : ℕ) → IsThere r spots f p → 1 ≤ j → stands_in p (row r j) ≡ true → (k q : ℕ) → 1 ≤ k → k ≢ j → stands_in q (row r k) ≡ true → same_fork f (spot spots q).fork ≡ false
  none_but p j there some here k q also other at =
      tells r spots places f p kept.names there k q also at
      ∙ other_test p q (λ same. other (kept.names.rows.apart k j q at (subst (λ (i : ℕ). stands_in i (row r j) ≡ true) same here)))

pub in_members : (p k : ℕ) (r : Rows) → 2 ≤ k → k < 4 → stands_in p (row r k) ≡ true → stands_in p (row r 2 ++ row r 3) ≡ true
in_members p k r low high here = stands_append p (row r 2) (row r 3) ∙ elim (cases_eq k 2) [
  | inl two ↦ or_left_true (stands_in p (row r 2)) (stands_in p (row r 3)) (subst (λ (i : ℕ). stands_in p (row r i) ≡ true) two here)
  | inr more ↦
      let three : k ≡ 3 = omega arith in
      or_true (stands_in p (row r 2)) (stands_in p (row r 3)) (subst (λ (i : ℕ). stands_in p (row r i) ≡ true) three here)
]
