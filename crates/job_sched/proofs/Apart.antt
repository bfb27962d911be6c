-- Each fork stands in one place, so there is room for all.
use Rattle.std.proofs.Common.{◌≡◌, ℕ, suc, ◌<◌, ◌≤◌, ◌⊎◌, inl, inr, List, [], ◌∷◌, ◌++◌, length, map, Bool, true, false, ◌||◌, refl, sym, ◌∙◌, ap, subst, arith, length-append, slice_index}
use Rattle.std.specs.List.{list_any}
use Rattle.std.proofs.lemmas.List.{map-append}
use Rattle.frame_order.specs.FrameOrder.{IsOnce, stands_in}
use Rattle.frame_order.proofs.Orders.{not_true, order_fits, stands_first, stands_behind, first_or_behind}
use Rattle.machine_names.specs.declared.names.ForkName.{ForkName}
use Rattle.machine_names.specs.Orders.{same_fork}
use Rattle.job_sched.specs.declared.member.Member.{Member}
use Rattle.job_sched.specs.declared.member.Waiter.{Waiter}
use Rattle.job_sched.specs.Rows.{Rows, row}
use Rattle.job_sched.specs.Schedules.{Schedule, count, member_of, is_member, is_waiter, is_ready, is_outside, is_waiting, stands}
use Rattle.job_sched.specs.Places.{spot, name_index, schedule_of, AreNamed, IsPlaced}
use Rattle.job_sched.specs.Ties.{AreApart, AreListed, AreOnce, forks_of, with_fork, with_outside}
use Rattle.job_sched.proofs.Turns.{is_among, any_append, same_sym}
use Rattle.job_sched.proofs.Looks.{same_self, same_name, stands_append}
use Rattle.job_sched.proofs.Leaving.{once_both}

-- places that are there once, each with a name of its own, have names that are there once
among_names : (h : ℕ → ForkName) (f : ForkName) (xs : List ℕ) → ((q : ℕ) → stands_in q xs ≡ true → same_fork f (h q) ≡ false) → is_among f (map h xs) ≡ false
among_names h f [] none = refl
among_names h f (x ∷ xs) none =
    ap (λ (b : Bool). b || is_among f (map h xs)) (none x (stands_first x xs)) ∙ among_names h f xs (λ q here. none q (stands_behind q x xs here))

pub once_names : (h : ℕ → ForkName) (xs : List ℕ) → IsOnce xs
    → ((p q : ℕ) → stands_in p xs ≡ true → stands_in q xs ≡ true → same_fork (h p) (h q) ≡ true → p ≡ q) → AreOnce (map h xs)
once_names h [] once own = tt
once_names h (x ∷ xs) once own = (
  among_names h (h x) xs (λ q here. not_true _ (λ same.
      let it : x ≡ q = own x q (stands_first x xs) (stands_behind q x xs here) same in
      let no : stands_in x xs ≡ true = subst (λ (i : ℕ). stands_in i xs ≡ true) (sym it) here in
      absurd (cc (no, once.0)))),
  once_names h xs once.1 (λ p q here there same. own p q (stands_behind p x xs here) (stands_behind q x xs there) same),
)

or_cases : (a b : Bool) → (a || b) ≡ true → (a ≡ true) ⊎ (b ≡ true)
or_cases true b e = inl refl
or_cases false b e = inr e

in_three : (q : ℕ) (xs ys zs : List ℕ) → stands_in q (xs ++ (ys ++ zs)) ≡ true → (stands_in q xs ≡ true) ⊎ ((stands_in q ys ≡ true) ⊎ (stands_in q zs ≡ true))
in_three q xs ys zs here = elim (or_cases (stands_in q xs) (stands_in q (ys ++ zs)) (sym (stands_append q xs (ys ++ zs)) ∙ here)) [
  | inl first ↦ inl first
  | inr rest ↦ inr (or_cases (stands_in q ys) (stands_in q zs) (sym (stands_append q ys zs) ∙ rest))
]

map_members : (spots : List Waiter) (xs : List ℕ) → map (λ m. m.fork) (map (λ q. member_of (spot spots q)) xs) ≡ map (λ q. (spot spots q).fork) xs
map_members spots [] = refl
map_members spots (x ∷ xs) = ap (λ (fs : List ForkName). (spot spots x).fork ∷ fs) (map_members spots xs)

map_waiters : (spots : List Waiter) (xs : List ℕ) → map (λ w. w.fork) (map (spot spots) xs) ≡ map (λ q. (spot spots q).fork) xs
map_waiters spots [] = refl
map_waiters spots (x ∷ xs) = ap (λ (fs : List ForkName). (spot spots x).fork ∷ fs) (map_waiters spots xs)

module _ (r : Rows) (spots : List Waiter) (places : List ℕ) (names : AreNamed r spots places) where
  placed : (q : ℕ) → stands_in q (row r 1 ++ (row r 2 ++ row r 3)) ≡ true → IsPlaced spots places q
  placed q here = elim (in_three q (row r 1) (row r 2) (row r 3) here) [
    | inl outside ↦ names.placed 1 q (omega arith) outside
    | inr other ↦ elim other [
      | inl ready ↦ names.placed 2 q (omega arith) ready
      | inr waiting ↦ names.placed 3 q (omega arith) waiting
    ]
  ]

  own_name : (p q : ℕ) → stands_in p (row r 1 ++ (row r 2 ++ row r 3)) ≡ true → stands_in q (row r 1 ++ (row r 2 ++ row r 3)) ≡ true
      → same_fork (spot spots p).fork (spot spots q).fork ≡ true → p ≡ q
  own_name p q here there same =
      let it : (spot spots p).fork ≡ (spot spots q).fork = same_name (spot spots p).fork (spot spots q).fork same in
      sym (placed p here).leads ∙ ap (λ (f : ForkName). slice_index places (name_index f)) it ∙ (placed q there).leads

  once_rows : IsOnce (row r 1 ++ (row r 2 ++ row r 3))
  once_rows =
      let rs = names.rows in
      once_both (row r 1) (row r 2 ++ row r 3) (rs.once 1)
      (once_both (row r 2) (row r 3) (rs.once 2) (rs.once 3) (λ q a b. let no = rs.apart 2 3 q a b in absurd (omega arith)))
      (λ q a b. elim (or_cases (stands_in q (row r 2)) (stands_in q (row r 3)) (sym (stands_append q (row r 2) (row r 3)) ∙ b)) [
        | inl ready ↦ let no = rs.apart 1 2 q a ready in absurd (omega arith)
        | inr waiting ↦ let no = rs.apart 1 3 q a waiting in absurd (omega arith)
      ])

  forks_at : (spare : List ℕ) (used : ℕ) → forks_of (schedule_of r spots spare used) ≡ map (λ q. (spot spots q).fork) (row r 1 ++ (row r 2 ++ row r 3))
  forks_at spare used =
      let h = λ (q : ℕ). (spot spots q).fork in
      ap (λ (fs : List ForkName). map h (row r 1) ++ (fs ++ map (λ w. w.fork) (map (spot spots) (row r 3)))) (map_members spots (row r 2))
      ∙ ap (λ (fs : List ForkName). map h (row r 1) ++ (map h (row r 2) ++ fs)) (map_waiters spots (row r 3))
      ∙ ap (λ (fs : List ForkName). map h (row r 1) ++ fs) (sym (map-append h (row r 2) (row r 3)))
      ∙ sym (map-append h (row r 1) (row r 2 ++ row r 3))

  pub apart_kept : (spare : List ℕ) (used : ℕ) → AreApart (schedule_of r spots spare used)
  apart_kept spare used = subst AreOnce (sym (forks_at spare used)) (once_names (λ q. (spot spots q).fork) (row r 1 ++ (row r 2 ++ row r 3)) once_rows own_name)

among_first : (f : ForkName) (fs : List ForkName) → is_among f (f ∷ fs) ≡ true
among_first f fs = ap (λ (b : Bool). b || is_among f fs) (same_self f)

or_right : (a b : Bool) → b ≡ true → (a || b) ≡ true
or_right true b e = refl
or_right false b e = e

among_behind : (g f : ForkName) (fs : List ForkName) → is_among g fs ≡ true → is_among g (f ∷ fs) ≡ true
among_behind g f fs here = or_right (same_fork g f) (is_among g fs) here

or_three : (a b c : Bool) → (a || (b || c)) ≡ ((a || b) || c)
or_three true b c = refl
or_three false b c = refl

length_names : (number : ForkName → ℕ) (fs : List ForkName) → length (map number fs) ≡ length fs
length_names number [] = refl
length_names number (f ∷ fs) = ap suc (length_names number fs)

length_members : (ms : List Member) → length (map (λ m. m.fork) ms) ≡ length ms
length_members [] = refl
length_members (m ∷ ms) = ap suc (length_members ms)

length_waiters : (ws : List Waiter) → length (map (λ w. w.fork) ws) ≡ length ws
length_waiters [] = refl
length_waiters (w ∷ ws) = ap suc (length_waiters ws)

any_members : (g : ForkName) (ms : List Member) → is_among g (map (λ m. m.fork) ms) ≡ list_any (is_member g) ms
any_members g [] = refl
any_members g (m ∷ ms) = ap (λ (b : Bool). same_fork g m.fork || b) (any_members g ms)

any_waiters : (g : ForkName) (ws : List Waiter) → is_among g (map (λ w. w.fork) ws) ≡ list_any (is_waiter g) ws
any_waiters g [] = refl
any_waiters g (w ∷ ws) = ap (λ (b : Bool). same_fork g w.fork || b) (any_waiters g ws)

-- a number of some names is that of one of them
number_of : (number : ForkName → ℕ) (k : ℕ) (fs : List ForkName) → stands_in k (map number fs) ≡ true → (f : ForkName) × ((is_among f fs ≡ true) × (number f ≡ k))
number_of number k [] here = absurd cc
number_of number k (f ∷ fs) here = elim (first_or_behind k (number f) (map number fs) here) [
  | inl same ↦ (f, (among_first f fs, sym same))
  | inr behind ↦ let at = number_of number k fs behind in (at.0, (among_behind at.0 f fs at.1.0, at.1.1))
]

-- numbers of names
numbers_once : (number : ForkName → ℕ) (fs : List ForkName) → AreOnce fs
    → ((f g : ForkName) → is_among f fs ≡ true → is_among g fs ≡ true → number f ≡ number g → f ≡ g) → IsOnce (map number fs)
numbers_once number [] once own = tt
numbers_once number (f ∷ fs) once own = (
  not_true _ (λ here.
      let at = number_of number (number f) fs here in
      let it : f ≡ at.0 = own f at.0 (among_first f fs) (among_behind at.0 f fs at.1.0) (sym at.1.1) in
      let no : is_among f fs ≡ true = subst (λ (k : ForkName). is_among k fs ≡ true) (sym it) at.1.0 in
      absurd (cc (no, once.0))),
  numbers_once number fs once.1 (λ g h here there same. own g h (among_behind g f fs here) (among_behind h f fs there) same),
)

pub few_names : (number : ForkName → ℕ) (n : ℕ) (fs : List ForkName) → AreOnce fs → ((f : ForkName) → is_among f fs ≡ true → number f < n)
    → ((f g : ForkName) → is_among f fs ≡ true → is_among g fs ≡ true → number f ≡ number g → f ≡ g) → length fs ≤ n
few_names number n fs once below own =
    let fits = order_fits (record { frames = n; order = map number fs }) (record { once = numbers_once number fs once own; below = λ k here. let at = number_of number k fs here in let under = below at.0 at.1.0 in let is = at.1.1 in omega arith }) in
    let long = length_names number fs in
    omega arith

by_names : (g : ForkName) (s : Schedule) → is_among g (forks_of s) ≡ stands g s
by_names g s =
    any_append g s.outside (map (λ m. m.fork) s.ready ++ map (λ w. w.fork) s.waiting)
    ∙ ap (λ (b : Bool). is_outside g s || b) (any_append g (map (λ m. m.fork) s.ready) (map (λ w. w.fork) s.waiting))
    ∙ ap (λ (b : Bool). is_outside g s || (b || is_among g (map (λ w. w.fork) s.waiting))) (any_members g s.ready)
    ∙ ap (λ (b : Bool). is_outside g s || (is_ready g s || b)) (any_waiters g s.waiting)
    ∙ or_three (is_outside g s) (is_ready g s) (is_waiting g s)

pub one_more : (number : ForkName → ℕ) (n : ℕ) (s : Schedule) (f : ForkName) → AreApart s
    → ((g : ForkName) → stands g (with_outside s f) ≡ true → number g < n)
    → ((g h : ForkName) → stands g (with_outside s f) ≡ true → stands h (with_outside s f) ≡ true → number g ≡ number h → g ≡ h)
    → stands f s ≡ false → count s < n
one_more number n s f apart below own away =
    let all = few_names number n (forks_of (with_outside s f)) (by_names f s ∙ away, apart)
    (λ g here. below g (sym (by_names g (with_outside s f)) ∙ here))
    (λ g h here there same. own g h (sym (by_names g (with_outside s f)) ∙ here) (sym (by_names h (with_outside s f)) ∙ there) same) in
    let long = length-append s.outside (map (λ m. m.fork) s.ready ++ map (λ w. w.fork) s.waiting) in
    let rest = length-append (map (λ m. m.fork) s.ready) (map (λ w. w.fork) s.waiting) in
    let ready = length_members s.ready in
    let waiting = length_waiters s.waiting in
    let more : length (forks_of (with_outside s f)) ≡ suc (length (forks_of s)) = refl in
    omega arith

or_out : (a o r w : Bool) → (((a || o) || r) || w) ≡ (((o || r) || w) || a)
or_out true true r w = refl
or_out true false true w = refl
or_out true false false true = refl
or_out true false false false = refl
or_out false true r w = refl
or_out false false true w = refl
or_out false false false true = refl
or_out false false false false = refl

-- who stands with one more outside
outside_stands : (g f : ForkName) (s : Schedule) → stands g (with_outside s f) ≡ (stands g s || same_fork f g)
outside_stands g f s =
    or_out (same_fork g f) (is_outside g s) (is_ready g s) (is_waiting g s) ∙ ap (λ (b : Bool). stands g s || b) (same_sym g f)

pub one_listed : (runs : ForkName → Bool) (number : ForkName → ℕ) (n : ℕ) (s : Schedule) (f : ForkName) → AreListed runs s → AreApart s
    → ((g : ForkName) → with_fork runs f g ≡ true → number g < n)
    → ((g h : ForkName) → with_fork runs f g ≡ true → with_fork runs f h ≡ true → number g ≡ number h → g ≡ h)
    → runs f ≡ false → count s < n
one_listed runs number n s f listed apart below own away =
    let who : (g : ForkName) → with_fork runs f g ≡ stands g (with_outside s f) =
    λ g. ap (λ (b : Bool). b || same_fork f g) (sym (listed.each g)) ∙ sym (outside_stands g f s) in
    one_more number n s f apart (λ g here. below g (who g ∙ here)) (λ g h here there same. own g h (who g ∙ here) (who h ∙ there) same) (listed.each f ∙ away)
