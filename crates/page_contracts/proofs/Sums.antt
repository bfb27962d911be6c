-- Sums over numbers, and how many members of a list pass.
use Rattle.std.proofs.Common.{◌≡◌, ◌⊎◌, inl, inr, ℕ, zero, suc, ◌+◌, List, [], ◌∷◌, Bool, true, false, cond, not, ◌==◌, refl, sym, ◌∙◌, ap, arith, ◌≤◌, get_or, Contains}
use Rattle.std.specs.Prelude.{◌||◌, ◌&&◌, ◌<◌, ◌-◌, ◌*◌, count_by, length, nat_lt}
use Rattle.std.specs.List.{list_any}
use Rattle.std.proofs.lemmas.Bool.Decides.{eqb_tells, leb_tells}
use Rattle.std.proofs.lemmas.Map.Views.{Contains-from_any}
use Rattle.std.proofs.lemmas.List.Sums.{sum_by-cons}
use Rattle.page_contracts.specs.Stores.{Transfer, arrival, arrives, departs, departure, home_of, is_arrival, moves, number_below}

-- the sum over the numbers below one
abbrev pub sum_to : ℕ → (ℕ → ℕ) → ℕ
sum_to zero f = 0
sum_to (suc n) f = f 0 + sum_to n (λ k. f (suc k))

abbrev pub one_if : Bool → ℕ
one_if b = cond b 1 0

pub number_sum : (n : ℕ) (test : ℕ → Bool) → number_below n test ≡ sum_to n (λ k. one_if (test k))
number_sum zero test = refl
number_sum (suc n) test = ap (λ m. cond (test 0) 1 0 + m) (number_sum n (λ k. test (suc k)))

pub sum_le : (n : ℕ) (f g : ℕ → ℕ) → ((k : ℕ) → k < n → f k ≤ g k) → sum_to n f ≤ sum_to n g
sum_le zero f g le = omega arith
sum_le (suc n) f g le = (let first = le 0 (omega arith) in let rest = sum_le n (λ k. f (suc k)) (λ k. g (suc k)) (λ k below. le (suc k) (omega (arith, below))) in omega (arith, first, rest))

pub sum_add : (n : ℕ) (f g : ℕ → ℕ) → sum_to n (λ k. f k + g k) ≡ sum_to n f + sum_to n g
sum_add zero f g = refl
sum_add (suc n) f g = (let rest = sum_add n (λ k. f (suc k)) (λ k. g (suc k)) in omega (arith, rest))

pub sum_none : (n : ℕ) (f : ℕ → ℕ) → ((k : ℕ) → k < n → f k ≡ 0) → sum_to n f ≡ 0
sum_none zero f none = refl
sum_none (suc n) f none = (let first = none 0 (omega arith) in let rest = sum_none n (λ k. f (suc k)) (λ k below. none (suc k) (omega (arith, below))) in omega (arith, first, rest))

pub sum_swap : (n m : ℕ) (f : ℕ → ℕ → ℕ) → sum_to n (λ i. sum_to m (λ j. f i j)) ≡ sum_to m (λ j. sum_to n (λ i. f i j))
sum_swap zero m f = sym (sum_none m (λ j. 0) (λ j below. refl))
sum_swap (suc n) m f = ap (λ r. sum_to m (λ j. f 0 j) + r) (sum_swap n m (λ i j. f (suc i) j)) ∙ sym (sum_add m (λ j. f 0 j) (λ j. sum_to n (λ i. f (suc i) j)))

-- of a sum with no term but one
pub sum_once : (n c : ℕ) (test : ℕ → Bool) → ((i j : ℕ) → test i ≡ true → test j ≡ true → i ≡ j) → sum_to n (λ k. cond (test k) c 0) ≤ c
sum_once zero c test once = omega arith
sum_once (suc n) c test once = by (test 0) refl (sum_once n c (λ k. test (suc k)) (λ i j p q. (let z = once (suc i) (suc j) p q in omega (arith, z))))
  where
    no_more : test 0 ≡ true → (k : ℕ) → (b : Bool) → test (suc k) ≡ b → cond b c 0 ≡ 0
    no_more first k true is = absurd (let z = once 0 (suc k) first is in omega (arith, z))
    no_more first k false is = refl

    by : (b : Bool) → test 0 ≡ b → sum_to n (λ k. cond (test (suc k)) c 0) ≤ c → cond (test 0) c 0 + sum_to n (λ k. cond (test (suc k)) c 0) ≤ c
    by true is few = (let rest = sum_none n (λ k. cond (test (suc k)) c 0) (λ k below. no_more is k (test (suc k)) refl) in let own : cond (test 0) c 0 ≡ c = ap (λ b. cond b c 0) is in omega (arith, rest, own))
    by false is few = (let own : cond (test 0) c 0 ≡ 0 = ap (λ b. cond b c 0) is in omega (arith, few, own))

-- one term of a sum
pub sum_has : (n : ℕ) (f : ℕ → ℕ) (k : ℕ) → k < n → f k ≤ sum_to n f
sum_has zero f k below = absurd (omega (arith, below))
sum_has (suc n) f zero below = omega arith
sum_has (suc n) f (suc k) below = (let rest = sum_has n (λ j. f (suc j)) k (omega (arith, below)) in omega (arith, rest))

-- of 128 for each number from one to another
pub sum_between : (n from to : ℕ) → sum_to n (λ k. cond (nat_lt (from + k) to) 128 0) ≤ 128 * (to - from)
sum_between zero from to = omega arith
sum_between (suc n) from to =
    let moved : sum_to n (λ k. cond (nat_lt (from + suc k) to) 128 0) ≡ sum_to n (λ k. cond (nat_lt (suc from + k) to) 128 0) = ap (sum_to n) (λ i k. cond (nat_lt (shift k i) to) 128 0) in
    first (nat_lt (from + 0) to) refl (sum_between n (suc from) to) moved
  where
    shift : (k : ℕ) → from + suc k ≡ suc from + k
    shift k = omega arith

    first : (b : Bool) → nat_lt (from + 0) to ≡ b → sum_to n (λ k. cond (nat_lt (suc from + k) to) 128 0) ≤ 128 * (to - suc from) → sum_to n (λ k. cond (nat_lt (from + suc k) to) 128 0) ≡ sum_to n (λ k. cond (nat_lt (suc from + k) to) 128 0)
        → cond (nat_lt (from + 0) to) 128 0 + sum_to n (λ k. cond (nat_lt (from + suc k) to) 128 0) ≤ 128 * (to - from)
    first true is rest moved =
        let own : ◌≡◌ {A = ℕ} (cond (nat_lt (from + 0) to) 128 0) 128 = ap (λ b. cond b 128 0) is in
        let less : from + 0 < to = elim (leb_tells (suc (from + 0)) to) [ inl t ↦ t.1 | inr t ↦ absurd (let z : true ≡ false = sym is ∙ t.0 in cc z) ] in
        omega (arith, own, less, rest, moved)
    first false is rest moved = (let own : ◌≡◌ {A = ℕ} (cond (nat_lt (from + 0) to) 128 0) 0 = ap (λ b. cond b 128 0) is in omega (arith, own, rest, moved))

pub count_cons : {X : Type 0} (p : X → Bool) (x : X) (xs : List X) → count_by p (x ∷ xs) ≡ one_if (p x) + count_by p xs
count_cons p x xs = sum_by-cons (λ y. cond (p y) 1 0) x xs

-- the members of a list that each pass at one number at most
pub sum_counts : {X : Type 0} (n : ℕ) (test : ℕ → X → Bool) → ((x : X) (i j : ℕ) → test i x ≡ true → test j x ≡ true → i ≡ j) → (xs : List X) → sum_to n (λ k. count_by (test k) xs) ≤ length xs
sum_counts n test once [] = (let none = sum_none n (λ k. count_by (test k) []) (λ k below. refl) in omega (arith, none))
sum_counts n test once (x ∷ xs) =
    let split : sum_to n (λ k. count_by (test k) (x ∷ xs)) ≡ sum_to n (λ k. one_if (test k x)) + sum_to n (λ k. count_by (test k) xs) =
    ap (sum_to n) (λ i k. count_cons (test k) x xs i) ∙ sum_add n (λ k. one_if (test k x)) (λ k. count_by (test k) xs) in
    omega (arith, split, sum_once n 1 (λ k. test k x) (once x), sum_counts n test once xs)

-- the members of a list by their places
pub count_places : {X : Type 0} (p : X → Bool) (d : X) (xs : List X) → count_by p xs ≡ sum_to (length xs) (λ k. one_if (p (get_or xs k d)))
count_places p d [] = refl
count_places p d (x ∷ xs) = count_cons p x xs ∙ ap (λ n. one_if (p x) + n) (count_places p d xs)

-- where one passes some do
pub any_count : {X : Type 0} (p : X → Bool) (xs : List X) → one_if (list_any p xs) ≤ count_by p xs
any_count p [] = omega arith
any_count p (x ∷ xs) = by (p x) refl (any_count p xs)
  where
    by : (b : Bool) → p x ≡ b → one_if (list_any p xs) ≤ count_by p xs → one_if (p x || list_any p xs) ≤ count_by p (x ∷ xs)
    by true is rest = (let own : one_if (p x || list_any p xs) ≡ 1 = ap (λ b. one_if (b || list_any p xs)) is in let one = ap one_if is in let e : one_if true ≡ 1 = refl in omega (arith, own, one, e, count_cons p x xs))
    by false is rest = (let own = ap (λ b. one_if (b || list_any p xs)) is in let e : one_if (false || list_any p xs) ≡ one_if (list_any p xs) = refl in omega (arith, own, e, rest, count_cons p x xs))

pub none_count : {X : Type 0} (p : X → Bool) (xs : List X) → list_any p xs ≡ false → count_by p xs ≡ 0
none_count p [] none = refl
none_count p (x ∷ xs) none = by (p x) refl none (none_count p xs)
  where
    by : (b : Bool) → p x ≡ b → (p x || list_any p xs) ≡ false → (list_any p xs ≡ false → count_by p xs ≡ 0) → count_by p (x ∷ xs) ≡ 0
    by true is e rest = absurd (let z : true ≡ false = sym (ap (λ b. b || list_any p xs) is) ∙ e in cc z)
    by false is e rest = (let none = rest (sym (ap (λ b. b || list_any p xs) is) ∙ e) in let own = ap one_if is in let z : one_if false ≡ 0 = refl in omega (arith, none, own, z, count_cons p x xs))

pub count_both : {X : Type 0} (p q : X → Bool) (xs : List X) → count_by (λ x. p x && q x) xs ≤ count_by q xs
count_both p q [] = omega arith
count_both p q (x ∷ xs) = (let own = one (p x) (q x) in omega (arith, own, count_both p q xs, count_cons (λ y. p y && q y) x xs, count_cons q x xs))
  where
    one : (b c : Bool) → one_if (b && c) ≤ one_if c
    one true c = omega arith
    one false c = omega arith

pub or_none : (b c : Bool) → (b || c) ≡ false → (b ≡ false) × (c ≡ false)
or_none true c h = absurd (cc h)
or_none false c h = (refl, h)

-- what a list has is found in it
pub found_in : (hs : List ℕ) (home : ℕ) → Contains hs home → list_any (λ h. h == home) hs ≡ true
found_in hs home there = at hs there.0 there.1 there.2
  where
    itself : (n : ℕ) → (n == n) ≡ true
    itself n = elim (eqb_tells n n) [ inl t ↦ t.0 | inr t ↦ absurd (t.1 refl) ]

    or_true : (b : Bool) → (b || true) ≡ true
    or_true true = refl
    or_true false = refl

    at : (xs : List ℕ) (k : ℕ) → k < length xs → get_or xs k home ≡ home → list_any (λ h. h == home) xs ≡ true
    at [] k below is = absurd (omega (arith, below))
    at (x ∷ xs) zero below is = ap (λ b. b || list_any (λ h. h == home) xs) (ap (λ y. y == home) is ∙ itself home)
    at (x ∷ xs) (suc k) below is = ap (λ b. (x == home) || b) (at xs k (omega (arith, below)) is) ∙ or_true (x == home)

-- and what is found in it it has
pub in_found : (hs : List ℕ) (home : ℕ) → list_any (λ h. h == home) hs ≡ true → Contains hs home
in_found hs home some = Contains-from_any {eq = λ (q x : ℕ). x == q} same home hs some
  where
    same : (q x : ℕ) → (x == q) ≡ true → q ≡ x
    same q x e = elim (eqb_tells x q) [ inl t ↦ sym t.1 | inr t ↦ absurd (let z : true ≡ false = sym e ∙ t.0 in cc z) ]

-- the transfers by the homes whose pages they move
pub count_moves : (n : ℕ) (these : Transfer → Bool) (ts : List Transfer) → ((home : ℕ) → list_any (moves home) ts ≡ true → home < n) → count_by these ts ≡ sum_to n (λ home. count_by (λ t. these t && moves home t) ts)
count_moves n these [] below = sym (sum_none n (λ home. count_by (λ t. these t && moves home t) []) (λ k small. refl))
count_moves n these (t ∷ ts) below =
    let split : sum_to n (λ home. count_by (λ u. these u && moves home u) (t ∷ ts)) ≡ sum_to n (λ home. one_if (these t && moves home t)) + sum_to n (λ home. count_by (λ u. these u && moves home u) ts) =
    ap (sum_to n) (λ i home. count_cons (λ u. these u && moves home u) t ts i) ∙ sum_add n (λ home. one_if (these t && moves home t)) (λ home. count_by (λ u. these u && moves home u) ts) in
    let rest = count_moves n these ts (λ home some. below home (or_so (moves home t) (list_any (moves home) ts) some)) in
    omega (arith, split, one (these t) refl, count_cons these t ts, rest)
  where
    itself : moves (home_of t) t ≡ true
    itself = elim (eqb_tells (home_of t) (home_of t)) [ inl k ↦ k.0 | inr k ↦ absurd (k.1 refl) ]

    or_so : (b c : Bool) → c ≡ true → (b || c) ≡ true
    or_so true c e = refl
    or_so false c e = e

    same : (h j : ℕ) → moves h t ≡ true → moves j t ≡ true → h ≡ j
    same h j p q = elim (eqb_tells h (home_of t)) [
      | inl a ↦ elim (eqb_tells j (home_of t)) [ inl b ↦ a.1 ∙ sym b.1 | inr b ↦ absurd (let z : true ≡ false = sym q ∙ b.0 in cc z) ]
      | inr a ↦ absurd (let z : true ≡ false = sym p ∙ a.0 in cc z)
    ]

    one : (b : Bool) → these t ≡ b → one_if (these t) ≡ sum_to n (λ home. one_if (these t && moves home t))
    one true is =
        let small : sum_to n (λ home. one_if (moves home t)) ≤ 1 = sum_once n 1 (λ home. moves home t) same in
        let has = sum_has n (λ home. one_if (moves home t)) (home_of t) (below (home_of t) (ap (λ b. b || list_any (moves (home_of t)) ts) itself)) in
        let own : one_if (moves (home_of t) t) ≡ 1 = ap one_if itself in
        let left : one_if (these t) ≡ 1 = ap one_if is in
        let right : sum_to n (λ home. one_if (these t && moves home t)) ≡ sum_to n (λ home. one_if (moves home t)) = ap (λ b. sum_to n (λ home. one_if (b && moves home t))) is in
        omega (arith, small, has, own, left, right)
    one false is =
        let left : one_if (these t) ≡ 0 = ap one_if is in
        left ∙ sym (sum_none n (λ home. one_if (these t && moves home t)) (λ home small. ap (λ b. one_if (b && moves home t)) is))

-- each transfer is one or the other
pub arrive_or_leave : (ts : List Transfer) → length ts ≡ count_by is_arrival ts + count_by (λ t. not (is_arrival t)) ts
arrive_or_leave [] = refl
arrive_or_leave (t ∷ ts) = (let own = one (is_arrival t) in let rest = arrive_or_leave ts in omega (arith, own, rest, count_cons is_arrival t ts, count_cons (λ u. not (is_arrival u)) t ts))
  where
    one : (b : Bool) → one_if b + one_if (not b) ≡ 1
    one true = refl
    one false = refl

pub moved_so : (home : ℕ) (ts : List Transfer) → list_any (moves home) ts ≡ true → (list_any (arrives home) ts ≡ true) ⊎ (list_any (departs home) ts ≡ true)
moved_so home [] e = absurd (cc e)
moved_so home (arrival other ∷ ts) e = by (home == other) refl (moved_so home ts)
  where
    by : (b : Bool) → (home == other) ≡ b → (list_any (moves home) ts ≡ true → (list_any (arrives home) ts ≡ true) ⊎ (list_any (departs home) ts ≡ true))
        → (((home == other) || list_any (arrives home) ts) ≡ true) ⊎ (list_any (departs home) ts ≡ true)
    by true is rest = inl (ap (λ b. b || list_any (arrives home) ts) is)
    by false is rest = elim (rest (sym (ap (λ b. b || list_any (moves home) ts) is) ∙ e)) [ inl a ↦ inl (ap (λ b. b || list_any (arrives home) ts) is ∙ a) | inr d ↦ inr d ]
moved_so home (departure other ∷ ts) e = by (home == other) refl (moved_so home ts)
  where
    by : (b : Bool) → (home == other) ≡ b → (list_any (moves home) ts ≡ true → (list_any (arrives home) ts ≡ true) ⊎ (list_any (departs home) ts ≡ true))
        → (list_any (arrives home) ts ≡ true) ⊎ (((home == other) || list_any (departs home) ts) ≡ true)
    by true is rest = inr (ap (λ b. b || list_any (departs home) ts) is)
    by false is rest = elim (rest (sym (ap (λ b. b || list_any (moves home) ts) is) ∙ e)) [ inl a ↦ inl a | inr d ↦ inr (ap (λ b. b || list_any (departs home) ts) is ∙ d) ]

pub leaves_so : (home : ℕ) (t : Transfer) → (not (is_arrival t) && moves home t) ≡ departs home t
leaves_so home (arrival other) = refl
leaves_so home (departure other) = refl
