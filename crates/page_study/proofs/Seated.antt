-- What the seats mean as a list, and what it is once a seat is taken or left.
use Rattle.std.proofs.Common.{◌≡◌, ℕ, zero, suc, ◌+◌, ◌-◌, ◌<◌, ◌≤◌, Bool, true, false, ◌||◌, List, [], ◌∷◌, length, replicate, take, get_or, set, refl, sym, ◌∙◌, ap, arith}
use Rattle.std.specs.List.{insert, remove}
use Rattle.machine_names.specs.declared.names.PageName.{PageName}
use Rattle.sum_tree.specs.Marks.{marks_below, one_if}
use Rattle.page_study.specs.Memories.{has, is_page}
use Rattle.page_study.specs.declared.seats.Seat.{Seat}
use Rattle.page_study.specs.Seats.{is_taken, no_use, page_of, pages_of, seat_at, uses}

-- ---- lists

module _ {X : Type 0} where
  pub put_back : (xs : List X) (d : ℕ) (y : X) → d < length xs → insert (remove xs d) d (get_or xs d y) ≡ xs
  put_back [] d y h = absurd (omega arith)
  put_back (x ∷ xs) zero y h = refl
  put_back (x ∷ xs) (suc d) y h = ap (λ l. x ∷ l) (put_back xs d y (omega arith))

  pub last_removed : (xs : List X) (d : ℕ) → suc d ≡ length xs → remove xs d ≡ take d xs
  last_removed [] d h = absurd (omega arith)
  last_removed (x ∷ []) zero h = refl
  last_removed (x ∷ y ∷ xs) zero h = absurd (omega arith)
  last_removed (x ∷ xs) (suc d) h = ap (λ l. x ∷ l) (last_removed xs d (omega arith))

  pub all_taken : (xs : List X) (n : ℕ) → length xs ≤ n → take n xs ≡ xs
  all_taken [] zero h = refl
  all_taken [] (suc n) h = refl
  all_taken (x ∷ xs) zero h = absurd (omega arith)
  all_taken (x ∷ xs) (suc n) h = ap (λ l. x ∷ l) (all_taken xs n (omega arith))

-- ---- marks

pub next_counted : (ts : List Bool) (q : ℕ) → marks_below ts (suc q) ≡ marks_below ts q + one_if (is_taken ts q)
next_counted [] q = refl
next_counted (t ∷ []) zero = omega arith
next_counted (t ∷ u ∷ ts) zero = omega arith
next_counted (t ∷ ts) (suc q) = omega (arith, next_counted ts q)

pub none_between : (ts : List Bool) (k m : ℕ) → ((p : ℕ) → k ≤ p → p < k + m → is_taken ts p ≡ false) → marks_below ts (k + m) ≡ marks_below ts k
none_between ts k zero free = let e : k + zero ≡ k = omega arith in ap (marks_below ts) e
none_between ts k (suc m) free =
    let e : k + suc m ≡ suc (k + m) = omega arith in
    let none : one_if (is_taken ts (k + m)) ≡ 0 = ap one_if (free (k + m) (omega arith) (omega arith)) in
    omega (arith, ap (marks_below ts) e, next_counted ts (k + m), none, none_between ts k m (λ p a b. free p a (omega arith)))

pub none_up_to : (ts : List Bool) (k n : ℕ) → k ≤ n → ((p : ℕ) → k ≤ p → p < n → is_taken ts p ≡ false) → marks_below ts n ≡ marks_below ts k
none_up_to ts k n h free =
    let e : k + (n - k) ≡ n = omega arith in
    sym (ap (marks_below ts) e) ∙ none_between ts k (n - k) (λ p a b. free p a (omega (arith, e)))

pub none_first : (ts : List Bool) → marks_below ts 0 ≡ 0
none_first [] = refl
none_first (t ∷ ts) = refl

pub below_kept : (ts : List Bool) (p k : ℕ) (b : Bool) → k ≤ p → marks_below (set ts p b) k ≡ marks_below ts k
below_kept [] p k b h = refl
below_kept (t ∷ ts) zero zero b h = refl
below_kept (t ∷ ts) zero (suc k) b h = absurd (omega arith)
below_kept (t ∷ ts) (suc p) zero b h = refl
below_kept (t ∷ ts) (suc p) (suc k) b h = ap (λ n. one_if t + n) (below_kept ts p k b (omega arith))

-- ---- seats

pub all_counted : (ts : List Bool) (ss : List Seat) → length ts ≡ length ss → length (uses ts ss) ≡ marks_below ts (length ts)
all_counted [] ss h = refl
all_counted (t ∷ ts) [] h = absurd (omega (arith, h))
all_counted (true ∷ ts) (s ∷ ss) h = omega (arith, all_counted ts ss (omega (arith, h)))
all_counted (false ∷ ts) (s ∷ ss) h = omega (arith, all_counted ts ss (omega (arith, h)))

pub seated_within : (ts : List Bool) (ss : List Seat) (q : ℕ) → length ts ≡ length ss → is_taken ts q ≡ true → marks_below ts q < length (uses ts ss)
seated_within [] ss q h taken = absurd (cc taken)
seated_within (t ∷ ts) [] q h taken = absurd (omega (arith, h))
seated_within (true ∷ ts) (s ∷ ss) zero h taken = omega arith
seated_within (false ∷ ts) (s ∷ ss) zero h taken = absurd (cc taken)
seated_within (true ∷ ts) (s ∷ ss) (suc q) h taken = omega (arith, seated_within ts ss q (omega (arith, h)) taken)
seated_within (false ∷ ts) (s ∷ ss) (suc q) h taken = omega (arith, seated_within ts ss q (omega (arith, h)) taken)

-- a seat's use stands in the list behind those of the seats before
pub seated_at : (ts : List Bool) (ss : List Seat) (q : ℕ) → length ts ≡ length ss → is_taken ts q ≡ true → get_or (uses ts ss) (marks_below ts q) no_use ≡ (seat_at ss q).last
seated_at [] ss q h taken = absurd (cc taken)
seated_at (t ∷ ts) [] q h taken = absurd (omega (arith, h))
seated_at (true ∷ ts) (s ∷ ss) zero h taken = refl
seated_at (false ∷ ts) (s ∷ ss) zero h taken = absurd (cc taken)
seated_at (true ∷ ts) (s ∷ ss) (suc q) h taken =
    let e : one_if true + marks_below ts q ≡ suc (marks_below ts q) = omega arith in
    ap (λ k. get_or (s.last ∷ uses ts ss) k no_use) e ∙ seated_at ts ss q (omega (arith, h)) taken
seated_at (false ∷ ts) (s ∷ ss) (suc q) h taken =
    let e : one_if false + marks_below ts q ≡ marks_below ts q = omega arith in
    ap (λ k. get_or (uses ts ss) k no_use) e ∙ seated_at ts ss q (omega (arith, h)) taken

-- a seat is left
pub seat_left : (ts : List Bool) (ss : List Seat) (q : ℕ) → length ts ≡ length ss → is_taken ts q ≡ true → uses (set ts q false) ss ≡ remove (uses ts ss) (marks_below ts q)
seat_left [] ss q h taken = absurd (cc taken)
seat_left (t ∷ ts) [] q h taken = absurd (omega (arith, h))
seat_left (true ∷ ts) (s ∷ ss) zero h taken = refl
seat_left (false ∷ ts) (s ∷ ss) zero h taken = absurd (cc taken)
seat_left (true ∷ ts) (s ∷ ss) (suc q) h taken =
    let e : one_if true + marks_below ts q ≡ suc (marks_below ts q) = omega arith in
    ap (λ l. s.last ∷ l) (seat_left ts ss q (omega (arith, h)) taken) ∙ sym (ap (remove (s.last ∷ uses ts ss)) e)
seat_left (false ∷ ts) (s ∷ ss) (suc q) h taken =
    let e : one_if false + marks_below ts q ≡ marks_below ts q = omega arith in
    seat_left ts ss q (omega (arith, h)) taken ∙ sym (ap (remove (uses ts ss)) e)

-- a free seat is taken
pub seat_taken : (ts : List Bool) (ss : List Seat) (q : ℕ) (x : Seat) → length ts ≡ length ss → q < length ss → is_taken ts q ≡ false
    → uses (set ts q true) (set ss q x) ≡ insert (uses ts ss) (marks_below ts q) x.last
seat_taken [] ss q x h inside free = absurd (omega (arith, h))
seat_taken (t ∷ ts) [] q x h inside free = absurd (omega (arith, h))
seat_taken (true ∷ ts) (s ∷ ss) zero x h inside free = absurd (cc free)
seat_taken (false ∷ ts) (s ∷ ss) zero x h inside free = refl
seat_taken (true ∷ ts) (s ∷ ss) (suc q) x h inside free =
    let e : one_if true + marks_below ts q ≡ suc (marks_below ts q) = omega arith in
    ap (λ l. s.last ∷ l) (seat_taken ts ss q x (omega (arith, h)) (omega arith) free) ∙ sym (ap (λ k. insert (s.last ∷ uses ts ss) k x.last) e)
seat_taken (false ∷ ts) (s ∷ ss) (suc q) x h inside free =
    let e : one_if false + marks_below ts q ≡ marks_below ts q = omega arith in
    seat_taken ts ss q x (omega (arith, h)) (omega arith) free ∙ sym (ap (λ k. insert (uses ts ss) k x.last) e)

-- a page that has no seat isn't in the list
pub nowhere : (n : PageName) (ts : List Bool) (ss : List Seat) → length ts ≡ length ss
    → ((p : ℕ) → p < length ss → is_taken ts p ≡ true → is_page n (page_of ss p) ≡ false) → has n (pages_of (uses ts ss)) ≡ false
nowhere n [] ss h none = refl
nowhere n (t ∷ ts) [] h none = refl
nowhere n (true ∷ ts) (s ∷ ss) h none =
    ap (λ b. b || has n (pages_of (uses ts ss))) (none 0 (omega arith) refl) ∙ nowhere n ts ss (omega (arith, h)) (λ p a b. none (suc p) (omega arith) b)
nowhere n (false ∷ ts) (s ∷ ss) h none = nowhere n ts ss (omega (arith, h)) (λ p a b. none (suc p) (omega arith) b)

pub none_used : (n : ℕ) (ss : List Seat) → uses (replicate n false) ss ≡ []
none_used zero ss = refl
none_used (suc n) [] = refl
none_used (suc n) (s ∷ ss) = none_used n ss
