-- Increments one after another.
use Rattle.std.proofs.Common.{◌≡◌, ◌∙◌, ℕ, zero, suc, ◌+◌, ◌-◌, ◌*◌, ◌/◌, ◌%◌, ◌<◌, ◌≤◌, true, false, sym, ap, arith}
use Rattle.std.specs.Prelude.{nat_le}
use Rattle.std.proofs.lemmas.Bool.Decides.{nat_tests}
use Rattle.std.proofs.lemmas.Nat.{le-div, mod_below, div-add-mod'}
use Rattle.word36.specs.Bytes.{position, size, byte_at, loaded, with_position, in_next_word, incremented, increments, IsBytePlace}

position_is : (p x : ℕ) → position (with_position p x) ≡ x
position_is p x = omega arith

size_is : (p x : ℕ) → size (with_position p x) ≡ size p
size_is p x = omega arith

placed_twice : (p x y : ℕ) → with_position (with_position p x) y ≡ with_position p y
placed_twice p x y = omega arith

placed_again : (p : ℕ) → with_position p (position p) ≡ p
placed_again p = omega arith

next_placed : (p x y : ℕ) → with_position (in_next_word (with_position p x)) y ≡ with_position (in_next_word p) y
next_placed p x y = omega arith

next_size : (p : ℕ) → size (in_next_word p) ≡ size p
next_size p = omega arith

is_le : (a b : ℕ) → a ≤ b → nat_le a b ≡ true
is_le a b h = grind (arith, nat_tests)

is_gt : (a b : ℕ) → b < a → nat_le a b ≡ false
is_gt a b h = grind (arith, nat_tests)

-- to the right in the same word
right : (p x : ℕ) → size p ≤ x → incremented (with_position p x) ≡ with_position p (x - size p)
unfolding incremented
right p x h = rw (position_is p x, size_is p x, is_le (size p) x h) (placed_twice p x (x - size p))

-- over to the next word
over : (p x : ℕ) → x < size p → size p ≤ 36 → incremented (with_position p x) ≡ with_position (in_next_word p) (36 - size p)
unfolding incremented
over p x h few =
    let turned : (100 - size p) % 64 ≡ 36 - size p = omega arith in
    rw (position_is p x, size_is p x, is_gt (size p) x h) (next_placed p x ((100 - size p) % 64) ∙ ap (with_position (in_next_word p)) turned)

rights : (n p x : ℕ) → n * size p ≤ x → increments n (with_position p x) ≡ with_position p (x - n * size p)
unfolding increments
rights zero p x h = ap (with_position p) (omega arith)
rights (suc n) p x h =
    let before : increments n (with_position p x) ≡ with_position p (x - n * size p) = rights n p x (omega arith) in
    ap incremented before ∙ (right p (x - n * size p) (omega arith) ∙ ap (with_position p) (omega arith))

in_turn : (m n p : ℕ) → increments (m + n) p ≡ increments m (increments n p)
unfolding increments
in_turn zero n p = ap (λ k. increments k p) (omega arith)
in_turn (suc m) n p =
    let more : suc m + n ≡ suc (m + n) = omega arith in
    ap (λ k. increments k p) more ∙ ap incremented (in_turn m n p)

-- m bytes to the right of this one, and so many in the next word that the place is the same
round : (p m q : ℕ) → size p ≤ 36 → suc q * size p + position p ≡ 36 → (m + suc q) * size p ≤ 36 → 36 < (m + suc q) * size p + size p → increments (q + suc m) p ≡ in_next_word p
unfolding increments
round p m q few place some full =
    let to_last : increments m (with_position p (position p)) ≡ with_position p (position p - m * size p) = rights m p (position p) (omega arith) in
    let last : increments m p ≡ with_position p (position p - m * size p) = ap (increments m) (sym (placed_again p)) ∙ to_last in
    let next : increments (suc m) p ≡ with_position (in_next_word p) (36 - size p) = ap incremented last ∙ over p (position p - m * size p) (omega arith) few in
    let same : size (in_next_word p) ≡ size p = next_size p in
    let fits : q * size (in_next_word p) ≤ 36 - size p = rw same (omega arith) in
    let back : 36 - size p - q * size (in_next_word p) ≡ position (in_next_word p) = rw same (omega arith) in
    in_turn q (suc m) p ∙ (ap (increments q) next ∙ (rights q (in_next_word p) (36 - size p) fits ∙ (ap (with_position (in_next_word p)) back ∙ placed_again (in_next_word p))))

-- n bytes in a word, this one the q-th
counted : (p n q : ℕ) → 0 < size p → size p ≤ 36 → size p + position p ≤ 36 → q * size p + position p ≡ 36 → n * size p ≤ 36 → 36 < n * size p + size p → q ≤ n → increments n p ≡ in_next_word p
counted p n zero some few inside place most full within = absurd (omega arith)
counted p n (suc q) some few inside place most full within =
    let whole : n - suc q + suc q ≡ n = omega arith in
    let turned : q + suc (n - suc q) ≡ n = omega arith in
    sym (ap (λ k. increments k p) turned) ∙ round p (n - suc q) q few place (rw whole most) (rw whole full)

pub comes : (p : ℕ) → IsBytePlace p → increments (36 / size p) p ≡ in_next_word p
comes p h =
    let some : 0 < size p = h.some_bits in
    let inside : position p + size p ≤ 36 = h.inside in
    let none : (36 - position p) % size p ≡ 0 = h.from_left in
    let places : (36 - position p) / size p * size p + (36 - position p) % size p ≡ 36 - position p = div-add-mod' (36 - position p) (size p) in
    let bytes : 36 / size p * size p + 36 % size p ≡ 36 = div-add-mod' 36 (size p) in
    let rest : 36 % size p < size p = mod_below 36 (size p) some in
    counted p (36 / size p) ((36 - position p) / size p) some (omega arith) (omega arith) (omega arith) (omega arith) (omega arith)
    (le-div ((36 - position p) / size p) 36 (size p) some (omega arith))

-- so many bytes behind the start of a word
pub in_order : (p w k : ℕ) → position p ≡ 36 → (k + 1) * size p ≤ 36 → loaded (increments (k + 1) p) w ≡ byte_at (36 - (k + 1) * size p) (size p) w
unfolding loaded
in_order p w k before inside =
    let at : increments (k + 1) p ≡ with_position p (position p - (k + 1) * size p) = ap (increments (k + 1)) (sym (placed_again p)) ∙ rights (k + 1) p (position p) (omega (arith, before)) in
    ap (λ q. byte_at (position q) (size q) w) at
    ∙ ap (λ x. byte_at x (size (with_position p (position p - (k + 1) * size p))) w) (position_is p (position p - (k + 1) * size p) ∙ ap (λ x. x - (k + 1) * size p) before)
    ∙ ap (λ x. byte_at (36 - (k + 1) * size p) x w) (size_is p (position p - (k + 1) * size p))
