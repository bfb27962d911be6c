-- Bytes of a file, one after another.
use Rattle.std.proofs.Common.{◌≡◌, ℕ, ◌+◌, ◌-◌, ◌*◌, ◌/◌, ◌%◌, ◌<◌, ◌≤◌, ◌⊎◌, inl, inr, ◌∙◌, ap, sym, arith}
use Rattle.std.proofs.Math.Nat.{le-div_iff_mul-le, mul-div-le, mul-le-mul_left, mod-lt}
use Rattle.std.proofs.lemmas.Nat.{div-mul-add, mod-mul-add, div-add-mod'}
use Rattle.std.proofs.lemmas.Bool.{cases_lt}
use Rattle.plain_files.specs.declared.bounds.TheConstants.{LARGEST_BYTE}
use Rattle.plain_files.specs.Bytes.{IsByteSize, IsNextPlace, bytes_per_word}

module _ (size at k q r : ℕ) (h : IsByteSize size) (fits : size * k ≤ LARGEST_BYTE) (is : at ≡ q * k + r) (below : r < k) where
  -- the quotient and the remainder of the next number
  inside : r + 1 < k → ((at + 1) / k ≡ q) × ((at + 1) % k ≡ r + 1)
  inside more =
      let next : at + 1 ≡ q * k + (r + 1) = omega (arith, is) in
      (ap (λ n. n / k) next ∙ div-mul-add q k (r + 1) more, ap (λ n. n % k) next ∙ mod-mul-add q k (r + 1) more)

  across : r + 1 ≡ k → ((at + 1) / k ≡ q + 1) × ((at + 1) % k ≡ 0)
  across last =
      let some : 0 < k = omega (arith, below) in
      let next : at + 1 ≡ (q + 1) * k + 0 = omega (arith, is, last) in
      (ap (λ n. n / k) next ∙ div-mul-add (q + 1) k 0 some, ap (λ n. n % k) next ∙ mod-mul-add (q + 1) k 0 some)

  to_the_right : r + 1 < k → LARGEST_BYTE - size * (1 + (r + 1)) + size ≡ LARGEST_BYTE - size * (1 + r)
  to_the_right more = omega (arith, fits, mul-le-mul_left {m = 2 + r} {n = k} size (omega arith))

  leftmost : LARGEST_BYTE - size * (1 + 0) + size ≡ LARGEST_BYTE
  leftmost = omega (arith, h.1)

pub next_place : (size at : ℕ) → IsByteSize size → IsNextPlace size at
next_place size at h = by (cases_lt (at % bytes_per_word size + 1) (bytes_per_word size))
  where
    fits : size * bytes_per_word size ≤ LARGEST_BYTE
    fits = mul-div-le LARGEST_BYTE size

    some : 0 < bytes_per_word size
    some = (le-div_iff_mul-le {x = 1} {y = LARGEST_BYTE} (omega (arith, h.0))).1 (omega (arith, h.1))

    below : at % bytes_per_word size < bytes_per_word size
    below = mod-lt at some

    is : at ≡ at / bytes_per_word size * bytes_per_word size + at % bytes_per_word size
    is = sym (div-add-mod' at (bytes_per_word size))

    by : (at % bytes_per_word size + 1 < bytes_per_word size) ⊎ (bytes_per_word size ≤ at % bytes_per_word size + 1) → IsNextPlace size at
    by (inl more) =
        let next = inside size at (bytes_per_word size) (at / bytes_per_word size) (at % bytes_per_word size) h fits is below more in
        inl (next.0, ap (λ m. LARGEST_BYTE - size * (1 + m) + size) next.1 ∙ to_the_right size at (bytes_per_word size) (at / bytes_per_word size) (at % bytes_per_word size) h fits is below more)
    by (inr last) =
        let next = across size at (bytes_per_word size) (at / bytes_per_word size) (at % bytes_per_word size) h fits is below (omega (arith, last, below)) in
        inr (next.0, ap (λ m. LARGEST_BYTE - size * (1 + m) + size) next.1 ∙ leftmost size at (bytes_per_word size) (at / bytes_per_word size) (at % bytes_per_word size) h fits is below)
