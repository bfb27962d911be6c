-- Numbers by their bits, counted from the right: std's bit_at n i is n / 2 ^ i % 2.
use Rattle.std.specs.Prelude.{ℕ, zero, suc, ◌+◌, ◌*◌, ◌^◌}

-- the number whose n lowest bits are given: the sum of the bits, each times its power of 2
unfoldable pub from_bits : ℕ → (ℕ → ℕ) → ℕ
from_bits zero b = 0
from_bits (suc n) b = from_bits n b + b n * 2 ^ n
