-- How many bytes a file has of another size.
use Rattle.std.proofs.Common.{ℕ, ◌+◌, ◌-◌, ◌*◌, ◌/◌, ◌<◌, ◌≤◌, arith}
use Rattle.std.proofs.Math.Nat.{div-lt_iff_lt-mul, le-div_iff_mul-le, mul-le-mul_left}
use Rattle.plain_files.specs.declared.bounds.TheConstants.{LARGEST_BYTE}
use Rattle.plain_files.specs.Bytes.{IsByteSize, bytes_per_word, most_bytes}
use Rattle.machine_names.specs.declared.names.TheConstants.{FILE_PAGES}
use Rattle.outside.specs.declared.TheConstants.{PAGE_WORDS}

-- a word holds one at least
pub some_per_word : (size : ℕ) → IsByteSize size → 0 < bytes_per_word size
some_per_word size h = (let one : 1 ≤ LARGEST_BYTE / size = (le-div_iff_mul-le {x = 1} {y = LARGEST_BYTE} (omega (arith, h.0))).1 (omega (arith, h.1)) in omega (arith, one))

-- as many words are touched at most as a file has
touched : (words k n : ℕ) → 0 < k → n ≤ words * k → (n + k - 1) / k ≤ words
touched words k n some few =
    let less : (n + k - 1) / k < words + 1 = (div-lt_iff_lt-mul {k = k} {x = n + k - 1} {y = words + 1} some).1 (grind (arith, some, few)) in
    omega (arith, less)

pub fits_room : (size own length : ℕ) → IsByteSize own → length ≤ most_bytes own → (length + bytes_per_word own - 1) / bytes_per_word own * bytes_per_word size ≤ most_bytes size
fits_room size own length h few =
    let words = touched (FILE_PAGES * PAGE_WORDS) (bytes_per_word own) length (some_per_word own h) few in
    let more = mul-le-mul_left (bytes_per_word size) words in
    grind (arith, more)
