-- Bytes of a size: how far a file may have them, and where they stand.
use Rattle.std.proofs.Common.{◌≡◌, ℕ, suc, ◌+◌, ◌-◌, ◌*◌, ◌/◌, ◌<◌, ◌≤◌, Bool, true, false, cond, refl, sym, subst, arith}
use Rattle.std.specs.Prelude.{nat_le, ◌==◌}
use Rattle.std.proofs.lemmas.Bool.{eqb-true}
use Rattle.std.proofs.lemmas.Bool.Decides.{nat_tests}
use Rattle.std.proofs.Math.Nat.{div-lt_iff_lt-mul, le-div_iff_mul-le, mod-lt, mul-le-mul_right}
use Rattle.outside.specs.declared.TheConstants.{PAGE_WORDS}
use Rattle.machine_names.specs.declared.names.TheConstants.{FILE_PAGES}
use Rattle.plain_files.specs.declared.bounds.TheConstants.{LARGEST_BYTE}
use Rattle.plain_files.specs.Bytes.{IsByteSize, bytes_per_word, most_bytes, offset_of_byte, page_of_byte, word_of_byte}
use Rattle.plain_files.specs.Sizes.{PlainFile, FitsFile, new_file, words_touched, length_in, reaching}

-- a word holds a byte at least
pub bytes_some : (size : ℕ) → IsByteSize size → 1 ≤ bytes_per_word size
bytes_some size fits = (le-div_iff_mul-le {k = size} {x = 1} {y = LARGEST_BYTE} (omega (arith, fits.0))).1 (omega (arith, fits.1))

-- words are as many as their bytes touch
touched_most : (length words per : ℕ) → 1 ≤ per → length ≤ words * per → (length + per - 1) / per ≤ words
touched_most length words per some fits =
    let below : (length + per - 1) / per < suc words = (div-lt_iff_lt-mul {k = per} {x = length + per - 1} {y = suc words} (omega (arith, some))).1 (omega (arith, some, fits)) in
    omega (arith, below)

pub new_fits : FitsFile new_file
new_fits = ((omega arith, omega arith), omega arith)

-- a file has room for as many bytes of any size as it has
pub length_fits : (size : ℕ) (f : PlainFile) → IsByteSize size → FitsFile f → length_in size f ≤ most_bytes size
length_fits size f is_size fits = at (size == f.size) refl
  where
    at : (b : Bool) → (size == f.size) ≡ b → cond b f.length (words_touched f * bytes_per_word size) ≤ most_bytes size
    at true is = subst (λ n. f.length ≤ most_bytes n) (sym (eqb-true size f.size is)) fits.1
    at false is = mul-le-mul_right {m = words_touched f} {n = FILE_PAGES * PAGE_WORDS} (bytes_per_word size) (touched_most f.length (FILE_PAGES * PAGE_WORDS) (bytes_per_word f.size) (bytes_some f.size fits.0) fits.1)

-- a file that reaches as far as it may fits
pub reaching_fits : (size end : ℕ) (f : PlainFile) → IsByteSize size → FitsFile f → end ≤ most_bytes size → FitsFile (reaching size end f)
reaching_fits size end f is_size fits below = (is_size, by (nat_le (length_in size f) end))
  where
    by : (b : Bool) → cond b end (length_in size f) ≤ most_bytes size
    by true = below
    by false = length_fits size f is_size fits

-- a file that reaches to an end has the bytes before that
pub reached : (size end : ℕ) (f : PlainFile) → end ≤ length_in size (reaching size end f)
reached size end f = subst (λ b. end ≤ cond b (reaching size end f).length (words_touched (reaching size end f) * bytes_per_word size)) (sym (itself size)) (by (nat_le (length_in size f) end) refl)
  where
    itself : (k : ℕ) → (k == k) ≡ true
    itself k = grind (arith, nat_tests)

    after : (k m : ℕ) → nat_le k m ≡ false → m ≤ k
    after k m h = grind (arith, nat_tests)

    by : (b : Bool) → nat_le (length_in size f) end ≡ b → end ≤ cond b end (length_in size f)
    by true is = omega arith
    by false is = after (length_in size f) end is

-- a byte that a file has room for stands in one of its pages, at one of its words
module _ (size at : ℕ) (is_size : IsByteSize size) where
  pub page_within : at < most_bytes size → page_of_byte size at < FILE_PAGES
  page_within room =
      let word : word_of_byte size at < FILE_PAGES * PAGE_WORDS = (div-lt_iff_lt-mul {k = bytes_per_word size} {x = at} {y = FILE_PAGES * PAGE_WORDS} (omega (arith, bytes_some size is_size))).1 room in
      (div-lt_iff_lt-mul {k = PAGE_WORDS} {x = word_of_byte size at} {y = FILE_PAGES} (omega arith)).1 (omega (arith, word))

  pub offset_within : offset_of_byte size at < PAGE_WORDS
  offset_within = mod-lt (word_of_byte size at) (omega arith)
