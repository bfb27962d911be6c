-- The bytes of words.
use Rattle.std.proofs.Common.{◌≡◌, ℕ, zero, suc, ◌+◌, ◌*◌, ◌^◌, ◌<◌, List, [], ◌∷◌, ◌++◌, length, drop, flat_map, sym, ◌∙◌, ap, arith}
use Rattle.std.proofs.Math.Nat.{mod-eq_of_lt}
use Rattle.std.proofs.Math.Seq.{drop-append-add}
use Rattle.byteorder.specs.Endian.{IsRead, big_bytes, big_number}
use Rattle.byteorder.specs.Numbers.{big_from-bytes, length-bytes_high_first}
use Rattle.outside.specs.declared.file_drum.TheConstants.{WORD_BYTES}
use Rattle.outside.specs.Drums.{AreWords}

-- words that stand in bytes are read from there
pub bytes_read_back : (words : List ℕ) → AreWords words → IsRead big_number WORD_BYTES (flat_map (big_bytes WORD_BYTES) words) words
bytes_read_back [] small k within = absurd (omega arith)
bytes_read_back (w ∷ ws) small zero within =
    let fits : w < 256 ^ WORD_BYTES = omega (arith, small 0) in
    sym (big_from-bytes WORD_BYTES w (flat_map (big_bytes WORD_BYTES) ws) ∙ mod-eq_of_lt fits)
bytes_read_back (w ∷ ws) small (suc k) within =
    let rest = flat_map (big_bytes WORD_BYTES) ws in
    let here = length-bytes_high_first WORD_BYTES w in
    let place : WORD_BYTES * suc k ≡ length (big_bytes WORD_BYTES w) + WORD_BYTES * k = omega (arith, here) in
    let behind : drop (WORD_BYTES * suc k) (big_bytes WORD_BYTES w ++ rest) ≡ drop (WORD_BYTES * k) rest =
    ap (λ (n : ℕ). drop n (big_bytes WORD_BYTES w ++ rest)) place ∙ drop-append-add (big_bytes WORD_BYTES w) rest (WORD_BYTES * k) in
    bytes_read_back ws (λ i. small (suc i)) k (omega arith) ∙ ap (λ (bytes : List ℕ). big_number WORD_BYTES bytes) (sym behind)
