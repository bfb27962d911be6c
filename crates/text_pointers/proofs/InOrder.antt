-- A text that stands somewhere is read in order.
use Rattle.std.proofs.Common.{◌≡◌, ◌≢◌, ℕ, suc, ◌+◌, ◌-◌, ◌/◌, ◌%◌, ◌^◌, ◌<◌, Bool, true, false, cond, List, [], ◌∷◌, ◌++◌, length, Some, refl, sym, ◌∙◌, ap, arith, append_assoc, append-nil}
use Rattle.std.specs.Prelude.{◌==◌, nat_le}
use Rattle.std.proofs.lemmas.Bool.Decides.{nat_tests}
use Rattle.word36.specs.Words.{right}
use Rattle.word36.specs.Bytes.{in_next_word, incremented, loaded, position, size, with_position}
use Rattle.machine_names.specs.declared.names.ForkName.{ForkName}
use Rattle.plain_units.specs.declared.registers.Regs.{Regs}
use Rattle.plain_pages.specs.PlainPages.{NumberedPages}
use Rattle.plain_units.specs.Addressing.{address, address_within, index_field, is_indirect}
use Rattle.plain_units.specs.Steps.{plainly, run}
use Rattle.plain_model.specs.PointedTexts.{address_steps, bytes_from, full_pointer, pointing_to}
use Rattle.plain_model.specs.Readings.{words}
use Rattle.text_pointers.specs.Outcomes.{leaves, read_on, reads}
use Rattle.text_pointers.specs.Laws.{IsReady, ReadsInOrder, StandsFrom, word_in}
use Rattle.text_pointers.proofs.Bytes.{byte_first, byte_read}
use Rattle.text_pointers.proofs.WordReads.{word_goes}

not_zero : (byte : ℕ) → byte ≢ 0 → (byte == 0) ≡ false
not_zero byte other = grind (arith, nat_tests, other)

one_less : (n k : ℕ) → k < n → n ≡ suc (n - 1)
one_less n k h = omega arith

module _ (f : ForkName) (regs : Regs) (q : NumberedPages) (ready : IsReady f q) where
  -- one byte
  byte_on : (n p : ℕ) (before : List ℕ) → read_on f regs (bytes_from (suc n) regs p before) q ≡ read_on f regs (byte_read (loaded p (word_in f regs q (right p))) before (bytes_from n regs (incremented p))) q
  byte_on n p before =
      ap (λ b. read_on f regs b q) (byte_first n regs p before)
      ∙ word_goes (plainly f) f regs (right p) q (λ w. byte_read (loaded p w) before (bytes_from n regs (incremented p))) q (word_in f regs q (right p)) (ready (right p)) refl

  -- all of them
  bytes_on : (text : List ℕ) (n p : ℕ) (before : List ℕ) → length text < n → StandsFrom (word_in f regs q) p text → read_on f regs (bytes_from n regs p before) q ≡ leaves q (Some (before ++ text))
  unfolding reads
  bytes_on [] n p before less zero =
      ap (λ m. read_on f regs (bytes_from m regs p before) q) (one_less n 0 less) ∙ byte_on (n - 1) p before ∙ rw zero (ap (λ (xs : List ℕ). leaves q (Some xs)) (sym (append-nil before)))
  bytes_on (byte ∷ text) n p before less stands =
      ap (λ m. read_on f regs (bytes_from m regs p before) q) (one_less n 0 (omega arith)) ∙ byte_on (n - 1) p before
      ∙ rw (stands.0, not_zero byte stands.1) (bytes_on text (n - 1) (incremented p) (before ++ byte ∷ []) (omega arith) stands.2 ∙ ap (λ (xs : List ℕ). leaves q (Some xs)) (append_assoc before (byte ∷ []) text))

-- an increment keeps I and X, and the bit before them
direct_still : (p : ℕ) → p / 2 ^ 18 % 2 ^ 6 ≡ 0 → incremented p / 2 ^ 18 % 2 ^ 6 ≡ 0
unfolding incremented
direct_still p h = by (nat_le (size p) (position p))
  where
    by : (b : Bool) → cond b (with_position p (position p - size p)) (with_position (in_next_word p) ((36 + 64 - size p) % 64)) / 2 ^ 18 % 2 ^ 6 ≡ 0
    by true = omega (arith, h)
    by false = omega (arith, h)

-- it points to its own address
to_itself : (p : ℕ) → p / 2 ^ 18 % 2 ^ 6 ≡ 0 → pointing_to p (right p) ≡ p
to_itself p h = omega (arith, h)

not_indirect : (p : ℕ) → p / 2 ^ 18 % 2 ^ 6 ≡ 0 → is_indirect p ≡ false
not_indirect p h = by (omega (arith, h))
  where
    by : p / 2 ^ 22 % 2 ≡ 0 → is_indirect p ≡ false
    by zero = rw zero refl

not_indexed : (p : ℕ) → p / 2 ^ 18 % 2 ^ 6 ≡ 0 → (index_field p == 0) ≡ true
not_indexed p h = by (omega (arith, h))
  where
    by : p / 2 ^ 18 % 16 ≡ 0 → (index_field p == 0) ≡ true
    by zero = rw zero refl

-- the address of such a pointer
direct_on : (f : ForkName) (regs : Regs) (q : NumberedPages) (first : ℕ) → first / 2 ^ 18 % 2 ^ 6 ≡ 0 → read_on f regs (words (address_steps regs first) (λ e. bytes_from 40 regs (pointing_to first e) [])) q ≡ read_on f regs (bytes_from 40 regs (pointing_to first (right first)) []) q
unfolding reads run address address_within
direct_on f regs q first h = rw (not_indirect first h, not_indexed first h) refl

pub in_order : (regs : Regs) (pointer : ℕ) → ReadsInOrder regs pointer
in_order regs pointer f q text ready direct stands less =
    let first : ℕ = incremented (full_pointer pointer) in
    let still = direct_still (full_pointer pointer) direct in
    direct_on f regs q first still ∙ ap (λ p. read_on f regs (bytes_from 40 regs p []) q) (to_itself first still) ∙ bytes_on f regs q ready text 40 first [] less stands
