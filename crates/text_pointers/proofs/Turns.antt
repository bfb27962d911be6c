-- A turn of a call that reads a text, or a byte: it goes on with that, on the pages that this leaves, whatever it does then; or it traps.
use Rattle.std.proofs.Common.{◌≡◌, ℕ, List, Option, refl, subst}
use Rattle.std.specs.Prelude.{Ok, Err, slice_index}
use Rattle.std.specs.Ordering.{nat_cmp}
use Rattle.arrayvec.specs.ArrayVec.{ArrayVec}
use Rattle.plain_model.specs.declared.call.End.TheVariants.{Trap as TrapEnd}
use Rattle.machine_names.specs.declared.names.ForkName.{ForkName}
use Rattle.plain_units.specs.declared.registers.Regs.{Regs}
use Rattle.plain_pages.specs.PlainPages.{NumberedPages}
use Rattle.plain_units.specs.Blocks.{steps_on}
use Rattle.plain_units.specs.Steps.{Planned, call, done, need, pages_left, stopped, trap}
use Rattle.plain_model.specs.Calls.{Came, Sight, Turn, stepped, turn_on}
use Rattle.plain_model.specs.PointedTexts.{byte_at, text_at}
use Rattle.plain_model.specs.Readings.{Reading, read, with_reading, words}
use Rattle.ka10_unit.specs.declared.taken.Stop.TheVariants.{Trap}
use Rattle.ka10_unit.specs.Gathers.{Framed}
use Rattle.text_pointers.specs.declared.byte.PointedByte.{PointedByte}
use Rattle.text_pointers.specs.declared.reader.Reader.{Reader}
use Rattle.text_pointers.specs.Outcomes.{Outcome, leaves, goes_on, read_on, reads, stops}
use Rattle.text_pointers.specs.Reading.{ReadsByte, ReadsText, bytes_of, pages_so_far}

module _ {F C A : Type 0} (sight : Sight F ℕ) (f : ForkName) (regs : Regs) (next : A → Turn F C) where
  -- what a turn comes to whose reading comes to this over the plain pages
  abbrev pub TurnsTo : Came nat_cmp C → Outcome ⊥ A → Type 0
  TurnsTo came (leaves q found) = came ≡ turn_on sight q (next found)
  TurnsTo came (stops (trap channel)) = came.end ≡ TrapEnd channel
  TurnsTo came (stops (need none)) = Unit {0}

  pub turn_reads : (reading : Reading A) (q : NumberedPages) → TurnsTo (turn_on sight q (with_reading f regs reading next)) (read_on f regs reading q)
  unfolding turn_on with_reading reads
  turn_reads (words steps rest) q = by (steps_on f regs steps q) (λ r w. turn_reads (rest w) r)
    where
      by : (x : Planned nat_cmp ⊥) → ((r : NumberedPages) (w : ℕ) → TurnsTo (turn_on sight r (with_reading f regs (rest w) next)) (read_on f regs (rest w) r))
          → TurnsTo (stepped f x (λ r e. turn_on sight r (with_reading f regs (rest (slice_index e.regs.ac 0)) next)) (λ channel. record { end = TrapEnd channel; pages = q })) (goes_on f x (λ r w. read_on f regs (rest w) r))
      by (done t e) each = each (pages_left f t e) (slice_index e.regs.ac 0)
      by (stopped (trap channel)) each = refl
      by (stopped (need none)) each = absurd none
      by (call number) each = refl
  turn_reads (read found) q = refl

module _ {F C : Type 0} (sight : Sight F ℕ) (f : ForkName) (regs : Regs) where
  module _ (next : Option (List ℕ) → Turn F C) (p : Framed) (pointer : ℕ) where
    -- it goes on with the text
    pub text_goes : (r : Reader) (text : Option (ArrayVec ℕ)) → ReadsText f p regs pointer r (Ok text) → turn_on sight p.pages (with_reading f regs (text_at regs pointer) next) ≡ turn_on sight (pages_so_far p r) (next (bytes_of text))
    text_goes r text h = subst (TurnsTo sight f regs next (turn_on sight p.pages (with_reading f regs (text_at regs pointer) next))) h.plain (turn_reads sight f regs next (text_at regs pointer) p.pages)

    -- it traps
    pub text_traps : (r : Reader) (channel : ℕ) → ReadsText f p regs pointer r (Err (Trap channel)) → (turn_on sight p.pages (with_reading f regs (text_at regs pointer) next)).end ≡ TrapEnd channel
    text_traps r channel h = subst (TurnsTo sight f regs next (turn_on sight p.pages (with_reading f regs (text_at regs pointer) next))) h.plain (turn_reads sight f regs next (text_at regs pointer) p.pages)

  module _ (next : ℕ → Turn F C) (p : Framed) (pointer : ℕ) where
    -- it goes on with the byte
    pub byte_goes : (b : PointedByte) → ReadsByte f p regs pointer (Ok b) → turn_on sight p.pages (with_reading f regs (byte_at regs pointer) next) ≡ turn_on sight (pages_so_far p b.reader) (next b.byte)
    byte_goes b h = subst (TurnsTo sight f regs next (turn_on sight p.pages (with_reading f regs (byte_at regs pointer) next))) h.plain (turn_reads sight f regs next (byte_at regs pointer) p.pages)

    -- it traps
    pub byte_traps : (channel : ℕ) → ReadsByte f p regs pointer (Err (Trap channel)) → (turn_on sight p.pages (with_reading f regs (byte_at regs pointer) next)).end ≡ TrapEnd channel
    byte_traps channel h = subst (TurnsTo sight f regs next (turn_on sight p.pages (with_reading f regs (byte_at regs pointer) next))) h.plain (turn_reads sight f regs next (byte_at regs pointer) p.pages)
