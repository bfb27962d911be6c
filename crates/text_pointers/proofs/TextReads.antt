-- The reading of a whole text: its address, and then its bytes.
use Rattle.std.proofs.Common.{◌≡◌, ℕ, [], Option, None, sym, ◌∙◌, subst}
use Rattle.std.specs.Prelude.{Result, Ok, Err, List}
use Rattle.arrayvec.specs.ArrayVec.{ArrayVec}
use Rattle.word36.specs.Bytes.{incremented}
use Rattle.machine_names.specs.declared.names.ForkName.{ForkName}
use Rattle.plain_units.specs.declared.registers.Regs.{Regs}
use Rattle.plain_model.specs.PointedTexts.{bytes_from, full_pointer, pointing_to, text_at}
use Rattle.ka10_deeds.specs.declared.word_fields.Address.{Address}
use Rattle.ka10_unit.specs.declared.taken.Taken.{Taken}
use Rattle.ka10_unit.specs.declared.taken.Stop.{Stop}
use Rattle.ka10_unit.specs.Gathers.{Framed}
use Rattle.ka10_unit.specs.Planning.{reached}
use Rattle.ka10_unit.specs.Taking.{Follows}
use Rattle.text_pointers.specs.declared.reader.Reader.{Reader}
use Rattle.text_pointers.specs.Outcomes.{read_over}
use Rattle.text_pointers.specs.Reading.{ReadsBytes, ReadsText, Stands, came_to}
use Rattle.text_pointers.proofs.AddressReads.{address_goes, address_stops}
use Rattle.text_pointers.proofs.Plainly.{plain_of}
use Rattle.plain_model.specs.Readings.{Reading}

module _ (f : ForkName) (p : Framed) (regs : Regs) (pointer : ℕ) where
  -- the pointer to the first byte
  abbrev First : ℕ
  First = incremented (full_pointer pointer)

  -- what is left behind an address
  abbrev Rest : ℕ → Reading (Option (List ℕ))
  Rest e = bytes_from 40 regs (pointing_to First e) []

  text_as : (new : Reader) (result : Result (Option (ArrayVec ℕ)) Stop) → ((text : Option (ArrayVec ℕ)) → result ≡ Ok text → Stands f p new) → read_over f p regs (text_at regs pointer) p.pages ≡ came_to p new result → ReadsText f p regs pointer new result
  text_as new result stands is = record { stands = stands; is = is; plain = plain_of f p regs (text_at regs pointer) p.pages (came_to p new result) is }

  module _ (none taken : Taken) (gather : none.gather.references ≡ []) (refs : none.refs.items ≡ []) (kept : none.kept ≡ None) where
    -- the address stops it
    pub text_address_stops : (r : Reader) (e : Stop) → Follows {A = Address} f p regs.ac none taken (reached regs.ac First) (Err e) → ReadsText f p regs pointer r (Err e)
    text_address_stops r e h = text_as r (Err e) (λ text no. absurd (cc no)) (address_stops f p regs First Rest none taken gather refs kept e h)

    module _ (a : Address) (none_kept : taken.kept ≡ None) (h : Follows f p regs.ac none taken (reached regs.ac First) (Ok a)) (r : Reader) (of_taken : r.gather ≡ taken.gather) where
      -- so it is as its bytes are
      pub bytes_end : (new : Reader) (result : Result (Option (ArrayVec ℕ)) Stop) → ReadsBytes f p regs r new (pointing_to First a.e) result → ReadsText f p regs pointer new result
      bytes_end new result b = text_as new result b.stands (address_goes f p regs First Rest none taken gather refs kept a none_kept h r of_taken ∙ b.is)

-- the bytes that the reader's fork reads a fork reads that it stands for
pub bytes_by : (f : ForkName) (p : Framed) (regs : Regs) (old new : Reader) (first : ℕ) (result : Result (Option (ArrayVec ℕ)) Stop) → Stands f p old → (Stands old.fork p old → ReadsBytes old.fork p regs old new first result) → ReadsBytes f p regs old new first result
bytes_by f p regs old new first result stands told = subst (λ (g : ForkName). ReadsBytes g p regs old new first result) stands.fork (told (subst (λ (g : ForkName). Stands g p old) (sym stands.fork) stands))
