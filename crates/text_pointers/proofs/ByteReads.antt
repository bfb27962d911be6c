-- The reading of a byte: its address, and then its word.
use Rattle.std.proofs.Common.{◌≡◌, ℕ, [], None, refl, sym, ◌∙◌, subst}
use Rattle.std.specs.Prelude.{Result, Ok, Err}
use Rattle.word36.specs.Bytes.{loaded}
use Rattle.machine_names.specs.declared.names.ForkName.{ForkName}
use Rattle.plain_units.specs.declared.registers.Regs.{Regs}
use Rattle.plain_model.specs.PointedTexts.{byte_at}
use Rattle.plain_model.specs.Readings.{Reading, read, word_steps, words}
use Rattle.ka10_deeds.specs.declared.word_fields.Address.{Address}
use Rattle.ka10_unit.specs.declared.taken.Taken.{Taken}
use Rattle.ka10_unit.specs.declared.taken.Stop.{Stop}
use Rattle.ka10_unit.specs.Gathers.{Framed}
use Rattle.ka10_unit.specs.Planning.{reached}
use Rattle.ka10_unit.specs.Taking.{Follows}
use Rattle.text_pointers.specs.declared.byte.PointedByte.{PointedByte}
use Rattle.text_pointers.specs.declared.reader.Reader.{Reader}
use Rattle.text_pointers.specs.Outcomes.{read_over}
use Rattle.text_pointers.specs.Reading.{ReadsByte, ReadsWord, Stands, byte_ended, pages_so_far}
use Rattle.text_pointers.proofs.AddressReads.{address_goes, address_stops}
use Rattle.text_pointers.proofs.Plainly.{plain_of}
use Rattle.text_pointers.proofs.WordReads.{read_here, word_runs}

module _ (f : ForkName) (p : Framed) (regs : Regs) (pointer : ℕ) where
  -- what is left behind an address
  abbrev Rest : ℕ → Reading ℕ
  Rest e = words (word_steps regs e) (λ w. read (loaded pointer w))

  byte_as : (result : Result PointedByte Stop) → ((b : PointedByte) → result ≡ Ok b → Stands f p b.reader) → read_over f p regs (byte_at regs pointer) p.pages ≡ byte_ended p result → ReadsByte f p regs pointer result
  byte_as result stands is = record { stands = stands; is = is; plain = plain_of f p regs (byte_at regs pointer) p.pages (byte_ended p result) is }

  module _ (none taken : Taken) (gather : none.gather.references ≡ []) (refs : none.refs.items ≡ []) (kept : none.kept ≡ None) where
    -- the address stops it
    pub byte_address_stops : (e : Stop) → Follows {A = Address} f p regs.ac none taken (reached regs.ac pointer) (Err e) → ReadsByte f p regs pointer (Err e)
    byte_address_stops e h = byte_as (Err e) (λ b no. absurd (cc no)) (address_stops f p regs pointer Rest none taken gather refs kept e h)

    module _ (a : Address) (none_kept : taken.kept ≡ None) (h : Follows f p regs.ac none taken (reached regs.ac pointer) (Ok a)) (r : Reader) (of_taken : r.gather ≡ taken.gather) where
      -- its word stops it
      pub byte_word_stops : (new : Reader) (e : Stop) → ReadsWord f p regs r new a.e (Err e) → ReadsByte f p regs pointer (Err e)
      byte_word_stops new e word = byte_as (Err e) (λ b no. absurd (cc no)) (address_goes f p regs pointer Rest none taken gather refs kept a none_kept h r of_taken ∙ word_runs f p regs r new a.e (Err e) word (λ w. read (loaded pointer w)))

      -- it is the byte that the pointer names in its word
      pub byte_ends : (new : Reader) (w byte : ℕ) → byte ≡ loaded pointer w → ReadsWord f p regs r new a.e (Ok w) → ReadsByte f p regs pointer (Ok (record { byte = byte; reader = new }))
      byte_ends new w byte is word = subst (λ (x : ℕ). ReadsByte f p regs pointer (Ok (record { byte = x; reader = new }))) (sym is)
          (byte_as (Ok (record { byte = loaded pointer w; reader = new })) (λ b same. (let one : record { byte = loaded pointer w; reader = new } ≡ b = cc same in subst (λ (x : PointedByte). Stands f p x.reader) one (word.stands w refl)))
          (address_goes f p regs pointer Rest none taken gather refs kept a none_kept h r of_taken ∙ word_runs f p regs r new a.e (Ok w) word (λ v. read (loaded pointer v)) ∙ read_here f p regs (loaded pointer w) (pages_so_far p new)))
