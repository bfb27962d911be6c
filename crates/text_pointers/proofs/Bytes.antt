-- The bytes of a text, one behind the other.
use Rattle.std.proofs.Common.{◌≡◌, ℕ, suc, ◌+◌, ◌-◌, ◌<◌, ◌≤◌, false, Option, List, [], ◌∷◌, ◌++◌, None, Some, refl, sym, ◌∙◌, ap, arith}
use Rattle.std.specs.Prelude.{Result, Ok, Err, ◌==◌, if◌then◌else◌}
use Rattle.arrayvec.specs.ArrayVec.{ArrayVec}
use Rattle.word36.specs.Words.{right}
use Rattle.word36.specs.Bytes.{incremented, loaded}
use Rattle.machine_names.specs.declared.names.ForkName.{ForkName}
use Rattle.page_contracts.specs.declared.answers.Need.{Need}
use Rattle.plain_units.specs.declared.registers.Regs.{Regs}
use Rattle.plain_model.specs.PointedTexts.{bytes_from}
use Rattle.plain_model.specs.Readings.{word_steps, words, Reading, read}
use Rattle.ka10_unit.specs.declared.taken.Stop.{Stop}
use Rattle.ka10_unit.specs.Gathers.{Framed}
use Rattle.text_pointers.specs.declared.reader.Reader.{Reader}
use Rattle.text_pointers.specs.Outcomes.{Outcome, read_over, reads}
use Rattle.text_pointers.proofs.WordReads.{word_runs}
use Rattle.text_pointers.specs.Reading.{ReadsBytes, ReadsWord, Stands, pages_so_far, went_on}

one_more : (n i : ℕ) → i < n → n - i ≡ suc (n - (i + 1))
one_more n i h = omega arith

-- a byte that is 0 ends a text; another is one more of it
abbrev pub byte_read : ℕ → List ℕ → (List ℕ → Reading (Option (List ℕ))) → Reading (Option (List ℕ))
byte_read byte text next = if byte == 0 then read (Some text) else next (text ++ byte ∷ [])

-- the first of some bytes
pub byte_first : (n : ℕ) (regs : Regs) (pointer : ℕ) (text : List ℕ) → bytes_from (suc n) regs pointer text ≡ words (word_steps regs (right pointer)) (λ w. byte_read (loaded pointer w) text (bytes_from n regs (incremented pointer)))
unfolding bytes_from
byte_first n regs pointer text = refl

module _ (f : ForkName) (p : Framed) (regs : Regs) (old : Reader) (first : ℕ) where
  -- what the whole comes to
  abbrev Whole : Outcome Need (Option (List ℕ))
  Whole = read_over f p regs (bytes_from 40 regs first []) (pages_so_far p old)

  -- so many bytes were read
  pub record ReadsSoFar (r : Reader) (i pointer : ℕ) (text : List ℕ) : Type 0 where
    pub stands : Stands f p r
    pub runs : read_over f p regs (bytes_from (40 - i) regs pointer text) (pages_so_far p r) ≡ Whole

  pub none_read : Stands f p old → ReadsSoFar old 0 first []
  none_read stands = record { stands = stands; runs = refl }

  -- no zero byte was among them
  pub all_read : (r : Reader) (i pointer : ℕ) (text : List ℕ) → 40 ≤ i → ReadsSoFar r i pointer text → ReadsBytes f p regs old r first (Ok None)
  unfolding bytes_from reads
  all_read r i pointer text most before = record { stands = λ t is. before.stands; is = sym before.runs ∙ rw none refl }
    where
      none : 40 - i ≡ 0
      none = omega arith

  module _ (r new : Reader) (i pointer : ℕ) (text : List ℕ) (less : i < 40) (before : ReadsSoFar r i pointer text) where
    -- what is left behind a word
    abbrev Rest : ℕ → Reading (Option (List ℕ))
    Rest w = byte_read (loaded pointer w) text (bytes_from (40 - (i + 1)) regs (incremented pointer))

    behind : (result : Result ℕ Stop) → ReadsWord f p regs r new (right pointer) result → Whole ≡ went_on result (λ w. read_over f p regs (Rest w) (pages_so_far p new))
    behind result word =
        sym before.runs ∙ ap (λ n. read_over f p regs (bytes_from n regs pointer text) (pages_so_far p r)) (one_more 40 i less)
        ∙ ap (λ b. read_over f p regs b (pages_so_far p r)) (byte_first (40 - (i + 1)) regs pointer text) ∙ word_runs f p regs r new (right pointer) result word Rest

    -- it stops the reading
    pub word_stops : (e : Stop) → ReadsWord f p regs r new (right pointer) (Err e) → ReadsBytes f p regs old new first (Err e)
    word_stops e word = record { stands = λ t no. absurd (cc no); is = behind (Err e) word }

    -- its byte is 0, and ends the text
    pub byte_ends : (w : ℕ) (all : ArrayVec ℕ) → all.items ≡ text → loaded pointer w ≡ 0 → ReadsWord f p regs r new (right pointer) (Ok w) → ReadsBytes f p regs old new first (Ok (Some all))
    unfolding reads
    byte_ends w all same zero word = record { stands = λ t is. word.stands w refl; is = behind (Ok w) word ∙ rw (zero, same) refl }

    -- its byte is one more of the text
    pub byte_goes : (w : ℕ) (more : List ℕ) → more ≡ text ++ loaded pointer w ∷ [] → (loaded pointer w == 0) ≡ false → ReadsWord f p regs r new (right pointer) (Ok w) → ReadsSoFar new (i + 1) (incremented pointer) more
    byte_goes w more is other word = record { stands = word.stands w refl; runs = sym (behind (Ok w) word ∙ rw (other, is) refl) }
