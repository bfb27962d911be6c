-- The steps of a turn on a string: to the address of its pointer, to the word there, and to a byte deposited in it.
use Rattle.std.proofs.Common.{◌≡◌, ℕ, ◌%◌, [], ◌∷◌, true, false, cond, Option, None, Some, refl, sym, ◌∙◌, ap, Ordering}
use Rattle.std.specs.Prelude.{slice_index, slice_set}
use Rattle.std.specs.Option.{option_map_or}
use Rattle.std.proofs.lemmas.Bool.{cond_both}
use Rattle.word36.specs.Bytes.{deposited}
use Rattle.outside.specs.declared.TheConstants.{PAGE_WORDS}
use Rattle.machine_names.specs.PageWords.{zero_words}
use Rattle.machine_names.specs.declared.names.ForkName.{ForkName}
use Rattle.machine_names.specs.declared.names.Kind.TheVariants.{Read, Write}
use Rattle.machine_names.specs.declared.names.PageName.{PageName}
use Rattle.plain_pages.specs.PlainPages.{PlainPages}
use Rattle.plain_pages.specs.References.{Referred, granted, in_map, page_at, reference, slot_at, word_at, words_of}
use Rattle.plain_units.specs.declared.registers.Regs.{Regs}
use Rattle.plain_units.specs.Addressing.{address, address_within, indexed, is_indirect}
use Rattle.plain_units.specs.Blocks.{steps_on}
use Rattle.plain_units.specs.Instructions.{storing}
use Rattle.plain_units.specs.Steps.{Ending, Planned, Progress, Steps, asked_at, begun, done, goes, goes_on, is_accumulator, plain_asked, plainly, referred, run, seen, widened, word_taken}
use Rattle.plain_model.specs.PointedTexts.{address_steps}
use Rattle.plain_model.specs.Readings.{word_steps}
use Rattle.plain_model.specs.StringCalls.{deposit_steps}

-- steps that end with one word
abbrev pub ended_with : Regs → ℕ → Ending
ended_with regs w = record { regs = record regs { ac = w ∷ [] }; put = None; post = None }

-- steps that end with a word to store
abbrev pub ended_storing : Regs → ℕ → ℕ → Ending
ended_storing regs a w = record { regs = regs; put = Some (record { at = a; word = w }); post = None }

module _ {K : Type 0} {file_cmp : K → K → Ordering} (f : ForkName) (regs : Regs) where
  -- the address of a pointer that isn't indirect
  pub addressed : (p : ℕ) (q : PlainPages file_cmp) → is_indirect p ≡ false → steps_on f regs (address_steps regs p) q ≡ done (begun q regs.ac) (ended_with regs (indexed regs.ac p))
  unfolding address address_within run
  addressed p q direct = cond_both (is_indirect p) _ _ (λ (steps : Steps). run (plainly f) f steps (begun q regs.ac) ≡ done (begun q regs.ac) (ended_with regs (indexed regs.ac p)))
      (λ yes. absurd (let no : true ≡ false = sym yes ∙ direct in cc no)) (λ no. refl)

  module _ (a : ℕ) (high : is_accumulator a ≡ false) where
    -- the word at an address whose page is there
    seen_there : (t : Progress file_cmp) (n : PageName) → t.kept ≡ None → page_at t.pages (in_map (slot_at f a)) ≡ Some n → word_taken f t a ≡ word_at t.pages (in_map (slot_at f a)) (a % PAGE_WORDS)
    seen_there t n none is =
        ap (λ b. cond b (slice_index t.ac a) (seen t.pages f t.kept a (page_at t.pages (in_map (slot_at f a))))) high
        ∙ ap (λ k. seen t.pages f k a (page_at t.pages (in_map (slot_at f a)))) none
        ∙ ap (seen t.pages f None a) is
        ∙ ap (λ (o : Option PageName). slice_index (option_map_or (words_of t.pages) o zero_words) (a % PAGE_WORDS)) (sym is)

    module _ (q r : PlainPages file_cmp) (n : PageName) (grants : reference q (in_map (slot_at f a)) Read f.tty ≡ granted r) (there : page_at r (in_map (slot_at f a)) ≡ Some n) where
      abbrev pub reads_at : Progress file_cmp
      reads_at = referred (begun q regs.ac) a Read r

      abbrev pub word_there : ℕ
      word_there = word_at r (in_map (slot_at f a)) (a % PAGE_WORDS)

      -- a read that is granted goes on
      goes_there : (next : PlainPages file_cmp → Planned file_cmp ⊥) → goes_on (asked_at (plainly f) f q a Read) next ≡ next r
      goes_there next = ap (λ b. goes_on (cond b (goes q) (plainly f q (slot_at f a) Read)) next) high ∙ ap (λ (x : Referred file_cmp). goes_on (plain_asked x) next) grants

      pub word_read : steps_on f regs (word_steps regs a) q ≡ done reads_at (ended_with regs word_there)
      unfolding run
      word_read = goes_there _ ∙ ap (λ w. done reads_at (ended_with regs w)) (seen_there reads_at n refl there)

      -- the write of a byte, where that is granted too, leaves these pages and registers
      module _ (z : PlainPages file_cmp) (writes : reference r (in_map (slot_at f a)) Write f.tty ≡ granted z) (told : Regs) (p byte : ℕ) where
        abbrev word_then : ℕ
        word_then = deposited p word_there byte

        abbrev pub writes_at : Progress file_cmp
        writes_at = widened reads_at a z

        goes_to_write : (next : PlainPages file_cmp → Planned file_cmp ⊥) → goes_on (asked_at (plainly f) f r a Write) next ≡ next z
        goes_to_write next = ap (λ b. goes_on (cond b (goes r) (plainly f r (slot_at f a) Write)) next) high ∙ ap (λ (x : Referred file_cmp). goes_on (plain_asked x) next) writes

        stores_so : (w : ℕ) → storing told a w None ≡ ended_storing told a w
        stores_so w = ap (λ b. cond b (record { regs = record told { ac = slice_set told.ac a w }; put = None; post = None }) (ended_storing told a w)) high

        pub byte_written : steps_on f regs (deposit_steps told p byte a) q ≡ done writes_at (ended_storing told a word_then)
        unfolding run
        byte_written =
            goes_there _ ∙ goes_to_write _
            ∙ ap (λ w. done writes_at (storing told a (deposited p w byte) None)) (seen_there reads_at n refl there) ∙ ap (done writes_at) (stores_so word_then)
