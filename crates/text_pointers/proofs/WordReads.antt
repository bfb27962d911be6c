-- A word of a reading, which is an accumulator's or a page's.
use Rattle.std.proofs.Common.{◌≡◌, ℕ, ◌%◌, ◌/◌, true, false, cond, Option, None, Some, refl, sym, ◌∙◌, ap, subst}
use Rattle.std.specs.Prelude.{⊤, Result, Ok, Err, slice_index, is_some}
use Rattle.outside.specs.declared.TheConstants.{PAGE_WORDS}
use Rattle.machine_names.specs.declared.names.ForkName.{ForkName}
use Rattle.machine_names.specs.declared.names.Kind.{Kind}
use Rattle.machine_names.specs.declared.names.Kind.TheVariants.{Read}
use Rattle.machine_names.specs.declared.names.PageName.{PageName}
use Rattle.machine_names.specs.declared.names.Slot.{Slot}
use Rattle.plain_units.specs.declared.registers.Regs.{Regs}
use Rattle.plain_pages.specs.PlainPages.{NumberedPages}
use Rattle.plain_pages.specs.References.{in_map, page_at, slot_at, word_at}
use Rattle.plain_units.specs.Steps.{Asked, Steps, Stop as Stopped, asked_at, begun, call, done, goes, is_accumulator, referred, run, seen, stopped, stops as asked_stops, word_taken}
use Rattle.plain_model.specs.Readings.{Reading, read, word_steps, words}
use Rattle.ka10_unit.specs.declared.taken.Stop.{Stop}
use Rattle.ka10_unit.specs.Gathers.{Framed, asks}
use Rattle.page_contracts.specs.declared.answers.Need.{Need}
use Rattle.ka10_unit.specs.Taking.{Plan, asked_as, run_over, stop_of}
use Rattle.ka10_unit.proofs.Seeing.{word_named}
use Rattle.text_pointers.specs.declared.reader.Reader.{Reader}
use Rattle.text_pointers.specs.Outcomes.{Outcome, goes_on, leaves, read_over, reads, stops}
use Rattle.text_pointers.specs.Reading.{ReadsPage, ReadsWord, Stands, pages_so_far, went_on}

module _ {N A : Type 0} (ask : NumberedPages → Slot → Kind → Asked N NumberedPages) (f : ForkName) (regs : Regs) (at : ℕ) (q : NumberedPages) (rest : ℕ → Reading A) where
  -- a word that is referred to
  pub word_goes : (r : NumberedPages) (w : ℕ) → asked_at ask f q at Read ≡ goes r → w ≡ word_taken f (referred (begun q regs.ac) at Read r) at → reads ask f regs (words (word_steps regs at) rest) q ≡ reads ask f regs (rest w) r
  unfolding reads run
  word_goes r w asked is = rw (asked, is) refl

  -- or that stops the reading
  word_stops : (e : Stopped N) → asked_at ask f q at Read ≡ asked_stops e → reads ask f regs (words (word_steps regs at) rest) q ≡ stops e
  unfolding reads run
  word_stops e asked = rw asked refl

module _ (f : ForkName) (p : Framed) (regs : Regs) where
  -- what comes behind a word
  abbrev then_on : {A B : Type 0} → Outcome Need A → (NumberedPages → A → Outcome Need B) → Outcome Need B
  then_on (leaves q x) next = next q x
  then_on (stops e) next = stops e

  -- a reading goes on behind its first word as that was read
  word_then : {A : Type 0} (steps : Steps) (rest : ℕ → Reading A) (q : NumberedPages) → read_over f p regs (words steps rest) q ≡ then_on (read_over f p regs (words steps (λ w. read w)) q) (λ r w. read_over f p regs (rest w) r)
  unfolding reads
  word_then {A} steps rest q = by (run_over f p steps (begun q regs.ac))
    where
      by : (x : Plan) → goes_on f x (λ r w. read_over f p regs (rest w) r) ≡ then_on (goes_on f x (λ r w. leaves r w)) (λ r w. read_over f p regs (rest w) r)
      by (done t e) = refl
      by (stopped why) = refl
      by (call number) = refl

  -- whatever comes behind a word, the reading goes on with it, or stops as it did
  pub word_runs : {A : Type 0} (old new : Reader) (at : ℕ) (result : Result ℕ Stop) → ReadsWord f p regs old new at result → (rest : ℕ → Reading A)
      → read_over f p regs (words (word_steps regs at) rest) (pages_so_far p old) ≡ went_on result (λ w. read_over f p regs (rest w) (pages_so_far p new))
  word_runs {A} old new at result h rest = word_then (word_steps regs at) rest (pages_so_far p old) ∙ ap (λ (x : Outcome Need ℕ). then_on x (λ r w. read_over f p regs (rest w) r)) h.is ∙ by result
    where
      by : (r : Result ℕ Stop) → then_on (went_on r (leaves (pages_so_far p new))) (λ q w. read_over f p regs (rest w) q) ≡ went_on r (λ w. read_over f p regs (rest w) (pages_so_far p new))
      by (Ok w) = refl
      by (Err e) = refl

  pub read_here : (w : ℕ) (q : NumberedPages) → read_over f p regs (read w) q ≡ leaves q w
  unfolding reads
  read_here w q = refl

module _ (f : ForkName) (p : Framed) (regs : Regs) (old : Reader) (at : ℕ) where
  -- the word of an accumulator
  pub of_accumulator : is_accumulator at ≡ true → Stands f p old → ReadsWord f p regs old old at (Ok (slice_index regs.ac at))
  of_accumulator low stands = record {
    stands = λ w is. stands;
    is = word_goes (asks f p) f regs at (pages_so_far p old) (λ v. read v) (pages_so_far p old) (slice_index regs.ac at) (rw low refl) (rw low refl) ∙ read_here f p regs (slice_index regs.ac at) (pages_so_far p old);
  }

  module _ (new : Reader) (high : is_accumulator at ≡ false) where
    abbrev q : NumberedPages
    q = pages_so_far p old

    asked : (result : Result ⊤ Stop) → ReadsPage f p old new (at / PAGE_WORDS) result → asked_at (asks f p) f q at Read ≡ asked_as result (pages_so_far p new)
    asked result page = rw high page.is

    -- the word of a page
    pub of_page : (w : ℕ) (x : ⊤) → w ≡ word_at (pages_so_far p new) (in_map (slot_at f at)) (at % PAGE_WORDS) → ReadsPage f p old new (at / PAGE_WORDS) (Ok x) → ReadsWord f p regs old new at (Ok w)
    of_page w x is page = record {
      stands = λ v one. page.stands x refl;
      is = word_goes (asks f p) f regs at q (λ v. read v) (pages_so_far p new) w (asked (Ok x) page) (is ∙ by (page_at (pages_so_far p new) (in_map (slot_at f at))) refl (page.readable x refl).there) ∙ read_here f p regs w (pages_so_far p new);
    }
      where
        by : (n : Option PageName) → page_at (pages_so_far p new) (in_map (slot_at f at)) ≡ n → is_some (page_at (pages_so_far p new) (in_map (slot_at f at))) ≡ true
            → word_at (pages_so_far p new) (in_map (slot_at f at)) (at % PAGE_WORDS) ≡ word_taken f (referred (begun q regs.ac) at Read (pages_so_far p new)) at
        by None none some = absurd (let no : false ≡ true = ap is_some (sym none) ∙ some in cc no)
        by (Some n) there some =
            word_named (pages_so_far p new) (slot_at f at) (at % PAGE_WORDS) n there ∙ sym (ap (seen (pages_so_far p new) f None at) there)
            ∙ sym (ap (λ b. cond b (slice_index regs.ac at) (seen (pages_so_far p new) f None at (page_at (pages_so_far p new) (in_map (slot_at f at))))) high)

    -- a page that stops the reading
    pub page_stops : (e : Stop) → ReadsPage f p old new (at / PAGE_WORDS) (Err e) → ReadsWord f p regs old new at (Err e)
    page_stops e page = record { stands = λ w no. absurd (cc no); is = word_stops (asks f p) f regs at q (λ v. read v) (stop_of e) (asked (Err e) page) }

-- what the reader's fork reads a fork reads that it stands for
pub read_by : (f : ForkName) (p : Framed) (regs : Regs) (old new : Reader) (at : ℕ) (result : Result ℕ Stop) → Stands f p old → (Stands old.fork p old → ReadsWord old.fork p regs old new at result) → ReadsWord f p regs old new at result
read_by f p regs old new at result stands told = subst (λ (g : ForkName). ReadsWord g p regs old new at result) stands.fork (told (subst (λ (g : ForkName). Stands g p old) (sym stands.fork) stands))
