-- A word of a reading that is to be written.
use Rattle.std.proofs.Common.{◌≡◌, ℕ, true, false, refl, ◌∙◌, ap, sym, subst}
use Rattle.std.specs.Prelude.{⊤, Result, Ok, Err}
use Rattle.machine_names.specs.declared.names.ForkName.{ForkName}
use Rattle.machine_names.specs.declared.names.Kind.TheVariants.{Write}
use Rattle.plain_units.specs.declared.registers.Regs.{Regs}
use Rattle.plain_pages.specs.PlainPages.{NumberedPages}
use Rattle.plain_units.specs.Steps.{Steps, asked_at, begun, call, done, goes, is_accumulator, run, stopped, stops as asked_stops}
use Rattle.plain_model.specs.Readings.{Reading, read, words, written_steps}
use Rattle.page_contracts.specs.declared.answers.Need.{Need}
use Rattle.ka10_unit.specs.declared.taken.Stop.{Stop}
use Rattle.ka10_unit.specs.Gathers.{Framed, asks}
use Rattle.ka10_unit.specs.Taking.{AsksAt, Plan, run_over, stop_of}
use Rattle.text_pointers.specs.declared.reader.Reader.{Reader}
use Rattle.text_pointers.specs.Outcomes.{Outcome, goes_on, leaves, read_over, reads, stops}
use Rattle.text_pointers.specs.Reading.{OpensWord, Stands, one_opened, pages_so_far, went_on}

module _ (f : ForkName) (p : Framed) (regs : Regs) (at : ℕ) (q : NumberedPages) where
  -- a word that is referred to
  word_goes : (r : NumberedPages) → asked_at (asks f p) f q at Write ≡ goes r → read_over f p regs (one_opened regs at) q ≡ leaves r tt
  unfolding reads run
  word_goes r asked = rw asked refl

  -- or that stops the reading
  word_stops : (e : Stop) → asked_at (asks f p) f q at Write ≡ asked_stops (stop_of e) → read_over f p regs (one_opened regs at) q ≡ stops (stop_of e)
  unfolding reads run
  word_stops e asked = rw asked refl

-- an accumulator stands in no page
pub accumulator_opens : (f : ForkName) (p : Framed) (old : Reader) (at : ℕ) (x : ⊤) → is_accumulator at ≡ true → Stands f p old → OpensWord f p old old at (Ok x)
accumulator_opens f p old at x low stands = record {
  stands = λ y is. stands;
  is = λ regs. word_goes f p regs at (pages_so_far p old) (pages_so_far p old) (rw low refl);
  open_at = λ y is high. absurd (let other : true ≡ false = sym low ∙ high in cc other);
}

module _ (f : ForkName) (p : Framed) (old new : Reader) (at : ℕ) where
  -- its page was asked for
  pub word_opens : (x : ⊤) → AsksAt f p old.gather new.gather at Write (Ok x) → Stands f p new → OpensWord f p old new at (Ok x)
  word_opens x a stands = record {
    stands = λ y is. stands;
    is = λ regs. word_goes f p regs at (pages_so_far p old) (pages_so_far p new) a.is;
    open_at = λ y is high. a.open_at x refl refl high;
  }

  pub open_stops : (e : Stop) → AsksAt f p old.gather new.gather at Write (Err e) → OpensWord f p old new at (Err e)
  open_stops e a = record {
    stands = λ x no. absurd (cc no);
    is = λ regs. word_stops f p regs at (pages_so_far p old) e a.is;
    open_at = λ x no. absurd (cc no);
  }

module _ (f : ForkName) (p : Framed) (regs : Regs) where
  -- what comes behind what was referred to, whatever the word
  abbrev behind_on : {A : Type 0} → Outcome Need ⊤ → (NumberedPages → Outcome Need A) → Outcome Need A
  behind_on (leaves q x) later = later q
  behind_on (stops e) later = stops e

  steps_then : {A : Type 0} (steps : Steps) (rest : Reading A) (q : NumberedPages)
      → read_over f p regs (words steps (λ w. rest)) q ≡ behind_on (read_over f p regs (words steps (λ w. read tt)) q) (λ r. read_over f p regs rest r)
  unfolding reads
  steps_then {A} steps rest q = by (run_over f p steps (begun q regs.ac))
    where
      by : (x : Plan) → goes_on f x (λ r w. read_over f p regs rest r) ≡ behind_on (goes_on f x (λ r w. leaves r tt)) (λ r. read_over f p regs rest r)
      by (done t e) = refl
      by (stopped why) = refl
      by (call number) = refl

  -- whatever comes behind a word that is to be written, the reading goes on with it, or stops as it did
  pub open_runs : {A : Type 0} (old new : Reader) (at : ℕ) (result : Result ⊤ Stop) → OpensWord f p old new at result → (rest : Reading A)
      → read_over f p regs (words (written_steps regs at) (λ w. rest)) (pages_so_far p old) ≡ went_on result (λ x. read_over f p regs rest (pages_so_far p new))
  open_runs {A} old new at result h rest =
      steps_then (written_steps regs at) rest (pages_so_far p old) ∙ ap (λ (x : Outcome Need ⊤). behind_on x (λ r. read_over f p regs rest r)) (h.is regs) ∙ by result
    where
      by : (r : Result ⊤ Stop) → behind_on (went_on r (leaves (pages_so_far p new))) (λ q. read_over f p regs rest q) ≡ went_on r (λ x. read_over f p regs rest (pages_so_far p new))
      by (Ok x) = refl
      by (Err e) = refl

-- what the reader's fork refers to a fork refers to that it stands for
pub opened_by : (f : ForkName) (p : Framed) (old new : Reader) (at : ℕ) (result : Result ⊤ Stop) → Stands f p old → (Stands old.fork p old → OpensWord old.fork p old new at result) → OpensWord f p old new at result
opened_by f p old new at result stands told = subst (λ (g : ForkName). OpensWord g p old new at result) stands.fork (told (subst (λ (g : ForkName). Stands g p old) (sym stands.fork) stands))
