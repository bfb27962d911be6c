-- What each reference of a fork and each word that it stores keeps, the steps of its units and calls keep.
use Rattle.std.proofs.Common.{◌≡◌, ℕ, ◌%◌, Bool, true, false, cond, List, [], ◌∷◌, length, Option, None, Some, refl, Ordering}
use Rattle.std.specs.Prelude.{nat_le}
use Rattle.std.proofs.lemmas.Bool.{cond_both}
use Rattle.machine_names.specs.declared.names.ForkName.{ForkName}
use Rattle.machine_names.specs.declared.names.Kind.{Kind}
use Rattle.machine_names.specs.declared.names.Kind.TheVariants.{Write}
use Rattle.machine_names.specs.declared.names.Slot.{Slot}
use Rattle.plain_pages.specs.PlainPages.{PlainPages}
use Rattle.plain_pages.specs.References.{in_map, Referred, granted, denied, full, reference, slot_at, stored}
use Rattle.plain_units.specs.declared.unit.Put.{Put}
use Rattle.plain_units.specs.declared.unit.TheConstants.{MOST_REFERENCES}
use Rattle.plain_units.specs.Steps.{Steps, refers, widens, keeps, ends, traps, calls, Planned, Progress, goes, is_accumulator, goes_on, asked_at, plain_asked, plainly, word_taken, referred, widened, run, put_into}
use Rattle.plain_units.specs.Blocks.{next_address, stored_from}
use Rattle.plain_units.proofs.PageRuns.{PlanLeaves}
use Rattle.outside.specs.declared.TheConstants.{PAGE_WORDS}

module _ {K : Type 0} {file_cmp : K → K → Ordering} (f : ForkName) (Holds : PlainPages file_cmp → Type 0)
    (refers_on : (p q : PlainPages file_cmp) (a : ℕ) (kind : Kind) → Holds p → reference p (in_map (slot_at f a)) kind f.tty ≡ granted q → Holds q)
    (stores_on : (p : PlainPages file_cmp) (s : Slot) (offset word : ℕ) → Holds p → Holds (stored p (in_map s) offset word)) where
  abbrev PlanHolds : Planned file_cmp ⊥ → Type 0
  PlanHolds r = PlanLeaves Holds f r

  asked_led : (q : PlainPages file_cmp) → Holds q → (a : ℕ) (kind : Kind) (next : PlainPages file_cmp → Planned file_cmp ⊥) → ((r : PlainPages file_cmp) → Holds r → PlanHolds (next r)) → PlanHolds (goes_on (asked_at (plainly f) f q a kind) next)
  asked_led q w a kind next leaves = cond_both (is_accumulator a) (goes q) (plainly f q (slot_at f a) kind) (λ x. PlanHolds (goes_on x next)) (λ low. leaves q w) (λ high. by (reference q (in_map (slot_at f a)) kind f.tty) refl)
    where
      by : (r : Referred file_cmp) → reference q (in_map (slot_at f a)) kind f.tty ≡ r → PlanHolds (goes_on (plain_asked r) next)
      by (granted r) is = leaves r (refers_on q r a kind w is)
      by (denied kind) is = tt
      by full is = tt

  put_led : (q : PlainPages file_cmp) → Holds q → (put : Option Put) → Holds (put_into f q put)
  put_led q w None = w
  put_led q w (Some put) = stores_on q (slot_at f put.at) (put.at % PAGE_WORDS) put.word w

  pub run_led : (steps : Steps) (u : Progress file_cmp) → Holds u.pages → PlanHolds (run (plainly f) f steps u)
  unfolding run
  run_led (refers a kind next) u w =
      cond_both (nat_le MOST_REFERENCES (length u.refs)) _ _ PlanHolds (λ most. tt) (λ few. asked_led u.pages w a kind _ (λ q whole. run_led (next (word_taken f (referred u a kind q) a)) (referred u a kind q) whole))
  run_led (widens a next) u w = asked_led u.pages w a Write _ (λ q whole. run_led next (widened u a q) whole)
  run_led (keeps a word next) u w = run_led next (record u { kept = Some (record { at = a; word = word }) }) w
  run_led (ends e) u w = put_led (put_into f u.pages u.kept) (put_led u.pages w u.kept) e.put
  run_led (traps channel) u w = tt
  run_led (calls number) u w = tt

  -- and so do words that are stored from an address on
  pub words_led : (p : PlainPages file_cmp) → Holds p → (at : ℕ) (words : List ℕ) → Holds (stored_from p f at words)
  words_led p w at [] = w
  words_led p w at (word ∷ words) = by (λ q whole. words_led q whole (next_address at) words) (is_accumulator at)
    where
      q : PlainPages file_cmp
      q = stored p (in_map (slot_at f at)) (at % PAGE_WORDS) word

      by : ((r : PlainPages file_cmp) → Holds r → Holds (stored_from r f (next_address at) words)) → (b : Bool) → Holds (stored_from (cond b p q) f (next_address at) words)
      by rest true = rest p w
      by rest false = rest q (stores_on p (slot_at f at) (at % PAGE_WORDS) word w)
