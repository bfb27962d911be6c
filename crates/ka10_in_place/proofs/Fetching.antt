-- Fetches from a page that was found, and what a unit leaves of it.
use Rattle.std.proofs.Common.{◌≡◌, ℕ, ◌+◌, ◌/◌, ◌%◌, true, false, cond, List, Option, None, Some, refl, sym, ◌∙◌, ap, subst, arith}
use Rattle.std.specs.Ordering.{nat_cmp}
use Rattle.outside.specs.declared.TheConstants.{PAGE_WORDS}
use Rattle.machine_names.specs.declared.names.ForkName.{ForkName}
use Rattle.machine_names.specs.declared.names.Kind.{Kind}
use Rattle.machine_names.specs.declared.names.Kind.TheVariants.{Execute, Write}
use Rattle.plain_units.specs.declared.registers.Regs.{Regs}
use Rattle.page_contracts.specs.declared.answers.Found.{Found}
use Rattle.page_contracts.specs.declared.answers.SpaceHandle.{SpaceHandle}
use Rattle.plain_units.specs.declared.unit.Put.{Put}
use Rattle.plain_units.specs.declared.unit.TheConstants.{MOST_REFERENCES}
use Rattle.plain_pages.specs.PlainPages.{NumberedPages}
use Rattle.page_contracts.specs.Pages.{PagesMeaning, StaysPut}
use Rattle.plain_pages.specs.References.{Making, in_map, slot_at}
use Rattle.plain_units.specs.Steps.{Steps, refers, widens, keeps, ends, traps, calls, is_accumulator, put_into}
use Rattle.plain_units.specs.Addressing.{opcode, ac_field}
use Rattle.plain_units.specs.Instructions.{instruction}
use Rattle.std.specs.Prelude.{nat_le}
use Rattle.ka10_in_place.specs.declared.fetch_page.FetchPage.{FetchPage}
use Rattle.ka10_spots.specs.Once.{After, once}
use Rattle.ka10_spots.specs.Glide.{makes_none, is_ready, word_of, glide, Addressed, Takes}
use Rattle.ka10_in_place.specs.InPlace.{Addressee}
use Rattle.ka10_in_place.specs.Fetches.{Has, IsThere, CanExecute, Executes}
use Rattle.ka10_spots.proofs.Stored.{makings_stored}
use Rattle.ka10_in_place.proofs.Gliding.{through, once_glides}
use Rattle.ka10_in_place.proofs.Units.{unit_glides}

-- an instruction word with its fields, its address and the rest of its unit
pub executes : (f : ForkName) (p : NumberedPages) (regs : Regs) (w op ac e last : ℕ) (a : After nat_cmp) → op ≡ opcode w → ac ≡ ac_field w → Addressed f p regs.ac 1 13 w e last → Addressee op regs ac e last f p a → Executes regs w f p a
executes f p regs w op ac e last a is_op is_ac at rest = record {
  e = e;
  last = last;
  address = at;
  rest = subst (λ (o : ℕ). Addressee o regs (ac_field w) e last f p a) is_op (subst (λ (x : ℕ). Addressee op regs x e last f p a) is_ac rest);
}

-- a page of no addresses
pub has_none : {A : Type 0} (page : FetchPage) (at : ℕ) → page.length ≡ 0 → Has page at → A
has_none page at none has = absurd (omega (arith, has.from, has.below))

module _ {P : Type 0} (means : PagesMeaning P) (space : SpaceHandle) where
  -- a page stays where it was found
  pub there_still : (s t : P) (page : FetchPage) → StaysPut means s t → IsThere means space s page → IsThere means space t page
  there_still s t page stays there at has =
      let h = there at has in
      record { high = h.high; place = ap (λ (place : SpaceHandle → ℕ → Option Found). place space (at / PAGE_WORDS)) stays.place ∙ h.place }

-- a reference stays ready where a word is stored
module _ (f : ForkName) (p : NumberedPages) where
  ready_put : (put : Option Put) (a : ℕ) (kind : Kind) → is_ready f (put_into f p put) a kind ≡ is_ready f p a kind
  ready_put None a kind = refl
  ready_put (Some put) a kind =
      ap (λ (ms : Option (List (Making ℕ))). cond (is_accumulator a) true (makes_none ms)) (makings_stored p (in_map (slot_at f put.at)) (in_map (slot_at f a)) (put.at % PAGE_WORDS) put.word kind)

  module _ (ac : List ℕ) (x : After nat_cmp) (a : ℕ) (kind : Kind) where
    -- and behind steps whose references all go through as the pages are
    ready_glided : (k : Steps) (n : ℕ) → glide f p ac n k ≡ Some x → is_ready f x.pages a kind ≡ is_ready f p a kind
    unfolding glide
    ready_glided (refers b by next) n h = ready_glided (next (word_of f p ac b)) (n + 1) (through (nat_le MOST_REFERENCES n) (is_ready f p b by) _ x h).2
    ready_glided (widens b next) n h = ready_glided next n (through false (is_ready f p b Write) _ x h).2
    ready_glided (keeps b w next) n h = absurd (cc h)
    ready_glided (ends e) n h =
        let left : After nat_cmp = record { pages = put_into f p e.put; regs = e.regs; post = e.post } in
        let same : left ≡ x = cc h in
        ap (λ (y : After nat_cmp). is_ready f y.pages a kind) (sym same) ∙ ready_put e.put a kind
    ready_glided (traps channel) n h = absurd (cc h)
    ready_glided (calls number) n h = absurd (cc h)

  -- a unit behind its fetch leaves words that can be fetched
  pub unit_fetched : (regs : Regs) (w : ℕ) (a : After nat_cmp) (page : FetchPage) → CanExecute f p page → Takes f p regs.ac regs.pc Execute w → Executes regs w f p a → CanExecute f a.pages page × (once f p regs ≡ Some a)
  unit_fetched regs w a page can takes executes =
      let done = unit_glides f p regs w executes.e executes.last a takes executes.address executes.rest in
      (λ b has. ready_glided regs.ac a b Execute (instruction regs) 0 done ∙ can b has, once_glides f p regs a done)
