-- The unit of a fork: its instruction, or what its inspection came to; and what an inspection leaves of pages.
use Rattle.std.proofs.Common.{◌≡◌, ℕ, Bool, true, false, cond, None, refl, ◌∙◌, ap, Ordering}
use Rattle.plain_pages.specs.PlainPages.{PlainPages}
use Rattle.plain_units.specs.Blocks.{steps_on}
use Rattle.plain_units.specs.Steps.{Steps}
use Rattle.plain_units.proofs.PageRuns.{PlanLeaves}
use Rattle.script_texts.specs.declared.status.ForkStatus.TheVariants.{Forced}
use Rattle.plain_model.specs.declared.call.End.{End}
use Rattle.plain_model.specs.declared.call.End.TheVariants.{Done}
use Rattle.plain_model.specs.declared.fork.Fork.{Fork}
use Rattle.plain_model.specs.declared.interrupt.Delivery.{Delivery}
use Rattle.plain_model.specs.declared.interrupt.Inspected.{Inspected}
use Rattle.plain_model.specs.declared.interrupt.Inspected.TheVariants.{Nothing, Delivers, Forces}
use Rattle.plain_model.specs.Calls.{ends, no_files, turn_on}
use Rattle.plain_model.specs.Forks.{with_status}
use Rattle.plain_model.specs.Inspections.{inspected, inspected_by, inspection, is_interrupted}
use Rattle.plain_model.specs.State.{PlainState}
use Rattle.plain_model.specs.Unit.{Effect, decided, instruction_unit, interrupted_unit, taken_up, unit_ended, unit_of}
use Rattle.plain_model.proofs.JfnEnds.{reading_comes}

-- A UNIT IS THAT OF THE INSTRUCTION, a delivery, or the end of a fork that is forced
module _ (Holds : Effect → Type 0) (s : PlainState) (f : Fork) where
  pub unit_by : (unit_of s f ≡ instruction_unit s f → Holds (instruction_unit s f)) → ((d : Delivery) → inspected_by (inspected f s.pages).end ≡ Delivers d → Holds (taken_up s (inspected f s.pages).pages f d))
      → ((channel : ℕ) → inspected_by (inspected f s.pages).end ≡ Forces channel → Holds (unit_ended s (with_status f (Forced channel)) (Forced channel))) → Holds (unit_of s f)
  unit_by plain takes forces = by (is_interrupted f.body.psi) refl
    where
      what : is_interrupted f.body.psi ≡ true → (x : Inspected) → inspected_by (inspected f s.pages).end ≡ x → Holds (decided s f (inspected f s.pages).pages x)
      what on Nothing is = plain (ap (λ b. cond b (interrupted_unit s f) (instruction_unit s f)) on ∙ ap (decided s f (inspected f s.pages).pages) is)
      what on (Delivers d) is = takes d is
      what on (Forces channel) is = forces channel is

      by : (b : Bool) → is_interrupted f.body.psi ≡ b → Holds (cond b (interrupted_unit s f) (instruction_unit s f))
      by true on = what on (inspected_by (inspected f s.pages).end) refl
      by false off = plain (ap (λ b. cond b (interrupted_unit s f) (instruction_unit s f)) off)

-- what steps of a fork keep of pages, its inspection keeps
module _ {K : Type 0} {file_cmp : K → K → Ordering} (f : Fork) (After : PlainPages file_cmp → Type 0) (runs : (q : PlainPages file_cmp) → After q → (steps : Steps) → PlanLeaves After f.name (steps_on f.name f.body.regs steps q)) where
  over : (q : PlainPages file_cmp) (e : End Inspected) → After q → After (turn_on no_files q (ends e)).pages
  unfolding turn_on
  over q e h = h

  pub inspected_keeps : (p : PlainPages file_cmp) → After p → After (inspected f p).pages
  inspected_keeps p h = reading_comes no_files (λ (e : End Inspected) q. After q) After f.name f.body.regs runs (λ q channel k. k) (λ what. ends (Done what f.body.regs None None)) (λ q what k. over q (Done what f.body.regs None None) k) (inspection f) p h
