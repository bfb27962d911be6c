-- A reading over pages of which some are in no frame: where it needs nothing first it is that over the plain ones.
use Rattle.std.proofs.Common.{◌≡◌, ℕ, refl, sym, ap, subst}
use Rattle.std.specs.Prelude.{slice_index}
use Rattle.std.specs.Ordering.{nat_cmp}
use Rattle.machine_names.specs.declared.names.ForkName.{ForkName}
use Rattle.plain_units.specs.declared.registers.Regs.{Regs}
use Rattle.plain_pages.specs.PlainPages.{NumberedPages}
use Rattle.page_contracts.specs.declared.answers.Need.{Need}
use Rattle.plain_units.specs.Steps.{Planned, begun, call, done, need, pages_left, plainly, run, stopped, trap}
use Rattle.plain_model.specs.Readings.{Reading, read, words}
use Rattle.ka10_unit.specs.Gathers.{Framed}
use Rattle.ka10_unit.specs.Taking.{IsPlain as IsPlainPlan, Plan, run_over}
use Rattle.ka10_unit.proofs.Plainly.{runs_plainly}
use Rattle.text_pointers.specs.Outcomes.{IsPlain, Outcome, goes_on, read_on, read_over, reads}

module _ (f : ForkName) (p : Framed) (regs : Regs) where
  pub reads_plainly : {A : Type 0} (reading : Reading A) (q : NumberedPages) → IsPlain (read_over f p regs reading q) (read_on f regs reading q)
  unfolding reads
  reads_plainly {A} (words steps rest) q = by (run_over f p steps (begun q regs.ac)) (run (plainly f) f steps (begun q regs.ac)) (runs_plainly f p steps (begun q regs.ac)) (λ r w. reads_plainly (rest w) r)
    where
      over : NumberedPages → ℕ → Outcome Need A
      over r w = read_over f p regs (rest w) r

      on : NumberedPages → ℕ → Outcome ⊥ A
      on r w = read_on f regs (rest w) r

      by : (x : Plan) (y : Planned nat_cmp ⊥) → IsPlainPlan x y → ((r : NumberedPages) (w : ℕ) → IsPlain (over r w) (on r w)) → IsPlain (goes_on f x over) (goes_on f y on)
      by (done t e) y h each = subst (λ (z : Planned nat_cmp ⊥). IsPlain (over (pages_left f t e) (slice_index e.regs.ac 0)) (goes_on f z on)) (sym h) (each (pages_left f t e) (slice_index e.regs.ac 0))
      by (stopped (trap channel)) y h each = ap (λ (z : Planned nat_cmp ⊥). goes_on f z on) h
      by (stopped (need n)) y h each = tt
      by (call number) y h each = ap (λ (z : Planned nat_cmp ⊥). goes_on f z on) h
  reads_plainly (read found) q = refl

-- so it comes to what that comes to
pub plain_of : {A : Type 0} (f : ForkName) (p : Framed) (regs : Regs) (reading : Reading A) (q : NumberedPages) (x : Outcome Need A) → read_over f p regs reading q ≡ x → IsPlain x (read_on f regs reading q)
plain_of {A} f p regs reading q x is = subst (λ (y : Outcome Need A). IsPlain y (read_on f regs reading q)) is (reads_plainly f p regs reading q)
