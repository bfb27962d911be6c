-- What the reading of a turn needs first is the home of one of the turn's names.
use Rattle.std.proofs.Common.{◌≡◌, ℕ, List, [], ◌++◌, true, Option, ◌∙◌, ap, refl}
use Rattle.std.specs.Prelude.{slice_index}
use Rattle.std.specs.Ordering.{nat_cmp}
use Rattle.machine_names.specs.declared.names.ForkName.{ForkName}
use Rattle.machine_names.specs.declared.names.PageName.{PageName}
use Rattle.page_homes.specs.declared.homes.Home.{Home}
use Rattle.page_contracts.specs.declared.answers.Need.{Need}
use Rattle.page_contracts.specs.declared.answers.Need.TheVariants as need
use Rattle.plain_pages.specs.PlainPages.{NumberedPages}
use Rattle.plain_units.specs.declared.registers.Regs.{Regs}
use Rattle.plain_units.specs.Steps.{Ending, Planned, begun, call, done, need as needs, pages_left, stopped, trap}
use Rattle.plain_units.specs.Blocks.{steps_on}
use Rattle.plain_model.specs.Calls.{Sight, Turn, stepped}
use Rattle.plain_model.specs.Readings.{Reading, read, with_reading, words}
use Rattle.plain_model.specs.declared.call.End.{End}
use Rattle.ka10_unit.specs.Gathers.{Framed, asks}
use Rattle.ka10_unit.specs.Taking.{Plan, run_over}
use Rattle.ka10_unit.proofs.Plainly.{plain_of}
use Rattle.text_pointers.specs.Outcomes.{Outcome, goes_on, read_over, reads, stops}
use Rattle.step_wants.specs.Names.{Housed, is_named, names_of_steps, names_of_turn}
use Rattle.step_wants.specs.Naming.{AreHomed}
use Rattle.step_wants.proofs.Stepping.{steps_named}
use Rattle.step_wants.proofs.Turning.{named_front, named_later}

module _ (map_home : ForkName → Option ℕ) (page_home : PageName → Option ℕ) (home : Home) (f : ForkName) (p : Framed) (regs : Regs) (homed : AreHomed map_home page_home p.scene)
    {F C A : Type 0} (sight : Sight F ℕ) (at_end : End C → List Housed) (next : A → Turn F C) where
  abbrev Named : List Housed → Type 0
  Named names = is_named map_home page_home names home.0 ≡ true

  abbrev Needed : Outcome Need A → Type 0
  Needed o = o ≡ stops (needs (need.Page home))

  pub reading_named : (r : Reading A) (q : NumberedPages) → Needed (read_over f p regs r q) → Named (names_of_turn sight at_end q (with_reading f regs r next))
  unfolding with_reading reads names_of_turn
  reading_named (read found) q is = absurd (cc is)
  reading_named (words steps rest) q is = by (run_over f p steps (begun q regs.ac)) refl is (λ w q'. reading_named (rest w) q')
    where
      front : List Housed
      front = names_of_steps f steps (begun q regs.ac)

      behind : NumberedPages → Ending → List Housed
      behind q' e = names_of_turn sight at_end q' (with_reading f regs (rest (slice_index e.regs.ac 0)) next)

      over : NumberedPages → ℕ → Outcome Need A
      over q' w = reads (asks f p) f regs (rest w) q'

      by : (plan : Plan) → run_over f p steps (begun q regs.ac) ≡ plan → Needed (goes_on f plan over)
          → ((w : ℕ) (q' : NumberedPages) → Needed (over q' w) → Named (names_of_turn sight at_end q' (with_reading f regs (rest w) next)))
          → Named (front ++ stepped f (steps_on f regs steps q) behind (λ channel. []))
      by (done t e) at so each =
          let plain : steps_on f regs steps q ≡ done t e = plain_of f p steps (begun q regs.ac) (done t e) at in
          named_later map_home page_home home front (stepped f (steps_on f regs steps q) behind (λ channel. []))
          (ap (λ (x : Planned nat_cmp ⊥). is_named map_home page_home (stepped f x behind (λ channel. [])) home.0) plain ∙ each (slice_index e.regs.ac 0) (pages_left f t e) so)
      by (stopped (needs m)) at so each =
          let same : m ≡ need.Page home = cc so in
          named_front map_home page_home home front (stepped f (steps_on f regs steps q) behind (λ channel. []))
          (steps_named map_home page_home f p home homed steps (begun q regs.ac) (at ∙ ap (λ (n : Need). stopped (needs n)) same))
      by (stopped (trap channel)) at so each = absurd (cc so)
      by (call number) at so each = absurd (cc so)
