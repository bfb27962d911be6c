use Rattle.std.proofs.Common.{◌≡◌, ◌∙◌, refl, sym, subst, arith, inl, inr}
use Rattle.std.proofs.lemmas.Bool.{cases_lt}
use Rattle.fork_tree.specs.Waking.{NoneSleepsIn, is_by}
use Rattle.fork_tree.proofs.Reading.{neither}
use Rattle.fork_tree.proofs.Slots.{in_found}
use Rattle.fork_tree.proofs.tree.Tree.sleepers_due.Goals as goal

pub loop-slot-init : goal.loop-slot-init
loop-slot-init c = λ clock off slot low high. absurd (omega (arith, low, high))

pub loop-slot-preserved : goal.loop-slot-preserved
loop-slot-preserved c = λ clock off slot low high.
    let calm = neither (is_by c.loop-slot.due clock) (is_by c.slot_due.result clock) (sym (c.sooner-due.ensures clock) ∙ off) in
    elim (cases_lt slot c.loop-slot.slot) [
      | inl before ↦ c.loop-slot.invariant clock calm.0 slot low before
      | inr at ↦
          let here : c.loop-slot.slot ≡ slot = omega (arith, at, high) in
          subst (NoneSleepsIn clock c.args.self.now.forks c.args.tty) here (c.slot_due.ensures clock calm.1)
    ]

pub returns : goal.returns
returns c = λ clock off f lives job.
    let slotted = c.are_trees.ensures.slotted in
    c.loop-slot.invariant clock off f.slot (slotted.first f lives) (omega (arith, slotted.last f lives, c.loop-slot-test.false)) f (in_found c.args.self.now.forks slotted c.args.tty f.slot f (lives, job, refl))
