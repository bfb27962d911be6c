use Rattle.std.proofs.Common.{◌∙◌, subst}
use Rattle.clock_calls.specs.Turning.{Turned}
use Rattle.clock_calls.proofs.Ended.{Left, done_left, ends_turned, other_left}
use Rattle.clock_calls.proofs.turn.call.Goals as goal
use Rattle.clock_calls.proofs.turn.call.Goals.{in-Done, in_default}
use Rattle.plain_model.specs.declared.call.SleepChange.{SleepChange}
use Rattle.plain_model.specs.Calls.{Turn}

pub returns-clause-told : goal.returns-clause-told
returns-clause-told c =
    let tree = c.args.tree.now in
    let tree' = c.match-ending.tree in
    let e = c.ending_of-ending.result in
    let left : Left tree tree' e = elim c.match-ending.branch [
      | in-Done w ↦ done_left tree tree' e w.in-Done.what w.in-Done.regs w.in-Done.out w.in-Done.post w.in-Done.is (w.tree-is ∙ w.change.ensures.told)
      | in_default w ↦ other_left tree tree' e w.in_default.not-Done w.tree-is
    ] in
    subst (λ (t : Turn ⊥ SleepChange). Turned tree tree' c.answer_of.result t) c.ending_of-ending.ensures.turn (ends_turned tree tree' c.answer_of.result e c.answer_of.ensures left)
