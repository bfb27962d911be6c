use Rattle.std.proofs.Common.{◌≡◌, sym, ◌∙◌, ap, subst}
use Rattle.plain_model.specs.Calls.{ends, numbered, Turn}
use Rattle.plain_model.specs.InterruptCalls.{interrupt_calls}
use Rattle.job_forks.specs.Asking.{asked}
use Rattle.job_forks.proofs.CallLeaving.{none_grown, places_leave}
use Rattle.psi_calls.specs.Steps.{whole}
use Rattle.psi_calls.specs.Turning.{Turned}
use Rattle.psi_calls.proofs.Ended.{ends_turned}
use Rattle.psi_calls.proofs.turn.call.Goals as goal
use Rattle.plain_model.specs.declared.call.InterruptChange.{InterruptChange}

pub returns-in-Ends-clause-told : goal.returns-in-Ends-clause-told
returns-in-Ends-clause-told g c =
    let means = g.P.Pages.means in
    let s = c.args.pages.now in
    let a = asked c.args.who c.args.regs.now c.args.tree.now in
    let turn : ends c.in-Ends.ending ≡ numbered interrupt_calls c.args.number a = ap (whole a) (sym c.in-Ends.is) ∙ c.first.ensures.turn in
    subst (λ (t : Turn ⊥ InterruptChange). Turned means s s c.args.tree.now c.end.new.tree c.args.line.now c.end.new.line c.args.who.tty c.end.result t) turn
    (ends_turned c.args.tree.now c.end.new.tree c.args.line.now c.end.new.line c.args.who.tty means s c.end.result c.in-Ends.ending c.end.ensures.answer c.end.ensures.told)

pub returns-in-Ends-clause-leaves : goal.returns-in-Ends-clause-leaves
returns-in-Ends-clause-leaves g c =
    let means = g.P.Pages.means in
    let s = c.args.pages.now in
    places_leave means c.args.who c.args.tree.now 128 s s (none_grown means c.args.who.tty s) c.requires.holds c.end.new.tree c.are_trees.ensures.slotted c.end.ensures.trees.slotted c.end.ensures.same c.end.ensures.kept c.end.ensures.others

pub returns-in-Dismisses-clause-stays : goal.returns-in-Dismisses-clause-stays
returns-in-Dismisses-clause-stays g c = c.dismiss.ensures.stays c.args.line.now
