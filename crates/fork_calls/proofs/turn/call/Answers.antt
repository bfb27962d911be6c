use Rattle.std.proofs.Common.{◌≡◌, sym, ◌∙◌, ap, subst, arith}
use Rattle.plain_model.specs.Calls.{Turn}
use Rattle.plain_model.specs.declared.call.ForkChange.{ForkChange}
use Rattle.plain_model.specs.ForkCalls.{fork_call}
use Rattle.ka10_unit.specs.Taking.{most_frames, read_frames}
use Rattle.job_forks.specs.Asking.{asked}
use Rattle.fork_calls.specs.Needing.{call_frames, making_frames}
use Rattle.fork_calls.specs.Steps.{MakesOrFails, whole}
use Rattle.fork_calls.specs.declared.step.FirstStep.TheVariants.{Ends}
use Rattle.fork_calls.specs.Turning.{Turned}
use Rattle.fork_calls.proofs.Adding.{adds_nobody}
use Rattle.job_forks.proofs.Branch.{plans_none}
use Rattle.job_forks.proofs.Holdings.{caller_serves, caller_terminal}
use Rattle.fork_calls.proofs.Needed.{answer_more}
use Rattle.fork_calls.proofs.turn.call.Goals as goal

pub first-requires-clause-terminal : goal.first-requires-clause-terminal
first-requires-clause-terminal g c = caller_terminal c.args.tree.now.forks c.are_trees.ensures.slotted c.args.who c.requires.lives

pub make-requires-clause-serves : goal.make-requires-clause-serves
make-requires-clause-serves g c = caller_serves g.P.Pages.means c.args.pages.now c.args.tree.now.forks c.are_trees.ensures.slotted c.args.who c.requires.lives c.requires.holds

pub set_accumulators-requires-clause-serves : goal.set_accumulators-requires-clause-serves
set_accumulators-requires-clause-serves g c = caller_serves g.P.Pages.means c.args.pages.now c.args.tree.now.forks c.are_trees.ensures.slotted c.args.who c.requires.lives c.requires.holds

pub store_accumulators-requires-clause-serves : goal.store_accumulators-requires-clause-serves
store_accumulators-requires-clause-serves g c = caller_serves g.P.Pages.means c.args.pages.now c.args.tree.now.forks c.are_trees.ensures.slotted c.args.who c.requires.lives c.requires.holds

pub returns-in-Ends-clause-told : goal.returns-in-Ends-clause-told
returns-in-Ends-clause-told g c =
    let a = asked c.args.who c.args.regs.now c.args.tree.now in
    let turn : whole a (Ends c.in-Ends.ending) ≡ fork_call c.args.number a = ap (whole a) (sym c.in-Ends.is) ∙ c.first.ensures.turn in
    subst (λ (t : Turn ⊥ ForkChange). Turned g.P.Pages.means c.args.pages.now c.end.new.pages c.args.tree.now c.end.new.tree c.end.result t) turn (c.end.ensures.told c.args.regs.now)

-- no page was made, and so fewer than may be
pub returns-in-Ends-clause-leaves : goal.returns-in-Ends-clause-leaves
returns-in-Ends-clause-leaves g c =
    let left = c.end.ensures.leaves in
    let made = left.made in
    record {
      holds = left.holds;
      kept = left.kept;
      caller = left.caller;
      tops = left.tops;
      others = left.others;
      made = record { most = made.most; serial = omega (arith, made.serial); serials = made.serials };
      loses = left.loses;
    }

pub returns-in-Ends-clause-needs : goal.returns-in-Ends-clause-needs
returns-in-Ends-clause-needs g c = answer_more g.P.Pages.means.store 1 c.end.new.pages call_frames c.end.result (omega arith) c.end.ensures.needs

pub returns-in-Makes-clause-needs : goal.returns-in-Makes-clause-needs
returns-in-Makes-clause-needs g c = answer_more g.P.Pages.means.store making_frames c.make.new.pages call_frames c.make.result (omega arith) c.make.ensures.needs

pub returns-in-Sets-clause-needs : goal.returns-in-Sets-clause-needs
returns-in-Sets-clause-needs g c = answer_more g.P.Pages.means.store read_frames c.set_accumulators.new.pages call_frames c.set_accumulators.result (omega arith) c.set_accumulators.ensures.needs

pub returns-in-Stores-clause-needs : goal.returns-in-Stores-clause-needs
returns-in-Stores-clause-needs g c = answer_more g.P.Pages.means.store most_frames c.store_accumulators.new.pages call_frames c.store_accumulators.result (omega arith) c.store_accumulators.ensures.needs

pub returns-in-Ends-clause-unmade : goal.returns-in-Ends-clause-unmade
returns-in-Ends-clause-unmade g c n is = plans_none g.P.Pages.means c.args.pages.now c.end.new.pages c.args.who.tty (c.end.ensures.unmade n is)

-- CFORK makes a fork or fails
pub returns-in-Ends-clause-adds : goal.returns-in-Ends-clause-adds
returns-in-Ends-clause-adds g c is =
    let fails = subst MakesOrFails c.in-Ends.is (c.first.ensures.makes is) in
    adds_nobody c.args.who.tty c.args.tree.now c.end.new.tree (c.end.ensures.failed fails.0 fails.1)

pub returns-in-Sets-clause-adds : goal.returns-in-Sets-clause-adds
returns-in-Sets-clause-adds g c is = absurd (subst MakesOrFails c.in-Sets.is (c.first.ensures.makes is))

pub returns-in-Stores-clause-adds : goal.returns-in-Stores-clause-adds
returns-in-Stores-clause-adds g c is = absurd (subst MakesOrFails c.in-Stores.is (c.first.ensures.makes is))
