use Rattle.std.proofs.Common.{subst}
use Rattle.ka10_unit.proofs.Carried.{grows_none}
use Rattle.fork_calls.specs.Steps.{IsChangeBelow}
use Rattle.job_forks.specs.Holding.{parts}
use Rattle.job_forks.proofs.CallLeaving.{below_others, none_leaves, places_leave}
use Rattle.fork_calls.proofs.TurnBlocks.{nothing_changes}
use Rattle.fork_calls.proofs.changing.change.Goals as goal

pub returns-in-Nothing-clause-told : goal.returns-in-Nothing-clause-told
returns-in-Nothing-clause-told g c d fits = (fits, nothing_changes c.args.what (parts c.args.tree.now (g.P.Pages.means.plain c.args.pages.now d)) c.in-Nothing.is)

pub returns-in-Nothing-clause-leaves : goal.returns-in-Nothing-clause-leaves
returns-in-Nothing-clause-leaves g c = none_leaves g.P.Pages.means c.args.who c.args.tree.now c.args.pages.now c.requires.holds

pub returns-in-Freeze-clause-leaves : goal.returns-in-Freeze-clause-leaves
returns-in-Freeze-clause-leaves g c =
    places_leave g.P.Pages.means c.args.who c.args.tree.now 0 c.args.pages.now c.args.pages.now (grows_none g.P.Pages.means c.args.who.tty c.args.pages.now) c.requires.holds
    c.set_mark.new.tree c.are_trees.ensures.slotted c.set_mark.ensures.trees.slotted c.set_mark.ensures.same c.set_mark.ensures.kept
    (below_others c.args.tree.now c.are_trees.ensures c.args.who c.in-Freeze.name (subst (IsChangeBelow c.args.tree.now.forks c.args.who) c.in-Freeze.is c.requires.change) c.set_mark.new.tree.forks c.set_mark.ensures.others)

pub returns-in-Become-clause-leaves : goal.returns-in-Become-clause-leaves
returns-in-Become-clause-leaves g c =
    places_leave g.P.Pages.means c.args.who c.args.tree.now 0 c.args.pages.now c.args.pages.now (grows_none g.P.Pages.means c.args.who.tty c.args.pages.now) c.requires.holds
    c.set_body.new.tree c.are_trees.ensures.slotted c.set_body.ensures.trees.slotted c.set_body.ensures.same c.set_body.ensures.kept
    (below_others c.args.tree.now c.are_trees.ensures c.args.who c.in-Become.name (subst (IsChangeBelow c.args.tree.now.forks c.args.who) c.in-Become.is c.requires.change).0 c.set_body.new.tree.forks c.set_body.ensures.others)

pub returns-in-Halt-clause-leaves : goal.returns-in-Halt-clause-leaves
returns-in-Halt-clause-leaves g c =
    places_leave g.P.Pages.means c.args.who c.args.tree.now 0 c.args.pages.now c.args.pages.now (grows_none g.P.Pages.means c.args.who.tty c.args.pages.now) c.requires.holds
    c.halt.new.tree c.are_trees.ensures.slotted c.halt.ensures.trees.slotted c.halt.ensures.same c.halt.ensures.kept
    (below_others c.args.tree.now c.are_trees.ensures c.args.who c.in-Halt.name (subst (IsChangeBelow c.args.tree.now.forks c.args.who) c.in-Halt.is c.requires.change) c.halt.new.tree.forks c.halt.ensures.others)
