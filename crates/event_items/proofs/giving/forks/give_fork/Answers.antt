use Rattle.std.proofs.Common.{sym, subst}
use Rattle.script_texts.specs.Limits.{FitsForkLine}
use Rattle.fork_tree.proofs.Slots.{in_tells}
use Rattle.event_items.proofs.ForksShown.{line_fits}
use Rattle.event_items.proofs.giving.forks.give_fork.Goals as goal

pub item-requires : goal.item-requires
item-requires g c =
    let tree = c.args.tree.now in
    let is = c.fork_at.ensures.tree in
    let there = in_tells tree.forks is.slotted c.args.t c.args.slot c.in-Some.fork.now (sym c.in-Some.ensures.found) in
    subst FitsForkLine (sym c.line.ensures) (line_fits tree is c.in-Some.fork.now there.0 (c.requires.bodies c.in-Some.fork.now there.0))
