use Rattle.std.proofs.Common.{true, sym, ◌∙◌, ap, subst}
use Rattle.std.specs.FinMap as map
use Rattle.fork_tree.specs.Making.{last_name}
use Rattle.fork_lists.specs.Following.{started_if}
use Rattle.fork_lists.specs.Ties.{ComesOn, Living}
use Rattle.fork_lists.proofs.MakerTied.{left_living, maker_size, maker_tied, maker_waits}
use Rattle.fork_lists.proofs.Nearing.{on_then, start_nears}
use Rattle.fork_lists.proofs.lists.ForkLists.follow_maker.Goals as goal

pub follow_newest-requires-clause-living : goal.follow_newest-requires-clause-living
follow_newest-requires-clause-living c =
    subst (Living c.args.tree.now.forks) (sym c.follow_slot.ensures.schedule) (left_living c.args.tree.now c.are_trees.ensures c.args.who c.args.slot c.args.self.now c.requires.can)

pub returns-clause-schedule : goal.returns-clause-schedule
returns-clause-schedule c =
    let now = c.args.tree.now in
    c.follow_newest.ensures.schedule ∙ ap (started_if now.forks (λ f. true) (map.get now.forks (last_name now c.args.who.tty))) c.follow_slot.ensures.schedule

pub returns-clause-tied : goal.returns-clause-tied
returns-clause-tied c =
    let now = c.args.tree.now in
    let newest = c.follow_newest.ensures in
    maker_tied now c.are_trees.ensures c.args.who c.args.slot c.args.self.now c.requires.can c.follow_slot.new.self c.follow_slot.ensures.mine c.follow_slot.ensures.others
    c.follow_newest.new.self newest.mine newest.others newest.none
    (returns-clause-schedule c)

pub returns-clause-comes_on : goal.returns-clause-comes_on
returns-clause-comes_on c = λ f runs here.
    let now = c.args.tree.now in
    let left = c.follow_slot.new.self.sched in
    let one = c.follow_slot.ensures.comes_on f runs here in
    let found = map.get now.forks (last_name now c.args.who.tty) in
    subst (ComesOn f c.args.self.now.sched) (sym c.follow_newest.ensures.schedule)
    (on_then f c.args.self.now.sched left (started_if now.forks (λ x. true) found left) one (start_nears now.forks f runs (λ x. true) found left one.nears.timed one.nears.here))

pub returns-clause-waits : goal.returns-clause-waits
returns-clause-waits c =
    let now = c.args.tree.now in
    maker_waits now c.are_trees.ensures c.args.who c.args.slot c.args.self.now c.requires.can c.follow_slot.new.self c.follow_slot.ensures.mine c.follow_slot.ensures.others
    c.follow_newest.new.self c.follow_newest.ensures.mine c.follow_newest.ensures.others c.follow_newest.ensures.none
    (returns-clause-schedule c)

pub returns-clause-set : goal.returns-clause-set
returns-clause-set c =
    let now = c.args.tree.now in
    maker_size now c.are_trees.ensures c.args.who c.args.slot c.args.self.now c.requires.can c.follow_slot.new.self c.follow_slot.ensures.mine c.follow_slot.ensures.others
    c.follow_newest.new.self c.follow_newest.ensures.mine c.follow_newest.ensures.others c.follow_newest.ensures.none
    (returns-clause-schedule c)
