use Rattle.std.proofs.Common.{◌∙◌, sym}
use Rattle.fork_calls.proofs.OtherRuns.{runs_other}
use Rattle.paged_system.proofs.ListsTied.{can_follow, tied_followed}
use Rattle.paged_system.proofs.following.follow_job.Goals as goal

pub follow-requires-clause-can : goal.follow-requires-clause-can
follow-requires-clause-can c =
    let h = c.requires.had in
    can_follow h.old.forks h.trees.slotted c.args.lists.now h.tied c.args.t c.args.tree.now.forks c.are_trees.ensures.slotted h.changed.0

pub returns-clause-moved : goal.returns-clause-moved
returns-clause-moved c old trees tied begins =
    let forks = c.args.tree.now.forks in
    c.follow.ensures.schedule ∙ c.following_is_moving.ensures.job old.forks forks c.args.t c.args.lists.now trees.slotted c.are_trees.ensures.slotted c.requires.terminal tied begins.1
    (λ f apart. sym (runs_other c.args.t old.forks forks trees.slotted c.are_trees.ensures.slotted begins.0 f apart))

pub returns-clause-tied : goal.returns-clause-tied
returns-clause-tied c =
    let h = c.requires.had in
    tied_followed h.old.forks h.trees.slotted c.args.lists.now h.tied c.args.t c.args.tree.now.forks c.are_trees.ensures.slotted h.changed.0 c.follow.new.self c.follow.ensures.follows
