use Rattle.monitor_core.proofs.JobOthers.{changes_begins}
use Rattle.paged_system.proofs.Awoken.{unmoved}
use Rattle.paged_system.proofs.following.follow_part.Goals as goal

pub follow_job-requires-clause-had : goal.follow_job-requires-clause-had
follow_job-requires-clause-had c =
    let h = c.requires.had in
    let new = c.args.tree.now.forks in
    record { old = h.old; trees = h.trees; tied = h.tied; changed = changes_begins c.in-Some.t h.old.forks new (c.in-Some.ensures.1 h.old.forks new h.changed) }

pub returns-in-Some-clause-moved : goal.returns-in-Some-clause-moved
returns-in-Some-clause-moved c old trees tied became =
    let new = c.args.tree.now.forks in
    c.follow_job.ensures.moved old trees tied (changes_begins c.in-Some.t old.forks new (c.in-Some.ensures.1 old.forks new became))

pub returns-in-None-clause-moved : goal.returns-in-None-clause-moved
returns-in-None-clause-moved c old trees tied became = unmoved old.forks c.args.tree.now.forks c.args.lists.now.sched (c.in-None.ensures old.forks c.args.tree.now.forks became)
