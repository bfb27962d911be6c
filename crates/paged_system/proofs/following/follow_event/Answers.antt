use Rattle.std.proofs.Common.{ap, inl, inr, subst, sym}
use Rattle.fork_lists.specs.Ties.{AreTied}
use Rattle.job_sched.proofs.Waits.{less_same}
use Rattle.plain_model.specs.Trees.{PlainTree}
use Rattle.paged_system.proofs.Awoken.{unmoved}
use Rattle.paged_system.proofs.following.follow_event.Goals as goal

pub follow_job-requires-clause-had : goal.follow_job-requires-clause-had
follow_job-requires-clause-had c =
    let h = c.requires.had in
    record { old = h.old; trees = h.trees; tied = h.tied; changed = c.in-Some.ensures.1 h.changed.0 h.old c.args.tree.now h.changed.1 }

pub returns-in-Some-clause-moved : goal.returns-in-Some-clause-moved
returns-in-Some-clause-moved c old trees tied became = c.follow_job.ensures.moved old trees tied (c.in-Some.ensures.1 became.0 old c.args.tree.now became.1)

pub returns-in_default-clause-moved : goal.returns-in_default-clause-moved
returns-in_default-clause-moved c old trees tied became = elim (c.in-None.ensures) [
  | inl tick ↦ absurd (c.in_default.not-Tick tick)
  | inr stays ↦ unmoved old.forks c.args.tree.now.forks c.args.lists.now.sched (ap (λ (x : PlainTree). x.forks) (stays became.0 old c.args.tree.now became.1))
]

pub returns-in_default-clause-tied : goal.returns-in_default-clause-tied
returns-in_default-clause-tied c =
    let h = c.requires.had in
    elim (c.in-None.ensures) [
      | inl tick ↦ absurd (c.in_default.not-Tick tick)
      | inr stays ↦ subst (λ (x : PlainTree). AreTied x.forks c.args.lists.now) (sym (stays h.changed.0 h.old c.args.tree.now h.changed.1)) h.tied
    ]

pub returns-in_default-clause-waits : goal.returns-in_default-clause-waits
returns-in_default-clause-waits c = less_same c.args.lists.now.sched.waiting
