use Rattle.std.proofs.Common.{◌≡◌, sym, ◌∙◌, ap, subst}
use Rattle.machine_names.specs.declared.names.ForkName.{ForkName}
use Rattle.plain_model.specs.declared.call.SleepChange.{SleepChange}
use Rattle.plain_model.specs.ClockCalls.{clock_changed, without_moment}
use Rattle.plain_model.specs.Forks.{OthersStay}
use Rattle.plain_model.specs.Trees.{with_changed_of}
use Rattle.clock_calls.specs.Turning.{IsChange}
use Rattle.clock_calls.proofs.Slept.{awake_changed, awake_keeps, awake_others, nothing_changed}
use Rattle.clock_calls.proofs.turn.change.Goals as goal

pub returns-in-Nothing-clause-told : goal.returns-in-Nothing-clause-told
returns-in-Nothing-clause-told c = nothing_changed c.args.tree.now ∙ sym (ap (λ (w : SleepChange). clock_changed w c.args.tree.now) c.in-Nothing.is)

pub returns-in-Awakes-clause-told : goal.returns-in-Awakes-clause-told
returns-in-Awakes-clause-told c =
    c.end_sleep.ensures ∙ awake_changed c.args.tree.now c.in-Awakes.name ∙ sym (ap (λ (w : SleepChange). clock_changed w c.args.tree.now) c.in-Awakes.is)

pub returns-in-Awakes-clause-same : goal.returns-in-Awakes-clause-same
returns-in-Awakes-clause-same c = rw c.end_sleep.ensures (awake_keeps c.args.tree.now c.are_trees.ensures.slotted.own c.in-Awakes.name).same

pub returns-in-Awakes-clause-kept : goal.returns-in-Awakes-clause-kept
returns-in-Awakes-clause-kept c = rw c.end_sleep.ensures (awake_keeps c.args.tree.now c.are_trees.ensures.slotted.own c.in-Awakes.name).come

pub returns-in-Awakes-clause-others : goal.returns-in-Awakes-clause-others
returns-in-Awakes-clause-others c =
    let tree = c.args.tree.now in
    let who : c.in-Awakes.name ≡ c.args.who = subst (IsChange c.args.who) c.in-Awakes.is c.requires in
    rw c.end_sleep.ensures (subst (λ (n : ForkName). OthersStay n.tty tree.forks (with_changed_of tree c.in-Awakes.name without_moment).forks) who (awake_others tree c.are_trees.ensures.slotted.own c.in-Awakes.name))
