use Rattle.std.proofs.Common.{sym, ◌∙◌, subst}
use Rattle.plain_model.specs.Forks.{OthersStay}
use Rattle.plain_model.specs.Interrupts.{channels_of}
use Rattle.plain_model.specs.Trees.{PlainTree, with_body}
use Rattle.plain_model.proofs.OtherJobs.{named_others, others_alike, others_itself, posted_others}
use Rattle.job_forks.proofs.Bodies.{body_keeps}
use Rattle.job_forks.proofs.Places.{Keep, keep_itself}
use Rattle.psi_calls.specs.Steps.{IsChange}
use Rattle.psi_calls.specs.Turning.{Changes}
use Rattle.psi_calls.proofs.Changed.{assign_changes, become_changes, post_changes, unassign_changes}
use Rattle.psi_calls.proofs.PostedKeeps.{channels_keep}
use Rattle.psi_calls.proofs.changing.change.Goals as goal
use Rattle.psi_calls.proofs.changing.change.Goals.{in-Become, in-Post, in-Assign, in-Unassign}

pub returns-clause-told : goal.returns-clause-told
returns-clause-told c =
    let tree = c.args.tree.now in
    let tree' = c.match-what.tree in
    let line = c.args.line.now in
    let line' = c.match-what.line in
    let who = c.args.who in
    elim c.match-what.branch [
      | in-Become w ↦ subst (Changes tree tree' line line' who.tty) (sym w.in-Become.is) (become_changes tree tree' line line' who.tty w.in-Become.name w.in-Become.body (w.tree-is ∙ w.set_body.ensures) w.line-is)
      | in-Post w ↦ subst (Changes tree tree' line line' who.tty) (sym w.in-Post.is) (post_changes tree tree' line line' who.tty w.in-Post.name w.in-Post.channels (w.tree-is ∙ w.post_channels.ensures.forks) w.line-is)
      | in-Assign w ↦
          let can = subst (IsChange tree.forks who) w.in-Assign.is c.requires in
          subst (Changes tree tree' line line' who.tty) (sym w.in-Assign.is) (assign_changes tree tree' line line' who w.in-Assign.fork w.in-Assign.code w.in-Assign.channel can.0 w.tree-is (w.line-is ∙ w.assign.ensures))
      | in-Unassign w ↦
          let can = subst (IsChange tree.forks who) w.in-Unassign.is c.requires in
          subst (Changes tree tree' line line' who.tty) (sym w.in-Unassign.is) (unassign_changes tree tree' line line' who.tty w.in-Unassign.field-0 w.in-Unassign.code can w.tree-is (w.line-is ∙ w.unassign.ensures))
    ]

keeps : (c : goal.After-are_trees-2) → Keep c.args.tree.now.forks c.match-what.tree.forks
keeps c =
    let tree = c.args.tree.now in
    let who = c.args.who in
    let own = c.are_trees.ensures.slotted.own in
    elim c.match-what.branch [
      | in-Become w ↦
          let can = subst (IsChange tree.forks who) w.in-Become.is c.requires in
          subst (λ (t : PlainTree). Keep tree.forks t.forks) (sym (w.tree-is ∙ w.set_body.ensures)) (body_keeps tree own w.in-Become.name w.in-Become.body can.1)
      | in-Post w ↦ subst (λ (t : PlainTree). Keep tree.forks t.forks) (sym (w.tree-is ∙ w.post_channels.ensures.forks)) (channels_keep tree.forks own w.in-Post.channels w.in-Post.name)
      | in-Assign w ↦ subst (λ (t : PlainTree). Keep tree.forks t.forks) (sym w.tree-is) (keep_itself tree.forks own)
      | in-Unassign w ↦ subst (λ (t : PlainTree). Keep tree.forks t.forks) (sym w.tree-is) (keep_itself tree.forks own)
    ]

pub returns-clause-same : goal.returns-clause-same
returns-clause-same c = (keeps c).same

pub returns-clause-kept : goal.returns-clause-kept
returns-clause-kept c = (keeps c).come

pub returns-clause-others : goal.returns-clause-others
returns-clause-others c =
    let tree = c.args.tree.now in
    let who = c.args.who in
    let own = c.are_trees.ensures.slotted.own in
    elim c.match-what.branch [
      | in-Become w ↦
          let can = subst (IsChange tree.forks who) w.in-Become.is c.requires in
          let name = w.in-Become.name in
          let here = others_alike who.tty name.tty tree.forks _ can.0 (named_others tree own name (with_body w.in-Become.body)) in
          subst (λ (t : PlainTree). OthersStay who.tty tree.forks t.forks) (sym (w.tree-is ∙ w.set_body.ensures)) here
      | in-Post w ↦
          let can = subst (IsChange tree.forks who) w.in-Post.is c.requires in
          let name = w.in-Post.name in
          let here = others_alike who.tty name.tty tree.forks _ can.0 (posted_others tree.forks own name (channels_of w.in-Post.channels)) in
          subst (λ (t : PlainTree). OthersStay who.tty tree.forks t.forks) (sym (w.tree-is ∙ w.post_channels.ensures.forks)) here
      | in-Assign w ↦ subst (λ (t : PlainTree). OthersStay who.tty tree.forks t.forks) (sym w.tree-is) (others_itself who.tty tree.forks)
      | in-Unassign w ↦ subst (λ (t : PlainTree). OthersStay who.tty tree.forks t.forks) (sym w.tree-is) (others_itself who.tty tree.forks)
    ]
