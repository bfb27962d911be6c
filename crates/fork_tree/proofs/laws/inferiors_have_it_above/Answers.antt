use Rattle.std.proofs.Common.{◌∙◌, ap, sym}
use Rattle.machine_names.specs.Orders.{same_fork}
use Rattle.machine_names.specs.declared.names.TheConstants.{MOST_FORKS}
use Rattle.plain_model.specs.declared.fork.Fork.{Fork}
use Rattle.fork_tree.proofs.Leaves.{inferior_is, inferior_lives}
use Rattle.fork_tree.proofs.Slots.{held_lives, names_same, same_itself}
use Rattle.fork_tree.proofs.Upward.{ancestor_any, any_ancestor}
use Rattle.fork_tree.proofs.laws.inferiors_have_it_above.Goals as goal

pub returns : goal.returns
returns c = λ tree who name is. (
  λ below.
      let f = inferior_lives tree is who name below in
      let p = λ (k : Fork). same_fork k.name who in
      let a = any_ancestor tree is p MOST_FORKS f.0 (sym (inferior_is tree.forks who name f.0 f.1) ∙ below) in
      record { fork = f.0; lives = f.1; over = a.0; named = names_same a.0.name who a.2; ancestor = a.1 },
  λ h.
      inferior_is tree.forks who name h.fork h.lives
      ∙ ancestor_any tree is (λ k. same_fork k.name who) h.ancestor.0 h.fork h.over (held_lives tree.forks is.slotted name h.fork h.lives) h.ancestor.1 (ap (λ n. same_fork n who) h.named ∙ same_itself who),
)
