use Rattle.std.proofs.Common.{◌∙◌, sym}
use Rattle.fork_tree.proofs.Leaves.{inferior_is}
use Rattle.fork_tree.proofs.tree.Tree.is_leaf_below.Goals as goal

pub returns-then-has_superior : goal.returns-then-has_superior
returns-then-has_superior c =
    let f = c.args.fork.now in (
      λ e. record {
        lives = c.requires;
        below = inferior_is c.args.self.now.forks c.args.who f.name f c.requires ∙ (sym c.has_superior.ensures ∙ c.if-has_superior.true);
        leaf = c.is_leaf.ensures.0 e;
      },
      λ h. c.is_leaf.ensures.1 h.leaf,
    )

pub returns-else-has_superior : goal.returns-else-has_superior
returns-else-has_superior c =
    let f = c.args.fork.now in
    (λ e. absurd (cc (e, c.if-has_superior.false)), λ h. c.has_superior.ensures ∙ (sym (inferior_is c.args.self.now.forks c.args.who f.name f c.requires) ∙ h.below))
