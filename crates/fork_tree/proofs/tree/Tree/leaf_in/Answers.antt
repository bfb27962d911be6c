use Rattle.std.proofs.Common.{◌≡◌, ◌∙◌, sym, ap, subst, true, None, Some}
use Rattle.std.specs.Option.{option_copied}
use Rattle.fork_tree.specs.Inferiors.{IsLeafBelow}
use Rattle.fork_tree.proofs.Slots.{in_found, in_tells}
use Rattle.fork_tree.proofs.tree.Tree.leaf_in.Goals as goal
use Rattle.fork_tree.proofs.tree.Tree.leaf_in.Goals.{in_default-via-in-Some+else-is_leaf_below, in_default-via-in_default}

pub is_leaf_below-requires : goal.is_leaf_below-requires
is_leaf_below-requires c = (in_tells c.args.self.now.forks c.in-Some.ensures.tree.slotted c.args.who.tty c.args.slot c.in-Some.fork.now (sym c.in-Some.ensures.found)).0

pub returns-in-Some : goal.returns-in-Some
returns-in-Some c = (
  in_tells c.args.self.now.forks c.in-Some.ensures.tree.slotted c.args.who.tty c.args.slot c.in-Some.fork.now (sym c.in-Some.ensures.found),
  c.is_leaf_below.ensures.0 c.if-is_leaf_below.true,
)

pub returns-in_default : goal.returns-in_default
returns-in_default c = λ f is_in leaf.
    let there : option_copied c.fork_at.result ≡ Some f = c.fork_at.ensures.found ∙ in_found c.args.self.now.forks c.fork_at.ensures.tree.slotted c.args.who.tty c.args.slot f is_in in
    elim c.in_default.branch [
      | in_default-via-in-Some+else-is_leaf_below w ↦
          let both : Some w.in-Some.fork.now ≡ Some f = ap option_copied (sym w.in-Some.is) ∙ there in
          let same : w.in-Some.fork.now ≡ f = cc both in
          let yes : w.is_leaf_below.result ≡ true = w.is_leaf_below.ensures.1 (subst (IsLeafBelow c.args.self.now.forks c.args.who) (sym same) leaf) in
          absurd (cc (yes, w.if-is_leaf_below.false))
      | in_default-via-in_default w ↦ (let none : None ≡ Some f = ap option_copied (sym w.in_default.is) ∙ there in absurd (cc none))
    ]
