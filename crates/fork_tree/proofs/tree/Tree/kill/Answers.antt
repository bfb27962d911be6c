use Rattle.std.proofs.Common.{◌≡◌, ◌∙◌, sym, ap, subst, Some}
use Rattle.std.specs.FinMap as map
use Rattle.fork_tree.specs.Inferiors.{HasNoInferior}
use Rattle.plain_model.specs.Trees.{PlainTree}
use Rattle.fork_tree.proofs.Kept.{killed_tree}
use Rattle.fork_tree.proofs.Leaves.{nobodys_superior}
use Rattle.fork_tree.proofs.Slots.{held_lives, some_of}
use Rattle.fork_tree.proofs.Reading.{quiet_gone}
use Rattle.fork_tree.proofs.tree.Tree.kill.Goals as goal

pub invariant_of-self : goal.invariant_of-self
invariant_of-self c =
    let t = c.self.inside in
    let forks = ap (λ tree. tree.forks) c.self.view_is in
    let f = some_of (map.get c.args.self.now.forks c.args.name) c.requires.lives in
    let there : map.get t.forks c.args.name ≡ Some f.0 = ap (λ m. map.get m c.args.name) forks ∙ f.1 in
    let name = c.self.invariant.tree.slotted.own c.args.name f.0 there in
    let leaf : HasNoInferior t.forks f.0.name = subst (λ n. HasNoInferior t.forks n) (sym name) (subst (λ m. HasNoInferior m c.args.name) (sym forks) c.requires.leaf) in
    let tree : PlainTree = record { forks = t.forks; serials = t.serials.items } in
    let lives = held_lives t.forks c.self.invariant.tree.slotted c.args.name f.0 there in
    rw c.remove.ensures (record {
      tree = rw (← name) (killed_tree tree f.0 c.self.invariant.tree lives (nobodys_superior tree c.self.invariant.tree f.0 lives leaf));
      terminals = c.self.invariant.terminals;
      quiet = quiet_gone t.forks t.notes.items c.args.name c.self.invariant.quiet;
    })
