use Rattle.std.proofs.Common.{refl}
use Rattle.std.specs.FinMap as map
use Rattle.plain_model.specs.Trees.{with_mark}
use Rattle.fork_tree.proofs.Kept.{changed_look}
use Rattle.fork_tree.proofs.Slots.{held_lives}
use Rattle.fork_tree.proofs.Reading.{quiet_marked}
use Rattle.fork_tree.proofs.tree.Tree.freeze.Goals as goal

pub invariant_of-self : goal.invariant_of-self
invariant_of-self c =
    let t = c.self.inside in
    let held = held_lives t.forks c.self.invariant.tree.slotted c.args.name in
    rw c.set_mark.ensures (record {
      tree = changed_look (record { forks = t.forks; serials = t.serials.items }) (with_mark c.args.on) (λ k. refl) (λ k. refl) (λ k. refl) c.self.invariant.tree (map.get t.forks c.args.name) held;
      terminals = c.self.invariant.terminals;
      quiet = quiet_marked t.forks t.notes.items c.args.on (map.get t.forks c.args.name) held c.self.invariant.quiet;
    })
