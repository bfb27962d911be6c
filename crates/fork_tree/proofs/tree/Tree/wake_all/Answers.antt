use Rattle.std.proofs.Common.{◌≡◌, ◌-◌, ◌+◌, suc, ◌∙◌, sym, ap, refl, arith}
use Rattle.std.specs.List.{range_with_len}
use Rattle.plain_model.specs.Trees.{PlainTree, job_changed}
use Rattle.fork_tree.specs.Waking.{freed_of}
use Rattle.fork_tree.proofs.Waking.{by_slots, changed_in}
use Rattle.fork_tree.proofs.tree.Tree.wake_all.Goals as goal

pub loop-slot-init : goal.loop-slot-init
loop-slot-init c = record { tree = c.are_trees.ensures; forks = refl; serials = refl }

pub loop-slot-preserved : goal.loop-slot-preserved
loop-slot-preserved c =
    let old = c.loop-slot.self in
    let t = c.args.tty in
    let slot = c.loop-slot.slot in
    let change = freed_of c.args.awaited in
    let step : 31 - slot ≡ suc (31 - (slot + 1)) = omega arith in
    record {
      tree = c.loop-slot.invariant.tree;
      forks =
          ap (λ (x : PlainTree). changed_in change x.forks t (range_with_len (slot + 1) (31 - (slot + 1)))) c.wake.ensures
          ∙ sym (ap (λ n. changed_in change old.forks t (range_with_len slot n)) step)
          ∙ c.loop-slot.invariant.forks;
      serials = ap (λ (x : PlainTree). x.serials) c.wake.ensures ∙ c.loop-slot.invariant.serials;
    }

pub returns : goal.returns
returns c =
    let last = c.loop-slot.self in
    let t = c.args.tty in
    let change = freed_of c.args.awaited in
    let over : 31 - c.loop-slot.slot ≡ 0 = omega arith in
    let all : last.forks ≡ job_changed change t c.args.self.now.forks =
    sym (ap (λ n. changed_in change last.forks t (range_with_len c.loop-slot.slot n)) over) ∙ c.loop-slot.invariant.forks
    ∙ by_slots change (λ f. (refl, refl, refl)) t c.args.self.now c.loop-slot.invariant.tree in
    λ i. record { forks = all i; serials = c.loop-slot.invariant.serials i }
