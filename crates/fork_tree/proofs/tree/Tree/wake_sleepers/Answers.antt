use Rattle.std.proofs.Common.{◌≡◌, refl, suc, ◌-◌, ◌+◌, sym, ◌∙◌, ap, arith}
use Rattle.std.specs.List.{range_with_len}
use Rattle.machine_names.specs.declared.names.TheConstants.{TERMINALS}
use Rattle.plain_model.specs.Trees.{PlainTree, sleepers_awoken}
use Rattle.fork_tree.proofs.Sleepers.{awoken_at, by_terminals}
use Rattle.fork_tree.proofs.tree.Tree.wake_sleepers.Goals as goal

pub loop-tty-init : goal.loop-tty-init
loop-tty-init c = record { tree = c.are_trees.ensures; forks = refl; serials = refl }

pub loop-tty-preserved : goal.loop-tty-preserved
loop-tty-preserved c =
    let old = c.loop-tty.self in
    let clock = c.args.clock in
    let tty = c.loop-tty.tty in
    let step : TERMINALS - tty ≡ suc (TERMINALS - (tty + 1)) = omega arith in
    record {
      tree = c.loop-tty.invariant.tree;
      forks =
          ap (λ (x : PlainTree). awoken_at clock x.forks (range_with_len (tty + 1) (TERMINALS - (tty + 1)))) c.wake_sleepers_of.ensures
          ∙ sym (ap (λ n. awoken_at clock old.forks (range_with_len tty n)) step)
          ∙ c.loop-tty.invariant.forks;
      serials = ap (λ (x : PlainTree). x.serials) c.wake_sleepers_of.ensures ∙ c.loop-tty.invariant.serials;
    }

pub returns : goal.returns
returns c =
    let last = c.loop-tty.self in
    let clock = c.args.clock in
    let over : TERMINALS - c.loop-tty.tty ≡ 0 = omega arith in
    let all : last.forks ≡ sleepers_awoken clock c.args.self.now.forks =
    sym (ap (λ n. awoken_at clock last.forks (range_with_len c.loop-tty.tty n)) over) ∙ c.loop-tty.invariant.forks ∙ by_terminals clock c.args.self.now c.loop-tty.invariant.tree in
    λ i. record { forks = all i; serials = c.loop-tty.invariant.serials i }
