use Rattle.std.proofs.Common.{◌≡◌, sym, ap, subst}
use Rattle.std.specs.FinMap as map
use Rattle.machine_names.specs.declared.names.ForkName.{ForkName}
use Rattle.plain_model.specs.Forks.{ForkMap}
use Rattle.plain_model.specs.Trees.{PlainTree}
use Rattle.fork_tree.specs.Trees.{AreSlotted}
use Rattle.fork_tree.proofs.Slots.{held_lives, some_of}
use Rattle.job_forks.specs.Holding.{ComeFrom, Holds}
use Rattle.job_forks.proofs.Branch.{dropped_holds}
use Rattle.job_forks.proofs.Places.{fewer_come}
use Rattle.job_forks.proofs.killing.kill_bare.Goals as goal

pub returns-clause-holds : goal.returns-clause-holds
returns-clause-holds g c =
    let forks : ForkMap = c.args.tree.now.forks in
    let f = some_of (map.get forks c.args.name) c.requires.lives in
    let name : f.0.name ≡ c.args.name = c.are_trees.ensures.slotted.own c.args.name f.0 f.1 in
    let gone : c.kill.new.self.forks ≡ map.remove forks c.args.name = ap (λ (t : PlainTree). t.forks) c.kill.ensures in
    let slotted : AreSlotted (map.remove forks c.args.name) = subst AreSlotted gone c.are_trees-2.ensures.slotted in
    let here = dropped_holds g.P.Pages.means c.args.pages.now c.drop_fork.new.self forks f.0 c.are_trees.ensures.slotted (subst (λ (n : ForkName). AreSlotted (map.remove forks n)) (sym name) slotted)
    (held_lives forks c.are_trees.ensures.slotted c.args.name f.0 f.1) c.requires.holds in
    let e = c.drop_fork.ensures in
    let at : Holds g.P.Pages.means c.drop_fork.new.self (map.remove forks c.args.name) =
    subst (λ (n : ForkName). Holds g.P.Pages.means c.drop_fork.new.self (map.remove forks n)) name (here (rw name e.lives) (rw name e.forks) (rw name e.others)) in
    subst (Holds g.P.Pages.means c.drop_fork.new.self) (sym gone) at

pub returns-clause-kept : goal.returns-clause-kept
returns-clause-kept g c =
    let forks : ForkMap = c.args.tree.now.forks in
    let f = some_of (map.get forks c.args.name) c.requires.lives in
    let name : f.0.name ≡ c.args.name = c.are_trees.ensures.slotted.own c.args.name f.0 f.1 in
    let gone : c.kill.new.self.forks ≡ map.remove forks c.args.name = ap (λ (t : PlainTree). t.forks) c.kill.ensures in
    let slotted : AreSlotted (map.remove forks c.args.name) = subst AreSlotted gone c.are_trees-2.ensures.slotted in
    let come = fewer_come forks f.0 c.are_trees.ensures.slotted (subst (λ (n : ForkName). AreSlotted (map.remove forks n)) (sym name) slotted) (held_lives forks c.are_trees.ensures.slotted c.args.name f.0 f.1) in
    subst (ComeFrom forks) (sym gone) (subst (λ (n : ForkName). ComeFrom forks (map.remove forks n)) name come)
