use Rattle.std.proofs.Common.{refl, sym, subst}
use Rattle.plain_model.specs.Trees.{PlainTree}
use Rattle.fork_tree.specs.Trees.{IsTree}
use Rattle.fork_tree.proofs.Sleepers.{tree_awoken}
use Rattle.job_forks.proofs.Places.{Keep}
use Rattle.monitor_core.proofs.EventDid.{did_tick}
use Rattle.monitor_core.proofs.SoundKept.{sound_kept}
use Rattle.monitor_core.proofs.Sleepers.{sleepers_keep}
use Rattle.monitor_calls.proofs.Sounds.{same_tops}
use Rattle.monitor_core.proofs.system.System.tick.Goals as goal

pub invariant_of-self : goal.invariant_of-self
invariant_of-self g c =
    let m = c.args.self.now in
    let tops = same_tops m.jobs.items m.jobs.items refl in
    let keep = subst (λ (x : PlainTree). Keep m.tree.forks x.forks) (sym c.wake_sleepers.ensures) (sleepers_keep _ m.tree.forks c.are_trees.ensures.slotted.own) in
    let trees = subst IsTree (sym c.wake_sleepers.ensures) (tree_awoken _ m.tree c.are_trees.ensures) in
    record {
      sound = sound_kept g.P.Pages.means m.pages m.pages m.tree c.wake_sleepers.new.self m.jobs.items m.sound m.jobs.items tops c.are_trees.ensures trees keep refl refl;
      unheld = m.unheld;
      typing_room = m.typing_room;
    }

pub returns-clause-did : goal.returns-clause-did
returns-clause-did g c = did_tick c.args.self.now _ c.are_trees.ensures refl refl refl refl refl c.wake_sleepers.ensures

pub returns-clause-reach : goal.returns-clause-reach
returns-clause-reach g c = c.wake_sleepers.ensures
