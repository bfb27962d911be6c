use Rattle.std.proofs.Common.{◌≡◌, ◌-◌, ◌≤◌}
use Rattle.std.specs.FinMap as map
use Rattle.machine_names.specs.declared.names.ForkName.{ForkName}
use Rattle.machine_names.specs.declared.names.Tty.{Tty}
use Rattle.page_contracts.specs.DrumWords.{DrumWords}
use Rattle.page_contracts.specs.Pages.{MayLose}
use Rattle.plain_model.specs.ForkCalls.{without_inferiors}
use Rattle.plain_model.specs.Forks.{OthersStay}
use Rattle.fork_tree.proofs.Killing.{below_in}
use Rattle.fork_tree.proofs.Upward.{tally}
use Rattle.job_forks.specs.Holding.{ComeFrom, Holds, MakesPages, TopsStay, parts}
use Rattle.job_forks.specs.Killing.{AreMapsHere}
use Rattle.job_forks.proofs.killing.kill_below.Given as goal

abbrev pub invariant-loop-round : goal.invariant-loop-round
invariant-loop-round g l = record {
  holds : Holds g.P.Pages.means l.pages l.tree.forks;
  maps : AreMapsHere (g.P.Pages.means.scene l.pages) l.tree.forks l.who;
  kept : ComeFrom l.fn.tree.forks l.tree.forks;
  tops : TopsStay l.fn.tree.forks l.tree.forks;
  made : (t : Tty) → MakesPages g.P.Pages.means t 0 l.fn.pages l.pages;
  loses : MayLose g.P.Pages.means l.fn.pages l.pages;
  others : OthersStay l.who.tty l.fn.tree.forks l.tree.forks;
  older : (q : ForkName) → q.serial ≤ l.who.serial → map.get l.tree.forks q ≡ map.get l.fn.tree.forks q;
  few : tally (below_in l.tree.forks l.who) 1 30 ≤ 30 - l._round;
  told : (d : DrumWords) → g.P.Pages.means.fits l.fn.pages d
      → g.P.Pages.means.fits l.pages d × (without_inferiors (parts l.tree (g.P.Pages.means.plain l.pages d)) l.who ≡ without_inferiors (parts l.fn.tree (g.P.Pages.means.plain l.fn.pages d)) l.who);
}
