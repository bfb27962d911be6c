use Rattle.std.proofs.Common.{◌≡◌, [], length}
use Rattle.plain_model.specs.Forks.{ForkMap}
use Rattle.fork_lists.specs.Ties.{AreTied}
use Rattle.page_contracts.specs.Stores.{StaysThere}
use Rattle.page_waits.specs.Systems.{StaysState}
use Rattle.page_waits.specs.Told.{AllTold, all_arrived}
use Rattle.page_waits.specs.Waits.{AreAwaited, StaysSeated, the_lists}
use Rattle.page_waits.proofs.waking.tell.Given as goal

abbrev pub invariant-loop-need : goal.invariant-loop-need
invariant-loop-need g l = record {
  awaited : AreAwaited g.S.System.means (the_lists.waiting l.lists) l.system;
  state : StaysState g.S.System.means l.fn.system l.system;
  each : AllTold l.fn.lists.sched l.lists.sched;
  all : all_arrived (g.S.System.means.store.untold l.system) l.lists.sched ≡ all_arrived (g.S.System.means.store.untold l.fn.system) l.fn.lists.sched;
  seated : StaysSeated the_lists l.fn.lists l.lists;
  tied : (forks : ForkMap) → AreTied forks l.fn.lists → AreTied forks l.lists;
  holds : g.S.System.means.store.holds l.system ≡ g.S.System.means.store.holds l.fn.system;
  members : g.S.System.means.store.members l.system ≡ g.S.System.means.store.members l.fn.system;
  there : StaysThere g.S.System.means.store l.fn.system l.system;
  queue : g.S.System.means.store.queue l.system ≡ g.S.System.means.store.queue l.fn.system;
  none : g.S.System.means.store.untold l.fn.system ≡ [] → (l.lists ≡ l.fn.lists) × (g.S.System.means.store.untold l.system ≡ []);
}

abbrev pub decreases-loop-need : goal.decreases-loop-need
decreases-loop-need g l = length (g.S.System.means.store.untold l.system)
