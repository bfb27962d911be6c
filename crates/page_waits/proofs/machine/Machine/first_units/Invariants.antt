use Rattle.std.proofs.Common.{◌≡◌, ℕ, length}
use Rattle.std.specs.Prelude.{None}
use Rattle.page_waits.specs.Acts.{Still}
use Rattle.page_waits.specs.Calm.{IsRoomy}
use Rattle.page_waits.specs.Machines.{IsBare, auto, frames, limit}
use Rattle.page_waits.specs.Told.{MovesSilently}
use Rattle.page_waits.specs.Waits.{the_lists}
use Rattle.page_waits.proofs.InCore.{Untouched}
use Rattle.page_waits.proofs.machine.Machine.first_units.Given as goal

abbrev pub invariant-loop-head : goal.invariant-loop-head
invariant-loop-head g l = record {
  still : Still g.S.System.means the_lists None None None l.fn.self.system l.self.system l.fn.self.lists l.self.lists;
  mark : auto l.self ≡ auto l.fn.self;
  silent : MovesSilently l.fn.self.lists.sched l.self.lists.sched;
  seated : the_lists.member l.self.lists ≡ the_lists.member l.fn.self.lists;
  within : (n : ℕ) → g.S.System.means.within l.fn.self.system n → g.S.System.means.within l.self.system n;
  limit : limit l.self ≡ limit l.fn.self;
  frames : frames l.self ≡ frames l.fn.self;
  bare : IsBare l.self;
  calm : Untouched g.S.System.means IsRoomy l.fn.self.system l.self.system l.fn.self.lists l.self.lists;
}

abbrev pub decreases-loop-head : goal.decreases-loop-head
decreases-loop-head g l = length (the_lists.ready l.self.lists)
