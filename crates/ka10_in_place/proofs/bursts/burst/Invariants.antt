use Rattle.std.proofs.Common.{◌≡◌, ◌-◌, ◌≤◌}
use Rattle.ka10_in_place.specs.declared.ending.BurstEnd.TheVariants as end
use Rattle.ka10_in_place.specs.Bursts.{SoFar}
use Rattle.ka10_in_place.proofs.bursts.burst.Given as goal

-- as many units are done as are not left
abbrev pub invariant-loop-left : goal.invariant-loop-left
invariant-loop-left g l = (l.left ≤ l.most) × (l.end ≡ end.Most) × SoFar g.P.Pages.means l.space l.fn.pages l.pages l.fn.regs l.regs l.kept (l.most - l.left)

abbrev pub decreases-loop-left : goal.decreases-loop-left
decreases-loop-left g l = l.left
