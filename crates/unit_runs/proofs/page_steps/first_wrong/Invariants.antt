use Rattle.std.proofs.Common.{◌≤◌, ◌+◌, ◌*◌}
use Rattle.unit_runs.proofs.page_steps.first_wrong.Given as goal

abbrev pub invariant-loop-number : goal.invariant-loop-number
invariant-loop-number g l = g.P.Pages.means.serial l.pages (record { 0 = 255 }) ≤ 1 + 2 * l.number
