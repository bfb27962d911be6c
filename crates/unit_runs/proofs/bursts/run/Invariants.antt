use Rattle.page_contracts.specs.Pages.{HasSpace}
use Rattle.unit_runs.proofs.bursts.run.Given as goal

abbrev pub invariant-loop-at : goal.invariant-loop-at
invariant-loop-at g l = HasSpace g.P.Pages.means l.pages l.space
