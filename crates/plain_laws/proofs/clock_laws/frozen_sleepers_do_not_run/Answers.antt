use Rattle.plain_laws.proofs.Sleeps.{due_runs, frozen_stands}
use Rattle.plain_laws.proofs.clock_laws.frozen_sleepers_do_not_run.Goals as goal

pub returns : goal.returns
returns c = λ s f moment w lives sleeps due frozen. (due_runs s w f lives moment sleeps due, frozen_stands s w f lives frozen)
