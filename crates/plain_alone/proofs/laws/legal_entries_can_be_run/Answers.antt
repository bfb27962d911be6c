use Rattle.plain_alone.proofs.LegalRuns.{legal_can_run}
use Rattle.plain_alone.proofs.laws.legal_entries_can_be_run.Goals as goal

pub returns : goal.returns
returns c = legal_can_run
