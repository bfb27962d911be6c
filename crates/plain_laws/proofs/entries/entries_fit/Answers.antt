use Rattle.plain_laws.proofs.Named.{opened_fit}
use Rattle.plain_laws.proofs.entries.entries_fit.Goals as goal

pub returns : goal.returns
returns c = opened_fit
