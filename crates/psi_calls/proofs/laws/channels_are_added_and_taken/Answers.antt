use Rattle.psi_calls.proofs.AddedChannels.{added, taken}
use Rattle.psi_calls.proofs.laws.channels_are_added_and_taken.Goals as goal

pub returns-clause-added : goal.returns-clause-added
returns-clause-added c = added

pub returns-clause-taken : goal.returns-clause-taken
returns-clause-taken c = taken
