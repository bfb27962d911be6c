use Rattle.plain_alone.proofs.Noted.{name_is_noted}
use Rattle.plain_alone.proofs.laws.names_that_are_read_are_used.Goals as goal

pub returns : goal.returns
returns c = name_is_noted
