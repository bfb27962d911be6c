use Rattle.std.proofs.Common.{sym}
use Rattle.page_gather.proofs.Changing.{change_in_space}
use Rattle.page_gather.proofs.chains.source_of.Goals as goal

pub returns-in-Some-clause-space : goal.returns-in-Some-clause-space
returns-in-Some-clause-space c = change_in_space c.args.changes.now c.args.slot c.in-Some.change c.requires.sources (sym c.in-Some.ensures)
