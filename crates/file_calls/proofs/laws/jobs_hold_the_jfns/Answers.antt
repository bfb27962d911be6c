use Rattle.file_calls.proofs.Holding.{holds_them}
use Rattle.file_calls.proofs.Times.{times_are}
use Rattle.file_calls.proofs.laws.jobs_hold_the_jfns.Goals as goal

pub returns-clause-held : goal.returns-clause-held
returns-clause-held c jobs opens t held = holds_them jobs opens t held

pub returns-clause-times : goal.returns-clause-times
returns-clause-times c jobs opens name held = times_are name jobs opens held
