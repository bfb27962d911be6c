use Rattle.plain_refusals.proofs.CommandsRefused.{command_refused, input_full, line_full}
use Rattle.plain_refusals.proofs.laws.refused_commands_leave_all_but_their_line.Goals as goal

pub returns-clause-refused : goal.returns-clause-refused
returns-clause-refused c = λ s t j command why is refuses. command_refused s t j is.job command why is refuses

pub returns-clause-line : goal.returns-clause-line
returns-clause-line c = λ s t j code job mode full no_control no_end. line_full s t j job code mode full no_control no_end

pub returns-clause-input : goal.returns-clause-input
returns-clause-input c = λ s t j code job mode drops. input_full s t j job code mode drops
