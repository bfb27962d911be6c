use Rattle.exec_cmd.proofs.Said.{none_unknown, only_known, said, unknown_none}
use Rattle.exec_cmd.proofs.laws.one_command.Goals as goal

pub returns-clause-known : goal.returns-clause-known
returns-clause-known c = λ user line command ne. (only_known user line command ne, said user line command)

pub returns-clause-unknown : goal.returns-clause-unknown
returns-clause-unknown c = λ user line. (unknown_none user line, none_unknown user line)
