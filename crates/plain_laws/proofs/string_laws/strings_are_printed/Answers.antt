use Rattle.plain_laws.proofs.StringTurns.{psout_ends, psout_prints}
use Rattle.plain_laws.proofs.string_laws.strings_are_printed.Goals as goal

pub returns-clause-printed : goal.returns-clause-printed
returns-clause-printed c = λ s f byte q lives found some. psout_prints s f lives byte q found some

pub returns-clause-ended : goal.returns-clause-ended
returns-clause-ended c = λ s f q lives found. psout_ends s f lives q found
