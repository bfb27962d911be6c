use Rattle.plain_laws.proofs.StringTurns.{sout_ends, sout_printed, sout_prints, sout_puts}
use Rattle.plain_laws.proofs.string_laws.strings_are_written.Goals as goal

pub returns-clause-written : goal.returns-clause-written
returns-clause-written c = λ s f j byte q r w lives held ready room found some grants. sout_puts s f lives w.machine j held byte q r ready room found some grants

pub returns-clause-ended : goal.returns-clause-ended
returns-clause-ended c = λ s f j q w lives held ready room found none. sout_ends s f lives w.machine j held q ready room found none

pub returns-clause-printed : goal.returns-clause-printed
returns-clause-printed c = λ s f byte q lives named found some. sout_prints s f lives byte q named found some

pub returns-clause-print_ended : goal.returns-clause-print_ended
returns-clause-print_ended c = λ s f q lives named found none. sout_printed s f lives q named found none
