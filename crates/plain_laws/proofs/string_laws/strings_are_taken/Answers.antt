use Rattle.plain_laws.proofs.StringTurns.{sin_ends, sin_takes, sin_takes_character, sin_waits}
use Rattle.plain_laws.proofs.string_laws.strings_are_taken.Goals as goal

pub returns-clause-taken : goal.returns-clause-taken
returns-clause-taken c = λ s f j q r w lives own held ready before place reading writing. sin_takes s f lives w.machine j held q r own ready before place reading writing

pub returns-clause-end : goal.returns-clause-end
returns-clause-end c = λ s f j w lives held ready ended. sin_ends s f lives w.machine j held ready ended

pub returns-clause-character : goal.returns-clause-character
returns-clause-character c = λ s f x xs q r w lives own named is place reading writing. sin_takes_character s f lives x xs q r w.machine own named is place reading writing

pub returns-clause-waits : goal.returns-clause-waits
returns-clause-waits c = λ s f lives named is. sin_waits s f lives named is
