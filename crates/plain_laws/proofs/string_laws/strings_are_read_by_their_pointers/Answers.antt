use Rattle.plain_laws.proofs.StringBack.{loaded_below}
use Rattle.plain_laws.proofs.StringTurns.{next_read}
use Rattle.plain_laws.proofs.string_laws.strings_are_read_by_their_pointers.Goals as goal

pub returns-clause-byte : goal.returns-clause-byte
returns-clause-byte c = λ s f ac q place grants. next_read s f ac q place grants

pub returns-clause-bits : goal.returns-clause-bits
returns-clause-bits c = λ p w. loaded_below p w
