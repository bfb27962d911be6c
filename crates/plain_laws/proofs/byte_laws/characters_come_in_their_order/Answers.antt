use Rattle.plain_laws.proofs.ByteTurns.{bin_so, bin_waits, pbin_so, pbin_waits, rest_so}
use Rattle.plain_laws.proofs.byte_laws.characters_come_in_their_order.Goals as goal

pub returns-clause-pbin : goal.returns-clause-pbin
returns-clause-pbin c = λ s f x xs lives is. pbin_so s f lives x xs is

pub returns-clause-bin : goal.returns-clause-bin
returns-clause-bin c = λ s f x xs lives named is. bin_so s f lives x xs named is

pub returns-clause-rest : goal.returns-clause-rest
returns-clause-rest c = λ jobs t x xs is. rest_so jobs t x xs is

pub returns-clause-pbin_waits : goal.returns-clause-pbin_waits
returns-clause-pbin_waits c = λ s f lives is. pbin_waits s f lives is

pub returns-clause-bin_waits : goal.returns-clause-bin_waits
returns-clause-bin_waits c = λ s f lives named is. bin_waits s f lives named is
