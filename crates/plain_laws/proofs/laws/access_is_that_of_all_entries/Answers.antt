use Rattle.plain_pages.proofs.Following.{every_entry}
use Rattle.plain_laws.proofs.Copying.{denied_where_not}
use Rattle.plain_laws.proofs.laws.access_is_that_of_all_entries.Goals as goal

pub returns-clause-read : goal.returns-clause-read
returns-clause-read c = λ entries s k h. every_entry entries (λ a. a.r) s k h

pub returns-clause-execute : goal.returns-clause-execute
returns-clause-execute c = λ entries s k h. every_entry entries (λ a. a.x) s k h

pub returns-clause-denied : goal.returns-clause-denied
returns-clause-denied c = λ p s kind owner h. denied_where_not p s kind owner h
