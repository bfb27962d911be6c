use Rattle.plain_laws.proofs.NarrowedPages.{narrowed_page, narrowed_read, narrowed_execute}
use Rattle.plain_laws.proofs.laws.narrowing_never_widens.Goals as goal

pub returns-clause-page : goal.returns-clause-page
returns-clause-page c = λ p m s given w. narrowed_page p w m given s

pub returns-clause-read : goal.returns-clause-read
returns-clause-read c = λ p m s given w h. narrowed_read p w m given s h

pub returns-clause-execute : goal.returns-clause-execute
returns-clause-execute c = λ p m s given w h. narrowed_execute p w m given s h
