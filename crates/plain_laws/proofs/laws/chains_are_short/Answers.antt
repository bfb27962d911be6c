use Rattle.plain_pages.proofs.Following.{at_most_four, none_longer, none_round, none_past, ends_in_page, ends_empty}
use Rattle.plain_laws.proofs.laws.chains_are_short.Goals as goal

pub returns-clause-most : goal.returns-clause-most
returns-clause-most c = λ entries s k h. (at_most_four entries s k h).1

pub returns-clause-fifth : goal.returns-clause-fifth
returns-clause-fifth c = λ entries s t h. none_longer entries s t h

pub returns-clause-round : goal.returns-clause-round
returns-clause-round c = λ entries n s h. none_round entries n s h

pub returns-clause-gone : goal.returns-clause-gone
returns-clause-gone c = λ entries n s t h gone. none_past entries n s t h gone

pub returns-clause-page : goal.returns-clause-page
returns-clause-page c = λ entries n s t x a few h is. ends_in_page entries n s t x a few h is

pub returns-clause-empty : goal.returns-clause-empty
returns-clause-empty c = λ entries n s t few h is. ends_empty entries n s t few h is
