use Rattle.plain_laws.proofs.LevelsNest.{delivered_before, level_least, level_over}
use Rattle.plain_laws.proofs.interrupt_laws.levels_nest.Goals as goal

pub returns-clause-before : goal.returns-clause-before
returns-clause-before c = λ s f d is. delivered_before s f d is

pub returns-clause-least : goal.returns-clause-least
returns-clause-least c = λ psi found has before. level_least psi found has before

pub returns-clause-over : goal.returns-clause-over
returns-clause-over c = λ f g found has before same. level_over f g found has before same
