use Rattle.plain_laws.proofs.FlagsBack.{restored_back}
use Rattle.plain_laws.proofs.LevelsNest.{level_over}
use Rattle.plain_laws.proofs.ReadingsTaken.{debrk_undoes}
use Rattle.plain_laws.proofs.interrupt_laws.debrk_undoes_a_delivery.Goals as goal

pub returns-clause-turn : goal.returns-clause-turn
returns-clause-turn c = λ p q a f g d table has before low there tabled same finds. debrk_undoes p q a f g d table has before low there tabled same finds

pub returns-clause-levels : goal.returns-clause-levels
returns-clause-levels c = λ f g d has before same. level_over f g d.found has before same

pub returns-clause-registers : goal.returns-clause-registers
returns-clause-registers c = λ regs other low. restored_back regs other low
