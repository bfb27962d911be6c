use Rattle.page_waits.specs.Waits.{the_lists}
use Rattle.page_waits.proofs.Nearing.{nears_over, nears_then}
use Rattle.page_waits.proofs.Nearer.{ended_nears, left_few, stays_near}
use Rattle.page_waits.proofs.laws.who_waits_is_ready_again.Goals as goal

pub returns-clause-few : goal.returns-clause-few
returns-clause-few g c s l seat a = left_few g.S.System.means the_lists s l seat a (g.met.S.System.housed s)

pub returns-clause-ends : goal.returns-clause-ends
returns-clause-ends g c = ended_nears g.S.System.means the_lists

pub returns-clause-stays : goal.returns-clause-stays
returns-clause-stays g c = stays_near g.S.System.means the_lists

pub returns-clause-joins : goal.returns-clause-joins
returns-clause-joins g c = nears_then

pub returns-clause-over : goal.returns-clause-over
returns-clause-over g c = nears_over
