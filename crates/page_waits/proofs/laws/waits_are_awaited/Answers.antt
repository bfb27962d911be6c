use Rattle.page_waits.specs.Waits.{the_lists}
use Rattle.page_waits.proofs.Nearer.{arrival_queued}
use Rattle.page_waits.proofs.laws.waits_are_awaited.Goals as goal

pub returns-clause-pages : goal.returns-clause-pages
returns-clause-pages g c s l seat home a is = arrival_queued g.S.System.means the_lists s l a seat home is

pub returns-clause-frames : goal.returns-clause-frames
returns-clause-frames g c s l seat a is empty = a.awaited.frames seat is empty a.told
