use Rattle.step_wants.proofs.Homing.{homed_pages, living_maps}
use Rattle.step_wants.proofs.laws.homes_are_of_pages.Goals as goal

pub returns-clause-homed : goal.returns-clause-homed
returns-clause-homed g c p = homed_pages g.P.Pages.means p (g.met.P.Pages.housed p)

pub returns-clause-living : goal.returns-clause-living
returns-clause-living g c p f home is = living_maps g.P.Pages.means p (g.met.P.Pages.housed p) f home is
