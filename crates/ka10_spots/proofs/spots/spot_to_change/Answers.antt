use Rattle.std.proofs.Common.{refl}
use Rattle.machine_names.specs.declared.names.Kind.TheVariants.{Read, Write}
use Rattle.ka10_spots.proofs.Ready.{ready_there}
use Rattle.ka10_spots.proofs.spots.spot_to_change.Goals as goal

pub returns-in-Some-clause-read : goal.returns-in-Some-clause-read
returns-in-Some-clause-read g c d f fits is = ready_there g.P.Pages.means c.args.pages.now d f c.args.at c.page_of.result Read c.page_of.ensures.page (c.in-Some.ensures.told d f fits is refl).0

pub returns-in-Some-clause-write : goal.returns-in-Some-clause-write
returns-in-Some-clause-write g c d f fits is = ready_there g.P.Pages.means c.args.pages.now d f c.args.at c.page_of.result Write c.page_of.ensures.page (c.in-Some.ensures.told d f fits is refl).1
