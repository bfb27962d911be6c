use Rattle.ka10_in_place.proofs.ByteLemmas.{byte_in_place}
use Rattle.ka10_in_place.proofs.byte_units.byte.Goals as goal

pub returns : goal.returns
returns g c = byte_in_place g.P.Pages.means c.args.space c.args.regs.now c.args.pages.now c.step.new.pages c.step.new.regs c.step.result c.args.op c.args.code c.args.it.ac c.args.it.e c.args.it.last c.requires.row c.step.ensures
