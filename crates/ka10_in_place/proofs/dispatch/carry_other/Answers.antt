use Rattle.ka10_in_place.proofs.Placing.{slow_in_place}
use Rattle.ka10_in_place.proofs.dispatch.carry_other.Goals as goal

pub returns-in_default : goal.returns-in_default
returns-in_default g c = slow_in_place g.P.Pages.means c.args.space _ c.args.pages.now c.args.regs.now c.requires.fetched.pc
