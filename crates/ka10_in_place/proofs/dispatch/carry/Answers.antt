use Rattle.ka10_in_place.proofs.Placing.{slow_in_place}
use Rattle.ka10_in_place.proofs.dispatch.carry.Goals as goal

pub returns-in-Jrst : goal.returns-in-Jrst
returns-in-Jrst g c = slow_in_place g.P.Pages.means c.args.space _ c.args.pages.now c.args.regs.now c.requires.fetched.pc
