use Rattle.ka10_in_place.proofs.ByteLemmas.{depositing_in_place}
use Rattle.ka10_in_place.proofs.Placing.{slow_in_place}
use Rattle.ka10_in_place.proofs.byte_units.deposit_byte.Goals as goal

pub returns-in-Some : goal.returns-in-Some
returns-in-Some g c =
    depositing_in_place g.P.Pages.means c.args.space c.args.regs.now c.args.pages.now c.deposit_word.new.pages c.deposit_word.new.regs c.deposit_word.result c.args.second c.args.it.ac c.args.it.e c.in-Some.to.p c.in-Some.to.at c.in-Some.ensures.told c.deposit_word.ensures

pub returns-in-None : goal.returns-in-None
returns-in-None g c = slow_in_place g.P.Pages.means c.args.space _ c.args.pages.now c.args.regs.now c.requires.fetched.pc
