use Rattle.std.proofs.Common.{lit≤}
use Rattle.ka10_in_place.specs.Fetches.{Executes}
use Rattle.ka10_in_place.specs.InPlace.{Addressee}
use Rattle.ka10_in_place.proofs.Fetching.{executes}
use Rattle.ka10_in_place.proofs.Finishing.{for_all}
use Rattle.ka10_in_place.proofs.Placing.{in_place_more, slow_in_place}
use Rattle.ka10_in_place.proofs.in_place.execute_indirect.Goals as goal

pub returns-in-Some : goal.returns-in-Some
returns-in-Some g c =
    let regs = c.args.regs.now in
    let address = c.in-Some.address in
    in_place_more g.P.Pages.means c.args.space (Addressee c.opcode.result regs c.ac_field.result address.e address.last) (Executes regs c.args.word) c.args.pages.now c.carry.new.pages regs c.carry.new.regs c.carry.result c.carry.ensures
    (λ d f fits is. for_all c.carry.result _ (λ post. executes f (g.P.Pages.means.plain c.args.pages.now d) regs c.args.word _ _ _ _ _ c.opcode.ensures.value c.ac_field.ensures.value
    (c.in-Some.ensures.told d f 1 fits is (lit≤ tt))))

pub returns-in-None : goal.returns-in-None
returns-in-None g c = slow_in_place g.P.Pages.means c.args.space _ c.args.pages.now c.args.regs.now c.requires.fetched.pc
