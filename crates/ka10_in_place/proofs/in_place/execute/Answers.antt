use Rattle.std.proofs.Common.{ap, lit<}
use Rattle.ka10_in_place.specs.Fetches.{Executes}
use Rattle.ka10_in_place.specs.InPlace.{Addressee}
use Rattle.ka10_in_place.proofs.Fetching.{executes}
use Rattle.ka10_in_place.proofs.Finishing.{for_all}
use Rattle.ka10_in_place.proofs.Placing.{in_place_more}
use Rattle.ka10_spots.proofs.IndirectWords.{directly}
use Rattle.ka10_in_place.proofs.in_place.execute.Goals as goal

pub returns-in-Some : goal.returns-in-Some
returns-in-Some g c =
    let regs = c.args.regs.now in
    let address = c.in-Some.address in
    let told = c.in-Some.ensures.told in
    in_place_more g.P.Pages.means c.args.space (Addressee c.opcode.result regs c.ac_field.result address.e address.last) (Executes regs c.args.fetched.word) c.args.pages.now c.carry.new.pages regs c.carry.new.regs c.carry.result c.carry.ensures
    (λ d f fits is. for_all c.carry.result _ (λ post. executes f (g.P.Pages.means.plain c.args.pages.now d) regs c.args.fetched.word _ _ _ _ _ c.opcode.ensures.value c.ac_field.ensures.value
    (directly f _ regs.ac 1 13 c.args.fetched.word address.e address.last (lit< tt) told.0 (ap (λ a. a.e) told.1) (ap (λ a. a.last) told.1))))
