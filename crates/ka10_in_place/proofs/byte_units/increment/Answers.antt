use Rattle.std.proofs.Common.{refl, lit≤, lit<}
use Rattle.ka10_deeds.specs.declared.bytes.ByteStep.TheVariants.{Increment}
use Rattle.ka10_deeds.specs.Bytes.{pointer_stepped, steps_of}
use Rattle.ka10_in_place.proofs.Placing.{finish_behind, slow_in_place}
use Rattle.ka10_in_place.proofs.ByteLemmas.{behind_word}
use Rattle.ka10_spots.proofs.Used.{space_stays, spot_still}
use Rattle.ka10_in_place.proofs.byte_units.increment.Goals as goal

pub returns-in-Some : goal.returns-in-Some
returns-in-Some g c =
    let regs = c.args.regs.now in
    let p = c.load_led-p.result in
    behind_word g.P.Pages.means c.args.space regs c.args.pages.now c.store.new.pages c.store.new.regs c.ended.result 15 13 c.args.it.e p (λ x. steps_of Increment regs c.args.it.ac c.args.it.e x) (lit< tt) (lit≤ tt)
    (finish_behind g.P.Pages.means c.args.space regs c.do_increment-told.new.regs c.args.it.ac (pointer_stepped regs c.args.it.e p) c.do_increment-told.result c.do_increment-told.ensures c.ended.result c.ended.ensures
    c.args.pages.now c.load_led-p.new.pages c.store.new.pages c.store.new.regs c.args.it.e refl c.in-Some.ensures.write c.load_led-p.ensures.only c.store.ensures)
    (λ d f fits is. record { ready = c.in-Some.ensures.read d f fits is; is = c.load_led-p.ensures.told d f fits is })

pub returns-in-None : goal.returns-in-None
returns-in-None g c = slow_in_place g.P.Pages.means c.args.space _ c.args.pages.now c.args.regs.now c.requires.fetched.pc

pub store-requires-clause-space : goal.store-requires-clause-space
store-requires-clause-space g c = space_stays g.P.Pages.means c.args.space c.args.pages.now c.load_led-p.new.pages c.requires.fetched.handle c.load_led-p.ensures.only.put

pub store-requires-clause-spot : goal.store-requires-clause-spot
store-requires-clause-spot g c = spot_still g.P.Pages.means c.args.space c.args.pages.now c.load_led-p.new.pages c.load_led-p.ensures.only c.args.it.e c.in-Some.spot c.in-Some.ensures.spot
