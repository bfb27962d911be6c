use Rattle.std.proofs.Common.{refl, subst, lit≤, lit<}
use Rattle.plain_units.specs.declared.registers.Regs.{Regs}
use Rattle.plain_units.specs.Instructions.{finishes}
use Rattle.ka10_deeds.specs.Bytes.{byte_deposited}
use Rattle.ka10_in_place.specs.ByteRests.{begun, deposited_word}
use Rattle.ka10_deeds.specs.Done.{Leaves}
use Rattle.ka10_in_place.proofs.Placing.{finish_behind, slow_in_place}
use Rattle.ka10_in_place.proofs.ByteLemmas.{behind_word, begun_in_place, takes_begun}
use Rattle.ka10_spots.proofs.Used.{space_stays, spot_still}
use Rattle.ka10_in_place.proofs.byte_units.deposit_word.Goals as goal

pub returns-in-Some : goal.returns-in-Some
returns-in-Some g c =
    let regs = begun c.args.second c.args.regs.now in
    let p = c.args.to.p in
    let w = c.load_pointed-w.result in
    let left : Leaves (byte_deposited regs c.args.it.ac p c.args.to.at w) c.args.it.ac regs c.do_deposit-told.new.regs c.do_deposit-told.result = subst (λ (r : Regs). Leaves (byte_deposited r c.args.it.ac p c.args.to.at w) c.args.it.ac r c.do_deposit-told.new.regs c.do_deposit-told.result) c.begin.ensures c.do_deposit-told.ensures in
    begun_in_place g.P.Pages.means c.args.space c.args.regs.now c.args.pages.now c.store.new.pages c.store.new.regs c.ended.result c.args.second 14 (deposited_word regs c.args.it.ac p c.args.to.at) c.do_deposit-told.result.post c.ended.ensures
    (behind_word g.P.Pages.means c.args.space regs c.args.pages.now c.store.new.pages c.store.new.regs c.ended.result 15 14 c.args.to.at w (λ x. finishes regs c.args.it.ac (byte_deposited regs c.args.it.ac p c.args.to.at x)) (lit< tt) (lit≤ tt)
    (finish_behind g.P.Pages.means c.args.space regs c.do_deposit-told.new.regs c.args.it.ac (byte_deposited regs c.args.it.ac p c.args.to.at w) c.do_deposit-told.result left c.ended.result c.ended.ensures
    c.args.pages.now c.load_pointed-w.new.pages c.store.new.pages c.store.new.regs c.args.to.at refl c.in-Some.ensures.write c.load_pointed-w.ensures.only c.store.ensures)
    (λ d f fits is. takes_begun c.args.second f (g.P.Pages.means.plain c.args.pages.now d) c.args.regs.now c.args.to.at w (record { ready = c.in-Some.ensures.read d f fits is; is = c.load_pointed-w.ensures.told d f fits is })))

pub returns-in-None : goal.returns-in-None
returns-in-None g c = slow_in_place g.P.Pages.means c.args.space _ c.args.pages.now c.args.regs.now c.requires.fetched.pc

pub store-requires-clause-space : goal.store-requires-clause-space
store-requires-clause-space g c = space_stays g.P.Pages.means c.args.space c.args.pages.now c.load_pointed-w.new.pages c.requires.fetched.handle c.load_pointed-w.ensures.only.put

pub store-requires-clause-spot : goal.store-requires-clause-spot
store-requires-clause-spot g c = spot_still g.P.Pages.means c.args.space c.args.pages.now c.load_pointed-w.new.pages c.load_pointed-w.ensures.only c.args.to.at c.in-Some.spot c.in-Some.ensures.spot
