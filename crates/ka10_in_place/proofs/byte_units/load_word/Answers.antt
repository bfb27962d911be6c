use Rattle.std.proofs.Common.{subst, lit≤, lit<}
use Rattle.plain_units.specs.declared.registers.Regs.{Regs}
use Rattle.plain_units.specs.Instructions.{finishes}
use Rattle.ka10_deeds.specs.Bytes.{byte_loaded}
use Rattle.ka10_in_place.specs.ByteRests.{begun, loaded_byte}
use Rattle.ka10_deeds.specs.Done.{Leaves}
use Rattle.ka10_in_place.proofs.Finishing.{is_done}
use Rattle.ka10_in_place.proofs.Placing.{finish_in_place, in_place_behind, slow_in_place}
use Rattle.ka10_in_place.proofs.ByteLemmas.{behind_word, begun_in_place, takes_begun}
use Rattle.ka10_in_place.proofs.byte_units.load_word.Goals as goal

pub returns-in-Some : goal.returns-in-Some
returns-in-Some g c =
    let regs = begun c.args.second c.args.regs.now in
    let p = c.args.to.p in
    let w = c.load_pointed-w.result in
    let left : Leaves (byte_loaded regs p w) c.args.it.ac regs c.do_load-told.new.regs c.do_load-told.result = subst (λ (r : Regs). Leaves (byte_loaded r p w) c.args.it.ac r c.do_load-told.new.regs c.do_load-told.result) c.begin.ensures c.do_load-told.ensures in
    begun_in_place g.P.Pages.means c.args.space c.args.regs.now c.args.pages.now c.load_pointed-w.new.pages c.do_load-told.new.regs c.ended.result c.args.second 14 (loaded_byte regs c.args.it.ac p c.args.to.at) c.do_load-told.result.post c.ended.ensures
    (behind_word g.P.Pages.means c.args.space regs c.args.pages.now c.load_pointed-w.new.pages c.do_load-told.new.regs c.ended.result 15 14 c.args.to.at w (λ x. finishes regs c.args.it.ac (byte_loaded regs p x)) (lit< tt) (lit≤ tt)
    (in_place_behind g.P.Pages.means c.args.space _ c.args.pages.now c.load_pointed-w.new.pages c.load_pointed-w.new.pages regs c.do_load-told.new.regs c.ended.result c.load_pointed-w.ensures.only (is_done c.do_load-told.result.post c.ended.result c.ended.ensures)
    (finish_in_place g.P.Pages.means c.args.space regs c.do_load-told.new.regs c.args.it.ac (byte_loaded regs p w) c.do_load-told.result left c.ended.result c.ended.ensures c.load_pointed-w.new.pages tt))
    (λ d f fits is. takes_begun c.args.second f (g.P.Pages.means.plain c.args.pages.now d) c.args.regs.now c.args.to.at w (record { ready = c.in-Some.ensures.told d f fits is; is = c.load_pointed-w.ensures.told d f fits is })))

pub returns-in-None : goal.returns-in-None
returns-in-None g c = slow_in_place g.P.Pages.means c.args.space _ c.args.pages.now c.args.regs.now c.requires.fetched.pc
