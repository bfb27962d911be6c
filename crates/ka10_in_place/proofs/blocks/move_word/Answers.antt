use Rattle.std.proofs.Common.{◌≡◌, ℕ, Some, ap, refl, subst, sym, true, ◌∙◌}
use Rattle.word36.specs.Words.{left}
use Rattle.machine_names.specs.declared.names.Kind.TheVariants.{Write}
use Rattle.plain_units.specs.Deeds.{Deed}
use Rattle.ka10_in_place.specs.InPlace.{Finish, InPlace}
use Rattle.ka10_spots.specs.Glide.{is_ready}
use Rattle.ka10_spots.proofs.Used.{holds_still, space_stays, spot_still}
use Rattle.ka10_in_place.proofs.BlockLemmas.{blt, blt_deed, blt_row}
use Rattle.ka10_in_place.proofs.Placing.{deed_in_place, in_place_behind, slow_in_place, unused_in_place}
use Rattle.ka10_in_place.proofs.blocks.move_word.Goals as goal

pub store_word-requires-clause-space : goal.store_word-requires-clause-space
store_word-requires-clause-space g c = space_stays g.P.Pages.means c.args.space c.args.pages.now c.take_led.new.pages c.requires.fetched.handle c.in-Some-take_led.ensures.uses.put

pub store_word-requires-clause-spot : goal.store_word-requires-clause-spot
store_word-requires-clause-spot g c = spot_still g.P.Pages.means c.args.space c.args.pages.now c.take_led.new.pages c.in-Some-take_led.ensures.uses c.right-to.result c.in-Some.spot c.in-Some.ensures.spot

pub store_word-requires-clause-ready : goal.store_word-requires-clause-ready
store_word-requires-clause-ready g c = holds_still g.P.Pages.means c.args.space c.args.pages.now c.take_led.new.pages c.in-Some-take_led.ensures.uses (λ f p. is_ready f p c.right-to.result Write ≡ true) c.in-Some.ensures.told

pub returns-in-Some-take_led : goal.returns-in-Some-take_led
returns-in-Some-take_led g c =
    let regs = c.args.regs.now in
    let ac = c.args.it.ac in
    let m = c.in-Some-take_led.m in
    deed_in_place g.P.Pages.means c.args.space blt ac c.args.it.e c.args.it.last m regs blt_row refl c.args.pages.now c.store_word.new.pages c.store_word.new.regs c.store_word.result
    (subst (λ (d : Deed). InPlace g.P.Pages.means c.args.space (Finish regs ac d) c.args.pages.now c.store_word.new.pages regs c.store_word.new.regs c.store_word.result) (sym (blt_deed regs ac c.args.it.e c.args.it.last m))
    (in_place_behind g.P.Pages.means c.args.space _ c.args.pages.now c.take_led.new.pages c.store_word.new.pages regs c.store_word.new.regs c.store_word.result c.in-Some-take_led.ensures.uses c.store_word.ensures.done c.store_word.ensures.unit))
    (Some c.left.result) (sym (ap Some (c.left.ensures.value ∙ ap (λ (a : ℕ). left a) c.word_in-a.ensures))) c.in-Some-take_led.ensures.told

pub returns-in-None : goal.returns-in-None
returns-in-None g c = slow_in_place g.P.Pages.means c.args.space _ c.args.pages.now c.args.regs.now c.requires.fetched.pc

pub returns-in-None-take_led : goal.returns-in-None-take_led
returns-in-None-take_led g c = unused_in_place g.P.Pages.means c.args.space _ c.args.pages.now c.take_led.new.pages c.args.regs.now c.in-None-take_led.ensures.uses c.requires.fetched.pc
