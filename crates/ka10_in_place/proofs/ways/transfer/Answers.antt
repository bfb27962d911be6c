use Rattle.std.proofs.Common.{◌≡◌, Some, true}
use Rattle.machine_names.specs.declared.names.Kind.TheVariants.{Write}
use Rattle.ka10_spots.specs.Glide.{is_ready}
use Rattle.ka10_spots.proofs.Used.{holds_still, space_stays, spot_still}
use Rattle.ka10_in_place.proofs.Placing.{deed_in_place, deed_to, in_place_behind, slow_in_place, unused_in_place}
use Rattle.ka10_in_place.proofs.ways.transfer.Goals as goal

pub finish_at-requires-clause-to : goal.finish_at-requires-clause-to
finish_at-requires-clause-to g c = deed_to (g.D.HasDeed.instruction c.args.deed) c.args.regs.now c.args.it.ac c.args.it.e c.args.it.last c.in-Some-take_led.m c.args.to c.requires.to

pub finish_at-requires-clause-space : goal.finish_at-requires-clause-space
finish_at-requires-clause-space g c = space_stays g.P.Pages.means c.args.space c.args.pages.now c.take_led.new.pages c.requires.fetched.handle c.in-Some-take_led.ensures.uses.put

pub finish_at-requires-clause-spot : goal.finish_at-requires-clause-spot
finish_at-requires-clause-spot g c = spot_still g.P.Pages.means c.args.space c.args.pages.now c.take_led.new.pages c.in-Some-take_led.ensures.uses c.args.to c.in-Some.spot c.in-Some.ensures.spot

pub finish_at-requires-clause-ready : goal.finish_at-requires-clause-ready
finish_at-requires-clause-ready g c = holds_still g.P.Pages.means c.args.space c.args.pages.now c.take_led.new.pages c.in-Some-take_led.ensures.uses (λ f p. is_ready f p c.args.to Write ≡ true) c.in-Some.ensures.told

pub returns-in-Some-take_led : goal.returns-in-Some-take_led
returns-in-Some-take_led g c =
    deed_in_place g.P.Pages.means c.args.space (g.D.HasDeed.instruction c.args.deed) c.args.it.ac c.args.it.e c.args.it.last c.in-Some-take_led.m c.args.regs.now c.requires.row c.requires.deed c.args.pages.now c.finish_at.new.pages c.finish_at.new.regs c.finish_at.result
    (in_place_behind g.P.Pages.means c.args.space _ c.args.pages.now c.take_led.new.pages c.finish_at.new.pages c.args.regs.now c.finish_at.new.regs c.finish_at.result c.in-Some-take_led.ensures.uses c.finish_at.ensures.done c.finish_at.ensures.unit)
    (Some c.args.from) c.requires.taken c.in-Some-take_led.ensures.told

pub returns-in-None : goal.returns-in-None
returns-in-None g c = slow_in_place g.P.Pages.means c.args.space _ c.args.pages.now c.args.regs.now c.requires.fetched.pc

pub returns-in-None-take_led : goal.returns-in-None-take_led
returns-in-None-take_led g c = unused_in_place g.P.Pages.means c.args.space _ c.args.pages.now c.take_led.new.pages c.args.regs.now c.in-None-take_led.ensures.uses c.requires.fetched.pc
