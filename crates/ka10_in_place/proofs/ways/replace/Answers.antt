use Rattle.std.proofs.Common.{◌≡◌, Some, ap, true}
use Rattle.machine_names.specs.declared.names.Kind.TheVariants.{Write}
use Rattle.plain_units.specs.Deeds.{in_ac}
use Rattle.ka10_in_place.specs.Targets.{Target, place_of}
use Rattle.ka10_spots.specs.Glide.{is_ready}
use Rattle.ka10_spots.proofs.Used.{holds_still, space_stays, spot_still}
use Rattle.ka10_in_place.proofs.Placing.{deed_in_place, deed_to, in_place_behind, slow_in_place}
use Rattle.ka10_in_place.proofs.ways.replace.Goals as goal

pub finish_at-requires-clause-to : goal.finish_at-requires-clause-to
finish_at-requires-clause-to g c =
    deed_to (g.D.HasDeed.instruction c.args.deed) c.args.regs.now c.args.it.ac c.args.it.e c.args.it.last c.load_led-m.result c.args.it.e (ap (λ (t : Target). place_of t (in_ac c.args.regs.now c.args.it.ac) c.args.it.e) c.requires.to)

pub finish_at-requires-clause-space : goal.finish_at-requires-clause-space
finish_at-requires-clause-space g c = space_stays g.P.Pages.means c.args.space c.args.pages.now c.load_led-m.new.pages c.requires.fetched.handle c.load_led-m.ensures.only.put

pub finish_at-requires-clause-spot : goal.finish_at-requires-clause-spot
finish_at-requires-clause-spot g c = spot_still g.P.Pages.means c.args.space c.args.pages.now c.load_led-m.new.pages c.load_led-m.ensures.only c.args.it.e c.in-Some.spot c.in-Some.ensures.spot

pub finish_at-requires-clause-ready : goal.finish_at-requires-clause-ready
finish_at-requires-clause-ready g c = holds_still g.P.Pages.means c.args.space c.args.pages.now c.load_led-m.new.pages c.load_led-m.ensures.only (λ f p. is_ready f p c.args.it.e Write ≡ true) c.in-Some.ensures.write

pub returns-in-Some : goal.returns-in-Some
returns-in-Some g c =
    deed_in_place g.P.Pages.means c.args.space (g.D.HasDeed.instruction c.args.deed) c.args.it.ac c.args.it.e c.args.it.last c.load_led-m.result c.args.regs.now c.requires.row c.requires.deed c.args.pages.now c.finish_at.new.pages c.finish_at.new.regs c.finish_at.result
    (in_place_behind g.P.Pages.means c.args.space _ c.args.pages.now c.load_led-m.new.pages c.finish_at.new.pages c.args.regs.now c.finish_at.new.regs c.finish_at.result c.load_led-m.ensures.only c.finish_at.ensures.done c.finish_at.ensures.unit)
    (Some c.args.it.e) c.requires.taken (λ d f fits is. record { ready = c.in-Some.ensures.read d f fits is; is = c.load_led-m.ensures.told d f fits is })

pub returns-in-None : goal.returns-in-None
returns-in-None g c = slow_in_place g.P.Pages.means c.args.space _ c.args.pages.now c.args.regs.now c.requires.fetched.pc
