use Rattle.std.proofs.Common.{◌≡◌, None, true}
use Rattle.machine_names.specs.declared.names.Kind.TheVariants.{Write}
use Rattle.ka10_spots.specs.Glide.{is_ready}
use Rattle.ka10_spots.proofs.Used.{holds_still, space_stays, spot_still}
use Rattle.ka10_in_place.proofs.Placing.{deed_in_place, deed_to, in_place_behind, is_e, slow_in_place}
use Rattle.ka10_in_place.proofs.ways.write.Goals as goal

pub finish_at-requires-clause-to : goal.finish_at-requires-clause-to
finish_at-requires-clause-to g c = deed_to (g.D.HasDeed.instruction c.args.deed) c.args.regs.now c.args.it.ac c.args.it.e c.args.it.last c.join.result c.args.to c.requires.to

pub finish_at-requires-clause-space : goal.finish_at-requires-clause-space
finish_at-requires-clause-space g c = space_stays g.P.Pages.means c.args.space c.args.pages.now c.use_lead.new.pages c.requires.fetched.handle c.use_lead.ensures.only.put

pub finish_at-requires-clause-spot : goal.finish_at-requires-clause-spot
finish_at-requires-clause-spot g c = spot_still g.P.Pages.means c.args.space c.args.pages.now c.use_lead.new.pages c.use_lead.ensures.only c.args.to c.in-Some.spot c.in-Some.ensures.spot

pub finish_at-requires-clause-ready : goal.finish_at-requires-clause-ready
finish_at-requires-clause-ready g c = holds_still g.P.Pages.means c.args.space c.args.pages.now c.use_lead.new.pages c.use_lead.ensures.only (λ f p. is_ready f p c.args.to Write ≡ true) c.in-Some.ensures.told

pub returns-in-Some : goal.returns-in-Some
returns-in-Some g c =
    deed_in_place g.P.Pages.means c.args.space (g.D.HasDeed.instruction c.args.deed) c.args.it.ac c.args.it.e c.args.it.last c.join.result c.args.regs.now c.requires.row c.requires.deed c.args.pages.now c.finish_at.new.pages c.finish_at.new.regs c.finish_at.result
    (in_place_behind g.P.Pages.means c.args.space _ c.args.pages.now c.use_lead.new.pages c.finish_at.new.pages c.args.regs.now c.finish_at.new.regs c.finish_at.result c.use_lead.ensures.only c.finish_at.ensures.done c.finish_at.ensures.unit)
    None c.requires.taken (λ d f fits is. is_e c.join.result c.args.it.e c.join.ensures)

pub returns-in-None : goal.returns-in-None
returns-in-None g c = slow_in_place g.P.Pages.means c.args.space _ c.args.pages.now c.args.regs.now c.requires.fetched.pc
