use Rattle.std.proofs.Common.{None}
use Rattle.ka10_in_place.proofs.Placing.{deed_in_place, deed_nowhere, in_place_behind, is_e}
use Rattle.ka10_in_place.proofs.ways.bare.Goals as goal

pub finish-requires-clause-nowhere : goal.finish-requires-clause-nowhere
finish-requires-clause-nowhere g c = deed_nowhere (g.D.HasDeed.instruction c.args.deed) c.args.regs.now c.args.it.ac c.args.it.e c.args.it.last c.join.result c.requires.nowhere

pub returns : goal.returns
returns g c =
    deed_in_place g.P.Pages.means c.args.space (g.D.HasDeed.instruction c.args.deed) c.args.it.ac c.args.it.e c.args.it.last c.join.result c.args.regs.now c.requires.row c.requires.deed c.args.pages.now c.use_lead.new.pages c.finish.new.regs c.finish.result
    (in_place_behind g.P.Pages.means c.args.space _ c.args.pages.now c.use_lead.new.pages c.use_lead.new.pages c.args.regs.now c.finish.new.regs c.finish.result c.use_lead.ensures.only c.finish.ensures.done c.finish.ensures.unit)
    None c.requires.taken (λ d f fits is. is_e c.join.result c.args.it.e c.join.ensures)
