use Rattle.std.proofs.Common.{Some}
use Rattle.ka10_in_place.proofs.Placing.{deed_in_place, deed_nowhere, in_place_behind, unused_in_place}
use Rattle.ka10_in_place.proofs.ways.read.Goals as goal

pub finish-requires-clause-nowhere : goal.finish-requires-clause-nowhere
finish-requires-clause-nowhere g c = deed_nowhere (g.D.HasDeed.instruction c.args.deed) c.args.regs.now c.args.it.ac c.args.it.e c.args.it.last c.in-Some.m c.requires.nowhere

pub returns-in-Some : goal.returns-in-Some
returns-in-Some g c =
    deed_in_place g.P.Pages.means c.args.space (g.D.HasDeed.instruction c.args.deed) c.args.it.ac c.args.it.e c.args.it.last c.in-Some.m c.args.regs.now c.requires.row c.requires.deed c.args.pages.now c.take_led.new.pages c.finish.new.regs c.finish.result
    (in_place_behind g.P.Pages.means c.args.space _ c.args.pages.now c.take_led.new.pages c.take_led.new.pages c.args.regs.now c.finish.new.regs c.finish.result c.in-Some.ensures.uses c.finish.ensures.done c.finish.ensures.unit)
    (Some c.args.from) c.requires.taken c.in-Some.ensures.told

pub returns-in-None : goal.returns-in-None
returns-in-None g c = unused_in_place g.P.Pages.means c.args.space _ c.args.pages.now c.take_led.new.pages c.args.regs.now c.in-None.ensures.uses c.requires.fetched.pc
