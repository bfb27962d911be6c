use Rattle.ka10_in_place.specs.InPlace.{deed_in}
use Rattle.ka10_in_place.proofs.Finishing.{is_done}
use Rattle.ka10_in_place.proofs.Placing.{finish_in_place}
use Rattle.ka10_in_place.proofs.ways.finish.Goals as goal

pub returns-clause-unit : goal.returns-clause-unit
returns-clause-unit g c =
    finish_in_place g.P.Pages.means c.args.space c.args.regs.now c.do_deed-told.new.regs c.args.it.ac (deed_in (g.D.HasDeed.instruction c.args.deed) c.args.regs.now c.args.it.ac c.args.it.e c.args.it.last c.args.m)
    c.do_deed-told.result c.do_deed-told.ensures c.ended.result c.ended.ensures c.args.pages.now c.requires.nowhere

pub returns-clause-done : goal.returns-clause-done
returns-clause-done g c = is_done c.do_deed-told.result.post c.ended.result c.ended.ensures
