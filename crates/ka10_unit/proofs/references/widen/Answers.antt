use Rattle.std.proofs.Common.{refl, arith}
use Rattle.ka10_unit.proofs.Referring.{of_fork, widen_stops, widen_goes}
use Rattle.ka10_unit.proofs.Lost.{stop_more}
use Rattle.ka10_unit.proofs.references.widen.Goals as goal

pub returns-in-Err-clause-told : goal.returns-in-Err-clause-told
returns-in-Err-clause-told g c d f fits stands = widen_stops _ _ _ c.args.taken.now _ _ c.in-Err.stop stands (of_fork _ _ c.args.regs.now.ac c.args.taken.now _ _ _ _ stands (c.in-Err.ensures.told d fits stands.gathers)) refl refl

pub returns-in-Ok-clause-told : goal.returns-in-Ok-clause-told
returns-in-Ok-clause-told g c d f fits stands = widen_goes _ _ _ c.args.taken.now _ _ _ _ stands (of_fork _ _ c.args.regs.now.ac c.args.taken.now _ _ _ _ stands (c.in-Ok.ensures.told d fits stands.gathers)) c.replace_last.ensures refl refl

pub returns-in-Err-clause-needs : goal.returns-in-Err-clause-needs
returns-in-Err-clause-needs g c = (
  c.in-Err.ensures.core,
  stop_more g.P.Pages.means.store c.args.pages.now _ _ c.in-Err.stop (omega (arith, c.requires.spare, c.args.taken.now.references)) c.in-Err.ensures.needs,
)
