use Rattle.std.proofs.Common.{sym, subst}
use Rattle.machine_names.specs.Orders.{file_page}
use Rattle.call_turns.specs.Needing.{DrivenTo}
use Rattle.call_turns.specs.Numbers.{by_number}
use Rattle.call_turns.specs.Turns.{filling}
use Rattle.call_turns.proofs.Touches.{filled_matches}
use Rattle.call_turns.proofs.touching.fill.Goals as goal

pub returns-clause-told : goal.returns-clause-told
returns-clause-told g c d owner seen f o =
    let p = g.P.Pages.means.plain c.args.pages.now d in
    let scene = g.P.Pages.means.scene c.args.pages.now in
    subst (DrivenTo (by_number seen) scene p owner (filling owner (file_page c.args.file.0 c.args.page) c.args.end c.args.full)) (sym c.filled_by.ensures)
    (filled_matches seen scene p owner c.args.end c.args.full c.args.file c.args.page c.touch.result (c.touch.ensures.told d owner f o))
