use Rattle.ka10_spots.proofs.Stored.{lost_none}
use Rattle.pmap_calls.proofs.Same.{none_changed}
use Rattle.pmap_calls.proofs.turn.put_file_page.Goals as goal

pub returns-in-None-clause-told : goal.returns-in-None-clause-told
returns-in-None-clause-told g c d f none =
    let agrees = g.met.P.Pages.agrees c.args.pages.now d f in
    (f, none_changed (g.P.Pages.means.plain c.args.pages.now d) (g.met.P.Pages.whole c.args.pages.now d f) c.args.slot c.args.file c.args.page c.args.access (g.P.Pages.means.filed c.args.pages.now) agrees.filed c.in-None.ensures)

pub returns-in-None-clause-loses : goal.returns-in-None-clause-loses
returns-in-None-clause-loses g c = lost_none g.P.Pages.means c.args.pages.now
