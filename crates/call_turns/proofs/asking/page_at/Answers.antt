use Rattle.call_turns.proofs.Looks.{page_is}
use Rattle.call_turns.proofs.asking.page_at.Goals as goal

pub returns-clause-told : goal.returns-clause-told
returns-clause-told g c d f = page_is (g.P.Pages.means.plain c.args.pages.now d) (g.P.Pages.means.scene c.args.pages.now) c.args.slot c.page_within.result (c.page_within.ensures.told d f)
