use Rattle.std.proofs.Common.{◌∙◌, ap, arith}
use Rattle.plain_pages.specs.Maps.{entry_at}
use Rattle.page_gather.specs.declared.walk.Walked.{Walked}
use Rattle.page_gather.specs.declared.chains.Way.TheVariants as way
use Rattle.page_gather.specs.Walks.{views_of}
use Rattle.page_gather.proofs.Lookups.{walk_nowhere, walk_by, walk_onward}
use Rattle.page_gather.proofs.chains.+walk.Goals as goal

pub returns-then-left-eq0-clause-told : goal.returns-then-left-eq0-clause-told
returns-then-left-eq0-clause-told g t c d q owner homes fits h = walk_nowhere (g.P.Pages.means.scene c.args.pages.now).map_away (views_of (entry_at q.maps)) c.args.left c.args.slot c.if-left-eq0.true

pub returns-in-Missing-clause-told : goal.returns-in-Missing-clause-told
returns-in-Missing-clause-told g t c d q owner homes fits h = walk_by (g.P.Pages.means.scene c.args.pages.now).map_away (views_of (entry_at q.maps)) c.args.left c.args.slot _ (omega arith) (c.in-Missing.ensures.told d q owner homes fits h)

pub returns-in-Absent-clause-told : goal.returns-in-Absent-clause-told
returns-in-Absent-clause-told g t c d q owner homes fits h = walk_by (g.P.Pages.means.scene c.args.pages.now).map_away (views_of (entry_at q.maps)) c.args.left c.args.slot _ (omega arith) (c.in-Absent.ensures.told d q owner homes fits h)

pub returns-in-Ends-clause-told : goal.returns-in-Ends-clause-told
returns-in-Ends-clause-told g t c d q owner homes fits h =
    ap (λ (w : Walked). way.Found w) c.last.ensures ∙ walk_by (g.P.Pages.means.scene c.args.pages.now).map_away (views_of (entry_at q.maps)) c.args.left c.args.slot _ (omega arith) (c.in-Ends.ensures.told d q owner homes fits h)

pub returns-in-Absent-walk-clause-told : goal.returns-in-Absent-walk-clause-told
returns-in-Absent-walk-clause-told g t c d q owner homes fits h =
    walk_onward (g.P.Pages.means.scene c.args.pages.now).map_away (views_of (entry_at q.maps)) c.args.left c.args.slot _ _ _ _ (omega arith) (c.in-Goes.ensures.told d q owner homes fits h) (rw c.followed.ensures at (c.in-Absent-walk.ensures.told d q owner homes fits h))

pub returns-in-Nowhere-clause-told : goal.returns-in-Nowhere-clause-told
returns-in-Nowhere-clause-told g t c d q owner homes fits h =
    walk_onward (g.P.Pages.means.scene c.args.pages.now).map_away (views_of (entry_at q.maps)) c.args.left c.args.slot _ _ _ _ (omega arith) (c.in-Goes.ensures.told d q owner homes fits h) (rw c.followed.ensures at (c.in-Nowhere.ensures.told d q owner homes fits h))

pub returns-in-Found-clause-told : goal.returns-in-Found-clause-told
returns-in-Found-clause-told g t c d q owner homes fits h =
    ap (λ (w : Walked). way.Found w) c.behind.ensures
    ∙ walk_onward (g.P.Pages.means.scene c.args.pages.now).map_away (views_of (entry_at q.maps)) c.args.left c.args.slot _ _ _ _ (omega arith) (c.in-Goes.ensures.told d q owner homes fits h) (rw c.followed.ensures at (c.in-Found.ensures.told d q owner homes fits h))
