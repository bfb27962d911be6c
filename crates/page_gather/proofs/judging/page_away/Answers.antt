use Rattle.page_gather.proofs.Judged.{away_empty, away_new, away_old, here_old}
use Rattle.page_gather.proofs.judging.page_away.Goals as goal

pub returns-then-w-clause-told : goal.returns-then-w-clause-told
returns-then-w-clause-told g c d q owner homes s fits k = away_empty (g.P.Pages.means.plain c.args.pages.now d) q (g.P.Pages.means.scene c.args.pages.now) owner c.args.changes.now homes s c.args.w k c.if-w.true

pub returns-in-Some-clause-told : goal.returns-in-Some-clause-told
returns-in-Some-clause-told g c d q owner homes s fits k = away_new _ q _ owner c.args.changes.now homes s c.args.w k c.if-w.false c.in-Some.field-0 c.in-Some.ensures

pub returns-in-Absent-clause-told : goal.returns-in-Absent-clause-told
returns-in-Absent-clause-told g c d q owner homes s fits k = away_old _ q _ owner c.args.changes.now homes s c.args.w k c.if-w.false c.in-None.ensures c.in-Absent.home (c.in-Absent.ensures.told d fits)

pub returns-in-Is-clause-told : goal.returns-in-Is-clause-told
returns-in-Is-clause-told g c d q owner homes s fits k = here_old _ q _ owner c.args.changes.now homes s c.args.w k c.if-w.false c.in-None.ensures _ (λ home e. cc e) (c.in-Is.ensures.told d fits)

pub returns-in-NoPage-clause-told : goal.returns-in-NoPage-clause-told
returns-in-NoPage-clause-told g c d q owner homes s fits k = here_old _ q _ owner c.args.changes.now homes s c.args.w k c.if-w.false c.in-None.ensures _ (λ home e. cc e) (c.in-NoPage.ensures.told d fits)
