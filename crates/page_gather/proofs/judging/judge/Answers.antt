use Rattle.std.proofs.Common.{sym, subst, ◌≤◌, ◌+◌, arith}
use Rattle.plain_pages.specs.PlainPages.{NumberedPages}
use Rattle.page_gather.specs.declared.judging.Judged.{Judged}
use Rattle.page_gather.specs.Gathering.{after_all, Judges}
use Rattle.page_gather.proofs.Judged.{judges_absent, judges_nowhere, found_told}
use Rattle.page_gather.specs.Gathering.{AnswerNeeds, most_made}
use Rattle.page_gather.proofs.judging.judge.Goals as goal

pub returns-in-Absent-clause-told : goal.returns-in-Absent-clause-told
returns-in-Absent-clause-told g c d owner rs fits k =
    let p : NumberedPages = g.P.Pages.means.plain c.args.pages.now d in
    subst (λ (x : Judged). Judges p (g.P.Pages.means.scene c.args.pages.now) owner rs c.args.changes.now c.args.r x.answer x.makings x.homes) (sym c.refused.ensures)
    (judges_absent p _ owner rs c.args.changes.now c.args.homes c.args.r k c.in-Absent.home (c.in-Absent.ensures.told d (after_all p owner rs) owner c.args.homes fits k.changed))

pub returns-in-Nowhere-clause-told : goal.returns-in-Nowhere-clause-told
returns-in-Nowhere-clause-told g c d owner rs fits k =
    let p : NumberedPages = g.P.Pages.means.plain c.args.pages.now d in
    subst (λ (x : Judged). Judges p (g.P.Pages.means.scene c.args.pages.now) owner rs c.args.changes.now c.args.r x.answer x.makings x.homes) (sym c.refused-in-Nowhere.ensures)
    (judges_nowhere p _ owner rs c.args.changes.now c.args.homes c.args.r k (c.in-Nowhere.ensures.told d (after_all p owner rs) owner c.args.homes fits k.changed))

pub returns-in-Found-clause-told : goal.returns-in-Found-clause-told
returns-in-Found-clause-told g c d owner rs fits k =
    let p : NumberedPages = g.P.Pages.means.plain c.args.pages.now d in
    c.judge_found.ensures.told d owner rs fits k (found_told p (after_all p owner rs) _ owner c.args.changes.now c.args.homes c.args.r.slot c.in-Found.w k.sound k.own k.changed (c.in-Found.ensures.told d (after_all p owner rs) owner c.args.homes fits k.changed))

pub returns-in-Absent-clause-made : goal.returns-in-Absent-clause-made
returns-in-Absent-clause-made g c = subst (λ (x : Judged). x.homes ≤ c.args.homes + most_made c.args.r.kind) (sym c.refused.ensures) (omega arith)

pub returns-in-Absent-clause-needs : goal.returns-in-Absent-clause-needs
returns-in-Absent-clause-needs g c = subst (λ (x : Judged). AnswerNeeds g.P.Pages.means.store (c.args.homes + most_made c.args.r.kind) c.args.pages.now x.answer) (sym c.refused.ensures) c.in-Absent.ensures.needs

pub returns-in-Nowhere-clause-made : goal.returns-in-Nowhere-clause-made
returns-in-Nowhere-clause-made g c = subst (λ (x : Judged). x.homes ≤ c.args.homes + most_made c.args.r.kind) (sym c.refused-in-Nowhere.ensures) (omega arith)

pub returns-in-Nowhere-clause-needs : goal.returns-in-Nowhere-clause-needs
returns-in-Nowhere-clause-needs g c = subst (λ (x : Judged). AnswerNeeds g.P.Pages.means.store (c.args.homes + most_made c.args.r.kind) c.args.pages.now x.answer) (sym c.refused-in-Nowhere.ensures) tt
