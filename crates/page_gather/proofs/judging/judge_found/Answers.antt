use Rattle.std.proofs.Common.{◌+◌, sym, ◌∙◌, ap, subst, ◌≤◌, arith}
use Rattle.std.specs.Option.{option_map}
use Rattle.plain_pages.specs.PlainPages.{NumberedPages}
use Rattle.page_contracts.specs.Pages.{room_for}
use Rattle.page_gather.specs.declared.judging.Judged.{Judged}
use Rattle.page_gather.specs.Gathering.{after_all, Judges}
use Rattle.page_gather.proofs.Judged.{judges_denied, judges_found}
use Rattle.page_gather.specs.Gathering.{AnswerNeeds, most_made}
use Rattle.page_gather.proofs.Needing.{concluded_needs}
use Rattle.page_gather.proofs.judging.judge_found.Goals as goal

pub returns-then-not-permits-clause-told : goal.returns-then-not-permits-clause-told
returns-then-not-permits-clause-told g c d owner rs fits k j =
    let p : NumberedPages = g.P.Pages.means.plain c.args.pages.now d in
    subst (λ (x : Judged). Judges p (g.P.Pages.means.scene c.args.pages.now) owner rs c.args.changes.now c.args.r x.answer x.makings x.homes) (sym c.refused.ensures)
    (judges_denied p _ owner rs c.args.changes.now c.args.homes c.args.r k c.args.w j (sym c.if-not-permits.ensures))

pub returns-clause-told : goal.returns-clause-told
returns-clause-told g c d owner rs fits k j =
    let p : NumberedPages = g.P.Pages.means.plain c.args.pages.now d in
    let a = g.met.P.Pages.agrees c.args.pages.now d fits in
    judges_found p _ owner rs c.args.changes.now c.args.homes c.args.r k c.args.w j c.makings_of-makings.result (c.args.homes + c.homes.result)
    (c.makings_of-makings.ensures.told d (after_all p owner rs) owner c.args.homes fits j (sym c.if-not-permits.ensures)) (ap (λ n. c.args.homes + n) c.homes.ensures) c.room.result
    (c.room.ensures.answer ∙ λ i. room_for (a.number i) (a.bound i) (g.P.Pages.means.scene c.args.pages.now).free_frames (c.args.homes + c.homes.result))
    (option_map (λ home. home.0) c.page_away.result) (c.page_away.ensures.told d (after_all p owner rs) owner c.args.homes c.args.r.slot fits j) c.conclude-answer.result c.conclude-answer.ensures.answer

pub returns-then-not-permits-clause-made : goal.returns-then-not-permits-clause-made
returns-then-not-permits-clause-made g c = subst (λ (x : Judged). x.homes ≤ c.args.homes + most_made c.args.r.kind) (sym c.refused.ensures) (omega arith)

pub returns-then-not-permits-clause-needs : goal.returns-then-not-permits-clause-needs
returns-then-not-permits-clause-needs g c = subst (λ (x : Judged). AnswerNeeds g.P.Pages.means.store (c.args.homes + most_made c.args.r.kind) c.args.pages.now x.answer) (sym c.refused.ensures) tt

pub returns-clause-made : goal.returns-clause-made
returns-clause-made g c = omega (arith, c.homes.ensures, c.makings_of-makings.ensures.made)

pub returns-clause-needs : goal.returns-clause-needs
returns-clause-needs g c =
    let few : c.args.homes + c.homes.result ≤ c.args.homes + most_made c.args.r.kind = omega (arith, c.homes.ensures, c.makings_of-makings.ensures.made) in
    subst (AnswerNeeds g.P.Pages.means.store (c.args.homes + most_made c.args.r.kind) c.args.pages.now) (sym c.conclude-answer.ensures.answer)
    (concluded_needs g.P.Pages.means.store c.args.pages.now (c.args.homes + most_made c.args.r.kind) (c.args.homes + c.homes.result) c.room.result c.page_away.result few c.room.ensures.frames c.page_away.ensures.needs)
