use Rattle.std.proofs.Common.{refl, inl, sym, ◌∙◌, ap, subst}
use Rattle.call_turns.specs.Answers.{AnswerNeeds, answer_of}
use Rattle.job_forks.specs.Holding.{parts}
use Rattle.job_forks.proofs.CallLeaving.{none_leaves}
use Rattle.fork_calls.proofs.Going.{ends_done, ends_so}
use Rattle.fork_calls.proofs.Needed.{end_needs}
use Rattle.fork_calls.proofs.ending.end.Goals as goal

pub returns-in-Ok-clause-told : goal.returns-in-Ok-clause-told
returns-in-Ok-clause-told g c regs d fits =
    let t = c.in-Ok.ensures.told d fits in
    let v = parts c.args.tree.now (g.P.Pages.means.plain c.args.pages.now d) in
    (t.0, inl (ends_done v _ c.answer_of.result c.args.ending c.in-Done.what _ _ _ c.in-Done.is t.1 (c.answer_of.ensures ∙ ap answer_of c.in-Done.is)))

pub returns-in_default-clause-told : goal.returns-in_default-clause-told
returns-in_default-clause-told g c regs d fits =
    let v = parts c.args.tree.now (g.P.Pages.means.plain c.args.pages.now d) in
    (fits, inl (ends_so v v c.answer_of-in_default.result c.args.ending c.in_default.not-Done c.answer_of-in_default.ensures refl))

pub returns-in-Ok-clause-needs : goal.returns-in-Ok-clause-needs
returns-in-Ok-clause-needs g c =
    let s = c.change.new.pages in
    subst (AnswerNeeds g.P.Pages.means.store 1 s) (sym c.answer_of.ensures) (end_needs g.P.Pages.means.store 1 s c.args.ending)

pub returns-in_default-clause-needs : goal.returns-in_default-clause-needs
returns-in_default-clause-needs g c =
    let s = c.args.pages.now in
    subst (AnswerNeeds g.P.Pages.means.store 1 s) (sym c.answer_of-in_default.ensures) (end_needs g.P.Pages.means.store 1 s c.args.ending)

pub returns-in_default-clause-leaves : goal.returns-in_default-clause-leaves
returns-in_default-clause-leaves g c = none_leaves g.P.Pages.means c.args.who c.args.tree.now c.args.pages.now c.requires.holds
