use Rattle.std.proofs.Common.{◌∙◌, sym, subst, inl}
use Rattle.call_turns.specs.Answers.{AnswerNeeds, FitsAnswer, IsDone}
use Rattle.call_turns.specs.Granting.{pages_granted}
use Rattle.file_tables.specs.Keys.{key_of}
use Rattle.call_turns.specs.Making.{MakesIn}
use Rattle.pmap_calls.specs.Stages.{IsMapChange}
use Rattle.pmap_calls.proofs.Changes.{behind_done, behind_other, end_done, end_fits, end_makes, end_needs}
use Rattle.ka10_spots.proofs.Stored.{lost_none}
use Rattle.pmap_calls.proofs.turn.end.Goals as goal

pub returns-in-Ok-clause-told : goal.returns-in-Ok-clause-told
returns-in-Ok-clause-told g c d f =
    let p = g.P.Pages.means.plain c.args.pages.now d in
    let t = c.in-Ok.ensures.told d f in
    (t.0, inl (record { answered = c.answer_of.ensures; left = t.1 ∙ behind_done (key_of c.args.tables.now) p (pages_granted p c.args.owner c.args.outcome.grant) c.args.outcome.end c.in-Done.what _ _ _ c.in-Done.is }))

pub returns-in_default : goal.returns-in_default
returns-in_default g c =
    let means = g.P.Pages.means in
    let s = c.args.pages.now in
    let e = c.args.outcome.end in
    let answered = c.answer_of-in_default.ensures in
    record {
      told = λ d f. let p = means.plain s d in (f, inl (record { answered = answered; left = behind_other (key_of c.args.tables.now) p (pages_granted p c.args.owner c.args.outcome.grant) e c.in_default.not-Done }));
      needs = subst (AnswerNeeds means.store 1 s) (sym answered) (end_needs means.store 1 s e);
      core = λ flat. subst IsDone (sym answered) (end_done e);
      fits = subst FitsAnswer (sym answered) (end_fits (IsMapChange c.args.outcome.grant) e c.requires.fits);
      loses = lost_none means s;
      made = subst (MakesIn means c.args.owner s s) (sym answered) (end_makes means c.args.owner s e);
    }
