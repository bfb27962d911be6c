use Rattle.std.proofs.Common.{◌+◌, ◌∷◌, [], ◌++◌, None, Some, refl, sym, ◌∙◌, ap, subst, cond}
use Rattle.std.specs.Prelude.{◌==◌}
use Rattle.page_gather.specs.declared.change.Change.{Change}
use Rattle.page_gather.specs.Gathering.{GoesOn}
use Rattle.page_gather.proofs.Judged.{private_with, told_apart, told_nameless, told_copy}
use Rattle.page_gather.proofs.judging.copy_page.Goals as goal

pub returns-then-not-is_same-clause-told : goal.returns-then-not-is_same-clause-told
returns-then-not-is_same-clause-told g c d q owner homes fits k may =
    subst (λ (x : Change). GoesOn (g.P.Pages.means.plain c.args.pages.now d) q (g.P.Pages.means.scene c.args.pages.now) owner c.args.r c.args.changes.now (c.args.changes.now ++ x ∷ []) (homes + 1))
    (sym (c.private_copy.ensures ∙ private_with c.args.slot c.args.w _ _ None None c.source_of-source.ensures.is refl))
    (told_apart _ q _ owner c.args.changes.now homes c.args.r c.args.w k may c.requires.full c.args.slot c.requires.marked (sym c.if-not-is_same.ensures))

pub returns-in-None-clause-told : goal.returns-in-None-clause-told
returns-in-None-clause-told g c d q owner homes fits k may =
    told_nameless _ q _ owner c.args.changes.now homes c.args.r c.args.w k may c.requires.full c.args.slot c.requires.marked (sym c.if-not-is_same.ensures) None (c.in-None.ensures.told d fits) refl

pub returns-in-Some-clause-told : goal.returns-in-Some-clause-told
returns-in-Some-clause-told g c d q owner homes fits k may =
    subst (λ (x : Change). GoesOn (g.P.Pages.means.plain c.args.pages.now d) q (g.P.Pages.means.scene c.args.pages.now) owner c.args.r c.args.changes.now (c.args.changes.now ++ x ∷ []) (homes + cond (c.in-Some.names == c.names_taken.result + 1) 0 1))
    (sym (c.private_copy-in-Some.ensures ∙ private_with c.args.slot c.args.w _ _ _ _ c.source_of-source.ensures.is refl))
    (told_copy _ q _ owner c.args.changes.now homes c.args.r c.args.w k may c.requires.full c.args.slot c.requires.marked (sym c.if-not-is_same.ensures) (Some (c.in-Some.name, c.in-Some.names)) (c.in-Some.ensures.told d fits) c.in-Some.name c.in-Some.names
    (c.in-Some.names == c.names_taken.result + 1) refl (ap (λ n. c.in-Some.names == n + 1) c.names_taken.ensures.taken))
