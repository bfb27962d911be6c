use Rattle.std.proofs.Common.{◌+◌, ◌∷◌, [], ◌++◌, None, sym, subst, arith}
use Rattle.page_gather.specs.declared.change.Change.{Change}
use Rattle.plain_pages.specs.Maps.{full_access}
use Rattle.page_gather.specs.Gathering.{GoesOn}
use Rattle.page_gather.proofs.Judged.{told_ready, told_zero, told_both}
use Rattle.page_gather.proofs.Needing.{homes_few, one_made, two_made}
use Rattle.page_gather.proofs.judging.makings_of.Goals as goal

pub returns-then-w-clause-told : goal.returns-then-w-clause-told
returns-then-w-clause-told g c d q owner homes fits k may =
    subst (λ (x : Change). GoesOn (g.P.Pages.means.plain c.args.pages.now d) q (g.P.Pages.means.scene c.args.pages.now) owner c.args.r c.args.changes.now (c.args.changes.now ++ x ∷ []) (homes + 1)) (sym c.zero_page.ensures)
    (told_zero _ q _ owner c.args.changes.now homes c.args.r c.args.w k may c.if-w.true (sym c.in-None.ensures))

pub returns-else-w-clause-told : goal.returns-else-w-clause-told
returns-else-w-clause-told g c d q owner homes fits k may = told_ready _ q _ owner c.args.changes.now homes c.args.r c.args.w k may c.if-w.false (sym c.in-None.ensures)

pub returns-then-w-2-clause-told : goal.returns-then-w-2-clause-told
returns-then-w-2-clause-told g c d q owner homes fits k may =
    subst (λ (x : Change). GoesOn (g.P.Pages.means.plain c.args.pages.now d) q (g.P.Pages.means.scene c.args.pages.now) owner c.args.r c.args.changes.now ((c.args.changes.now ++ x ∷ []) ++ c.private_copy.result ∷ []) (homes + 2)) (sym c.zero_page-then-w-2.ensures)
    (subst (λ (x : Change). GoesOn (g.P.Pages.means.plain c.args.pages.now d) q (g.P.Pages.means.scene c.args.pages.now) owner c.args.r c.args.changes.now ((c.args.changes.now ++ record { slot = c.args.w.end; access = full_access; source = None; old = None } ∷ []) ++ x ∷ []) (homes + 2)) (sym c.private_copy.ensures)
    (told_both _ q _ owner c.args.changes.now homes c.args.r c.args.w k may c.if-w-2.true c.in-Some.slot (sym c.in-Some.ensures)))

pub returns-then-w-clause-made : goal.returns-then-w-clause-made
returns-then-w-clause-made g c = one_made c.args.r.kind

pub returns-then-w-2-clause-made : goal.returns-then-w-2-clause-made
returns-then-w-2-clause-made g c = two_made c.args.r.kind c.args.w c.in-Some.slot (sym c.in-Some.ensures)

pub returns-else-w-2-clause-made : goal.returns-else-w-2-clause-made
returns-else-w-2-clause-made g c = omega (arith, c.copy_page.ensures.one, two_made c.args.r.kind c.args.w c.in-Some.slot (sym c.in-Some.ensures), homes_few c.copy_page.result)
