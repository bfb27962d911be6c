use Rattle.std.proofs.Common.{refl, ◌∙◌}
use Rattle.page_gather.proofs.Settling.{not_stuck, ready_settled, copy_settled, zero_first}
use Rattle.page_gather.proofs.Settling.{grows_none}
use Rattle.page_gather.proofs.making.make_rest.Goals as goal

pub returns-in-Ready-clause-told : goal.returns-in-Ready-clause-told
returns-in-Ready-clause-told g c d left fits k once = (c.settle.ensures.told d fits).1 ∙ ready_settled _ _ c.args.owner c.requires.owner c.args.r left k (c.in-Ready.ensures.told d c.args.owner fits c.requires.owner)

pub returns-in-Copy-clause-told : goal.returns-in-Copy-clause-told
returns-in-Copy-clause-told g c d left fits k once = (c.settle-in-Copy.ensures.told d fits).1 ∙ copy_settled _ _ c.args.owner c.requires.owner c.args.r left k c.in-Copy.sole (c.in-Copy.ensures.told d c.args.owner fits c.requires.owner)

pub returns-in-Zero-clause-told : goal.returns-in-Zero-clause-told
returns-in-Zero-clause-told g c d left fits k once =
    let z = zero_first _ _ c.args.owner c.requires.owner c.args.r left k (c.in-Zero.ensures.told d c.args.owner fits c.requires.owner) in absurd (once _ _ z.1)

pub returns-in-Absent-clause-told : goal.returns-in-Absent-clause-told
returns-in-Absent-clause-told g c d left fits k once = not_stuck _ _ c.args.owner c.requires.owner c.args.r left k _ (c.in-Absent.ensures.told d c.args.owner fits c.requires.owner) refl

pub returns-in-NeedFrame-clause-told : goal.returns-in-NeedFrame-clause-told
returns-in-NeedFrame-clause-told g c d left fits k once = not_stuck _ _ c.args.owner c.requires.owner c.args.r left k _ (c.in-NeedFrame.ensures.told d c.args.owner fits c.requires.owner) refl

pub returns-in-Denied-clause-told : goal.returns-in-Denied-clause-told
returns-in-Denied-clause-told g c d left fits k once = not_stuck _ _ c.args.owner c.requires.owner c.args.r left k _ (c.in-Denied.ensures.told d c.args.owner fits c.requires.owner) refl

pub returns-in-Full-clause-told : goal.returns-in-Full-clause-told
returns-in-Full-clause-told g c d left fits k once = not_stuck _ _ c.args.owner c.requires.owner c.args.r left k _ (c.in-Full.ensures.told d c.args.owner fits c.requires.owner) refl

pub returns-in-Absent-clause-grows : goal.returns-in-Absent-clause-grows
returns-in-Absent-clause-grows g c = grows_none g.P.Pages.means c.args.owner 1 c.args.pages.now

pub returns-in-NeedFrame-clause-grows : goal.returns-in-NeedFrame-clause-grows
returns-in-NeedFrame-clause-grows g c = grows_none g.P.Pages.means c.args.owner 1 c.args.pages.now

pub returns-in-Denied-clause-grows : goal.returns-in-Denied-clause-grows
returns-in-Denied-clause-grows g c = grows_none g.P.Pages.means c.args.owner 1 c.args.pages.now

pub returns-in-Full-clause-grows : goal.returns-in-Full-clause-grows
returns-in-Full-clause-grows g c = grows_none g.P.Pages.means c.args.owner 1 c.args.pages.now

pub returns-in-Zero-clause-grows : goal.returns-in-Zero-clause-grows
returns-in-Zero-clause-grows g c = grows_none g.P.Pages.means c.args.owner 1 c.args.pages.now
