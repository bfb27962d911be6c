use Rattle.std.proofs.Common.{sym, ◌∙◌}
use Rattle.page_gather.proofs.Settling.{copy_settled, grows_none}
use Rattle.console_access.proofs.Judging.{nothing_left, write_at}
use Rattle.console_access.proofs.readying.make_copy.Goals as goal

pub returns-in-Copy-clause-told : goal.returns-in-Copy-clause-told
returns-in-Copy-clause-told g c d left fits k zero =
    (c.settle.ensures.told d fits).1 ∙ copy_settled _ _ c.args.owner c.requires.owner (write_at c.args.slot) left k c.in-Copy.sole (c.in-Copy.ensures.told d c.args.owner fits c.requires.owner)

pub returns-in_default : goal.returns-in_default
returns-in_default g c = record {
  grows = grows_none g.P.Pages.means c.args.owner 1 c.args.pages.now;
  fits = λ d fits. fits;
  told = λ d left fits k zero.
      let t = c.touch.ensures.told d c.args.owner fits c.requires.owner in
      nothing_left (g.P.Pages.means.plain c.args.pages.now d) (g.P.Pages.means.scene c.args.pages.now) c.args.owner c.requires.owner c.args.slot left k c.touch.result t c.in_default.not-Copy (λ is. zero (sym t ∙ is));
}
