use Rattle.std.proofs.Common.{List, sym, ◌∙◌, ap, subst}
use Rattle.page_contracts.specs.Pages.{spot_of}
use Rattle.plain_pages.specs.References.{page_at}
use Rattle.page_gather.specs.declared.change.Change.{Change}
use Rattle.page_gather.specs.Gathering.{AreGathered, Gathering, IsPlaceNear, are_same, left_of}
use Rattle.page_gather.proofs.gather.Gather.same.Goals as goal

pub returns : goal.returns
returns g c = record {
  told = λ d fits k first second.
      let after = left_of (g.P.Pages.means.plain c.args.pages.now d) c.args.self.now in
      let changes = c.as_slice.ensures.value ∙ ap (λ (x : Gathering). x.changes) c.self.view_is in
      let gathered = subst (λ (cs : List Change). AreGathered (g.P.Pages.means.plain c.args.pages.now d) (g.P.Pages.means.scene c.args.pages.now) c.args.self.now.owner c.args.self.now.references cs c.args.self.now.homes) (sym changes) k in
      c.are_together.ensures.told d c.args.self.now.owner c.args.self.now.homes c.args.self.now.references fits gathered
      (subst (IsPlaceNear (left_of (g.P.Pages.means.plain c.args.pages.now d) c.args.self.now) (g.P.Pages.means.scene c.args.pages.now)) (sym c.slot_of.ensures.is) first) (subst (IsPlaceNear (left_of (g.P.Pages.means.plain c.args.pages.now d) c.args.self.now) (g.P.Pages.means.scene c.args.pages.now)) (sym c.slot_of-2.ensures.is) second)
      ∙ λ i. are_same (page_at after (spot_of (c.slot_of.ensures.is i))) (page_at after (spot_of (c.slot_of-2.ensures.is i)));
}
