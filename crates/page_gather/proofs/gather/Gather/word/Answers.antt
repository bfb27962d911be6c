use Rattle.std.proofs.Common.{List, sym, ◌∙◌, ap, subst}
use Rattle.machine_names.specs.declared.names.Place.{Place}
use Rattle.page_contracts.specs.Pages.{spot_of}
use Rattle.plain_pages.specs.References.{word_at}
use Rattle.page_gather.specs.declared.change.Change.{Change}
use Rattle.page_gather.specs.Gathering.{AreGathered, Gathering, IsPlaceNear, left_of}
use Rattle.page_gather.proofs.gather.Gather.word.Goals as goal

pub returns : goal.returns
returns g c = record {
  told = λ d fits k referred.
      let changes = c.as_slice.ensures.value ∙ ap (λ (x : Gathering). x.changes) c.self.view_is in
      let gathered = subst (λ (cs : List Change). AreGathered (g.P.Pages.means.plain c.args.pages.now d) (g.P.Pages.means.scene c.args.pages.now) c.args.self.now.owner c.args.self.now.references cs c.args.self.now.homes) (sym changes) k in
      c.word_after.ensures.told d c.args.self.now.owner c.args.self.now.homes c.args.self.now.references fits gathered (subst (IsPlaceNear (left_of (g.P.Pages.means.plain c.args.pages.now d) c.args.self.now) (g.P.Pages.means.scene c.args.pages.now)) (sym c.slot_of.ensures.is) referred)
      ∙ ap (λ (at : Place). word_at (left_of (g.P.Pages.means.plain c.args.pages.now d) c.args.self.now) (spot_of at) c.args.offset) c.slot_of.ensures.is;
}
