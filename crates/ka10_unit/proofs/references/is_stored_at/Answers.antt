use Rattle.std.proofs.Common.{◌≡◌, ◌%◌, true, ◌∙◌, arith}
use Rattle.std.specs.Prelude.{◌==◌}
use Rattle.std.proofs.lemmas.Bool.Decides.{nat_tests}
use Rattle.plain_pages.specs.PlainPages.{NumberedPages}
use Rattle.page_contracts.specs.Pages.{spot_of}
use Rattle.plain_pages.specs.References.{page_at, slot_at}
use Rattle.page_gather.specs.Gathering.{are_same, left_of}
use Rattle.ka10_unit.proofs.Adding.{near_place}
use Rattle.ka10_unit.proofs.Seeing.{stands_same}
use Rattle.ka10_unit.proofs.references.is_stored_at.Goals as goal

pub returns : goal.returns
returns g c = record {
  told = λ d n fits gathers here beside there.
      let q : NumberedPages = left_of (g.P.Pages.means.plain c.args.pages.now d) c.args.gather.now in
      let same : (c.args.stored % 512 == c.args.at % 512) ≡ true = grind (arith, nat_tests) in
      let first = near_place q (g.P.Pages.means.scene c.args.pages.now) _ (slot_at c.args.fork c.args.at) c.page_of_address.ensures here in
      let second = near_place q (g.P.Pages.means.scene c.args.pages.now) _ (slot_at c.args.fork c.args.stored) c.page_of_address-2.ensures beside in
      c.same.ensures.told d fits gathers first second ∙ (λ i. are_same (page_at q (spot_of (c.page_of_address.ensures i))) (page_at q (spot_of (c.page_of_address-2.ensures i)))) ∙ stands_same c.args.fork q c.args.stored c.args.at n same there;
}
