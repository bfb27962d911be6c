use Rattle.std.proofs.Common.{◌%◌, ◌∙◌, ap}
use Rattle.outside.specs.declared.TheConstants.{PAGE_WORDS}
use Rattle.machine_names.specs.declared.names.Place.{Place}
use Rattle.page_contracts.specs.Pages.{spot_of}
use Rattle.plain_pages.specs.PlainPages.{NumberedPages}
use Rattle.plain_pages.specs.References.{slot_at, word_at}
use Rattle.page_gather.specs.Gathering.{left_of}
use Rattle.ka10_unit.proofs.Adding.{near_place}
use Rattle.ka10_unit.proofs.references.held_word.Goals as goal

pub returns : goal.returns
returns g c = record {
  told = λ d fits gathers here.
      let q : NumberedPages = left_of (g.P.Pages.means.plain c.args.pages.now d) c.args.gather.now in
      let near = near_place q (g.P.Pages.means.scene c.args.pages.now) _ (slot_at c.args.fork c.args.at) c.page_of_address.ensures here in
      ◌∙◌ {b = word_at q (spot_of c.page_of_address.result) (c.args.at % PAGE_WORDS)} (c.word.ensures.told d fits gathers near) (ap (λ (at : Place). word_at q (spot_of at) (c.args.at % PAGE_WORDS)) c.page_of_address.ensures);
}
