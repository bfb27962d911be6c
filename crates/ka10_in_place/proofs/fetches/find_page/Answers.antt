use Rattle.std.proofs.Common.{ℕ, Some, refl, sym, ◌∙◌, ap}
use Rattle.machine_names.specs.declared.names.Kind.TheVariants.{Execute}
use Rattle.ka10_spots.proofs.Ready.{ready_there}
use Rattle.ka10_in_place.proofs.fetches.find_page.Goals as goal

pub returns-in-Some : goal.returns-in-Some
returns-in-Some g c = record {
  has = λ yes. c.fetch_page.ensures.has c.args.at c.if-at-lt-ACCUMULATORS.false (sym c.page_of-page.ensures.page);
  missing = λ no. absurd (cc no);
  there = λ at has. record {
    high = c.fetch_page.ensures.high at has;
    place = ap (λ (n : ℕ). g.P.Pages.means.place c.args.pages.now c.args.space n) (c.fetch_page.ensures.of at has) ∙ c.in-Some.ensures.place ∙ ap Some (sym c.fetch_page.ensures.place);
  };
  told = λ d f fits is can at has.
      ready_there g.P.Pages.means c.args.pages.now d f at c.page_of-page.result Execute (sym (c.fetch_page.ensures.of at has)) (c.in-Some.ensures.told d f fits is refl);
}
