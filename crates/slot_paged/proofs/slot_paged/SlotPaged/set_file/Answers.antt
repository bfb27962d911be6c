use Rattle.std.proofs.Common.{◌∙◌, None, Option, Some, is_some, sym, ap}
use Rattle.machine_names.specs.declared.names.Place.TheVariants.{Fork}
use Rattle.machine_names.specs.declared.names.PageName.{PageName}
use Rattle.machine_names.specs.declared.names.Slot.{Slot}
use Rattle.machine_names.specs.Orders.{file_page}
use Rattle.page_contracts.specs.Pages.{IsPlace}
use Rattle.plain_pages.specs.FilePages.{filed_by, with_file}
use Rattle.flat_pages.proofs.FilePlaces.{given_slot}
use Rattle.paged_tables.specs.PagedMeaning.{lives_in}
use Rattle.paged_tables.specs.PagedTables.{beside_of, plain_over}
use Rattle.paged_tables.proofs.Homed.{homed_named, place_stands, place_tells, reached_there}
use Rattle.slot_paged.proofs.slot_paged.SlotPaged.set_file.Goals as goal

pub returns-in_default : goal.returns-in_default
returns-in_default g c =
    let s = c.args.self.now in
    record {
      home = None;
      named = sym (ap is_some c.in_default.is);
      sets = c.unfile.ensures;
      told = λ d fits. (let r = c.unfile.ensures.told d fits in
          (r.0, r.1 ∙ sym (ap (λ (o : Option Slot). filed_by (plain_over (beside_of s.tables) (g.S.Store.means.homes s.store) d) (file_page c.args.file.0 c.args.page) o) c.in_default.is)));
    }

pub refile-requires-clause-named : goal.refile-requires-clause-named
refile-requires-clause-named g c =
    let s = c.args.self.now in
    let b = beside_of s.tables in
    let places = g.S.Store.means.homes s.store in
    let there = given_slot (λ x. IsPlace (lives_in b) (Fork x)) c.args.from c.in-Some.slot c.in-Some.is c.requires.place in
    homed_named b places s.kept (Fork c.in-Some.slot) c.in-At.home (place_stands b places s.kept (Fork c.in-Some.slot) there) (sym c.in-At.ensures.answer)

pub returns : goal.returns
returns g c =
    let s = c.args.self.now in
    let b = beside_of s.tables in
    let places = g.S.Store.means.homes s.store in
    let pages = (g.met.S.Store.sound s.store).pages in
    let at = Fork c.in-Some.slot in
    let there = given_slot (λ x. IsPlace (lives_in b) (Fork x)) c.args.from c.in-Some.slot c.in-Some.is c.requires.place in
    let stands = place_stands b places s.kept at there in
    record {
      home = Some c.in-At.home;
      named = sym (ap is_some c.in-Some.is);
      sets = c.refile.ensures;
      told = λ d fits. (let reached = reached_there b places s.kept pages d fits at there stands (place_tells b places s.kept pages d fits at there) c.in-At.home (sym c.in-At.ensures.answer) in
          let r = c.refile.ensures.told d fits in
          (r.0, r.1 ∙ sym (ap (λ (o : Option Slot). filed_by (plain_over b places d) (file_page c.args.file.0 c.args.page) o) c.in-Some.is ∙ ap (λ (o : Option PageName). with_file (plain_over b places d) (file_page c.args.file.0 c.args.page) o) (reached.page d))));
    }
