use Rattle.std.proofs.Common.{◌≡◌, ap, ◌∙◌, Some, None, sym, is_some, Option}
use Rattle.machine_names.specs.Orders.{file_page}
use Rattle.machine_names.specs.declared.names.PageName.{PageName}
use Rattle.machine_names.specs.declared.names.Place.TheVariants.{Fork}
use Rattle.machine_names.specs.declared.names.ForkName.{ForkName}
use Rattle.machine_names.specs.declared.names.Kind.TheVariants.{Read}
use Rattle.machine_names.specs.declared.names.Slot.{Slot}
use Rattle.page_contracts.specs.declared.answers.Touch.TheVariants.{Ready}
use Rattle.page_contracts.specs.Pages.{IsPlace}
use Rattle.plain_pages.specs.FilePages.{filed_by, with_file}
use Rattle.flat_tables.specs.HeldMaps.{index_of}
use Rattle.flat_tables.specs.SlotTables.{plain_of}
use Rattle.flat_tables.specs.SlotTouches.{touch_of_place}
use Rattle.flat_tables.specs.TableSteps.{tables_of}
use Rattle.flat_pages.proofs.FilePlaces.{given_slot, page_set, ready_entry, ready_some}
use Rattle.flat_pages.proofs.Meeting.{reached}
use Rattle.flat_pages.proofs.flat_slots.FlatSlotsPages.set_file.Goals as goal

pub returns-in_default : goal.returns-in_default
returns-in_default g c =
    let s = c.args.self.now in
    let t = tables_of (g.S.Store.means.homes s.store) s.tables in
    page_set g.S.Store.means (λ p. p.store) (λ p. p.tables) s c.unfile.new.self s.agree c.unfile.new.self.agree c.args.file c.args.page c.args.from None c.unfile.ensures
    (sym (ap is_some c.in_default.is)) (λ d. ap (λ (o : Option Slot). filed_by (plain_of t d) (file_page c.args.file.0 c.args.page) o) c.in_default.is)

pub unreachable-requires : goal.unreachable-requires
unreachable-requires g c =
    let s = c.args.self.now in
    ready_some (tables_of (g.S.Store.means.homes s.store) s.tables) (g.S.Store.means.spare s.store) c.in-Some.slot (given_slot (λ x. touch_of_place (tables_of (g.S.Store.means.homes s.store) s.tables) (g.S.Store.means.spare s.store) (Fork x) Read ≡ Ready) c.args.from c.in-Some.slot c.in-Some.is c.requires.ready) (sym c.home_of.ensures ∙ c.in_default-home_of.is)

pub refile-requires-clause-entry : goal.refile-requires-clause-entry
refile-requires-clause-entry g c =
    let s = c.args.self.now in
    ready_entry (tables_of (g.S.Store.means.homes s.store) s.tables) s.agree c.in-Some.slot (given_slot (λ x. IsPlace (λ (f : ForkName). is_some (index_of s.tables.maps.held.items f)) (Fork x)) c.args.from c.in-Some.slot c.in-Some.is c.requires.place) c.in-Some-home_of.home (sym c.home_of.ensures ∙ c.in-Some-home_of.is)

pub returns : goal.returns
returns g c =
    let s = c.args.self.now in
    let t = tables_of (g.S.Store.means.homes s.store) s.tables in
    let place = given_slot (λ x. IsPlace (λ (f : ForkName). is_some (index_of s.tables.maps.held.items f)) (Fork x)) c.args.from c.in-Some.slot c.in-Some.is c.requires.place in
    let r = reached t s.agree (Fork c.in-Some.slot) c.in-Some-home_of.home place (sym c.in-Some-home_of.is ∙ c.home_of.ensures) in
    page_set g.S.Store.means (λ p. p.store) (λ p. p.tables) s c.refile.new.self s.agree c.refile.new.self.agree c.args.file c.args.page c.args.from (Some c.in-Some-home_of.home) c.refile.ensures
    (sym (ap is_some c.in-Some.is))
    (λ d. ap (λ (o : Option Slot). filed_by (plain_of t d) (file_page c.args.file.0 c.args.page) o) c.in-Some.is ∙ ap (λ (o : Option PageName). with_file (plain_of t d) (file_page c.args.file.0 c.args.page) o) (r.page d))
