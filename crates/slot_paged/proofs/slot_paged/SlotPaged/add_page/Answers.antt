use Rattle.std.proofs.Common.{◌≡◌, ◌+◌, List, true, Option, None, Some, map, refl, sym, ◌∙◌, ap, subst}
use Rattle.std.specs.Prelude.{slice_set}
use Rattle.machine_names.specs.declared.names.PageName.{PageName}
use Rattle.machine_names.specs.declared.names.Tty.{Tty}
use Rattle.page_homes.specs.declared.homes.Home.{Home}
use Rattle.page_contracts.specs.Stores.{HomePlace, is_here, is_taken, place}
use Rattle.flat_tables.specs.Serials.{with_next}
use Rattle.flat_tables.specs.TableSteps.{next_name}
use Rattle.flat_tables.proofs.Making.{here_taken}
use Rattle.pager_walk.specs.declared.paged_entry.MapTables.{MapTables}
use Rattle.pager_walk.specs.PagedMaps.{Tables, AreRooted, FitsMaps, tables_of, with_name}
use Rattle.paged_tables.specs.declared.paged_tables.PagedTables.{PagedTables}
use Rattle.paged_tables.specs.MadePages.{page_like, page_named}
use Rattle.paged_tables.specs.PagedTables.{Beside, AreKept, beside_of}
use Rattle.paged_tables.proofs.PagesMade.{new_kept}
use Rattle.slot_paged.proofs.slot_paged.SlotPaged.add_page.Goals as goal

like_taken : (places : List HomePlace) (from : Option Home) → ((h : Home) → from ≡ Some h → is_here (place places h.0) ≡ true) → is_taken (page_like places from) ≡ true
like_taken places None here_is = refl
like_taken places (Some h) here_is = here_taken (place places h.0) (here_is h refl)

-- a name was taken, a home has it, and its page has no share
module _ (old taken unshared : PagedTables) (maps : MapTables) (home : Home) (owner : Tty) (name : PageName) (takes : taken ≡ record old { serials = with_next old.serials owner }) (title : name ≡ next_name old.serials owner) (names : tables_of maps ≡ with_name (tables_of taken.tables) home name) where
  maps_named : tables_of maps ≡ with_name (beside_of old).tables home (next_name old.serials owner)
  maps_named = names ∙ (λ i. with_name (tables_of (takes i).tables) home (title i))

  added : beside_of unshared ≡ record (beside_of (record taken { tables = maps })) { shared = slice_set taken.shared.items home.0 None } → beside_of (record unshared { taken = unshared.taken + 1 }) ≡ page_named (beside_of old) home owner
  added unshares = ap (λ (x : Beside). record x { taken = x.taken + 1 }) unshares ∙ (λ i. record (beside_of (takes i)) { tables = maps_named i; shared = slice_set (takes i).shared.items home.0 None; taken = (takes i).taken + 1 })

pub invariant_of-self : goal.invariant_of-self
invariant_of-self g c =
    let s = c.args.self.now in
    let b = beside_of s.tables in
    let places = g.S.Store.means.homes s.store in
    let owner = c.args.owner in
    let home = c.new_page-home.result in
    let e = c.take_name-name.ensures in
    let m = c.new_page-home.ensures in
    let mid = g.S.Store.means.homes c.new_page-home.new.store in
    let names = maps_named s.tables c.take_name-name.new.self c.unshare.new.self c.new_page-home.new.tables home owner c.take_name-name.result e.serials e.name m.tables in
    let same = added s.tables c.take_name-name.new.self c.unshare.new.self c.new_page-home.new.tables home owner c.take_name-name.result e.serials e.name m.tables c.unshare.ensures in
    let rooted = subst (λ (ps : List HomePlace). AreRooted (with_name b.tables home (next_name b.serials owner)) (map is_taken ps)) m.made.homes (subst (λ (y : Tables). AreRooted y (map is_taken mid)) names m.rooted) in
    let kept = new_kept b places s.kept home owner c.requires.owner (page_like places c.args.from) (like_taken places c.args.from c.requires.from) m.made.below m.made.was_free rooted in
    record { kept = subst (λ (y : Beside). AreKept y mid) (sym same) (subst (λ (ps : List HomePlace). AreKept (page_named b home owner) ps) (sym m.made.homes) kept) }

pub returns-clause-beside : goal.returns-clause-beside
returns-clause-beside g c =
    let e = c.take_name-name.ensures in
    added c.args.self.now.tables c.take_name-name.new.self c.unshare.new.self c.new_page-home.new.tables c.new_page-home.result c.args.owner c.take_name-name.result e.serials e.name c.new_page-home.ensures.tables c.unshare.ensures

pub returns-clause-fits : goal.returns-clause-fits
returns-clause-fits g c d fits =
    let s = c.args.self.now in
    let e = c.take_name-name.ensures in
    let m = c.new_page-home.ensures in
    let mid = g.S.Store.means.homes c.new_page-home.new.store in
    let names = maps_named s.tables c.take_name-name.new.self c.unshare.new.self c.new_page-home.new.tables c.new_page-home.result c.args.owner c.take_name-name.result e.serials e.name m.tables in
    let same = added s.tables c.take_name-name.new.self c.unshare.new.self c.new_page-home.new.tables c.new_page-home.result c.args.owner c.take_name-name.result e.serials e.name m.tables c.unshare.ensures in
    subst (λ (y : Beside). FitsMaps y.tables mid d) (sym same) (subst (λ (y : Tables). FitsMaps y mid d) names (m.fits d (subst (λ (t : PagedTables). FitsMaps (tables_of t.tables) (g.S.Store.means.homes s.store) d) (sym e.serials) fits)))
