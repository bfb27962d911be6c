use Rattle.std.proofs.Common.{◌≡◌, ◌∙◌, List, map, refl, sym, ap, subst}
use Rattle.std.specs.Prelude.{slice_set}
use Rattle.std.specs.FinMap as fin
use Rattle.machine_names.specs.Orders.{file_page}
use Rattle.machine_names.specs.PageWords.{zero_words}
use Rattle.page_contracts.specs.Stores.{HomePlace, here, is_taken}
use Rattle.pager_walk.specs.PagedMaps.{AreRooted, FitsMaps}
use Rattle.paged_tables.specs.MadePages.{page_filed, page_named}
use Rattle.paged_tables.specs.PagedTables.{AreKept, Beside, beside_of}
use Rattle.paged_tables.proofs.FiledPages.{filed_kept}
use Rattle.slot_paged.proofs.slot_paged.SlotPaged.make_filed.Goals as goal

pub invariant_of-self : goal.invariant_of-self
invariant_of-self g c =
    let s = c.args.self.now in
    let b = beside_of s.tables in
    let owner = c.args.owner in
    let home = c.add_page-home.result in
    let mid = c.add_page-home.new.self in
    let m = c.add_page-home.ensures in
    let places = g.S.Store.means.homes mid.store in
    let f = file_page c.args.file.0 c.args.page in
    let filed : beside_of c.file.new.self ≡ page_filed b f home owner = c.file.ensures ∙ ap (λ (x : Beside). record x { filed = slice_set x.filed home.0 1; files = fin.insert x.files f home }) m.beside in
    let rooted = subst (λ (ps : List HomePlace). AreRooted (page_named b home owner).tables (map is_taken ps)) m.made.homes (subst (λ (x : Beside). AreRooted x.tables (map is_taken places)) m.beside mid.kept.rooted) in
    let kept = filed_kept b (g.S.Store.means.homes s.store) s.kept home owner c.requires.owner (here zero_words) refl m.made.below m.made.was_free f c.requires.page c.requires.none rooted in
    record { kept = subst (λ (x : Beside). AreKept x places) (sym filed) (subst (λ (ps : List HomePlace). AreKept (page_filed b f home owner) ps) (sym m.made.homes) kept) }

pub returns : goal.returns
returns g c =
    let home = c.add_page-home.result in
    let m = c.add_page-home.ensures in
    let f = file_page c.args.file.0 c.args.page in
    record {
      home = home;
      made = m.made;
      beside = c.file.ensures ∙ ap (λ (x : Beside). record x { filed = slice_set x.filed home.0 1; files = fin.insert x.files f home }) m.beside;
      fits = λ d fits. subst (λ (x : Beside). FitsMaps x.tables (g.S.Store.means.homes c.add_page-home.new.self.store) d) (sym c.file.ensures) (m.fits d fits);
    }
