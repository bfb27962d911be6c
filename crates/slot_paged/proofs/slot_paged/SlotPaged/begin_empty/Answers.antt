use Rattle.std.proofs.Common.{◌≡◌, ◌+◌, ◌<◌, List, length, sym, ap, subst, arith}
use Rattle.machine_names.specs.PageWords.{zero_words}
use Rattle.page_contracts.specs.Stores.{HomePlace}
use Rattle.plain_pages.specs.declared.map.NewMap.TheVariants as new_map
use Rattle.plain_pages.specs.NewMaps.{with_map}
use Rattle.pager_walk.specs.PagedMaps.{Tables, FitsMaps, with_root}
use Rattle.flat_tables.specs.HeldMaps.{no_page}
use Rattle.paged_tables.specs.PagedTables.{Beside, FitsPages, beside_of, plain_over}
use Rattle.paged_tables.specs.PagedMeaning.{with_fork}
use Rattle.paged_tables.proofs.NewForks.{begun_told, empty_entries, empty_plain, new_entries}
use Rattle.slot_paged.proofs.slot_paged.SlotPaged.begin_empty.Goals as goal

pub returns-clause-told : goal.returns-clause-told
returns-clause-told g c d fits =
    let s = c.args.self.now in
    let r = c.requires in
    let b = beside_of s.tables in
    let places = g.S.Store.means.homes s.store in
    let m = c.begin-home.ensures in
    let home = c.begin-home.result in
    let k = c.args.number in
    let f = c.args.fork in
    let stored = g.S.Store.means.homes c.begin-home.new.store in
    let words = zero_words in
    let within : k < length b.tables.maps = omega (arith, s.kept.rooted.numbered.count, r.below, r.terminal) in
    let now = beside_of (record s.tables { tables = c.begin-home.new.tables; living = s.tables.living + 1 }) in
    let same : now ≡ with_fork b k f home = ap (λ (t : Tables). record b { tables = t; living = b.living + 1 }) m.tables in
    let fits' = subst (λ (ps : List HomePlace). FitsMaps (with_root b.tables k f home) ps d) m.made.homes (subst (λ (t : Tables). FitsMaps t stored d) m.tables (m.fits d fits.maps)) in
    let x = begun_told b places s.kept k f home words m.made.below m.made.was_free r.absent r.number r.from r.below r.terminal d fits r.room no_page (new_entries b s.kept.rooted.numbered k f home within r.absent r.number r.from r.below) _ (empty_plain b.tables) (empty_entries b.tables) fits' in
    subst (λ (y : Beside). FitsPages y stored d × (plain_over y stored d ≡ with_map (plain_over b places d) f new_map.Empty)) (sym same)
    (subst (λ (ps : List HomePlace). FitsPages (with_fork b k f home) ps d × (plain_over (with_fork b k f home) ps d ≡ with_map (plain_over b places d) f new_map.Empty)) (sym m.made.homes) x)
