use Rattle.std.proofs.Common.{◌≡◌, ◌<◌, List, length, map, sym, ◌∙◌, ap, subst, arith, rules}
use Rattle.machine_names.specs.PageWords.{zero_words}
use Rattle.plain_pages.specs.NewMaps.{empty_map}
use Rattle.page_contracts.specs.Stores.{HomePlace, is_taken}
use Rattle.pager_walk.specs.declared.map_pages.MapPage.{MapPage}
use Rattle.pager_walk.specs.PagedMaps.{Tables, tables_of, with_root, maps_over, AreRooted, FitsMaps}
use Rattle.pager_walk.proofs.Begun.{zero_there, zero_row, rooted_begun, fits_begun, maps_begun}
use Rattle.pager_walk.proofs.map_changes.begin.Goals as goal

pub begin-requires-clause-map : goal.begin-requires-clause-map
begin-requires-clause-map g c = let inside : c.args.number < length c.args.tables.now.maps.pages.items = omega (arith, c.requires.rooted.numbered.count, c.requires.most) in search rules

pub returns : goal.returns
returns g c =
    let t = tables_of c.args.tables.now in
    let places = g.S.Store.means.homes c.args.store.now in
    let r = c.requires in
    let m = c.make-home.ensures.made in
    let home = c.make-home.result in
    let stored = g.S.Store.means.homes c.make-home.new.self in
    let after = with_root t c.args.number c.args.fork home in
    let same : tables_of (record c.args.tables.now { maps = c.begin.new.self }) ≡ after = ap (λ (maps : List MapPage). record t { maps = maps }) c.begin.ensures in
    record {
      made = m;
      tables = same;
      rooted = subst (λ (x : Tables). AreRooted x (map is_taken stored)) (sym same)
          (subst (λ (ps : List HomePlace). AreRooted after (map is_taken ps)) (sym m.homes) (rooted_begun t places r.rooted c.args.number c.args.fork home r.absent r.number r.most r.from r.below m.below m.was_free zero_words));
      fits = λ d fits. subst (λ (x : Tables). FitsMaps x stored d) (sym same)
          (subst (λ (ps : List HomePlace). FitsMaps after ps d) (sym m.homes) (fits_begun t places r.rooted c.args.number c.args.fork home r.absent r.number r.most r.from r.below m.below m.was_free zero_words d (λ page l. zero_there t page) fits));
      told = λ d fits. ap (λ (x : Tables). maps_over x stored d) same ∙ ap (λ (ps : List HomePlace). maps_over after ps d) m.homes
          ∙ maps_begun t places r.rooted c.args.number c.args.fork home r.absent r.number r.most r.from r.below m.below m.was_free zero_words d empty_map (zero_row t);
    }
