use Rattle.std.proofs.Common.{◌≡◌, ◌<◌, List, length, map, refl, sym, ◌∙◌, ap, subst, arith, rules}
use Rattle.machine_names.specs.declared.names.TheConstants.{SPACE_PAGES}
use Rattle.plain_pages.specs.NewMaps.{following_map}
use Rattle.page_contracts.specs.Stores.{HomePlace, is_taken}
use Rattle.pager_walk.specs.declared.map_pages.MapPage.{MapPage}
use Rattle.pager_walk.specs.NewPages.{following_words}
use Rattle.pager_walk.specs.PagedMaps.{Tables, tables_of, with_root, maps_over, AreRooted, FitsMaps}
use Rattle.pager_walk.proofs.Begun.{rooted_begun, fits_begun, maps_begun}
use Rattle.pager_walk.proofs.Followed.{following_there, following_row}
use Rattle.pager_walk.proofs.map_changes.begin_following.Goals as goal

pub begin-requires-clause-map : goal.begin-requires-clause-map
begin-requires-clause-map g c = let inside : c.args.number < length c.args.tables.now.maps.pages.items = omega (arith, c.requires.rooted.numbered.count, c.requires.most) in search rules

pub returns : goal.returns
returns g c =
    let t = tables_of c.args.tables.now in
    let places = g.S.Store.means.homes c.args.store.now in
    let r = c.requires in
    let m = c.make_following-home.ensures in
    let home = c.make_following-home.result in
    let words = following_words c.args.leader.serial SPACE_PAGES in
    let stored = g.S.Store.means.homes c.make_following-home.new.store in
    let after = with_root t c.args.number c.args.fork home in
    let same : tables_of (record c.args.tables.now { maps = c.begin.new.self }) ≡ after = ap (λ (maps : List MapPage). record t { maps = maps }) c.begin.ensures in
    record {
      made = m;
      tables = same;
      rooted = subst (λ (x : Tables). AreRooted x (map is_taken stored)) (sym same)
          (subst (λ (ps : List HomePlace). AreRooted after (map is_taken ps)) (sym m.homes) (rooted_begun t places r.rooted c.args.number c.args.fork home r.absent r.number r.most r.from r.below m.below m.was_free words));
      fits = λ d fits. subst (λ (x : Tables). FitsMaps x stored d) (sym same)
          (subst (λ (ps : List HomePlace). FitsMaps after ps d) (sym m.homes)
          (fits_begun t places r.rooted c.args.number c.args.fork home r.absent r.number r.most r.from r.below m.below m.was_free words d (following_there t c.args.leader.serial r.serial r.last) fits));
      told = λ d fits. ap (λ (x : Tables). maps_over x stored d) same ∙ ap (λ (ps : List HomePlace). maps_over after ps d) m.homes
          ∙ maps_begun t places r.rooted c.args.number c.args.fork home r.absent r.number r.most r.from r.below m.below m.was_free words d (following_map c.args.leader) (following_row t c.args.leader.serial r.serial r.last c.args.leader refl);
    }
