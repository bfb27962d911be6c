use Rattle.std.proofs.Common.{◌≡◌, List, map, sym, ◌∙◌, ap, subst}
use Rattle.page_homes.specs.declared.homes.Home.{Home}
use Rattle.page_contracts.specs.Stores.{HomePlace, is_taken, place, IsFreed}
use Rattle.pager_walk.specs.declared.map_pages.MapPage.{MapPage}
use Rattle.pager_walk.specs.PagedMaps.{Tables, tables_of, without_root, maps_over, AreRooted, FitsMaps}
use Rattle.pager_walk.proofs.NumberedMaps.{fork_within, index_fork}
use Rattle.pager_walk.proofs.Looking.{root_taken}
use Rattle.pager_walk.proofs.Ended.{rooted_ended, fits_ended, maps_ended}
use Rattle.pager_walk.proofs.map_changes.end.Goals as goal

pub root-requires : goal.root-requires
root-requires g c = fork_within _ c.args.number c.args.fork (index_fork _ c.args.fork c.args.number c.requires.fork)

pub free-requires : goal.free-requires
free-requires g c =
    let t = tables_of c.args.tables.now in
    let places = g.S.Store.means.homes c.args.store.now in
    ap (λ (h : Home). is_taken (place places h.0)) c.root.ensures ∙ root_taken t places c.requires.rooted c.args.fork c.args.number c.requires.fork

pub end-requires : goal.end-requires
end-requires g c = fork_within _ c.args.number c.args.fork (index_fork _ c.args.fork c.args.number c.requires.fork)

pub returns : goal.returns
returns g c =
    let t = tables_of c.args.tables.now in
    let places = g.S.Store.means.homes c.args.store.now in
    let stored = g.S.Store.means.homes c.free.new.self in
    let k = c.args.number in
    let r = c.requires in
    let own = index_fork t.maps c.args.fork k r.fork in
    let freed = subst (λ (h : Home). IsFreed g.S.Store.means h.0 c.args.store.now c.free.new.self) c.root.ensures c.free.ensures in
    let same : tables_of (record c.args.tables.now { maps = c.end.new.self }) ≡ without_root t k = ap (λ (maps : List MapPage). record t { maps = maps }) c.end.ensures in
    record {
      freed = freed;
      tables = same;
      rooted = subst (λ (x : Tables). AreRooted x (map is_taken stored)) (sym same) (subst (λ (ps : List HomePlace). AreRooted (without_root t k) (map is_taken ps)) (sym freed.homes) (rooted_ended t places r.rooted k c.args.fork own));
      fits = λ d fits. subst (λ (x : Tables). FitsMaps x stored d) (sym same) (subst (λ (ps : List HomePlace). FitsMaps (without_root t k) ps d) (sym freed.homes) (fits_ended t places r.rooted k c.args.fork own d fits));
      told = λ d fits. ap (λ (x : Tables). maps_over x stored d) same ∙ ap (λ (ps : List HomePlace). maps_over (without_root t k) ps d) freed.homes ∙ maps_ended t places r.rooted k c.args.fork own d;
    }
