use Rattle.std.proofs.Common.{◌≡◌, ◌∙◌, sym, subst}
use Rattle.pager_walk.specs.declared.chain_walk.Walked.{Walked}
use Rattle.pager_walk.specs.PagedMaps.{tables_of}
use Rattle.pager_walk.specs.Walks.{walk_at, TellsWalk, WalkStands}
use Rattle.pager_walk.proofs.Walking.{walk_four, walked, stood}
use Rattle.pager_walk.proofs.chain_walk.walk.Goals as goal

pub returns : goal.returns
returns g c =
    let t = tables_of c.args.tables.now in
    let places = g.S.Store.means.homes c.args.store.now in
    let is : c.walk_along.result ≡ walk_at t places c.args.at = c.walk_along.ensures ∙ walk_four t places c.args.at in
    record {
      answer = is;
      stands = subst (λ (w : Walked). WalkStands t places w) (sym is) (stood t places c.requires.rooted c.args.at c.requires.page);
      told = λ d fits. subst (λ (w : Walked). TellsWalk t places d c.args.at w) (sym is) (walked t places d c.requires.rooted (g.met.S.Store.sound c.args.store.now).pages fits c.args.at c.requires.page);
    }
