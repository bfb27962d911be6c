use Rattle.std.proofs.Common.{sym, subst}
use Rattle.pager_walk.specs.declared.paged_entry.Looked.{Looked}
use Rattle.pager_walk.specs.PagedMaps.{tables_of, LookStands, TellsEntry}
use Rattle.pager_walk.proofs.Looking.{stands_at, looked}
use Rattle.pager_walk.proofs.paged_entry.entry.Goals as goal

pub returns : goal.returns
returns g c =
    let t = tables_of c.args.tables.now in
    let places = g.S.Store.means.homes c.args.store.now in
    record {
      answer = c.found.ensures;
      stands = subst (λ (l : Looked). LookStands t places l) (sym c.found.ensures) (stands_at t places c.requires.rooted c.args.at);
      told = λ d fits. subst (λ (l : Looked). TellsEntry t places d c.args.at l) (sym c.found.ensures) (looked t places d c.requires.rooted (g.met.S.Store.sound c.args.store.now).pages fits c.args.at c.requires.page);
    }
