use Rattle.std.proofs.Common.{◌≡◌, ◌∙◌, sym, ap, subst}
use Rattle.page_contracts.specs.declared.answers.Seen.{Seen}
use Rattle.page_contracts.specs.Pages.{SeenNeeds}
use Rattle.pager_walk.specs.PagedMaps.{tables_of, look_at, seen_for}
use Rattle.pager_walk.proofs.Looking.{Sees, sees, seen_needs, stands_at}
use Rattle.pager_walk.proofs.paged_entry.seen.Goals as goal

pub returns : goal.returns
returns g c =
    let t = tables_of c.args.tables.now in
    let places = g.S.Store.means.homes c.args.store.now in
    let is : c.shown.result ≡ seen_for t (look_at t places c.args.at) = c.shown.ensures ∙ ap (seen_for t) c.entry.ensures.answer in
    let x = subst (λ (r : Seen). Sees t places c.args.at r) (sym is) (sees t places c.requires.rooted (g.met.S.Store.sound c.args.store.now).pages c.args.at c.requires.page) in
    record {
      answer = is;
      follows = x.follows;
      needs = subst (λ (r : Seen). SeenNeeds g.S.Store.means c.args.store.now r) (sym is) (seen_needs g.S.Store.means c.args.store.now t (look_at t places c.args.at) (stands_at t places c.requires.rooted c.args.at));
      told = x.told;
    }
