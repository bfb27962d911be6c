use Rattle.std.proofs.Common.{◌≡◌, ◌∙◌, ℕ, Option, Some, true, false, sym, ap, subst}
use Rattle.std.specs.Prelude.{slice_set}
use Rattle.page_homes.specs.declared.homes.Home.{Home}
use Rattle.share_table.specs.Pointers.{pointer_word}
use Rattle.page_contracts.specs.Stores.{place, is_taken, with_word_in, IsUsed}
use Rattle.pager_walk.specs.MapPages.{root_at, index_of}
use Rattle.pager_walk.specs.PagedMaps.{look_map, is_near, tables_of}
use Rattle.pager_walk.proofs.NumberedMaps.{index_fork, fork_within}
use Rattle.pager_walk.proofs.Looking.{root_taken}
use Rattle.pager_walk.proofs.Changing.{pointer_put}
use Rattle.pager_walk.proofs.map_changes.set.Goals as goal

pub unreachable-requires : goal.unreachable-requires
unreachable-requires g c =
    let t = tables_of c.args.tables.now in
    let places = g.S.Store.means.homes c.args.store.now in
    let z : false ≡ true = ap (λ (o : Option ℕ). is_near (look_map t places c.args.at.page o)) c.in_default.ensures ∙ c.requires.near in cc z

pub root-home-requires : goal.root-home-requires
root-home-requires g c = fork_within _ c.in-Some.number c.args.at.fork (index_fork _ c.args.at.fork c.in-Some.number (sym c.in-Some.ensures))

pub put-requires-clause-taken : goal.put-requires-clause-taken
put-requires-clause-taken g c =
    let places = g.S.Store.means.homes c.args.store.now in
    ap (λ (h : Home). is_taken (place places h.0)) c.root-home.ensures ∙ root_taken (tables_of c.args.tables.now) places c.requires.rooted c.args.at.fork c.in-Some.number (sym c.in-Some.ensures)

pub returns : goal.returns
returns g c =
    let t = tables_of c.args.tables.now in
    let places = g.S.Store.means.homes c.args.store.now in
    let is = sym c.in-Some.ensures in
    let same : (k : ℕ) → index_of t.maps c.args.at.fork ≡ Some k → c.in-Some.number ≡ k = λ k e. (let z : Some c.in-Some.number ≡ Some k = c.in-Some.ensures ∙ e in cc z) in
    let base : g.S.Store.means.homes c.put.new.self ≡ slice_set places (root_at t.maps c.in-Some.number).0 (with_word_in (place places (root_at t.maps c.in-Some.number).0) c.args.at.page (pointer_word c.args.pointer)) =
    c.put.ensures.homes ∙ λ i. slice_set places (c.root-home.ensures i).0 (with_word_in (place places (c.root-home.ensures i).0) c.args.at.page (c.encode.ensures i)) in
    let x = pointer_put t places (g.S.Store.means.homes c.put.new.self) c.args.at c.in-Some.number c.args.pointer c.requires.rooted is c.requires.near c.requires.pointer c.requires.entry base in
    record {
      homes = λ k e. base ∙ ap (λ j. slice_set places (root_at t.maps j).0 (with_word_in (place places (root_at t.maps j).0) c.args.at.page (pointer_word c.args.pointer))) (same k e);
      used = λ k e. subst (λ h. IsUsed g.S.Store.means h c.args.store.now c.put.new.self) (ap (λ (h : Home). h.0) c.root-home.ensures ∙ ap (λ j. (root_at t.maps j).0) (same k e)) c.put.ensures.used;
      rooted = x.rooted;
      fits = x.fits;
      told = x.told;
    }
