use Rattle.std.proofs.Common.{◌∙◌, Option, sym, ap}
use Rattle.std.specs.Option.{option_map_or}
use Rattle.page_homes.specs.declared.homes.Home.{Home}
use Rattle.page_contracts.specs.Stores.{place, is_taken}
use Rattle.pager_walk.specs.declared.paged_entry.PagedEntry.{PagedEntry}
use Rattle.pager_walk.specs.declared.paged_entry.Looked.TheVariants.{Is, Refused}
use Rattle.pager_walk.specs.PagedMaps.{look_word, look_map, tables_of}
use Rattle.pager_walk.proofs.NumberedMaps.{index_fork, fork_within}
use Rattle.pager_walk.proofs.Looking.{root_taken, look_there}
use Rattle.pager_walk.proofs.paged_entry.found.Goals as goal

pub root-home-requires : goal.root-home-requires
root-home-requires g c = fork_within _ c.in-Some.number c.args.at.fork (index_fork _ c.args.at.fork c.in-Some.number (sym c.in-Some.ensures))

pub word-requires-clause-taken : goal.word-requires-clause-taken
word-requires-clause-taken g c =
    let places = g.S.Store.means.homes c.args.store.now in
    ap (λ (h : Home). is_taken (place places h.0)) c.root-home.ensures ∙ root_taken (tables_of c.args.tables.now) places c.requires.rooted c.args.at.fork c.in-Some.number (sym c.in-Some.ensures)

pub returns-in_default : goal.returns-in_default
returns-in_default g c = ap (look_map (tables_of c.args.tables.now) (g.S.Store.means.homes c.args.store.now) c.args.at.page) c.in_default.ensures

pub returns-in_default-word : goal.returns-in_default-word
returns-in_default-word g c =
    let t = tables_of c.args.tables.now in
    ap (look_word t c.root-home.result) c.in_default-word.ensures ∙ sym (look_there t (g.S.Store.means.homes c.args.store.now) c.args.at c.in-Some.number c.root-home.result (sym c.in-Some.ensures) c.root-home.ensures)

pub returns-in-None : goal.returns-in-None
returns-in-None g c =
    let t = tables_of c.args.tables.now in
    ap (λ (o : Option PagedEntry). option_map_or Is o Refused) c.in-None.ensures ∙ ap (look_word t c.root-home.result) c.in-Some-word.ensures
    ∙ sym (look_there t (g.S.Store.means.homes c.args.store.now) c.args.at c.in-Some.number c.root-home.result (sym c.in-Some.ensures) c.root-home.ensures)

pub returns-in-Some-entry_in : goal.returns-in-Some-entry_in
returns-in-Some-entry_in g c =
    let t = tables_of c.args.tables.now in
    ap (λ (o : Option PagedEntry). option_map_or Is o Refused) c.in-Some-entry_in.ensures ∙ ap (look_word t c.root-home.result) c.in-Some-word.ensures
    ∙ sym (look_there t (g.S.Store.means.homes c.args.store.now) c.args.at c.in-Some.number c.root-home.result (sym c.in-Some.ensures) c.root-home.ensures)
