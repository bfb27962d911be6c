use Rattle.std.proofs.Common.{ap, ◌∙◌, is_some, List}
use Rattle.flat_tables.specs.declared.held_map.HeldMap.{HeldMap}
use Rattle.flat_tables.specs.HeldMaps.{held_entry}
use Rattle.flat_tables.specs.TableSteps.{tables_of}
use Rattle.flat_pages.proofs.Agreement.{entry_named}
use Rattle.flat_pages.proofs.FileEnds.{files_on}
use Rattle.flat_pages.proofs.flat_slots.FlatSlots.refile.Goals as goal

pub join_file-requires-clause-named : goal.join_file-requires-clause-named
join_file-requires-clause-named g c =
    let mid = c.unfile.new.self in
    let e = c.requires.entry in
    ap is_some (entry_named (tables_of (g.S.Store.means.homes mid.store) mid.tables) mid.agree e.at c.args.home e.there.access (ap (λ (ms : List HeldMap). held_entry ms e.at) c.unfile.ensures.maps ∙ e.there.is)).1

pub returns : goal.returns
returns g c =
    let s = c.args.self.now in
    let mid = c.unfile.new.self in
    let store = g.S.Store.means in
    let e = c.requires.entry in
    let n = entry_named (tables_of (store.homes mid.store) mid.tables) mid.agree e.at c.args.home e.there.access (ap (λ (ms : List HeldMap). held_entry ms e.at) c.unfile.ensures.maps ∙ e.there.is) in
    files_on store s.store mid.store c.join_file.new.self.store s.tables mid.tables c.join_file.new.self.tables _ c.args.home (g.met.S.Store.sound s.store) (g.met.S.Store.sound mid.store) s.agree mid.agree n.0 n.1 c.unfile.ensures c.join_file.ensures
