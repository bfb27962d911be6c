use Rattle.std.proofs.Common.{◌∙◌, is_some, ap}
use Rattle.machine_names.specs.Orders.{file_page}
use Rattle.pager_walk.specs.PagedMaps.{name_at}
use Rattle.paged_tables.specs.PagedTables.{beside_of}
use Rattle.paged_tables.proofs.FilingSteps.{files_on, name_stays, same_step, some_name}
use Rattle.slot_paged.proofs.slot_paged.SlotPaged.refile.Goals as goal

pub returns-then-names_page : goal.returns-then-names_page
returns-then-names_page g c =
    let s = c.args.self.now in
    same_step g.S.Store.means s.store (beside_of s.tables) s.kept (g.met.S.Store.sound s.store) (file_page c.args.file.0 c.args.page) c.args.home (c.names_page.ensures.yes c.if-names_page.true)

pub join_file-requires-clause-none : goal.join_file-requires-clause-none
join_file-requires-clause-none g c = c.unfile.ensures.here

pub join_file-requires-clause-named : goal.join_file-requires-clause-named
join_file-requires-clause-named g c =
    let s = c.args.self.now in
    let mid = c.unfile.new.self in
    let store = g.S.Store.means in
    ap is_some (name_stays (beside_of s.tables) (beside_of mid.tables) (store.homes s.store) (store.homes mid.store) (file_page c.args.file.0 c.args.page) c.args.home (c.unfile.ensures.homes c.args.home.0) (c.names_page.ensures.no c.if-names_page.false)) ∙ c.requires.named

pub returns : goal.returns
returns g c =
    let s = c.args.self.now in
    let mid = c.unfile.new.self in
    let new = c.join_file.new.self in
    let store = g.S.Store.means in
    let f = file_page c.args.file.0 c.args.page in
    let named = ap is_some (name_stays (beside_of s.tables) (beside_of mid.tables) (store.homes s.store) (store.homes mid.store) f c.args.home (c.unfile.ensures.homes c.args.home.0) (c.names_page.ensures.no c.if-names_page.false)) ∙ c.requires.named in
    let n = some_name (name_at mid.tables.tables.names.items c.args.home.0) named in
    files_on store s.store mid.store new.store (beside_of s.tables) (beside_of mid.tables) (beside_of new.tables) f c.args.home s.kept (g.met.S.Store.sound s.store) mid.kept (g.met.S.Store.sound mid.store) n.0 n.1 c.unfile.ensures c.join_file.ensures
