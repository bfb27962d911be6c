use Rattle.std.proofs.Common.{◌∙◌, Some, ap, sym}
use Rattle.std.specs.Option.{option_map}
use Rattle.machine_names.specs.Orders.{file_page}
use Rattle.pager_walk.specs.PagedMaps.{name_of}
use Rattle.flat_tables.proofs.FiledHomes.{get_filed}
use Rattle.paged_tables.specs.PagedTables.{beside_of}
use Rattle.slot_paged.proofs.slot_paged.SlotPaged.page_of.Goals as goal

pub returns-in-Some : goal.returns-in-Some
returns-in-Some g c =
    let b = beside_of c.args.self.now.tables in
    ap Some c.name.ensures ∙ ap (option_map (name_of b.tables.names)) c.in-Some.ensures ∙ sym (get_filed b.tables.names b.files (file_page c.args.file.0 c.args.page))

pub returns-in-None : goal.returns-in-None
returns-in-None g c =
    let b = beside_of c.args.self.now.tables in
    ap (option_map (name_of b.tables.names)) c.in-None.ensures ∙ sym (get_filed b.tables.names b.files (file_page c.args.file.0 c.args.page))
