use Rattle.std.proofs.Common.{ap, ◌∙◌, Some, sym}
use Rattle.std.specs.Option.{option_map}
use Rattle.machine_names.specs.Orders.{file_page}
use Rattle.flat_tables.specs.HeldMaps.{name_of}
use Rattle.flat_tables.proofs.FiledHomes.{get_filed}
use Rattle.flat_pages.proofs.flat_slots.FlatSlotsPages.page_of.Goals as goal

pub returns-in-Some : goal.returns-in-Some
returns-in-Some g c =
    let m = c.args.self.now.tables in
    ap Some c.name.ensures ∙ sym (get_filed m.names.items m.files (file_page c.args.file.0 c.args.page) ∙ ap (option_map (name_of m.names.items)) (sym c.in-Some.ensures))

pub returns-in-None : goal.returns-in-None
returns-in-None g c =
    let m = c.args.self.now.tables in
    sym (get_filed m.names.items m.files (file_page c.args.file.0 c.args.page) ∙ ap (option_map (name_of m.names.items)) (sym c.in-None.ensures))
