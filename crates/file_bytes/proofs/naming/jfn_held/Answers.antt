use Rattle.std.proofs.Common.{Some, sym, ◌∙◌, ap}
use Rattle.std.specs.FinMap as map
use Rattle.plain_files.specs.Jobs.{jfns_of}
use Rattle.file_tables.proofs.Known.{held_known}
use Rattle.file_bytes.proofs.naming.jfn_held.Goals as goal

pub returns-in-Some-clause-fits : goal.returns-in-Some-clause-fits
returns-in-Some-clause-fits c =
    let tables = c.args.tables.now in
    let held = c.in-Some.ensures.sound in
    ((held_known tables c.jfn_number.result (Some c.in-Some.jfn) held, held.fits), ap (map.get (jfns_of tables.jobs c.args.who.tty.0)) (sym c.jfn_number.ensures.number) ∙ sym c.in-Some.ensures.number)
