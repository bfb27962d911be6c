use Rattle.std.proofs.Common.{◌∙◌, sym}
use Rattle.plain_files.specs.NamedFiles.{name_of}
use Rattle.file_tables.proofs.Names.{named}
use Rattle.file_tables.proofs.Times.{times_in_all}
use Rattle.file_tables.proofs.tables.FileTables.names.Goals as goal

pub returns-clause-named : goal.returns-clause-named
returns-clause-named c =
    let tables = c.args.self.now in
    c.names.ensures ∙ sym (times_in_all tables.dir tables.sound.numbers c.args.f.0 (name_of tables.dir c.args.f.0) (named tables.dir c.args.f.0 c.requires)
    tables.jobs tables.sound.held)
