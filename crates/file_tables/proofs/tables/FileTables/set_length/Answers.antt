use Rattle.std.proofs.Common.{◌∙◌, ap}
use Rattle.plain_files.specs.NamedFiles.{files_named, name_of}
use Rattle.file_tables.proofs.Files.{sized_files}
use Rattle.file_tables.proofs.Names.{named}
use Rattle.file_tables.proofs.tables.FileTables.set_length.Goals as goal

pub returns-clause-files : goal.returns-clause-files
returns-clause-files c =
    let old = c.args.self.now in
    let f = c.args.f.0 in
    ap (files_named old.dir) c.set_length.ensures
    ∙ sized_files old.dir old.lengths old.jobs old.sound f (name_of old.dir f) (record { length = c.args.length; size = c.args.size }) (named old.dir f c.requires.there)
