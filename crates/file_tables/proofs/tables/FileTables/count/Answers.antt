use Rattle.std.proofs.Common.{◌∙◌, sym}
use Rattle.plain_files.specs.Sizes.{file_at}
use Rattle.file_tables.proofs.Names.{by_name_len}
use Rattle.file_tables.proofs.tables.FileTables.count.Goals as goal

pub returns-clause-number : goal.returns-clause-number
returns-clause-number c = c.count.ensures.number ∙ sym (by_name_len (file_at c.args.self.now.lengths) c.args.self.now.dir c.args.self.now.sound.numbers)
