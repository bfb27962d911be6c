use Rattle.file_tables.specs.Tables.{file_of}
use Rattle.file_bytes.proofs.Files.{fits_word}
use Rattle.file_bytes.proofs.sizes.length_of.Goals as goal

pub returns-clause-word : goal.returns-clause-word
returns-clause-word c = fits_word (file_of c.args.tables.now c.args.jfn.file.0) c.length.result c.length.ensures
