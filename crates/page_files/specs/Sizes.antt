-- The lengths of files as they are kept.
use Rattle.std.specs.Prelude.{List, map}
use Rattle.plain_files.specs.Sizes.{PlainFile}
use Rattle.page_files.specs.declared.lengths.FileLength.{FileLength}

abbrev pub plain_file : FileLength → PlainFile
plain_file f = record { length = f.length; size = f.size }

-- the files by number
unfoldable pub plain_files : List FileLength → List PlainFile
plain_files fs = map plain_file fs
