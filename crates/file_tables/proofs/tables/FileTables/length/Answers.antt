use Rattle.std.proofs.Common.{◌≡◌, sym, subst}
use Rattle.std.specs.Option.{IsSomeAnd}
use Rattle.plain_files.specs.NamedFiles.{name_of}
use Rattle.plain_files.specs.Sizes.{FitsFile, PlainFile, file_at}
use Rattle.file_tables.proofs.Names.{by_name_at, named}
use Rattle.file_tables.proofs.tables.FileTables.length.Goals as goal

pub returns : goal.returns
returns c =
    let tables = c.args.self.now in
    let f = c.args.f.0 in
    subst (λ o. IsSomeAnd o (λ (file : PlainFile). (c.length.result ≡ file.length) × FitsFile file))
    (sym (by_name_at tables.dir tables.sound.numbers (file_at tables.lengths) f (name_of tables.dir f) (named tables.dir f c.requires)))
    (c.length.ensures.value, c.length.ensures.fits)
