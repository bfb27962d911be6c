use Rattle.std.proofs.Common.{arith}
use Rattle.plain_files.specs.Sizes.{file_at}
use Rattle.file_tables.proofs.Names.{by_name_len}
use Rattle.file_tables.proofs.tables.FileTables.has_room.Goals as goal

pub returns : goal.returns
returns c =
    let same = by_name_len (file_at c.args.self.now.lengths) c.args.self.now.dir c.args.self.now.sound.numbers in
    (λ room. omega (arith, same, c.has_room.ensures.0 room), λ room. c.has_room.ensures.1 (omega (arith, same, room)))
