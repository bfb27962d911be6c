use Rattle.file_tables.proofs.Names.{by_name_at}
use Rattle.file_tables.proofs.tables.FileTables.name_of.Goals as goal

pub returns-clause-number : goal.returns-clause-number
returns-clause-number c = by_name_at c.args.self.now.dir c.args.self.now.sound.numbers (λ k. k) c.args.f.0 c.name_of.result c.name_of.ensures.name
