use Rattle.std.proofs.Common.{◌∙◌, ap, arith, refl}
use Rattle.std.specs.FinMap as map
use Rattle.plain_files.specs.Directory.{Creates, Files}
use Rattle.plain_files.specs.NamedFiles.{files_named, jobs_named}
use Rattle.plain_files.specs.Sizes.{file_at}
use Rattle.file_tables.proofs.Files.{made_files, made_jobs}
use Rattle.file_tables.proofs.Kept.{tables_made}
use Rattle.file_tables.proofs.Names.{absent_by_name, by_name_len}
use Rattle.file_tables.proofs.tables.FileTables.create.Goals as goal

pub create-requires-clause-absent : goal.create-requires-clause-absent
create-requires-clause-absent c =
    let old = c.args.self.now in
    absent_by_name old.dir old.sound.numbers (file_at old.lengths) c.args.name.now c.requires.absent

pub unreachable-requires : goal.unreachable-requires
unreachable-requires c =
    let old = c.args.self.now in
    omega (arith, by_name_len (file_at old.lengths) old.dir old.sound.numbers, c.requires.room, c.in_default.ensures.0)

pub invariant_of-self : goal.invariant_of-self
invariant_of-self c =
    let old = c.args.self.now in
    let f = c.in-Ok.f.0 in
    let name = c.args.name.now in
    let made : Creates old.dir c.create.new.self f name = c.in-Ok.ensures in
    let absent = absent_by_name old.dir old.sound.numbers (file_at old.lengths) name c.requires.absent in
    rw (made.put, c.set_length.ensures) (record { sound = tables_made old.dir old.lengths old.jobs old.sound f name made.below made.least.free absent })

pub returns-clause-files : goal.returns-clause-files
returns-clause-files c =
    let old = c.args.self.now in
    let f = c.in-Ok.f.0 in
    let name = c.args.name.now in
    let made : Creates old.dir c.create.new.self f name = c.in-Ok.ensures in
    let absent = absent_by_name old.dir old.sound.numbers (file_at old.lengths) name c.requires.absent in
    ap (λ (m : Files). files_named m c.set_length.new.self) made.put
    ∙ (ap (files_named (map.insert old.dir f name)) c.set_length.ensures
    ∙ made_files old.dir old.lengths old.jobs old.sound f name made.below made.least.free absent)

pub returns-clause-jfns : goal.returns-clause-jfns
returns-clause-jfns c =
    let old = c.args.self.now in
    let f = c.in-Ok.f.0 in
    let made : Creates old.dir c.create.new.self f c.args.name.now = c.in-Ok.ensures in
    record {
      named = ap (λ (m : Files). jobs_named m old.jobs) made.put ∙ made_jobs old.dir old.lengths old.jobs old.sound f c.args.name.now made.least.free;
      numbers = refl;
    }
