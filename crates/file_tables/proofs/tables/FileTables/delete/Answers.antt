use Rattle.std.proofs.Common.{◌∙◌, ap, refl}
use Rattle.plain_files.specs.Directory.{Files}
use Rattle.plain_files.specs.NamedFiles.{files_named, jobs_named, name_of}
use Rattle.file_tables.proofs.Files.{gone_files, gone_jobs}
use Rattle.file_tables.proofs.Kept.{tables_gone}
use Rattle.file_tables.proofs.Names.{named}
use Rattle.file_tables.proofs.tables.FileTables.delete.Goals as goal

pub invariant_of-self : goal.invariant_of-self
invariant_of-self c =
    let old = c.args.self.now in
    let f = c.args.f.0 in
    rw c.delete.ensures (record { sound = tables_gone old.dir old.lengths old.jobs old.sound f (name_of old.dir f) (named old.dir f c.requires.there) c.requires.unnamed })

pub returns-clause-files : goal.returns-clause-files
returns-clause-files c =
    let old = c.args.self.now in
    let f = c.args.f.0 in
    ap (λ (m : Files). files_named m old.lengths) c.delete.ensures
    ∙ gone_files old.dir old.lengths old.jobs old.sound f (name_of old.dir f) (named old.dir f c.requires.there)

pub returns-clause-jfns : goal.returns-clause-jfns
returns-clause-jfns c =
    let old = c.args.self.now in
    let f = c.args.f.0 in
    record {
      named = ap (λ (m : Files). jobs_named m old.jobs) c.delete.ensures ∙ gone_jobs old.dir old.lengths old.jobs old.sound f (name_of old.dir f) c.requires.unnamed;
      numbers = refl;
    }
