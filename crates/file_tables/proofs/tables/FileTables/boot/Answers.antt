use Rattle.std.proofs.Common.{◌∙◌, ap}
use Rattle.plain_files.specs.Sizes.{file_at}
use Rattle.plain_files.specs.Directory.{Files}
use Rattle.plain_files.specs.NamedFiles.{files_named, jobs_named}
use Rattle.file_tables.proofs.Kept.{first_tables, no_open_jobs}
use Rattle.file_tables.proofs.Names.{by_no_name}
use Rattle.file_tables.proofs.tables.FileTables.boot.Goals as goal

pub invariant_of-result : goal.invariant_of-result
invariant_of-result c = rw (c.in_ok-boot.ensures, c.in_ok-boot-2.ensures, c.in_ok-boot-3.ensures) (record { sound = first_tables })

pub returns-clause-files : goal.returns-clause-files
returns-clause-files c =
    ap (λ (m : Files). files_named m c.in_ok-boot-2.field-0) c.in_ok-boot.ensures ∙ by_no_name (file_at c.in_ok-boot-2.field-0)

pub returns-clause-jfns : goal.returns-clause-jfns
returns-clause-jfns c =
    ap (jobs_named c.in_ok-boot.field-0) c.in_ok-boot-3.ensures ∙ no_open_jobs c.in_ok-boot.field-0
