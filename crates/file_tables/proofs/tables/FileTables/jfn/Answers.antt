use Rattle.std.proofs.Common.{◌∙◌, sym, ap}
use Rattle.std.specs.FinMap as map
use Rattle.std.specs.Option.{option_map}
use Rattle.plain_files.specs.JobFiles.{Held}
use Rattle.plain_files.specs.NamedFiles.{open_file}
use Rattle.file_tables.proofs.Opened.{job_jfn}
use Rattle.file_tables.proofs.tables.FileTables.jfn.Goals as goal

pub returns-clause-held : goal.returns-clause-held
returns-clause-held c =
    let m = c.args.self.now.dir in
    ap (option_map (open_file m)) (c.get.ensures.found ∙ ap (λ (held : Held). map.get held c.args.n) c.of.ensures)
    ∙ sym (job_jfn m c.args.self.now.jobs c.args.t.0 c.args.n)
