use Rattle.std.proofs.Common.{◌∙◌, ap}
use Rattle.std.specs.Prelude.{slice_set}
use Rattle.plain_files.specs.JobFiles.{Held}
use Rattle.plain_files.specs.NamedFiles.{jobs_named}
use Rattle.file_tables.proofs.Jobs.{jobs_cleared, tables_cleared}
use Rattle.file_tables.proofs.tables.FileTables.release_all.Goals as goal

pub invariant_of-self : goal.invariant_of-self
invariant_of-self c =
    let old = c.args.self.now in
    rw c.release_all.ensures (record {
      sound = tables_cleared old.dir old.lengths old.jobs old.sound c.args.t.0 c.requires c.of_mut.result.now c.of_mut.ensures.jfns;
    })

pub returns-clause-released : goal.returns-clause-released
returns-clause-released c =
    let old = c.args.self.now in
    ap (λ (h : Held). jobs_named old.dir (slice_set old.jobs c.args.t.0 h)) c.release_all.ensures
    ∙ jobs_cleared old.dir old.lengths old.jobs old.sound c.args.t.0 c.requires c.of_mut.result.now c.of_mut.ensures.jfns
