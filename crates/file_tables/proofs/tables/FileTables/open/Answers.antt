use Rattle.std.proofs.Common.{◌≡◌, ◌∙◌, ap, subst, sym, arith}
use Rattle.std.specs.Prelude.{IfSome, is_some, slice_set}
use Rattle.std.specs.Option.{IsSomeAnd, option_map}
use Rattle.std.specs.FinMap as map
use Rattle.plain_files.specs.JobFiles.{Held, opened}
use Rattle.plain_files.specs.NamedFiles.{jobs_named, open_file}
use Rattle.plain_files.specs.OpenFiles.{OpenFile, open_at, opened_file}
use Rattle.file_tables.proofs.Jobs.{jobs_put, own_get, own_jfn, tables_put}
use Rattle.file_tables.proofs.tables.FileTables.open.Goals as goal

pub open_file-requires-clause-held : goal.open_file-requires-clause-held
open_file-requires-clause-held c =
    let old = c.args.self.now in
    let own = own_jfn old.dir old.lengths old.jobs old.sound c.args.t.0 c.requires.terminal c.of_mut.result.now c.of_mut.ensures.jfns c.args.n c.requires.held in
    ap is_some own.1

pub invariant_of-self : goal.invariant_of-self
invariant_of-self c =
    let old = c.args.self.now in
    let held = c.of_mut.result.now in
    let n = c.args.n in
    let own = own_jfn old.dir old.lengths old.jobs old.sound c.args.t.0 c.requires.terminal held c.of_mut.ensures.jfns n c.requires.held in
    let put : c.open_file.new.self ≡ map.insert held n (opened c.args.mode c.args.size own.0) =
    subst (λ o. IfSome o (λ jfn. c.open_file.new.self ≡ map.insert held n (opened c.args.mode c.args.size jfn))) own.1 c.open_file.ensures in
    rw put (record {
      sound = tables_put old.dir old.lengths old.jobs old.sound c.args.t.0 c.requires.terminal held c.of_mut.ensures.jfns n (opened c.args.mode c.args.size own.0)
          (record { low = own.2.low; high = own.2.high; there = own.2.there; fits = (own.2.fits.0, c.requires.size, omega arith) });
    })

pub returns-clause-opened : goal.returns-clause-opened
returns-clause-opened c =
    let old = c.args.self.now in
    let held = c.of_mut.result.now in
    let n = c.args.n in
    let t = c.args.t.0 in
    let own = own_jfn old.dir old.lengths old.jobs old.sound t c.requires.terminal held c.of_mut.ensures.jfns n c.requires.held in
    let put : c.open_file.new.self ≡ map.insert held n (opened c.args.mode c.args.size own.0) =
    subst (λ o. IfSome o (λ jfn. c.open_file.new.self ≡ map.insert held n (opened c.args.mode c.args.size jfn))) own.1 c.open_file.ensures in
    subst (λ o. IsSomeAnd o (λ (j : OpenFile). jobs_named old.dir (slice_set old.jobs t c.open_file.new.self)
    ≡ slice_set (jobs_named old.dir old.jobs) t (map.insert (open_at (jobs_named old.dir old.jobs) t) n (opened_file c.args.mode c.args.size j))))
    (sym (own_get old.dir old.lengths old.jobs old.sound t c.requires.terminal held c.of_mut.ensures.jfns n ∙ ap (option_map (open_file old.dir)) own.1))
    (ap (λ (h : Held). jobs_named old.dir (slice_set old.jobs t h)) put
    ∙ jobs_put old.dir old.lengths old.jobs old.sound t c.requires.terminal held c.of_mut.ensures.jfns n (opened c.args.mode c.args.size own.0))
