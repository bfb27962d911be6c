use Rattle.std.proofs.Common.{◌≡◌, ◌+◌, ◌∙◌, ap, subst, sym, arith}
use Rattle.std.specs.Prelude.{is_some, slice_set}
use Rattle.std.specs.Option.{IsSomeAnd}
use Rattle.std.specs.FinMap as map
use Rattle.plain_files.specs.declared.jfn.Jfn.{Jfn}
use Rattle.plain_files.specs.JobFiles.{Held, names_in}
use Rattle.plain_files.specs.Jobs.{names_in_all}
use Rattle.plain_files.specs.NamedFiles.{jobs_named}
use Rattle.jfn_table.proofs.Changes.{names_released}
use Rattle.file_tables.proofs.Jobs.{jobs_without, own_jfn, tables_without, times_set}
use Rattle.file_tables.proofs.tables.FileTables.release.Goals as goal

pub release-requires : goal.release-requires
release-requires c =
    let old = c.args.self.now in
    let own = own_jfn old.dir old.lengths old.jobs old.sound c.args.t.0 c.requires.terminal c.of_mut.result.now c.of_mut.ensures.jfns c.args.n c.requires.held in
    ap is_some own.1

pub invariant_of-self : goal.invariant_of-self
invariant_of-self c =
    let old = c.args.self.now in
    rw c.release.ensures (record {
      sound = tables_without old.dir old.lengths old.jobs old.sound c.args.t.0 c.requires.terminal c.of_mut.result.now c.of_mut.ensures.jfns c.args.n;
    })

pub returns-clause-released : goal.returns-clause-released
returns-clause-released c =
    let old = c.args.self.now in
    ap (λ (h : Held). jobs_named old.dir (slice_set old.jobs c.args.t.0 h)) c.release.ensures
    ∙ jobs_without old.dir old.lengths old.jobs old.sound c.args.t.0 c.requires.terminal c.of_mut.result.now c.of_mut.ensures.jfns c.args.n

pub returns-clause-times : goal.returns-clause-times
returns-clause-times c =
    let old = c.args.self.now in
    let held = c.of_mut.result.now in
    let t = c.args.t.0 in
    let new = c.release.new.self in
    let own = own_jfn old.dir old.lengths old.jobs old.sound t c.requires.terminal held c.of_mut.ensures.jfns c.args.n c.requires.held in
    let f = own.0.file.0 in
    let all = times_set old.dir old.lengths old.jobs old.sound t c.requires.terminal held c.of_mut.ensures.jfns new f in
    let one : names_in held f ≡ names_in new f + 1 = names_released held c.args.n own.0 own.1 ∙ ap (λ (h : Held). names_in h f + 1) (sym c.release.ensures) in
    subst (λ o. IsSomeAnd o (λ (jfn : Jfn). names_in_all old.jobs jfn.file.0 ≡ names_in_all (slice_set old.jobs t new) jfn.file.0 + 1))
    (sym (ap (λ (h : Held). map.get h c.args.n) (sym c.of_mut.ensures.jfns) ∙ own.1)) (omega (arith, all, one))
