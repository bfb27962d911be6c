use Rattle.std.proofs.Common.{◌≡◌, ◌≤◌, ◌∙◌, ap, subst, sym, ℕ}
use Rattle.std.specs.Prelude.{IfSome, IsSome, slice_set}
use Rattle.std.specs.Option.{IsSomeAnd, option_map}
use Rattle.std.specs.FinMap as map
use Rattle.plain_files.specs.declared.jfn.Jfn.{Jfn}
use Rattle.plain_files.specs.Bytes.{most_bytes}
use Rattle.plain_files.specs.JobFiles.{Held, moved}
use Rattle.plain_files.specs.NamedFiles.{jobs_named, open_file}
use Rattle.plain_files.specs.OpenFiles.{OpenFile, moved_file, open_at}
use Rattle.file_tables.proofs.Jobs.{jobs_put, own_get, own_that, tables_put}
use Rattle.file_tables.proofs.tables.FileTables.seek.Goals as goal

abbrev MayMove : ℕ → OpenFile → Type 0
MayMove at j = IsSome j.mode × (at ≤ most_bytes j.size)

pub seek-requires : goal.seek-requires
seek-requires c =
    let old = c.args.self.now in
    let own = own_that old.dir old.lengths old.jobs old.sound c.args.t.0 c.requires.terminal c.of_mut.result.now c.of_mut.ensures.jfns (MayMove c.args.at) c.args.n
    c.requires.«open» in
    subst (λ o. IsSomeAnd o (λ (jfn : Jfn). IsSome jfn.mode × (c.args.at ≤ most_bytes jfn.size))) (sym own.1) own.3

pub invariant_of-self : goal.invariant_of-self
invariant_of-self c =
    let old = c.args.self.now in
    let held = c.of_mut.result.now in
    let n = c.args.n in
    let own = own_that old.dir old.lengths old.jobs old.sound c.args.t.0 c.requires.terminal held c.of_mut.ensures.jfns (MayMove c.args.at) n c.requires.«open» in
    let put : c.seek.new.self ≡ map.insert held n (moved c.args.at own.0) =
    subst (λ o. IfSome o (λ jfn. c.seek.new.self ≡ map.insert held n (moved c.args.at jfn))) own.1 c.seek.ensures in
    rw put (record {
      sound = tables_put old.dir old.lengths old.jobs old.sound c.args.t.0 c.requires.terminal held c.of_mut.ensures.jfns n (moved c.args.at own.0)
          (record { low = own.2.low; high = own.2.high; there = own.2.there; fits = (own.2.fits.0, own.2.fits.1, own.3.1) });
    })

pub returns-clause-moved : goal.returns-clause-moved
returns-clause-moved c =
    let old = c.args.self.now in
    let held = c.of_mut.result.now in
    let n = c.args.n in
    let t = c.args.t.0 in
    let own = own_that old.dir old.lengths old.jobs old.sound t c.requires.terminal held c.of_mut.ensures.jfns (MayMove c.args.at) n c.requires.«open» in
    let put : c.seek.new.self ≡ map.insert held n (moved c.args.at own.0) =
    subst (λ o. IfSome o (λ jfn. c.seek.new.self ≡ map.insert held n (moved c.args.at jfn))) own.1 c.seek.ensures in
    subst (λ o. IsSomeAnd o (λ (j : OpenFile). jobs_named old.dir (slice_set old.jobs t c.seek.new.self)
    ≡ slice_set (jobs_named old.dir old.jobs) t (map.insert (open_at (jobs_named old.dir old.jobs) t) n (moved_file c.args.at j))))
    (sym (own_get old.dir old.lengths old.jobs old.sound t c.requires.terminal held c.of_mut.ensures.jfns n ∙ ap (option_map (open_file old.dir)) own.1))
    (ap (λ (h : Held). jobs_named old.dir (slice_set old.jobs t h)) put
    ∙ jobs_put old.dir old.lengths old.jobs old.sound t c.requires.terminal held c.of_mut.ensures.jfns n (moved c.args.at own.0))
