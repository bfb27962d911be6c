use Rattle.std.proofs.Common.{◌≡◌, ◌+◌, ◌<◌, ◌∙◌, true, ap, subst, sym, arith, lit≤, ℕ, List, Some, Result, Ok, Err}
use Rattle.std.specs.Prelude.{slice_set}
use Rattle.std.specs.Result.{MatchResult}
use Rattle.std.specs.FinMap as map
use Rattle.machine_names.specs.declared.names.TheConstants.{TERMINALS}
use Rattle.plain_files.specs.declared.bounds.TheConstants.{MOST_JFNS}
use Rattle.plain_files.specs.Sizes.{PlainFile}
use Rattle.plain_files.specs.Directory.{Files}
use Rattle.plain_files.specs.JobFiles.{Held, TakesLeast, names_in, taken}
use Rattle.plain_files.specs.Jobs.{jfns_of, names_in_all}
use Rattle.plain_files.specs.NamedFiles.{AreTables, IsHeld, jobs_named, name_of, open_named}
use Rattle.plain_files.specs.OpenFiles.{free_jfn, open_at, taken_file}
use Rattle.jfn_table.proofs.Changes.{names_taken}
use Rattle.file_tables.proofs.FirstFree.{least_free}
use Rattle.file_tables.proofs.Jobs.{has_room, jobs_put, own_open, tables_put, tables_stay, times_set}
use Rattle.file_tables.proofs.Names.{named}
use Rattle.file_tables.proofs.Opened.{least_open}
use Rattle.file_tables.proofs.tables.FileTables.take.Goals as goal

module _ (m : Files) (files : List PlainFile) (jobs : List Held) (is : AreTables m files jobs) (t : ℕ) (low : t < TERMINALS) (held : Held) (own : held ≡ jfns_of jobs t)
    (f : ℕ) (there : map.contains_key m f ≡ true) where
  taken_holds : (new : Held) (n : ℕ) → TakesLeast held new f n → IsHeld m n (taken f)
  taken_holds new n takes = record {
    low = takes.least.after;
    high = takes.most;
    there = there;
    fits = (is.numbers.below f (name_of m f) (named m f there), (lit≤ tt, lit≤ tt), omega arith);
  }

  taken_tables : {E : Type 0} (new : Held) (r : Result ℕ E) → MatchResult r (TakesLeast held new f) (λ _. (map.len held ≡ MOST_JFNS) × (new ≡ held))
      → AreTables m files (slice_set jobs t new)
  taken_tables new (Ok n) takes =
      subst (λ h. AreTables m files (slice_set jobs t h)) (sym takes.put) (tables_put m files jobs is t low held own n (taken f) (taken_holds new n takes))
  taken_tables new (Err e) full = subst (λ h. AreTables m files (slice_set jobs t h)) (sym full.1) (tables_stay m files jobs is t low held own)

  least : (new : Held) (n : ℕ) → TakesLeast held new f n → free_jfn (open_at (jobs_named m jobs) t) ≡ Some n
  least new n takes =
      ap free_jfn (own_open m files jobs is t low held own)
      ∙ least_free (open_named m held) n takes.most (least_open m held 1 n takes.least)

  taken_jobs : (new : Held) (n : ℕ) → TakesLeast held new f n
      → jobs_named m (slice_set jobs t new) ≡ slice_set (jobs_named m jobs) t (map.insert (open_at (jobs_named m jobs) t) n (taken_file (name_of m f)))
  taken_jobs new n takes = ap (λ h. jobs_named m (slice_set jobs t h)) takes.put ∙ jobs_put m files jobs is t low held own n (taken f)

  taken_times : (new : Held) (n : ℕ) → TakesLeast held new f n → names_in_all (slice_set jobs t new) f ≡ names_in_all jobs f + 1
  taken_times new n takes =
      let one : names_in new f ≡ names_in held f + 1 = ap (λ h. names_in h f) takes.put ∙ names_taken held n f takes.least.free in
      omega (arith, one, times_set m files jobs is t low held own new f)

pub invariant_of-self : goal.invariant_of-self
invariant_of-self c =
    let old = c.args.self.now in
    record {
      sound = taken_tables old.dir old.lengths old.jobs old.sound c.args.t.0 c.requires.terminal c.of_mut.result.now c.of_mut.ensures.jfns c.args.f.0 c.requires.there
          c.take.new.self c.take.result c.take.ensures;
    }

pub unreachable-requires : goal.unreachable-requires
unreachable-requires c =
    let old = c.args.self.now in
    has_room old.dir old.lengths old.jobs old.sound c.args.t.0 c.requires.terminal c.of_mut.result.now c.of_mut.ensures.jfns c.requires.room c.in_default.ensures.0

pub returns-clause-least : goal.returns-clause-least
returns-clause-least c =
    let old = c.args.self.now in
    least old.dir old.lengths old.jobs old.sound c.args.t.0 c.requires.terminal c.of_mut.result.now c.of_mut.ensures.jfns c.args.f.0 c.requires.there
    c.take.new.self c.in-Ok.n c.in-Ok.ensures

pub returns-clause-taken : goal.returns-clause-taken
returns-clause-taken c =
    let old = c.args.self.now in
    taken_jobs old.dir old.lengths old.jobs old.sound c.args.t.0 c.requires.terminal c.of_mut.result.now c.of_mut.ensures.jfns c.args.f.0 c.requires.there
    c.take.new.self c.in-Ok.n c.in-Ok.ensures

pub returns-clause-times : goal.returns-clause-times
returns-clause-times c =
    let old = c.args.self.now in
    taken_times old.dir old.lengths old.jobs old.sound c.args.t.0 c.requires.terminal c.of_mut.result.now c.of_mut.ensures.jfns c.args.f.0 c.requires.there
    c.take.new.self c.in-Ok.n c.in-Ok.ensures
