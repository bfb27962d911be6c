-- A file for which a JFN stands has its number under its name.
use Rattle.std.proofs.Common.{ℕ, Option, None, Some, ap}
use Rattle.std.specs.Prelude.{IfSome}
use Rattle.std.specs.Option.{unwrap_or}
use Rattle.plain_files.specs.declared.jfn.Jfn.{Jfn}
use Rattle.plain_files.specs.NamedFiles.{IsHeld, name_of}
use Rattle.file_tables.specs.declared.tables.FileTables.{FileTables}
use Rattle.file_tables.proofs.Names.{by_name_at, named}
use Rattle.file_tables.specs.Keys.{IsKnown}

known : (tables : FileTables) (n : ℕ) (jfn : Jfn) → IsHeld tables.dir n jfn → IsKnown tables jfn.file
known tables n jfn h =
    let is = named tables.dir jfn.file.0 h.there in
    record {
      there = h.there;
      below = tables.sound.numbers.below jfn.file.0 (name_of tables.dir jfn.file.0) is;
      number = ap (λ (o : Option ℕ). unwrap_or o 0) (by_name_at tables.dir tables.sound.numbers (λ k. k) jfn.file.0 (name_of tables.dir jfn.file.0) is);
    }

pub held_known : (tables : FileTables) (n : ℕ) (jfn : Option Jfn) → IfSome jfn (IsHeld tables.dir n) → IfSome jfn (λ j. IsKnown tables j.file)
held_known tables n None h = tt
held_known tables n (Some jfn) h = known tables n jfn h
