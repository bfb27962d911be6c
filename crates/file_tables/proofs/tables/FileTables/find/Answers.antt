use Rattle.std.proofs.Common.{◌≡◌, sym, ap, true, List, [], ℕ, Option, None, Some}
use Rattle.std.specs.Prelude.{is_some}
use Rattle.std.specs.Option.{MatchOption, option_map, unwrap_or}
use Rattle.std.specs.FinMap as map
use Rattle.machine_names.specs.declared.names.FileNo.{FileNo}
use Rattle.plain_files.specs.Directory.{Files, IsAbsent}
use Rattle.plain_files.specs.NamedFiles.{AreNumbers, by_name, name_of, number_of}
use Rattle.plain_files.specs.Sizes.{file_at}
use Rattle.file_tables.proofs.Names.{by_name_at, by_name_none}
use Rattle.file_tables.proofs.tables.FileTables.find.Goals as goal

module _ (m : Files) (a : AreNumbers m) (name : List ℕ) where
  abbrev Found : Option FileNo → Type 0
  Found o = MatchOption o (IsAbsent m name) (λ f. map.get m f.0 ≡ Some name)

  number : (o : Option FileNo) → Found o → option_map (λ f. f.0) o ≡ number_of m name
  number None absent = sym (by_name_none m a (λ k. k) name absent)
  number (Some f) is = sym (by_name_at m a (λ k. k) f.0 name is)

  found : {V : Type 0} (kept : ℕ → V) (o : Option FileNo) → Found o
      → MatchOption o (map.get (by_name m kept) name ≡ None) (λ f. (map.contains_key m f.0 ≡ true) × (name_of m f.0 ≡ name))
  found kept None absent = by_name_none m a kept name absent
  found kept (Some f) is = (ap is_some is, ap (λ o. unwrap_or o []) is)

pub returns-clause-number : goal.returns-clause-number
returns-clause-number c = number c.args.self.now.dir c.args.self.now.sound.numbers c.args.name.now c.find.result c.find.ensures.found

pub returns-clause-found : goal.returns-clause-found
returns-clause-found c = found c.args.self.now.dir c.args.self.now.sound.numbers c.args.name.now (file_at c.args.self.now.lengths) c.find.result c.find.ensures.found
