use Rattle.std.proofs.Common.{◌≡◌, ℕ, true, List, [], ◌∷◌, Option, None, Some, sym, ap, subst}
use Rattle.std.specs.Prelude.{IfSome, MatchOption, is_some}
use Rattle.std.specs.List.{filter}
use Rattle.std.specs.Option.{IsSomeAnd, option_map}
use Rattle.std.specs.FinMap as map
use Rattle.machine_names.specs.declared.names.FileNo.{FileNo}
use Rattle.plain_files.specs.Directory.{Files}
use Rattle.plain_files.specs.NamedFiles.{AreNumbers, by_name, name_of}
use Rattle.plain_files.specs.Sizes.{file_at}
use Rattle.file_dir.specs.Listing.{ComesLater, IsFollowing}
use Rattle.file_tables.specs.InOrder.{is_later}
use Rattle.file_tables.proofs.InOrder.{next_after, none_after}
use Rattle.file_tables.proofs.Names.{by_name_at, named}
use Rattle.file_tables.proofs.tables.FileTables.all.Goals as goal

module _ {V : Type 0} (m : Files) (a : AreNumbers m) (kept : ℕ → V) (after : Option FileNo) (there : IfSome after (λ f. map.contains_key m f.0 ≡ true)) where
  abbrev later : Option (List ℕ) → List (List ℕ × V)
  later from = filter (λ e. is_later from e.0) (map.entries (by_name m kept))

  abbrev Answers : Option FileNo → Type 0
  Answers o = MatchOption o ((f : ℕ) → ComesLater m after f → ⊥) (λ f. IsFollowing m after f.0)

  next : (o : Option FileNo) → Answers o → MatchOption o (later (option_map (λ f. name_of m f.0) after) ≡ [])
      (λ f. IsSomeAnd (map.get (by_name m kept) (name_of m f.0)) (λ v. later (option_map (λ f. name_of m f.0) after) ≡ (name_of m f.0, v) ∷ later (Some (name_of m f.0))))
  next None none = none_after m a kept after there none
  next (Some f) n =
      subst (λ o. IsSomeAnd o (λ v. later (option_map (λ f. name_of m f.0) after) ≡ (name_of m f.0, v) ∷ later (Some (name_of m f.0))))
      (sym (by_name_at m a kept f.0 (name_of m f.0) (named m f.0 (ap is_some n.comes.stands)))) (next_after m a kept after there f.0 n)

  is_there : (o : Option FileNo) → Answers o → IfSome o (λ f. map.contains_key m f.0 ≡ true)
  is_there None none = tt
  is_there (Some f) n = ap is_some n.comes.stands

pub returns-clause-next : goal.returns-clause-next
returns-clause-next c = next c.args.self.now.dir c.args.self.now.sound.numbers (file_at c.args.self.now.lengths) c.args.after c.requires c.all.result c.all.ensures

pub returns-clause-there : goal.returns-clause-there
returns-clause-there c = is_there c.args.self.now.dir c.args.self.now.sound.numbers (file_at c.args.self.now.lengths) c.args.after c.requires c.all.result c.all.ensures
