-- The full name of a file is cut at its first > and then at its first point.
use Rattle.std.proofs.Common.{◌≡◌, ℕ, ◌≤◌, List, ◌∷◌, ◌++◌, length, refl, sym, ◌∙◌, ap, subst, arith, All}
use Rattle.machine_names.specs.Bounds.{IsDirName, IsFileName, IsNameCode}
use Rattle.script_lang.specs.Fields.{AreParts, IsCut, Lacks}
use Rattle.script_lang.proofs.Fronts.{name_lacks}
use Rattle.line_buffer.proofs.Splits.{one_split, no_split}

module _ (text : List ℕ) where
  module _ (rest : List ℕ) (opened : text ≡ 60 ∷ rest) where
    parted : (h : IsFileName text) → rest ≡ h.dir ++ 62 ∷ (h.stem ++ 46 ∷ h.extension)
    parted h = let same : 60 ∷ rest ≡ 60 ∷ (h.dir ++ 62 ∷ (h.stem ++ 46 ∷ h.extension)) = sym opened ∙ h.spelled in cc same

    pub unclosed : Lacks 62 rest → IsFileName text → ⊥
    unclosed none h = no_split 62 rest h.dir (h.stem ++ 46 ∷ h.extension) none (parted h)

    module _ (dir file : List ℕ) (closed : IsCut 62 rest dir file) where
      in_dir : (h : IsFileName text) → (dir ≡ h.dir) × (file ≡ h.stem ++ 46 ∷ h.extension)
      in_dir h = one_split 62 dir h.dir file (h.stem ++ 46 ∷ h.extension) closed.first (name_lacks 62 refl h.dir h.dir_fits.2) (sym closed.whole ∙ parted h)

      pub unpointed : Lacks 46 file → IsFileName text → ⊥
      unpointed none h = no_split 46 file h.stem h.extension none (in_dir h).1

      module _ (stem extension : List ℕ) (pointed : IsCut 46 file stem extension) where
        in_file : (h : IsFileName text) → (stem ≡ h.stem) × (extension ≡ h.extension)
        in_file h = one_split 46 stem h.stem extension h.extension pointed.first (name_lacks 46 refl h.stem h.stem_fits) (sym pointed.whole ∙ (in_dir h).1)

        pub name_parts : IsFileName text → AreParts dir stem extension
        name_parts h = (
          subst IsDirName (sym (in_dir h).0) h.dir_fits,
          omega (arith, ap length (in_file h).0, h.stem_some),
          subst (All IsNameCode) (sym (in_file h).0) h.stem_fits,
          subst (All IsNameCode) (sym (in_file h).1) h.extension_fits,
        )

        pub is_name : AreParts dir stem extension → length text ≤ 39 → IsFileName text
        is_name parts short = record {
          dir = dir;
          stem = stem;
          extension = extension;
          spelled = opened ∙ (ap (λ l. 60 ∷ l) closed.whole ∙ ap (λ l. 60 ∷ (dir ++ 62 ∷ l)) pointed.whole);
          dir_fits = parts.0;
          stem_some = parts.1;
          stem_fits = parts.2;
          extension_fits = parts.3;
          short = short;
        }
