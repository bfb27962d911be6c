-- What passes the test of full names is the full name of a file.
use Rattle.std.proofs.Common.{◌≡◌, ℕ, ◌≤◌, List, [], ◌∷◌, ◌++◌, length, get_or, refl, ap, subst, ◌∙◌, All}
use Rattle.std.specs.Prelude.{◌==◌, nat_le, ◌&&◌, None, Some, true, false, Bool, if◌then◌else◌}
use Rattle.std.specs.List.{list_all, position_or_len}
use Rattle.std.proofs.lemmas.Bool.{and_parts, eqb-true, leb-true, ltb-true}
use Rattle.std.proofs.lemmas.List.Sums.{split_at_first, passes_at_first, AllPass-from_list_all}
use Rattle.machine_names.specs.Bounds.{IsDirName, IsFileName, IsNameCode, is_name_code}
use Rattle.machine_names.specs.FileNames.{are_parts, before, behind, file_named, full_name, is_cut_name, is_dir_name, is_file_name, stands_in}

-- a text is cut where a character stands first in it
pub cut_whole : (c : ℕ) (text : List ℕ) → stands_in c text ≡ true → text ≡ before c text ++ c ∷ behind c text
cut_whole c text h =
    let there = ltb-true (position_or_len (λ d. d == c) text) (length text) h in
    split_at_first (λ d. d == c) text 0 there
    ∙ ap (λ d. before c text ++ d ∷ behind c text) (eqb-true (get_or text (position_or_len (λ d. d == c) text) 0) c (passes_at_first (λ d. d == c) text 0 there))

-- the parts of a name
dir_named : (dir : List ℕ) → is_dir_name dir ≡ true → IsDirName dir
dir_named dir h =
    let both = and_parts (nat_le 1 (length dir) && nat_le (length dir) 12) (list_all is_name_code dir) h in
    let sizes = and_parts (nat_le 1 (length dir)) (nat_le (length dir) 12) both.0 in
    (leb-true 1 (length dir) sizes.0, leb-true (length dir) 12 sizes.1, AllPass-from_list_all is_name_code dir both.1)

parts_named : (dir stem extension : List ℕ) → are_parts dir stem extension ≡ true → IsDirName dir × (1 ≤ length stem) × All IsNameCode stem × All IsNameCode extension
parts_named dir stem extension h =
    let most = and_parts (is_dir_name dir && nat_le 1 (length stem) && list_all is_name_code stem) (list_all is_name_code extension) h in
    let more = and_parts (is_dir_name dir && nat_le 1 (length stem)) (list_all is_name_code stem) most.0 in
    let first = and_parts (is_dir_name dir) (nat_le 1 (length stem)) more.0 in
    (dir_named dir first.0, leb-true 1 (length stem) first.1, AllPass-from_list_all is_name_code stem more.1, AllPass-from_list_all is_name_code extension most.1)

pub named_is : (text : List ℕ) → is_file_name text ≡ true → IsFileName text
unfolding is_file_name
named_is [] h = absurd (cc h)
named_is (c ∷ cs) h =
    let file = behind 62 cs in
    let whole = and_parts (nat_le (length (c ∷ cs)) 39 && (c == 60)) (is_cut_name cs) h in
    let front = and_parts (nat_le (length (c ∷ cs)) 39) (c == 60) whole.0 in
    let cut = and_parts (stands_in 62 cs && stands_in 46 file) (are_parts (before 62 cs) (before 46 file) (behind 46 file)) whole.1 in
    let both = and_parts (stands_in 62 cs) (stands_in 46 file) cut.0 in
    let parts = parts_named (before 62 cs) (before 46 file) (behind 46 file) cut.1 in record {
      dir = before 62 cs;
      stem = before 46 file;
      extension = behind 46 file;
      spelled = ap (λ d. d ∷ cs) (eqb-true c 60 front.1) ∙ ap (λ l. 60 ∷ l) (cut_whole 62 cs both.0 ∙ ap (λ l. before 62 cs ++ 62 ∷ l) (cut_whole 46 file both.1));
      dir_fits = parts.0;
      stem_some = parts.1;
      stem_fits = parts.2;
      extension_fits = parts.3;
      short = leb-true (length (c ∷ cs)) 39 front.0;
    }

-- a file that a text names has a full name
pub file_named_is : (user extension text name : List ℕ) → file_named user extension text ≡ Some name → IsFileName name
unfolding file_named
file_named_is user extension text name h = by (is_file_name (full_name user extension text)) refl h
  where
    by : (b : Bool) → is_file_name (full_name user extension text) ≡ b → if b then Some (full_name user extension text) else None ≡ Some name → IsFileName name
    by true is e = let same : full_name user extension text ≡ name = cc e in subst IsFileName same (named_is (full_name user extension text) is)
    by false is e = absurd (cc e)
