-- The test of full names decides them.
use Rattle.std.proofs.Common.{◌≡◌, ℕ, ◌+◌, ◌<◌, ◌≤◌, List, [], ◌∷◌, ◌++◌, length, get_or, true, false, Bool, None, Some, refl, sym, ◌∙◌, ap, subst, arith, ◌⊎◌, inl, inr, All, length-append, length-take}
use Rattle.std.specs.Prelude.{◌==◌, nat_le, ◌&&◌, if◌then◌else◌}
use Rattle.std.specs.Char.{to_ascii_uppercase}
use Rattle.std.specs.List.{list_all, position_or_len}
use Rattle.std.proofs.lemmas.Bool.{and_parts, and_from, eqb-true, eqb-false, eq-eqb, leb-true, le-leb, lt-leb, ltb-true, lt-ltb, cases_lt}
use Rattle.std.proofs.lemmas.List.{get_or-take, get_or_at, length-map}
use Rattle.std.proofs.lemmas.List.Elements.{All-from_get_or}
use Rattle.std.proofs.lemmas.List.Sums.{split_at_first, fails_before_first, passes_at_first, AllPass-from_list_all, list_all-from_AllPass}
use Rattle.machine_names.specs.Bounds.{IsDirName, IsFileName, is_name_code}
use Rattle.script_lang.specs.Fields.{AreParts}
use Rattle.machine_names.specs.FileNames.{are_parts, before, behind, directory_before, extension_behind, file_named, full_name, is_cut_name, is_dir_name, is_file_name, raised, stands_in}
use Rattle.script_lang.proofs.Fronts.{name_lacks}
use Rattle.line_buffer.proofs.Splits.{IsNot, one_split}

-- a text is cut where a character stands first in it
module _ (c : ℕ) where
  before_lacks : (text : List ℕ) → All (IsNot c) (before c text)
  before_lacks text = All-from_get_or (IsNot c) (before c text) 0 (λ i h. here i (omega (arith, length-take (position_or_len (λ d. d == c) text) text, h)))
    where
      here : (i : ℕ) → i < position_or_len (λ d. d == c) text → get_or (before c text) i 0 ≡ c → ⊥
      here i h e = eqb-false (get_or text i 0) c (fails_before_first (λ d. d == c) text i 0 h) (sym (get_or-take (position_or_len (λ d. d == c) text) text i 0 h) ∙ e)

  pub cut_whole : (text : List ℕ) → stands_in c text ≡ true → text ≡ before c text ++ c ∷ behind c text
  cut_whole text h =
      let there = ltb-true (position_or_len (λ d. d == c) text) (length text) h in
      split_at_first (λ d. d == c) text 0 there
      ∙ ap (λ d. before c text ++ d ∷ behind c text) (eqb-true (get_or text (position_or_len (λ d. d == c) text) 0) c (passes_at_first (λ d. d == c) text 0 there))

  stands : (a x text : List ℕ) → text ≡ a ++ c ∷ x → stands_in c text ≡ true
  stands a x text e = here (cases_lt (position_or_len (λ d. d == c) text) (length text))
    where
      longer : length a < length text
      longer = omega (arith, ap length e, length-append a (c ∷ x))

      found : get_or text (length a) 0 ≡ c
      found = ap (λ t. get_or t (length a) 0) e ∙ get_or_at a c x 0 (length a) refl

      here : (position_or_len (λ d. d == c) text < length text) ⊎ (length text ≤ position_or_len (λ d. d == c) text) → stands_in c text ≡ true
      here (inl h) = lt-ltb (position_or_len (λ d. d == c) text) (length text) h
      here (inr h) = absurd (eqb-false (get_or text (length a) 0) c (fails_before_first (λ d. d == c) text (length a) 0 (omega (arith, longer, h))) found)

  pub one_cut : (a x text : List ℕ) → All (IsNot c) a → text ≡ a ++ c ∷ x → (stands_in c text ≡ true) × (before c text ≡ a) × (behind c text ≡ x)
  one_cut a x text lacks e =
      let there = stands a x text e in
      let same = one_split c (before c text) a (behind c text) x (before_lacks text) lacks (sym (cut_whole text there) ∙ e) in
      (there, same.0, same.1)

-- the parts of a name
dir_named : (dir : List ℕ) → is_dir_name dir ≡ true → IsDirName dir
dir_named dir h =
    let both = and_parts (nat_le 1 (length dir) && nat_le (length dir) 12) (list_all is_name_code dir) h in
    let sizes = and_parts (nat_le 1 (length dir)) (nat_le (length dir) 12) both.0 in
    (leb-true 1 (length dir) sizes.0, leb-true (length dir) 12 sizes.1, AllPass-from_list_all is_name_code dir both.1)

named_dir : (dir : List ℕ) → IsDirName dir → is_dir_name dir ≡ true
named_dir dir h =
    and_from (nat_le 1 (length dir) && nat_le (length dir) 12) (list_all is_name_code dir)
    (and_from (nat_le 1 (length dir)) (nat_le (length dir) 12) (le-leb 1 (length dir) h.0) (le-leb (length dir) 12 h.1)) (list_all-from_AllPass is_name_code dir h.2)

module _ (dir stem extension : List ℕ) where
  parts_named : are_parts dir stem extension ≡ true → AreParts dir stem extension
  parts_named h =
      let most = and_parts (is_dir_name dir && nat_le 1 (length stem) && list_all is_name_code stem) (list_all is_name_code extension) h in
      let more = and_parts (is_dir_name dir && nat_le 1 (length stem)) (list_all is_name_code stem) most.0 in
      let first = and_parts (is_dir_name dir) (nat_le 1 (length stem)) more.0 in
      (dir_named dir first.0, leb-true 1 (length stem) first.1, AllPass-from_list_all is_name_code stem more.1, AllPass-from_list_all is_name_code extension most.1)

  named_parts : AreParts dir stem extension → are_parts dir stem extension ≡ true
  named_parts h =
      and_from (is_dir_name dir && nat_le 1 (length stem) && list_all is_name_code stem) (list_all is_name_code extension)
      (and_from (is_dir_name dir && nat_le 1 (length stem)) (list_all is_name_code stem)
      (and_from (is_dir_name dir) (nat_le 1 (length stem)) (named_dir dir h.0) (le-leb 1 (length stem) h.1)) (list_all-from_AllPass is_name_code stem h.2))
      (list_all-from_AllPass is_name_code extension h.3)

pub named_is : (text : List ℕ) → is_file_name text ≡ true → IsFileName text
unfolding is_file_name
named_is [] h = absurd (cc h)
named_is (c ∷ cs) h =
    let file = behind 62 cs in
    let whole = and_parts (nat_le (length (c ∷ cs)) 39 && (c == 60)) (is_cut_name cs) h in
    let front = and_parts (nat_le (length (c ∷ cs)) 39) (c == 60) whole.0 in
    let cut = and_parts (stands_in 62 cs && stands_in 46 file) (are_parts (before 62 cs) (before 46 file) (behind 46 file)) whole.1 in
    let both = and_parts (stands_in 62 cs) (stands_in 46 file) cut.0 in
    let parts = parts_named (before 62 cs) (before 46 file) (behind 46 file) cut.1 in record {
      dir = before 62 cs;
      stem = before 46 file;
      extension = behind 46 file;
      spelled = ap (λ d. d ∷ cs) (eqb-true c 60 front.1) ∙ ap (λ l. 60 ∷ l) (cut_whole 62 cs both.0 ∙ ap (λ l. before 62 cs ++ 62 ∷ l) (cut_whole 46 file both.1));
      dir_fits = parts.0;
      stem_some = parts.1;
      stem_fits = parts.2;
      extension_fits = parts.3;
      short = leb-true (length (c ∷ cs)) 39 front.0;
    }

pub is_named : (text : List ℕ) → IsFileName text → is_file_name text ≡ true
unfolding is_file_name
is_named [] name = absurd (let clash : [] ≡ 60 ∷ (name.dir ++ 62 ∷ (name.stem ++ 46 ∷ name.extension)) = name.spelled in cc clash)
is_named (c ∷ cs) name =
    let spelled : c ∷ cs ≡ 60 ∷ (name.dir ++ 62 ∷ (name.stem ++ 46 ∷ name.extension)) = name.spelled in
    let opened : c ≡ 60 = cc spelled in
    let rest : cs ≡ name.dir ++ 62 ∷ (name.stem ++ 46 ∷ name.extension) = cc spelled in
    let closed = one_cut 62 name.dir (name.stem ++ 46 ∷ name.extension) cs (name_lacks 62 refl name.dir name.dir_fits.2) rest in
    let pointed = one_cut 46 name.stem name.extension (behind 62 cs) (name_lacks 46 refl name.stem name.stem_fits) closed.2 in
    let parts = named_parts name.dir name.stem name.extension (name.dir_fits, name.stem_some, name.stem_fits, name.extension_fits) in
    and_from (nat_le (length (c ∷ cs)) 39 && (c == 60)) (is_cut_name cs)
    (and_from (nat_le (length (c ∷ cs)) 39) (c == 60) (le-leb (length (c ∷ cs)) 39 name.short) (eq-eqb c 60 opened))
    (and_from (stands_in 62 cs && stands_in 46 (behind 62 cs)) (are_parts (before 62 cs) (before 46 (behind 62 cs)) (behind 46 (behind 62 cs)))
    (and_from (stands_in 62 cs) (stands_in 46 (behind 62 cs)) closed.0 pointed.0)
    (rw (closed.1, pointed.1, pointed.2) parts))

-- what is too long is none
pub long_is_none : (text : List ℕ) → 39 < length text → is_file_name text ≡ false
unfolding is_file_name
long_is_none [] h = absurd (omega arith)
long_is_none (c ∷ cs) h = ap (λ b. b && (c == 60) && is_cut_name cs) (lt-leb (length (c ∷ cs)) 39 h)

-- what the test answers where a text is none, and where it is one
none_by : (b : Bool) (text : List ℕ) → is_file_name text ≡ b → (IsFileName text → ⊥) → if b then Some text else None ≡ None
none_by true text e none = absurd (none (named_is text e))
none_by false text e none = refl

pub none_named : (user extension text : List ℕ) → (IsFileName (full_name user extension text) → ⊥) → file_named user extension text ≡ None
unfolding file_named
none_named user extension text none = none_by (is_file_name (full_name user extension text)) (full_name user extension text) refl none

pub long_named : (user extension text : List ℕ) → 39 < length (full_name user extension text) → file_named user extension text ≡ None
unfolding file_named
long_named user extension text long = ap (λ b. if b then Some (full_name user extension text) else None) (long_is_none (full_name user extension text) long)

pub one_named : (user extension text : List ℕ) → IsFileName (full_name user extension text) → file_named user extension text ≡ Some (full_name user extension text)
unfolding file_named
one_named user extension text name = ap (λ b. if b then Some (full_name user extension text) else None) (is_named (full_name user extension text) name)

-- what a text names is the full name of a file
some_by : (b : Bool) (text name : List ℕ) → is_file_name text ≡ b → if b then Some text else None ≡ Some name → IsFileName name
some_by true text name e is = let same : text ≡ name = cc is in subst IsFileName same (named_is text e)
some_by false text name e is = absurd (cc is)

pub what_is_named : (user extension text name : List ℕ) → file_named user extension text ≡ Some name → IsFileName name
unfolding file_named
what_is_named user extension text name e = some_by (is_file_name (full_name user extension text)) (full_name user extension text) name refl e

-- how a full name is put together
pub full_name-parts : (user extension text : List ℕ) → full_name user extension text ≡ directory_before user text ++ (raised text ++ extension_behind extension text)
unfolding full_name
full_name-parts user extension text = refl

pub length-full_name : (user extension text : List ℕ) → length (full_name user extension text)
    ≡ length (directory_before user text) + (length text + length (extension_behind extension text))
length-full_name user extension text =
    ap length (full_name-parts user extension text) ∙ length-append (directory_before user text) (raised text ++ extension_behind extension text)
    ∙ ap (λ n. length (directory_before user text) + n) (length-append (raised text) (extension_behind extension text)
    ∙ ap (λ n. n + length (extension_behind extension text)) (length-map text to_ascii_uppercase))
