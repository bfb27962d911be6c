-- A listing goes on with the line of the next file.
use Rattle.std.proofs.Common.{◌≡◌, ◌⊎◌, inl, inr, ℕ, List, [], ◌∷◌, ◌++◌, length, Bool, true, false, cond, ◌&&◌, Option, Some, None, refl, sym, ◌∙◌, ap, subst}
use Rattle.std.specs.Prelude.{T, IfSome, MatchOption, drop, is_some, map as each, nat_eq}
use Rattle.std.specs.List.{flat_map, starts_with}
use Rattle.std.specs.Option.{unwrap_or}
use Rattle.std.specs.Ordering.{eq_by_cmp, is_eq, is_lt}
use Rattle.std.specs.FinMap as map
use Rattle.std.specs.FinMap.Entries.{below_all, find, is_sorted}
use Rattle.std.proofs.lemmas.Bool.Decides.{Decides-eqb}
use Rattle.std.proofs.lemmas.Cmp.{nat_list_cmp_total, tied_itself}
use Rattle.std.proofs.lemmas.Slice.Eq.{starts_is}
use Rattle.machine_names.specs.Orders.{name_cmp}
use Rattle.machine_names.specs.declared.names.FileNo.{FileNo}
use Rattle.plain_files.specs.Directory.{ComesAfter, ComesBefore, Files, IsNext}
use Rattle.plain_files.specs.NamedFiles.{name_of}
use Rattle.plain_files.specs.Sizes.{PlainFile, file_at}
use Rattle.plain_model.specs.Commands.{directory_prefix, file_line, with_line_end}
use Rattle.file_dir.proofs.Listing.{in_directory, opened}
use Rattle.file_dir.proofs.Texts.{before_back, before_both, before_is, before_itself, compared}
use Rattle.file_tables.specs.declared.tables.FileTables.{FileTables}
use Rattle.file_tables.specs.Tables.{IsThere, files_of}
use Rattle.file_tables.proofs.Names.{by_name_at, by_name_none, cases_file, named}
use Rattle.machine_names.proofs.Keys.{same_key}
use Rattle.file_tables.proofs.Names.{name_apart, name_total}
use Rattle.job_commands.specs.Listing.{is_behind, line_behind, line_of, lines_behind, name_before}

-- ---- names in order

abbrev Entries : Type 0
Entries = List (List ℕ × PlainFile)

abbrev names_of : Entries → List (List ℕ)
names_of es = each (λ e. e.0) es

abbrev IsOf : Entries → List ℕ → Type 0
IsOf es name = is_some (find name_cmp name es) ≡ true

left_true : (a b : Bool) → T (a && b) → (a ≡ true) × T b
left_true true b h = (refl, h)
left_true false b h = absurd h

head_is : (name : List ℕ) (v : PlainFile) (es : Entries) → IsOf ((name, v) ∷ es) name
head_is name v es = ap (λ b. is_some (cond b (Some v) (find name_cmp name es))) (ap is_eq (tied_itself nat_list_cmp_total name))

tail_is : (name : List ℕ) (e : List ℕ × PlainFile) (es : Entries) → IsOf es name → IsOf (e ∷ es) name
tail_is name e es h = by (eq_by_cmp name_cmp name e.0)
  where
    by : (b : Bool) → is_some (cond b (Some e.1) (find name_cmp name es)) ≡ true
    by true = refl
    by false = h

-- a name is the first, or one of the others
first_or_later : (name : List ℕ) (e : List ℕ × PlainFile) (es : Entries) → IsOf (e ∷ es) name → (name ≡ e.0) ⊎ IsOf es name
first_or_later name e es h = by (eq_by_cmp name_cmp name e.0) refl h
  where
    by : (b : Bool) → eq_by_cmp name_cmp name e.0 ≡ b → is_some (cond b (Some e.1) (find name_cmp name es)) ≡ true → (name ≡ e.0) ⊎ IsOf es name
    by true is there = inl (same_key name_total name_apart name e.0 is)
    by false is there = inr there

-- the names rise
later_names : (first name : List ℕ) (es : Entries) → T (below_all name_cmp first es) → IsOf es name → ComesBefore first name
later_names first name [] below h = absurd (let no : false ≡ true = h in cc no)
later_names first name (e ∷ es) below h =
    let is = left_true (is_lt (name_cmp first e.0)) (below_all name_cmp first es) below in
    elim (first_or_later name e es h) [
      | inl same ↦ subst (ComesBefore first) (sym same) (before_is first e.0 is.0)
      | inr rest ↦ later_names first name es is.1 rest
    ]

not_less : (a b : List ℕ) → (ComesBefore a b → ⊥) → is_lt (name_cmp a b) ≡ false
not_less a b not_before = by (is_lt (name_cmp a b)) refl
  where
    by : (r : Bool) → is_lt (name_cmp a b) ≡ r → is_lt (name_cmp a b) ≡ false
    by true is = absurd (not_before (before_is a b is))
    by false is = is

-- ---- lines of names

no_lines : (f : List ℕ → List ℕ) (es : Entries) → ((name : List ℕ) → IsOf es name → f name ≡ []) → flat_map f (names_of es) ≡ []
no_lines f [] none = refl
no_lines f (e ∷ es) none = ap (λ line. line ++ flat_map f (names_of es)) (none e.0 (head_is e.0 e.1 es)) ∙ no_lines f es (λ name h. none name (tail_is name e es h))

same_lines : (f g : List ℕ → List ℕ) (es : Entries) → ((name : List ℕ) → IsOf es name → f name ≡ g name) → flat_map f (names_of es) ≡ flat_map g (names_of es)
same_lines f g [] alike = refl
same_lines f g (e ∷ es) alike =
    let rest = same_lines f g es (λ name h. alike name (tail_is name e es h)) in
    λ i. alike e.0 (head_is e.0 e.1 es) i ++ rest i

module _ (user : List ℕ) (after : Option (List ℕ)) (next : List ℕ) (behind : is_behind after next ≡ true) (later : (name : List ℕ) → ComesBefore next name → is_behind after name ≡ true) where
  own_line : (name : List ℕ) → is_behind after name ≡ true → line_behind user after name ≡ file_line user name
  own_line name is = ap (λ b. cond b (file_line user name) []) is

  no_line : (name : List ℕ) → (ComesBefore next name → ⊥) → line_behind user (Some next) name ≡ []
  no_line name sooner = ap (λ b. cond b (file_line user name) []) (not_less next name sooner)

  line_after : (name : List ℕ) → ComesBefore next name → line_behind user (Some next) name ≡ file_line user name
  line_after name before = ap (λ b. cond b (file_line user name) []) (ap is_lt before)

  next_line : (es : Entries) → T (is_sorted name_cmp es) → IsOf es next → ((name : List ℕ) → IsOf es name → ComesBefore name next → line_behind user after name ≡ [])
      → flat_map (line_behind user after) (names_of es) ≡ file_line user next ++ flat_map (line_behind user (Some next)) (names_of es)
  next_line [] sorted there sooner = absurd (let no : false ≡ true = there in cc no)
  next_line (e ∷ es) sorted there sooner =
      let rises = left_true (below_all name_cmp e.0 es) (is_sorted name_cmp es) sorted in
      by (next_line es rises.1) (first_or_later next e es there) (compared next e.0)
    where
      below : T (below_all name_cmp e.0 es)
      below = subst T (sym (left_true (below_all name_cmp e.0 es) (is_sorted name_cmp es) sorted).0) tt

      at_head : next ≡ e.0 → flat_map (line_behind user after) (names_of (e ∷ es)) ≡ file_line user next ++ flat_map (line_behind user (Some next)) (names_of (e ∷ es))
      at_head same =
          let head : line_behind user after e.0 ≡ file_line user next = ap (line_behind user after) (sym same) ∙ own_line next behind in
          let none : line_behind user (Some next) e.0 ≡ [] = no_line e.0 (λ before. before_itself next (subst (ComesBefore next) (sym same) before)) in
          let rest : flat_map (line_behind user after) (names_of es) ≡ flat_map (line_behind user (Some next)) (names_of es) =
          same_lines (line_behind user after) (line_behind user (Some next)) es (λ name h.
          let before : ComesBefore next name = subst (λ x. ComesBefore x name) (sym same) (later_names e.0 name es below h) in
          own_line name (later name before) ∙ sym (line_after name before)) in
          λ i. head i ++ (rest ∙ sym (ap (λ line. line ++ flat_map (line_behind user (Some next)) (names_of es)) none)) i

      further : IsOf es next → ComesBefore e.0 next → flat_map (line_behind user after) (names_of es) ≡ file_line user next ++ flat_map (line_behind user (Some next)) (names_of es)
          → flat_map (line_behind user after) (names_of (e ∷ es)) ≡ file_line user next ++ flat_map (line_behind user (Some next)) (names_of (e ∷ es))
      further here before rest =
          let none : line_behind user (Some next) e.0 ≡ [] = no_line e.0 (λ back. before_back e.0 next before back) in
          ap (λ line. line ++ flat_map (line_behind user after) (names_of es)) (sooner e.0 (head_is e.0 e.1 es) before)
          ∙ rest
          ∙ ap (λ line. file_line user next ++ (line ++ flat_map (line_behind user (Some next)) (names_of es))) (sym none)

      by : (IsOf es next → ((name : List ℕ) → IsOf es name → ComesBefore name next → line_behind user after name ≡ [])
          → flat_map (line_behind user after) (names_of es) ≡ file_line user next ++ flat_map (line_behind user (Some next)) (names_of es))
          → (next ≡ e.0) ⊎ IsOf es next → ComesBefore next e.0 ⊎ ((next ≡ e.0) ⊎ ComesBefore e.0 next)
          → flat_map (line_behind user after) (names_of (e ∷ es)) ≡ file_line user next ++ flat_map (line_behind user (Some next)) (names_of (e ∷ es))
      by rest (inl same) order = at_head same
      by rest (inr here) (inl less) = absurd (before_back next e.0 less (later_names e.0 next es below here))
      by rest (inr here) (inr (inl same)) = at_head same
      by rest (inr here) (inr (inr more)) = further here more (rest here (λ name h. sooner name (tail_is name e es h)))

-- ---- files

module _ (tables : FileTables) (user : List ℕ) (after : Option FileNo) (there : IfSome after (λ f. IsThere tables f.0)) where
  abbrev dir : Files
  dir = tables.dir

  abbrev before_name : Option (List ℕ)
  before_name = name_before tables.dir after

  abbrev entries : Entries
  entries = map.entries (files_of tables)

  -- each name is that of a file
  number : (name : List ℕ) → IsOf entries name → (f : ℕ) × (map.get tables.dir f ≡ Some name)
  number name h = elim (cases_file tables.dir tables.sound.numbers name) [
    | inl is ↦ is
    | inr absent ↦ absurd (let no : false ≡ true = sym (ap is_some (sym (map.get-entries (files_of tables) name) ∙ by_name_none tables.dir tables.sound.numbers (file_at tables.lengths) name absent)) ∙ h in cc no)
  ]

  comes_behind : (name : List ℕ) (o : Option FileNo) → IfSome o (λ f. IsThere tables f.0) → is_behind (name_before tables.dir o) name ≡ true
      → IfSome o (λ a. IfSome (map.get tables.dir a.0) (λ before. ComesBefore before name))
  comes_behind name None is h = tt
  comes_behind name (Some a) is h = subst (λ o. IfSome o (λ before. ComesBefore before name)) (sym (named tables.dir a.0 is)) (before_is (name_of tables.dir a.0) name h)

  stands_behind : (name : List ℕ) (o : Option FileNo) → IfSome o (λ f. IsThere tables f.0) → IfSome o (λ a. IfSome (map.get tables.dir a.0) (λ before. ComesBefore before name))
      → is_behind (name_before tables.dir o) name ≡ true
  stands_behind name None is h = refl
  stands_behind name (Some a) is h = let before = subst (λ o. IfSome o (λ x. ComesBefore x name)) (named tables.dir a.0 is) h in ap is_lt before

  -- a file whose line is there comes after
  comes : (name : List ℕ) → IsOf entries name → is_behind before_name name ≡ true → starts_with nat_eq name (directory_prefix user) ≡ true
      → (f : ℕ) × (c : ComesAfter tables.dir user after f) × (c.name ≡ name)
  comes name h behind starts =
      let f = number name h in
      let front = (starts_is Decides-eqb name (directory_prefix user) (starts_with nat_eq name (directory_prefix user)) refl).0 starts in
      (f.0, record { name = name; stands = f.1; within = in_directory user name (drop (length (directory_prefix user)) name) front; behind = comes_behind name after there behind }, refl)

  -- else it has none
  no_line_of : (name : List ℕ) → (is_behind before_name name ≡ true → starts_with nat_eq name (directory_prefix user) ≡ true → ⊥) → line_behind user before_name name ≡ []
  no_line_of name none = by (is_behind before_name name) refl (starts_with nat_eq name (directory_prefix user)) refl
    where
      by : (b : Bool) → is_behind before_name name ≡ b → (s : Bool) → starts_with nat_eq name (directory_prefix user) ≡ s
          → cond b (cond s (with_line_end (32 ∷ drop (length (directory_prefix user)) name)) []) [] ≡ []
      by true behind true starts = absurd (none behind starts)
      by true behind false starts = refl
      by false behind s starts = refl

  pub lines_next : (result : Option FileNo) → MatchOption result ((f : ℕ) → ComesAfter tables.dir user after f → ⊥) (λ f. IsNext tables.dir user after f.0)
      → MatchOption result (lines_behind user (files_of tables) before_name ≡ [])
      (λ f. lines_behind user (files_of tables) before_name ≡ file_line user (name_of tables.dir f.0) ++ lines_behind user (files_of tables) (Some (name_of tables.dir f.0)))
  lines_next None none = no_lines (line_behind user before_name) entries (λ name h. no_line_of name (λ behind starts. let c = comes name h behind starts in none c.0 c.1))
  lines_next (Some f) next =
      let name = next.comes.name in
      let is : name_of tables.dir f.0 ≡ name = ap (λ o. unwrap_or o []) next.comes.stands in
      let behind = stands_behind name after there next.comes.behind in
      let here : IsOf entries name = ap is_some (sym (map.get-entries (files_of tables) name) ∙ by_name_at tables.dir tables.sound.numbers (file_at tables.lengths) f.0 name next.comes.stands) in
      let line = next_line user before_name name behind (λ other before. stands_behind other after there (further after next.comes.behind other before)) entries (map.entries_sorted (files_of tables)) here
      (λ other h before. no_line_of other (λ after_it starts. let c = comes other h after_it starts in next.first c.0 c.1 (subst (λ x. ComesBefore x name) (sym c.2) before))) in
      subst (λ x. lines_behind user (files_of tables) before_name ≡ file_line user x ++ lines_behind user (files_of tables) (Some x)) (sym is) line
    where
      further : (o : Option FileNo) → IfSome o (λ a. IfSome (map.get tables.dir a.0) (λ before. ComesBefore before next.comes.name)) → (other : List ℕ) → ComesBefore next.comes.name other
          → IfSome o (λ a. IfSome (map.get tables.dir a.0) (λ before. ComesBefore before other))
      further None h other before = tt
      further (Some a) h other before = by (map.get tables.dir a.0) h
        where
          by : (p : Option (List ℕ)) → IfSome p (λ x. ComesBefore x next.comes.name) → IfSome p (λ x. ComesBefore x other)
          by None k = tt
          by (Some x) k = before_both x next.comes.name other k before

  -- what it tells is in the directory, and has its line
  pub line_there : (result : Option FileNo) → MatchOption result ((f : ℕ) → ComesAfter tables.dir user after f → ⊥) (λ f. IsNext tables.dir user after f.0)
      → IfSome result (λ f. file_line user (name_of tables.dir f.0) ≡ line_of user (name_of tables.dir f.0))
  line_there None none = tt
  line_there (Some f) next =
      let name = next.comes.name in
      let is : name_of tables.dir f.0 ≡ name = ap (λ o. unwrap_or o []) next.comes.stands in
      let front : name ≡ directory_prefix user ++ next.comes.within.0 = next.comes.within.1 ∙ sym (opened user next.comes.within.0) in
      let starts = (starts_is Decides-eqb name (directory_prefix user) (starts_with nat_eq name (directory_prefix user)) refl).1 next.comes.within.0 front in
      subst (λ x. file_line user x ≡ line_of user x) (sym is) (ap (λ b. cond b (line_of user name) []) starts)
