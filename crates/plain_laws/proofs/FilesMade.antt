-- What a FILE comes to.
use Rattle.std.proofs.Common.{◌≡◌, ◌<◌, ◌≤◌, ℕ, true, false, cond, List, [], Option, None, Some, refl, sym, ◌∙◌, ap, subst, arith}
use Rattle.std.specs.Prelude.{is_some, nat_lt}
use Rattle.std.specs.Cmp.Lexicographic.{nat_list_cmp_total}
use Rattle.std.specs.FinMap as map
use Rattle.std.proofs.lemmas.Bool.Decides.{nat_tests}
use Rattle.machine_names.specs.declared.names.PageName.{PageName}
use Rattle.machine_names.proofs.Keys.{get_put, get_put_other}
use Rattle.machine_names.proofs.OrderLemmas.{name_cmp_apart}
use Rattle.machine_names.specs.declared.names.TheConstants.{MOST_FILES}
use Rattle.plain_files.specs.Sizes.{new_file}
use Rattle.script_texts.specs.declared.event.Refusal.TheVariants.{Exists, FilesFull}
use Rattle.plain_model.specs.State.{PlainState}
use Rattle.plain_model.specs.Unit.{Effect, refused}
use Rattle.plain_model.specs.FileEvents.{make_file}
use Rattle.plain_laws.specs.Whole.{IsWholeMachine}
use Rattle.plain_laws.specs.FileLaws.{IsNewFile, ChangesFile}
use Rattle.plain_laws.proofs.RowsPut.{file_page}

module _ (s : PlainState) (name : List ℕ) where
  -- the state with the file
  abbrev with_it : Effect
  with_it = record { state = record s { files = map.insert s.files name new_file }; items = [] }

  abbrev where_absent : Effect
  where_absent = cond (nat_lt (map.len s.files) MOST_FILES) with_it (refused s (FilesFull name))

  pub name_taken : map.contains_key s.files name ≡ true → make_file s name ≡ refused s (Exists name)
  name_taken there = ap (λ b. cond b (refused s (Exists name)) where_absent) there

  module _ (absent : map.contains_key s.files name ≡ false) where
    pub files_full : MOST_FILES ≤ map.len s.files → make_file s name ≡ refused s (FilesFull name)
    files_full most = ap (λ b. cond b (refused s (Exists name)) where_absent) absent ∙ ap (λ b. cond b with_it (refused s (FilesFull name))) full
      where
        full : nat_lt (map.len s.files) MOST_FILES ≡ false
        full = grind (arith, nat_tests)

    pub file_made : IsWholeMachine s → map.len s.files < MOST_FILES → ((make_file s name).items ≡ []) × IsNewFile (make_file s name).state name × ChangesFile s (make_file s name).state name
    file_made w few = subst (λ (e : Effect). (e.items ≡ []) × IsNewFile e.state name × ChangesFile s e.state name) (sym (ap (λ b. cond b (refused s (Exists name)) where_absent) absent ∙ ap (λ b. cond b with_it (refused s (FilesFull name))) room)) (refl, new, rest)
      where
        room : nat_lt (map.len s.files) MOST_FILES ≡ true
        room = grind (arith, nat_tests)

        -- a file that is not there has no page
        bare : (page : ℕ) (o : Option PageName) → map.get s.pages.files (record { file = name; page = page }) ≡ o → o ≡ None
        bare page None is = refl
        bare page (Some n) is = absurd (let no : true ≡ false = sym (w.files.placed (record { file = name; page = page }) (ap is_some is)).0 ∙ absent in cc no)

        new : IsNewFile with_it.state name
        new = record {
          file = new_file;
          there = get_put nat_list_cmp_total name_cmp_apart s.files name name new_file refl;
          empty = refl;
          bare = λ page. file_page s.pages (record { file = name; page = page }) ∙ bare page (map.get s.pages.files (record { file = name; page = page })) refl;
        }

        rest : ChangesFile s with_it.state name
        rest = record { others = λ other apart. get_put_other nat_list_cmp_total name_cmp_apart s.files name other new_file apart; rest = refl }
