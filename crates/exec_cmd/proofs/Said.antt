-- Which command a line is, by its words.
use Rattle.std.proofs.Common.{◌≡◌, ◌≢◌, ℕ, List, [], ◌∷◌, get_or, Bool, true, false, Option, Some, None, ◌⊎◌, inl, inr, refl, sym, ◌∙◌, ap, subst}
use Rattle.std.specs.Prelude.{codes, if◌then◌else◌}
use Rattle.std.specs.Str.{bytes_eq}
use lib.Pointwise.{bytes_decides}
use Rattle.machine_names.specs.FileNames.{file_named, raised}
use Rattle.plain_typing.specs.declared.command.Command.{Command}
use Rattle.plain_typing.specs.declared.command.Command.TheVariants.{Blank, Run, Start, Continue, Directory, Delete, Logout, Unknown}
use Rattle.plain_typing.specs.Commands.{alone, command_in, command_of, for_file, says, with_name}
use Rattle.exec_cmd.specs.Grammar.{Commands}
use Rattle.plain_typing.specs.Words.{words}

-- words that differ in a character
pub differ : (xs ys : List ℕ) (i : ℕ) → (get_or xs i 0 ≡ get_or ys i 0 → ⊥) → bytes_eq xs ys ≡ false
differ xs ys i ne = at (bytes_eq xs ys) refl
  where
    at : (b : Bool) → bytes_eq xs ys ≡ b → b ≡ false
    at true e = absurd (ne (ap (λ l. get_or l i 0) ((bytes_decides xs ys).0 e)))
    at false e = refl

if_both : {X : Type 0} (P : X → Type 0) (b : Bool) (x y : X) → (b ≡ true → P x) → (b ≡ false → P y) → P (if b then x else y)
if_both P true x y first second = first refl
if_both P false x y first second = second refl

module _ (user line : List ℕ) where
  says_verb : (word verb : List ℕ) → says word verb ≡ true → raised word ≡ verb
  says_verb word verb = (bytes_decides (raised word) verb).0

  alone_known : (word : List ℕ) → words line ≡ word ∷ [] → (alone word ≡ Unknown) ⊎ Commands user line (alone word)
  alone_known word is =
      if_both (λ c. (c ≡ Unknown) ⊎ Commands user line c) (says word (codes "START")) Start _ (λ e. inr (word, is, says_verb word (codes "START") e)) (λ _.
      if_both (λ c. (c ≡ Unknown) ⊎ Commands user line c) (says word (codes "CONTINUE")) Continue _ (λ e. inr (word, is, says_verb word (codes "CONTINUE") e)) (λ _.
      if_both (λ c. (c ≡ Unknown) ⊎ Commands user line c) (says word (codes "DIRECTORY")) Directory _ (λ e. inr (word, is, says_verb word (codes "DIRECTORY") e)) (λ _.
      if_both (λ c. (c ≡ Unknown) ⊎ Commands user line c) (says word (codes "LOGOUT")) Logout Unknown (λ e. inr (word, is, says_verb word (codes "LOGOUT") e)) (λ _. inl refl))))

  module _ (word text : List ℕ) (is : words line ≡ word ∷ text ∷ []) where
    run_known : raised word ≡ codes "RUN" → (o : Option (List ℕ)) → file_named user (codes "SAV") text ≡ o → (for_file Run o ≡ Unknown) ⊎ Commands user line (for_file Run o)
    run_known verb None e = inl refl
    run_known verb (Some name) e = inr (word, text, is, verb, e)

    delete_known : raised word ≡ codes "DELETE" → (o : Option (List ℕ)) → file_named user [] text ≡ o → (for_file Delete o ≡ Unknown) ⊎ Commands user line (for_file Delete o)
    delete_known verb None e = inl refl
    delete_known verb (Some name) e = inr (word, text, is, verb, e)

    named_known : (with_name user word text ≡ Unknown) ⊎ Commands user line (with_name user word text)
    named_known =
        if_both (λ c. (c ≡ Unknown) ⊎ Commands user line c) (says word (codes "RUN")) (for_file Run (file_named user (codes "SAV") text)) _
        (λ e. run_known (says_verb word (codes "RUN") e) (file_named user (codes "SAV") text) refl) (λ _.
        if_both (λ c. (c ≡ Unknown) ⊎ Commands user line c) (says word (codes "DELETE")) (for_file Delete (file_named user [] text)) Unknown
        (λ e. delete_known (says_verb word (codes "DELETE") e) (file_named user [] text) refl) (λ _. inl refl))

  words_known : (ws : List (List ℕ)) → words line ≡ ws → (command_in user ws ≡ Unknown) ⊎ Commands user line (command_in user ws)
  words_known [] is = inr is
  words_known (word ∷ []) is = alone_known word is
  words_known (word ∷ text ∷ []) is = named_known word text is
  words_known (word ∷ text ∷ more ∷ rest) is = inl refl

  pub known : (command_of user line ≡ Unknown) ⊎ Commands user line (command_of user line)
  known = words_known (words line) refl

  abbrev by_verb : List ℕ → Command
  by_verb verb = if bytes_eq verb (codes "START") then Start
      else (if bytes_eq verb (codes "CONTINUE") then Continue
      else (if bytes_eq verb (codes "DIRECTORY") then Directory
      else (if bytes_eq verb (codes "LOGOUT") then Logout else Unknown)))

  abbrev by_verb_for : List ℕ → List ℕ → Command
  by_verb_for text verb = if bytes_eq verb (codes "RUN") then for_file Run (file_named user (codes "SAV") text)
      else (if bytes_eq verb (codes "DELETE") then for_file Delete (file_named user [] text) else Unknown)

  pub said : (c : Command) → Commands user line c → command_of user line ≡ c
  said Blank h = ap (command_in user) h
  said Start h = ap (command_in user) h.1 ∙ ap by_verb h.2
  said Continue h = ap (command_in user) h.1 ∙ ap by_verb h.2
  said Directory h = ap (command_in user) h.1 ∙ ap by_verb h.2
  said Logout h = ap (command_in user) h.1 ∙ ap by_verb h.2
  said (Run name) h = ap (command_in user) h.2 ∙ (ap (by_verb_for h.1) h.3 ∙ ap (for_file Run) h.4)
  said (Delete name) h = ap (command_in user) h.2 ∙ (ap (by_verb_for h.1) h.3 ∙ ap (for_file Delete) h.4)
  said Unknown h = absurd h

  pub only_known : (c : Command) → c ≢ Unknown → command_of user line ≡ c → Commands user line c
  only_known c ne e = at known
    where
      at : (command_of user line ≡ Unknown) ⊎ Commands user line (command_of user line) → Commands user line c
      at (inl u) = absurd (ne (sym e ∙ u))
      at (inr h) = subst (Commands user line) e h

  pub unknown_none : command_of user line ≡ Unknown → (c : Command) → Commands user line c → ⊥
  unknown_none e c h = subst (Commands user line) (sym (said c h) ∙ e) h

  pub none_unknown : ((c : Command) → Commands user line c → ⊥) → command_of user line ≡ Unknown
  none_unknown none = at known
    where
      at : (command_of user line ≡ Unknown) ⊎ Commands user line (command_of user line) → command_of user line ≡ Unknown
      at (inl u) = u
      at (inr h) = absurd (none (command_of user line) h)
