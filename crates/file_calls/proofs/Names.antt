-- What a text names is of characters.
use Rattle.std.proofs.Common.{◌≡◌, ℕ, ◌<◌, Bool, true, false, cond, List, [], ◌∷◌, ◌++◌, get_or, Some, None, refl, sym, subst, arith, rules}
use Rattle.std.specs.List.{All}
use Rattle.std.specs.Char.{to_ascii_uppercase}
use Rattle.std.proofs.lemmas.List.{length-map}
use Rattle.std.proofs.lemmas.List.Elements.{All-append, All-cons, All-from_get_or, All-get_or, All-head, All-nil, All-tail, All-weaker}
use Rattle.std.proofs.Math.ListN.{get_or-map}
use Rattle.machine_names.specs.Bounds.{IsFileName, IsNameCode}
use Rattle.machine_names.specs.FileNames.{directory_before, extension_behind, file_named, full_name, is_file_name, raised}
use Rattle.plain_model.proofs.FileNames.{named_is}

abbrev pub IsCharacter : ℕ → Type 0
IsCharacter c = c < 256

code_is : (c : ℕ) → IsNameCode c → IsCharacter c
code_is c h = grind (arith, rules)

raised_from : (c : ℕ) → IsCharacter (to_ascii_uppercase c) → IsCharacter c
raised_from c h = grind (arith, rules)

pub name_characters : (name : List ℕ) → IsFileName name → All IsCharacter name
name_characters name n = subst (All IsCharacter) (sym n.spelled) (All-cons IsCharacter 60 _ (omega arith) (All-append IsCharacter n.dir _ (All-weaker IsNameCode IsCharacter code_is n.dir n.dir_fits.2)
    (All-cons IsCharacter 62 _ (omega arith) (All-append IsCharacter n.stem _ (All-weaker IsNameCode IsCharacter code_is n.stem n.stem_fits) (All-cons IsCharacter 46 n.extension (omega arith) (All-weaker IsNameCode IsCharacter code_is n.extension n.extension_fits))))))

-- the parts of a text
behind : (xs ys : List ℕ) → All IsCharacter (xs ++ ys) → All IsCharacter ys
behind [] ys h = h
behind (x ∷ xs) ys h = behind xs ys (All-tail IsCharacter x (xs ++ ys) h)

before : (xs ys : List ℕ) → All IsCharacter (xs ++ ys) → All IsCharacter xs
before [] ys h = All-nil IsCharacter
before (x ∷ xs) ys h = All-cons IsCharacter x xs (All-head IsCharacter x (xs ++ ys) h) (before xs ys (All-tail IsCharacter x (xs ++ ys) h))

raised_characters : (text : List ℕ) → All IsCharacter (raised text) → All IsCharacter text
raised_characters text h = All-from_get_or IsCharacter text 0 (λ i less.
    raised_from (get_or text i 0) (subst IsCharacter (get_or-map to_ascii_uppercase text i 0) (All-get_or IsCharacter (raised text) i 0 (omega (arith, less, length-map text to_ascii_uppercase)) h)))

full_characters : (user extension text : List ℕ) → IsFileName (full_name user extension text) → All IsCharacter text
unfolding full_name
full_characters user extension text n =
    let whole = name_characters (full_name user extension text) n in
    raised_characters text (before (raised text) (extension_behind extension text) (behind (directory_before user text) (raised text ++ extension_behind extension text) whole))

-- a text with another code names nothing
pub no_characters : (user extension text : List ℕ) → (All IsCharacter text → ⊥) → None ≡ file_named user extension text
unfolding file_named
no_characters user extension text none = by (is_file_name (full_name user extension text)) refl
  where
    by : (b : Bool) → is_file_name (full_name user extension text) ≡ b → None ≡ cond b (Some (full_name user extension text)) None
    by true is = absurd (none (full_characters user extension text (named_is (full_name user extension text) is)))
    by false is = refl
