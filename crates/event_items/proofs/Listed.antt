-- The lines of the files of a directory, one after another.
use Rattle.std.proofs.Common.{◌≡◌, ℕ, ◌<◌, List, ◌++◌, drop, All, sym, ◌∙◌, ap, subst, arith, append_assoc}
use Rattle.std.proofs.lemmas.Bool.Decides.{nat_tests}
use Rattle.std.proofs.lemmas.List.Elements.{All-append, All-cons, All-drop, All-weaker}
use Rattle.machine_names.specs.Bounds.{IsFileName, IsNameCode}

abbrev IsLow : ℕ → Type 0
IsLow c = c < 128

low : (c : ℕ) → IsNameCode c → IsLow c
low c h = grind (arith, nat_tests, h)

-- the characters of a file's name, and of its end
name_low : (name : List ℕ) → IsFileName name → All IsLow name
name_low name n = subst (All IsLow) (sym n.spelled) (All-cons IsLow 60 _ (omega arith) (All-append IsLow n.dir _ (All-weaker IsNameCode IsLow low n.dir n.dir_fits.2)
    (All-cons IsLow 62 _ (omega arith) (All-append IsLow n.stem _ (All-weaker IsNameCode IsLow low n.stem n.stem_fits) (All-cons IsLow 46 n.extension (omega arith) (All-weaker IsNameCode IsLow low n.extension n.extension_fits))))))

pub part_low : (name : List ℕ) (n : ℕ) → IsFileName name → All IsLow (drop n name)
part_low name n is = All-drop IsLow n name (name_low name is)

-- the lines up to a file's, that line, and those behind it
module _ (all shown behind line rest named : List ℕ) (so_far : all ≡ shown ++ behind) (next : behind ≡ named ++ rest) (is : named ≡ line) where
  pub line_split : all ≡ shown ++ (line ++ rest)
  line_split = so_far ∙ ap (λ l. shown ++ l) (next ∙ ap (λ l. l ++ rest) is)

  pub line_more : all ≡ (shown ++ line) ++ rest
  line_more = line_split ∙ sym (append_assoc shown line rest)
