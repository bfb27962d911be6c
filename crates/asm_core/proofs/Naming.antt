-- The names in code are the lists of names.
use Rattle.std.proofs.Common.{◌≡◌, ◌≢◌, ℕ, ◌+◌, List, [], ◌∷◌, ◌++◌, Bool, true, false, Option, None, Some, refl, sym, ◌∙◌, ap}
use Rattle.std.specs.Prelude.{codes, if◌then◌else◌, ◌&&◌}
use Rattle.std.specs.Str.{bytes_eq}
use Rattle.std.proofs.lemmas.Bool.{eq-eqb}
use Rattle.std.proofs.lemmas.Slice.Eq.{bytes_eq-Decides}
use Rattle.asm_core.specs.declared.names.TheConstants.{CALL_NUMBERS}
use Rattle.asm_core.specs.Cutting.{cut, pieces}
use Rattle.asm_core.proofs.Cuts.{cut_pieces, uncut_pieces}
use Rattle.asm_core.specs.Names.{Group, calls, in_groups, meaning, of_group, of_stem, of_stems, or_else}

-- names with numbers beside them
abbrev pub numbered : List (List ℕ) → List ℕ → List (List ℕ × ℕ)
numbered [] ns = []
numbered (x ∷ xs) [] = []
numbered (x ∷ xs) (n ∷ ns) = (x, n) ∷ numbered xs ns

pub calls_numbered : numbered (pieces 32 (codes "GETER TIME RUNTM GTJFN OPENF CLOSF RLJFN DELF SFPTR SIZEF RFPTR BIN BOUT SIN SOUT PMAP RPACS SPACS RMAP PBIN PBOUT PSOUT SIR EIR DIR AIC IIC DIC DEBRK ATI DTI CFORK KFORK FFORK RFORK RFSTS SFORK SFACS RFACS HFORK WFORK DISMS HALTF ")) CALL_NUMBERS ≡ calls
unfolding calls pieces
calls_numbered = refl

-- a stem in front of both changes nothing
same_stem : (stem xs ys : List ℕ) → bytes_eq (stem ++ xs) (stem ++ ys) ≡ bytes_eq xs ys
same_stem [] xs ys = refl
same_stem (c ∷ cs) xs ys = ap (λ b. b && bytes_eq (cs ++ xs) (cs ++ ys)) (eq-eqb c c refl) ∙ same_stem cs xs ys

-- the first name of a stem
pub stem_first : (step : ℕ) (stem : List ℕ) (op : ℕ) (name : List ℕ) (names : List (List ℕ)) (word ending : List ℕ) → word ≡ stem ++ ending
    → meaning (of_stem step stem op (name ∷ names)) word ≡ (if bytes_eq name ending then Some op else meaning (of_stem step stem (op + step) names) word)
stem_first step stem op name names word ending e =
    ap (λ b. if b then Some op else meaning (of_stem step stem (op + step) names) word) (ap (bytes_eq (stem ++ name)) e ∙ same_stem stem name ending)

unlike : (b : Bool) (op : ℕ) (other : Option ℕ) → (b ≡ true → ⊥) → (if b then Some op else other) ≡ other
unlike true op other h = absurd (h refl)
unlike false op other h = refl

-- a word without this stem is none of its names
pub stem_other : (step : ℕ) (stem : List ℕ) (op : ℕ) (names : List (List ℕ)) (word : List ℕ) → ((rest : List ℕ) → word ≢ stem ++ rest) → meaning (of_stem step stem op names) word ≡ None
stem_other step stem op [] word h = refl
stem_other step stem op (name ∷ names) word h =
    unlike (bytes_eq (stem ++ name) word) op (meaning (of_stem step stem (op + step) names) word) (λ e. h name (sym ((bytes_eq-Decides (stem ++ name) word).0 e)))
    ∙ stem_other step stem (op + step) names word h

meaning_by : (b : Bool) (n : ℕ) (rest other : Option ℕ) → (if b then Some n else or_else rest other) ≡ or_else (if b then Some n else rest) other
meaning_by true n rest other = refl
meaning_by false n rest other = refl

-- what a word means by two lists of names
pub meaning_append : (ps qs : List (List ℕ × ℕ)) (word : List ℕ) → meaning (ps ++ qs) word ≡ or_else (meaning ps word) (meaning qs word)
meaning_append [] qs word = refl
meaning_append (p ∷ ps) qs word =
    ap (λ o. if bytes_eq p.0 word then Some p.1 else o) (meaning_append ps qs word) ∙ meaning_by (bytes_eq p.0 word) p.1 (meaning ps word) (meaning qs word)

-- the names of one stem that stand in a text, when the text is cut
module _ (step : ℕ) (stem : List ℕ) (op : ℕ) (left word ending : List ℕ) (whole : word ≡ stem ++ ending) where
  pub stem_cut : (name others : List ℕ) → cut 32 left ≡ Some (name, others)
      → meaning (of_stem step stem op (pieces 32 left)) word ≡ (if bytes_eq name ending then Some op else meaning (of_stem step stem (op + step) (pieces 32 others)) word)
  stem_cut name others e =
      ap (λ ns. meaning (of_stem step stem op ns) word) (cut_pieces 32 left name others e) ∙ stem_first step stem op name (pieces 32 others) word ending whole

  pub stem_uncut : cut 32 left ≡ None → meaning (of_stem step stem op (pieces 32 left)) word ≡ None
  stem_uncut e = ap (λ ns. meaning (of_stem step stem op ns) word) (uncut_pieces 32 left e)

-- the names of the stems that stand in a text, when the text is cut
module _ (ending_step : ℕ) (endings : List (List ℕ)) (stem_step op : ℕ) (left word : List ℕ) where
  pub stems_cut : (stem others : List ℕ) → cut 32 left ≡ Some (stem, others)
      → meaning (of_stems ending_step endings stem_step op (pieces 32 left)) word
      ≡ or_else (meaning (of_stem ending_step stem op endings) word) (meaning (of_stems ending_step endings stem_step (op + stem_step) (pieces 32 others)) word)
  stems_cut stem others e =
      ap (λ ns. meaning (of_stems ending_step endings stem_step op ns) word) (cut_pieces 32 left stem others e)
      ∙ meaning_append (of_stem ending_step stem op endings) (of_stems ending_step endings stem_step (op + stem_step) (pieces 32 others)) word

  pub stems_uncut : cut 32 left ≡ None → meaning (of_stems ending_step endings stem_step op (pieces 32 left)) word ≡ None
  stems_uncut e = ap (λ ns. meaning (of_stems ending_step endings stem_step op ns) word) (uncut_pieces 32 left e)

-- numbered names that stand in a text, when the text is cut
module _ (left word : List ℕ) where
  pub numbered_cut : (name others : List ℕ) (n : ℕ) (ns : List ℕ) → cut 32 left ≡ Some (name, others)
      → meaning (numbered (pieces 32 left) (n ∷ ns)) word ≡ (if bytes_eq name word then Some n else meaning (numbered (pieces 32 others) ns) word)
  numbered_cut name others n ns e = ap (λ xs. meaning (numbered xs (n ∷ ns)) word) (cut_pieces 32 left name others e)

  pub numbered_uncut : (ns : List ℕ) → cut 32 left ≡ None → meaning (numbered (pieces 32 left) ns) word ≡ None
  numbered_uncut ns e = ap (λ xs. meaning (numbered xs ns) word) (uncut_pieces 32 left e)

  pub numbered_none : (xs : List (List ℕ)) → meaning (numbered xs []) word ≡ None
  numbered_none [] = refl
  numbered_none (x ∷ xs) = refl

-- what a word means by some groups, when the first has it not, and when it has
module _ (g : Group) (gs : List Group) (word : List ℕ) where
  pub group_passed : None ≡ meaning (of_group g) word → in_groups (g ∷ gs) word ≡ in_groups gs word
  group_passed e = ap (λ (o : Option ℕ). or_else o (in_groups gs word)) (sym e)

  pub group_has : (op : ℕ) → Some op ≡ meaning (of_group g) word → in_groups (g ∷ gs) word ≡ Some op
  group_has op e = ap (λ (o : Option ℕ). or_else o (in_groups gs word)) (sym e)

pub last_group : (g : Group) (word : List ℕ) (o : Option ℕ) → o ≡ meaning (of_group g) word → o ≡ in_groups (g ∷ []) word
last_group g word o e = e ∙ sym (only (meaning (of_group g) word))
  where
    only : (o : Option ℕ) → or_else o None ≡ o
    only None = refl
    only (Some n) = refl
