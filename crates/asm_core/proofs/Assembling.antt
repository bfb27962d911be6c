-- What a program gives, as far as its lines were gone over.
use Rattle.std.proofs.Common.{◌≡◌, ℕ, ◌+◌, List, [], ◌∷◌, ◌++◌, length, Bool, true, false, Option, None, Some, Result, Ok, Err, refl, sym, ◌∙◌, ap, append_assoc}
use Rattle.std.specs.Prelude.{if◌then◌else◌, ◌==◌}
use Rattle.std.specs.Option.{is_some}
use Rattle.std.proofs.lemmas.List.{append-nil}
use Rattle.asm_core.specs.declared.line.Line.{Line}
use Rattle.asm_core.specs.declared.line.AsmFault.{AsmFault}
use Rattle.asm_core.specs.declared.line.AsmFault.TheVariants.{Line as BadLine, Overrun, Doubled, Undefined}
use Rattle.asm_core.specs.Cutting.{cut, pieces, remainder}
use Rattle.asm_core.specs.Grammar.{line_of}
use Rattle.asm_core.specs.Places.{assembled, assembled_by, checked, first_undefined, if_defined, lines_of, location, new_label, next_line, onward, outcome, overruns, placed_from, read_behind, resolved, used, uses, value_in, words_by}
use Rattle.asm_core.proofs.Reading.{opened, read_end}
use Rattle.asm_core.proofs.Wording.{undefined_first, undefined_second}

pub same_function : {A B : Type 0} {f g : A → B} → ((x : A) → f x ≡ g x) → f ≡ g
same_function h = λ i x. h x i

module _ (symbols : List ℕ → Option ℕ) where
  -- the words of two parts of a program
  pub assembled_append : (before xs ys : List Line) → assembled_by symbols before (xs ++ ys) ≡ assembled_by symbols before xs ++ assembled_by symbols (before ++ xs) ys
  unfolding assembled_by
  assembled_append before [] ys = ap (λ b. assembled_by symbols b ys) (sym (append-nil before))
  assembled_append before (x ∷ xs) ys =
      let here = placed_from (location before) (words_by symbols x.statement) in
      ap (λ l. here ++ l) (assembled_append (before ++ x ∷ []) xs ys)
      ∙ (sym (append_assoc here (assembled_by symbols (before ++ x ∷ []) xs) (assembled_by symbols ((before ++ x ∷ []) ++ xs) ys))
      ∙ ap (λ b. (here ++ assembled_by symbols (before ++ x ∷ []) xs) ++ assembled_by symbols b ys) (append_assoc before (x ∷ []) xs))

  pub assembled_more : (before : List Line) (x : Line) → assembled_by symbols [] (before ++ x ∷ []) ≡ assembled_by symbols [] before ++ placed_from (location before) (words_by symbols x.statement)
  unfolding assembled_by
  assembled_more before x =
      assembled_append [] before (x ∷ []) ∙ ap (λ l. assembled_by symbols [] before ++ l) (append-nil (placed_from (location before) (words_by symbols x.statement)))

  pub assembled_none : assembled_by symbols [] [] ≡ []
  unfolding assembled_by
  assembled_none = refl

  pub uses_append : (xs ys : List Line) → uses (xs ++ ys) ≡ uses xs ++ uses ys
  unfolding uses
  uses_append [] ys = refl
  uses_append (x ∷ xs) ys = ap (λ l. used x.statement ++ l) (uses_append xs ys) ∙ sym (append_assoc (used x.statement) (uses xs) (uses ys))

  uses_one : (x : Line) → uses (x ∷ []) ≡ used x.statement
  unfolding uses
  uses_one x = append-nil (used x.statement)

  uses_more : (before : List Line) (x : Line) → uses (before ++ x ∷ []) ≡ uses before ++ used x.statement
  uses_more before x = uses_append before (x ∷ []) ∙ ap (λ l. uses before ++ l) (uses_one x)

  pub none_used : first_undefined symbols (uses []) ≡ None
  unfolding uses first_undefined
  none_used = refl

  pub defined_more : (before : List Line) (x : Line) → first_undefined symbols (uses before) ≡ None → first_undefined symbols (used x.statement) ≡ None → first_undefined symbols (uses (before ++ x ∷ [])) ≡ None
  defined_more before x h here = ap (first_undefined symbols) (uses_more before x) ∙ (undefined_second symbols (uses before) (used x.statement) h ∙ here)

  pub undefined_here : (before more : List Line) (x : Line) (s : List ℕ) → first_undefined symbols (uses before) ≡ None → first_undefined symbols (used x.statement) ≡ Some s
      → first_undefined symbols (uses ((before ++ x ∷ []) ++ more)) ≡ Some s
  undefined_here before more x s h here =
      let first = ap (first_undefined symbols) (uses_more before x) ∙ (undefined_second symbols (uses before) (used x.statement) h ∙ here) in
      ap (first_undefined symbols) (uses_append (before ++ x ∷ []) more) ∙ undefined_first symbols (uses (before ++ x ∷ [])) (uses more) s first

-- what is known of a program that has no fault in its lines
went : (o : Result Line AsmFault) (rest : Line → Result (List Line) AsmFault) (lines : List Line) → onward o rest ≡ Ok lines → (x : Line) × (o ≡ Ok x) × (rest x ≡ Ok lines)
went (Err fault) rest lines e = absurd (cc e)
went (Ok x) rest lines e = (x, refl, e)

ended : (b : Bool) (before : List Line) (fault : AsmFault) (lines : List Line) → (if b then Ok before else Err fault) ≡ Ok lines → before ≡ lines
ended true before fault lines e = cc e
ended false before fault lines e = absurd (cc e)

pub read_more : (texts : List (List ℕ)) (rest : List ℕ) (before lines : List Line) → read_behind before texts rest ≡ Ok lines → (more : List Line) × (lines ≡ before ++ more)
unfolding read_behind
read_more [] rest before lines e = ([], sym (ended (length rest == 0) before (BadLine (length before + 1)) lines e) ∙ sym (append-nil before))
read_more (text ∷ texts) rest before lines e =
    let on = went (next_line before text) (λ x. read_behind (before ++ x ∷ []) texts rest) lines e in
    let further = read_more texts rest (before ++ on.0 ∷ []) lines on.2 in
    (on.0 ∷ further.0, further.1 ∙ append_assoc before (on.0 ∷ []) further.0)

module _ (before lines : List Line) (left : List ℕ) (read : read_behind before (pieces 10 left) (remainder 10 left) ≡ Ok lines) where
  -- at the end the lines are all
  pub read_all : cut 10 left ≡ None → before ≡ lines
  read_all e = ended (length left == 0) before (BadLine (length before + 1)) lines (sym (read_end before left e) ∙ read)

  module _ (text others : List ℕ) (parted : cut 10 left ≡ Some (text, others)) where
    on : (x : Line) × (next_line before text ≡ Ok x) × (read_behind (before ++ x ∷ []) (pieces 10 others) (remainder 10 others) ≡ Ok lines)
    on = went (next_line before text) (λ x. read_behind (before ++ x ∷ []) (pieces 10 others) (remainder 10 others)) lines (sym (opened before left text others parted) ∙ read)

    pub no_line : None ≡ line_of text → ⊥
    unfolding next_line
    no_line e = let bad : Err (BadLine (length before + 1)) ≡ Ok on.0 = ap (checked before) e ∙ on.1 in cc bad

    module _ (x : Line) (is : Some x ≡ line_of text) where
      kept_label : (label : Option (List ℕ)) (y : Line) → new_label before x label ≡ Ok y → x ≡ y
      kept_label None y e = cc e
      kept_label (Some s) y e = by (is_some (value_in before s)) e
        where
          by : (b : Bool) → (if b then Err (Doubled s) else Ok x) ≡ Ok y → x ≡ y
          by true e = absurd (cc e)
          by false e = cc e

      fits : (b : Bool) (y : Line) → (if b then Err (Overrun (length before + 1)) else new_label before x x.label) ≡ Ok y → (b ≡ false) × (x ≡ y)
      fits true y e = absurd (cc e)
      fits false y e = (refl, kept_label x.label y e)

      known : (overruns (location before) x ≡ false) × (x ≡ on.0)
      unfolding next_line
      known = fits (overruns (location before) x) on.0 (ap (checked before) is ∙ on.1)

      -- the line that was read is the next one
      pub line_fits : (l : ℕ) → l ≡ location before → false ≡ overruns l x
      line_fits l e = sym (ap (λ k. overruns k x) e ∙ known.0)

      pub line_read : read_behind (before ++ x ∷ []) (pieces 10 others) (remainder 10 others) ≡ Ok lines
      line_read = ap (λ y. read_behind (before ++ y ∷ []) (pieces 10 others) (remainder 10 others)) known.1 ∙ on.2

      pub line_more : (more : List Line) × (lines ≡ (before ++ x ∷ []) ++ more)
      line_more = read_more (pieces 10 others) (remainder 10 others) (before ++ x ∷ []) lines line_read

-- what a text gives
pub outcome_fault : (text : List ℕ) (fault : AsmFault) → lines_of text ≡ Err fault → outcome text ≡ Err fault
unfolding outcome
outcome_fault text fault e = ap resolved e

module _ (text : List ℕ) (lines : List Line) (read : lines_of text ≡ Ok lines) (symbols : List ℕ → Option ℕ) (same : (s : List ℕ) → symbols s ≡ value_in lines s) where
  pub outcome_done : first_undefined symbols (uses lines) ≡ None → outcome text ≡ Ok (assembled_by symbols [] lines)
  unfolding outcome assembled
  outcome_done e =
      let defined = ap (λ (f : List ℕ → Option ℕ). first_undefined f (uses lines)) (sym (same_function same)) ∙ e in
      ap resolved read ∙ (ap (if_defined lines) defined ∙ ap (λ (f : List ℕ → Option ℕ). Ok (assembled_by f [] lines)) (sym (same_function same)))

  pub outcome_undefined : (s : List ℕ) → first_undefined symbols (uses lines) ≡ Some s → outcome text ≡ Err (Undefined s)
  unfolding outcome
  outcome_undefined s e = ap resolved read ∙ ap (if_defined lines) (ap (λ (f : List ℕ → Option ℕ). first_undefined f (uses lines)) (sym (same_function same)) ∙ e)
