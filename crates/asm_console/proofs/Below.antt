-- Each word of a program stands at an address of a space.
use Rattle.std.proofs.Common.{◌≡◌, ℕ, ◌+◌, ◌/◌, ◌^◌, ◌<◌, ◌≤◌, List, [], ◌∷◌, ◌++◌, length, Bool, true, false, All, Option, None, Some, Result, Ok, Err, refl, sym, ◌∙◌, ap, subst, arith, append_assoc}
use Rattle.std.specs.Prelude.{if◌then◌else◌, ◌==◌, ◌&&◌, ◌||◌, nat_le, nat_lt}
use Rattle.std.proofs.lemmas.Bool.Decides.{nat_tests}
use Rattle.std.specs.Option.{is_some}
use Rattle.std.proofs.lemmas.List.{append-nil}
use Rattle.std.proofs.lemmas.List.Elements.{All-nil, All-cons, All-append, All-same}
use Rattle.asm_core.specs.declared.line.Statement.{Statement}
use Rattle.asm_core.specs.declared.line.Statement.TheVariants.{Nothing, Loc, Number, Halves, Asciz}
use Rattle.asm_core.specs.declared.line.Line.{Line}
use Rattle.asm_core.specs.declared.line.Placed.{Placed}
use Rattle.asm_core.specs.declared.line.AsmFault.{AsmFault}
use Rattle.asm_core.specs.declared.line.AsmFault.TheVariants.{Line as BadLine, Overrun, Doubled}
use Rattle.asm_core.specs.Cutting.{pieces, remainder}
use Rattle.asm_core.specs.Grammar.{line_of}
use Rattle.asm_core.specs.Places.{assembled, assembled_by, checked, first_undefined, if_defined, lines_of, location, new_label, next_line, onward, outcome, overruns, placed_from, read_behind, resolved, size_of, uses, value_in, words_by}
use Rattle.asm_core.proofs.Packing.{length_packed}

-- a word at an address of a space
abbrev pub IsBelow : Placed → Type 0
IsBelow p = p.address < 2 ^ 18

-- the lines behind these overrun nothing
abbrev FitBehind : List Line → List Line → Type 0
FitBehind before [] = Unit {0}
FitBehind before (x ∷ xs) = (overruns (location before) x ≡ false) × FitBehind (before ++ x ∷ []) xs

-- a line that was read behind others overruns nothing
labelled_fits : (before : List Line) (x y : Line) (label : Option (List ℕ)) → new_label before x label ≡ Ok y → x ≡ y
labelled_fits before x y None e = cc e
labelled_fits before x y (Some s) e = by (is_some (value_in before s)) e
  where
    by : (b : Bool) → (if b then Err (Doubled s) else Ok x) ≡ Ok y → x ≡ y
    by true e = absurd (cc e)
    by false e = cc e

checked_fits : (before : List Line) (x y : Line) (b : Bool) → (if b then Err (Overrun (length before + 1)) else new_label before x x.label) ≡ Ok y → (b ≡ false) × (x ≡ y)
checked_fits before x y true e = absurd (cc e)
checked_fits before x y false e = (refl, labelled_fits before x y x.label e)

line_fits : (before : List Line) (read : Option Line) (y : Line) → checked before read ≡ Ok y → overruns (location before) y ≡ false
line_fits before None y e = absurd (cc e)
line_fits before (Some x) y e =
    let fits = checked_fits before x y (overruns (location before) x) e in
    ap (overruns (location before)) (sym fits.1) ∙ fits.0

next_fits : (before : List Line) (text : List ℕ) (y : Line) → next_line before text ≡ Ok y → overruns (location before) y ≡ false
unfolding next_line
next_fits before text y e = line_fits before (line_of text) y e

went : (o : Result Line AsmFault) (rest : Line → Result (List Line) AsmFault) (lines : List Line) → onward o rest ≡ Ok lines → (x : Line) × (o ≡ Ok x) × (rest x ≡ Ok lines)
went (Err fault) rest lines e = absurd (cc e)
went (Ok x) rest lines e = (x, refl, e)

ended : (b : Bool) (before : List Line) (fault : AsmFault) (lines : List Line) → (if b then Ok before else Err fault) ≡ Ok lines → before ≡ lines
ended true before fault lines e = cc e
ended false before fault lines e = absurd (cc e)

-- the lines of a text overrun nothing
lines_fit : (texts : List (List ℕ)) (rest : List ℕ) (before lines : List Line) → read_behind before texts rest ≡ Ok lines → (more : List Line) × (lines ≡ before ++ more) × FitBehind before more
unfolding read_behind
lines_fit [] rest before lines e = ([], sym (ended (length rest == 0) before (BadLine (length before + 1)) lines e) ∙ sym (append-nil before), tt)
lines_fit (text ∷ texts) rest before lines e =
    let on = went (next_line before text) (λ x. read_behind (before ++ x ∷ []) texts rest) lines e in
    let further = lines_fit texts rest (before ++ on.0 ∷ []) lines on.2 in
    (on.0 ∷ further.0, further.1 ∙ append_assoc before (on.0 ∷ []) further.0, (next_fits before text on.0 on.1, further.2))

-- a statement has as many words as its size tells
length_words : (symbols : List ℕ → Option ℕ) (s : Statement) → length (words_by symbols s) ≡ size_of s
length_words symbols Nothing = refl
length_words symbols (Loc n) = refl
length_words symbols (Number w) = refl
length_words symbols (Halves l r) = refl
length_words symbols (Asciz text) = length_packed (length text / 5 + 1) text

placed_below : (a : ℕ) (ws : List ℕ) → a + length ws ≤ 2 ^ 18 → All IsBelow (placed_from a ws)
unfolding placed_from
placed_below a [] h = All-nil IsBelow
placed_below a (w ∷ ws) h = All-cons IsBelow _ _ (omega (arith, h)) (placed_below (a + 1) ws (omega (arith, h)))

over_not : (a b : Bool) → (a || b) ≡ false → b ≡ false
over_not true b h = absurd (cc h)
over_not false b h = h

fits_size : (l size : ℕ) → 1 ≤ size → (nat_le 1 size && nat_lt (2 ^ 18) (l + size)) ≡ false → l + size ≤ 2 ^ 18
fits_size l size some h = grind (arith, nat_tests)

some_fit : (l : ℕ) (x : Line) → 1 ≤ size_of x.statement → overruns l x ≡ false → l + size_of x.statement ≤ 2 ^ 18
unfolding overruns
some_fit l x some h = fits_size l (size_of x.statement) some (over_not _ _ h)

none_below : (a : ℕ) → All IsBelow (placed_from a [])
unfolding placed_from
none_below a = All-nil IsBelow

-- the words of a line that overruns nothing
words_fit : (l : ℕ) (x : Line) (ws : List ℕ) → length ws ≡ size_of x.statement → overruns l x ≡ false → All IsBelow (placed_from l ws)
words_fit l x [] long h = none_below l
words_fit l x (w ∷ ws) long h = placed_below l (w ∷ ws) (omega (arith, long, some_fit l x (omega (arith, long)) h))

all_fit : (symbols : List ℕ → Option ℕ) (before xs : List Line) → FitBehind before xs → All IsBelow (assembled_by symbols before xs)
unfolding assembled_by
all_fit symbols before [] h = All-nil IsBelow
all_fit symbols before (x ∷ xs) h =
    All-append IsBelow _ _ (words_fit (location before) x (words_by symbols x.statement) (length_words symbols x.statement) h.0) (all_fit symbols (before ++ x ∷ []) xs h.1)

lines_below : (lines : List Line) (o : Option (List ℕ)) (program : List Placed) → FitBehind [] lines → if_defined lines o ≡ Ok program → All IsBelow program
unfolding assembled
lines_below lines None program h e = All-same IsBelow program (assembled_by (value_in lines) [] lines) (cc e) (all_fit (value_in lines) [] lines h)
lines_below lines (Some symbol) program h e = absurd (cc e)

read_below : (r : Result (List Line) AsmFault) (program : List Placed) → ((lines : List Line) → r ≡ Ok lines → FitBehind [] lines) → resolved r ≡ Ok program → All IsBelow program
read_below (Err fault) program h e = absurd (cc e)
read_below (Ok lines) program h e = lines_below lines (first_undefined (value_in lines) (uses lines)) program (h lines refl) e

whole_fit : (text : List ℕ) (lines : List Line) → lines_of text ≡ Ok lines → FitBehind [] lines
unfolding lines_of
whole_fit text lines e =
    let fit = lines_fit (pieces 10 text) (remainder 10 text) [] lines e in
    subst (FitBehind []) (sym fit.1) fit.2

pub program_below : (text : List ℕ) (program : List Placed) → outcome text ≡ Ok program → All IsBelow program
unfolding outcome
program_below text program e = read_below (lines_of text) program (whole_fit text) e
