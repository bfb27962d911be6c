-- A listing is read back.
use Rattle.std.proofs.Common.{◌≡◌, ℕ, suc, ◌+◌, ◌^◌, ◌<◌, ◌≤◌, List, [], ◌∷◌, ◌++◌, length, take, drop, Bool, true, false, cond, Option, None, Some, Ok, Err, codes, refl, sym, ◌∙◌, ap, arith, append_assoc, lit≤}
use Rattle.std.specs.Prelude.{not, ◌&&◌, nat_le, nat_lt, if◌then◌else◌, ◌==◌}
use Rattle.std.specs.List.{list_all, position_or_len}
use Rattle.std.proofs.lemmas.Bool.Decides.{nat_tests}
use Rattle.std.proofs.lemmas.List.{append-nil, drop_all, take_all}
use Rattle.std.proofs.lemmas.List.Elements.{All-head, All-tail}
use Rattle.word36.specs.Octal.{AreOctalDigits, octal_padded, octal_value}
use Rattle.word36.proofs.OctalLemmas.{digits-octal_padded, length-octal_padded, octal_value-octal_padded}
use Rattle.asm_core.specs.declared.line.Statement.TheVariants.{Halves, Loc, Number}
use Rattle.asm_core.specs.declared.line.Value.TheVariants.{Number as Half, Named}
use Rattle.std.specs.Str.{bytes_eq}
use Rattle.asm_core.specs.declared.line.Line.{Line}
use Rattle.asm_core.specs.declared.line.Placed.{Placed}
use Rattle.asm_core.specs.declared.line.AsmFault.TheVariants.{Overrun}
use Rattle.asm_core.specs.Cutting.{before_cut, behind_field, cut, ends_field, field, is_blank, is_line_code, is_line_text, is_over, past_blanks, pieces, remainder}
use Rattle.asm_core.specs.Numbers.{is_letter, is_symbol, is_symbol_code, octal_number}
use Rattle.asm_core.specs.Grammar.{asciz, as_location, as_word, labelled, line_in, line_of, one_value, parted_values, plain, statement_of, with_label, with_operands, word_of}
use Rattle.asm_core.specs.Listing.{AreInSpace, listing}
use Rattle.asm_core.specs.Places.{assembled_by, checked, first_undefined, lines_of, location, next_line, outcome, overruns, placed_from, read_behind, uses, value_in}
use Rattle.asm_core.proofs.Assembling.{outcome_done}
use Rattle.asm_core.proofs.Digits.{octal_read}
use Rattle.asm_core.proofs.Reading.{read_end, read_step}
use Rattle.asm_core.proofs.Surveying.{location_more}

-- what a digit is not
digit_no_end : (c : ℕ) → 48 ≤ c → c < 56 → ends_field c ≡ false
digit_no_end c low high = grind (arith, nat_tests)

digit_no_blank : (c : ℕ) → 48 ≤ c → c < 56 → is_blank c ≡ false
digit_no_blank c low high = grind (arith, nat_tests)

digit_in_line : (c : ℕ) → 48 ≤ c → c < 56 → is_line_code c ≡ true
digit_in_line c low high = grind (arith, nat_tests)

digit_no_letter : (c : ℕ) → 48 ≤ c → c < 56 → is_letter c ≡ false
digit_no_letter c low high = grind (arith, nat_tests)

digit_other : (c mark : ℕ) → 48 ≤ c → c < 56 → nat_le 48 mark && nat_lt mark 56 ≡ false → (c == mark) ≡ false
digit_other c mark low high out = grind (arith, nat_tests)

and_so : (a b : Bool) → a ≡ true → b ≡ true → (a && b) ≡ true
and_so a b h k = rw h k

all_in_line : (ds : List ℕ) → AreOctalDigits ds → list_all is_line_code ds ≡ true
all_in_line [] h = refl
all_in_line (c ∷ cs) h = and_so (is_line_code c) (list_all is_line_code cs) (digit_in_line c h.0 h.1) (all_in_line cs h.2)

no_end : (ds : List ℕ) → AreOctalDigits ds → position_or_len ends_field ds ≡ length ds
no_end [] h = refl
no_end (c ∷ cs) h =
    let rest = no_end cs h.2 in
    let more : 1 + position_or_len ends_field cs ≡ suc (length cs) = omega (arith, rest) in
    ap (λ (b : Bool). cond (not b) (1 + position_or_len ends_field cs) 0) (digit_no_end c h.0 h.1) ∙ more

no_mark : (mark : ℕ) → nat_le 48 mark && nat_lt mark 56 ≡ false → (ds : List ℕ) → AreOctalDigits ds → cut mark ds ≡ None
unfolding cut
no_mark mark out [] h = refl
no_mark mark out (c ∷ cs) h =
    ap (λ (b : Bool). if b then Some ([], cs) else before_cut c (cut mark cs)) (digit_other c mark h.0 h.1 out) ∙ ap (before_cut c) (no_mark mark out cs h.2)

cut_nothing : (mark : ℕ) → cut mark [] ≡ None
unfolding cut
cut_nothing mark = refl

-- a text that ends with the mark is cut there
cut_front : (mark : ℕ) (front rest : List ℕ) → list_all (λ c. not (c == mark)) front ≡ true → cut mark (front ++ mark ∷ rest) ≡ Some (front, rest)
unfolding cut
cut_front mark [] rest h = ap (λ (b : Bool). if b then Some ([], rest) else before_cut mark (cut mark rest)) (same mark)
  where
    same : (m : ℕ) → (m == m) ≡ true
    same m = grind (arith, nat_tests)
cut_front mark (c ∷ cs) rest h = by (c == mark) h (cut_front mark cs rest)
  where
    by : (b : Bool) → (not b && list_all (λ c. not (c == mark)) cs) ≡ true → (list_all (λ c. not (c == mark)) cs ≡ true → cut mark (cs ++ mark ∷ rest) ≡ Some (cs, rest))
        → (if b then Some ([], cs ++ mark ∷ rest) else before_cut c (cut mark (cs ++ mark ∷ rest))) ≡ Some (c ∷ cs, rest)
    by true k further = absurd (cc k)
    by false k further = ap (before_cut c) (further k)

all_other : (mark : ℕ) → nat_le 48 mark && nat_lt mark 56 ≡ false → (ds : List ℕ) → AreOctalDigits ds → list_all (λ c. not (c == mark)) ds ≡ true
all_other mark out [] h = refl
all_other mark out (c ∷ cs) h = and_so (not (c == mark)) (list_all (λ c. not (c == mark)) cs) (ap not (digit_other c mark h.0 h.1 out)) (all_other mark out cs h.2)

-- digits behind a word
module _ (c : ℕ) (cs : List ℕ) (digits : AreOctalDigits (c ∷ cs)) where
  abbrev ds : List ℕ
  ds = c ∷ cs

  past : past_blanks (32 ∷ ds) ≡ ds
  unfolding past_blanks
  past = ap (λ (b : Bool). drop (1 + cond (not (not b)) (1 + position_or_len (λ d. not (is_blank d)) cs) 0) (32 ∷ ds)) (digit_no_blank c digits.0 digits.1)

  all_field : field ds ≡ ds
  unfolding field
  all_field = ap (λ n. take n ds) (no_end ds digits) ∙ take_all (length ds) ds (lit_same (length ds))
    where
      lit_same : (n : ℕ) → n ≤ n
      lit_same n = omega arith

  none_behind : is_over (behind_field ds) ≡ true
  unfolding is_over behind_field past_blanks
  none_behind =
      let over : drop (position_or_len ends_field ds) ds ≡ [] = ap (λ n. drop n ds) (no_end ds digits) ∙ drop_all (length ds) ds (same (length ds)) in
      ap is_over over
    where
      same : (n : ℕ) → n ≤ n
      same n = omega arith

  operands : (word : List ℕ) → with_operands word ds ≡ plain word ds
  unfolding with_operands
  operands word = ap (λ (b : Bool). if b then plain word (field ds) else None) none_behind ∙ ap (plain word) all_field

  no_symbol : is_symbol ds ≡ false
  unfolding is_symbol
  no_symbol = ap (λ (b : Bool). (b && nat_le (length ds) 6) && list_all is_symbol_code ds) (digit_no_letter c digits.0 digits.1)

  line_text : (text : List ℕ) → length text ≤ 256 → list_all is_line_code text ≡ true → is_line_text text ≡ true
  unfolding is_line_text
  line_text text few right = and_so (nat_le (length text) 256) (list_all is_line_code text) (at (length text) few) right
    where
      at : (n : ℕ) → n ≤ 256 → nat_le n 256 ≡ true
      at n h = grind (arith, nat_tests)

  -- a LOC with these digits
  loc_past : past_blanks (codes " LOC " ++ ds) ≡ codes "LOC " ++ ds
  unfolding past_blanks
  loc_past = refl

  loc_field : field (codes "LOC " ++ ds) ≡ codes "LOC"
  unfolding field
  loc_field = refl

  loc_behind : behind_field (codes "LOC " ++ ds) ≡ 32 ∷ ds
  unfolding behind_field
  loc_behind = refl

  loc_uncut : cut 58 (codes "LOC " ++ ds) ≡ None
  unfolding cut
  loc_uncut = ap (λ o. before_cut 76 (before_cut 79 (before_cut 67 (before_cut 32 o)))) (no_mark 58 refl ds digits)

  loc_plain : (n : ℕ) → octal_number 6 ds ≡ Some n → plain (codes "LOC") ds ≡ Some (Loc n)
  unfolding plain
  loc_plain n e = ap as_location e

  loc_statement : (n : ℕ) → octal_number 6 ds ≡ Some n → statement_of (codes "LOC " ++ ds) ≡ Some (Loc n)
  unfolding statement_of
  loc_statement n e =
      let t = codes "LOC " ++ ds in
      ap (λ (f : List ℕ). if bytes_eq f (codes "ASCIZ") then asciz (behind_field t) else with_operands f (past_blanks (behind_field t))) loc_field
      ∙ (ap (λ (b : List ℕ). with_operands (codes "LOC") (past_blanks b)) loc_behind ∙ (ap (with_operands (codes "LOC")) past ∙ (operands (codes "LOC") ∙ loc_plain n e)))

  loc_line : (n : ℕ) → octal_number 6 ds ≡ Some n → length ds ≤ 12 → line_of (codes " LOC " ++ ds) ≡ Some (record { label = None; statement = Loc n })
  unfolding line_of line_in
  loc_line n e small =
      let raw = codes " LOC " ++ ds in
      let t = codes "LOC " ++ ds in
      ap (λ (b : Bool). if b then line_in (past_blanks raw) else None) (line_text raw (omega arith) (all_in_line ds digits))
      ∙ (ap line_in loc_past ∙ (ap (labelled t) loc_uncut ∙ ap (with_label None) (loc_statement n e)))

  -- a WORD with these digits
  word_past : past_blanks (codes " WORD " ++ ds) ≡ codes "WORD " ++ ds
  unfolding past_blanks
  word_past = refl

  word_field : field (codes "WORD " ++ ds) ≡ codes "WORD"
  unfolding field
  word_field = refl

  word_behind : behind_field (codes "WORD " ++ ds) ≡ 32 ∷ ds
  unfolding behind_field
  word_behind = refl

  word_uncut : cut 58 (codes "WORD " ++ ds) ≡ None
  unfolding cut
  word_uncut = ap (λ o. before_cut 87 (before_cut 79 (before_cut 82 (before_cut 68 (before_cut 32 o))))) (no_mark 58 refl ds digits)

  word_plain : (n : ℕ) → octal_number 12 ds ≡ Some n → plain (codes "WORD") ds ≡ Some (Number n)
  unfolding plain word_of one_value
  word_plain n e =
      ap (parted_values ds) (no_mark 44 refl ds digits)
      ∙ (ap (λ (b : Bool). if b then Some (Halves (Half 0) (Named ds)) else as_word (octal_number 12 ds)) no_symbol ∙ ap as_word e)

  word_statement : (n : ℕ) → octal_number 12 ds ≡ Some n → statement_of (codes "WORD " ++ ds) ≡ Some (Number n)
  unfolding statement_of
  word_statement n e =
      let t = codes "WORD " ++ ds in
      ap (λ (f : List ℕ). if bytes_eq f (codes "ASCIZ") then asciz (behind_field t) else with_operands f (past_blanks (behind_field t))) word_field
      ∙ (ap (λ (b : List ℕ). with_operands (codes "WORD") (past_blanks b)) word_behind ∙ (ap (with_operands (codes "WORD")) past ∙ (operands (codes "WORD") ∙ word_plain n e)))

  word_line : (n : ℕ) → octal_number 12 ds ≡ Some n → length ds ≤ 12 → line_of (codes " WORD " ++ ds) ≡ Some (record { label = None; statement = Number n })
  unfolding line_of line_in
  word_line n e small =
      let raw = codes " WORD " ++ ds in
      let t = codes "WORD " ++ ds in
      ap (λ (b : Bool). if b then line_in (past_blanks raw) else None) (line_text raw (omega arith) (all_in_line ds digits))
      ∙ (ap line_in word_past ∙ (ap (labelled t) word_uncut ∙ ap (with_label None) (word_statement n e)))

-- the digits of a number
some_loc : (ds : List ℕ) (n : ℕ) → AreOctalDigits ds → 1 ≤ length ds → length ds ≤ 12 → octal_number 6 ds ≡ Some n → line_of (codes " LOC " ++ ds) ≡ Some (record { label = None; statement = Loc n })
some_loc [] n digits some few e = absurd (omega arith)
some_loc (c ∷ cs) n digits some few e = loc_line c cs digits n e few

some_word : (ds : List ℕ) (n : ℕ) → AreOctalDigits ds → 1 ≤ length ds → length ds ≤ 12 → octal_number 12 ds ≡ Some n → line_of (codes " WORD " ++ ds) ≡ Some (record { label = None; statement = Number n })
some_word [] n digits some few e = absurd (omega arith)
some_word (c ∷ cs) n digits some few e = word_line c cs digits n e few

padded_number : (width n : ℕ) → 1 ≤ width → n < 8 ^ width → octal_number width (octal_padded width n) ≡ Some n
padded_number width n some small =
    let ds = octal_padded width n in
    let len : length ds ≡ width = length-octal_padded width n in
    let low : 1 ≤ length ds = omega arith in
    let high : length ds ≤ width = omega arith in
    sym (octal_read width ds (Some (octal_value ds)) ((low, high, digits-octal_padded width n), refl)) ∙ ap Some (octal_value-octal_padded width n small)

-- the two lines of a word
abbrev at_address : ℕ → Line
at_address a = record { label = None; statement = Loc a }

abbrev the_word : ℕ → Line
the_word w = record { label = None; statement = Number w }

abbrev address_text : ℕ → List ℕ
address_text a = codes " LOC " ++ octal_padded 6 a

abbrev word_text : ℕ → List ℕ
word_text w = codes " WORD " ++ octal_padded 12 w

address_line : (a : ℕ) → a < 2 ^ 18 → line_of (address_text a) ≡ Some (at_address a)
address_line a small =
    let ds = octal_padded 6 a in
    let len : length ds ≡ 6 = length-octal_padded 6 a in
    some_loc ds a (digits-octal_padded 6 a) (omega arith) (omega arith) (padded_number 6 a (lit≤ tt) small)

word_line_of : (w : ℕ) → w < 2 ^ 36 → line_of (word_text w) ≡ Some (the_word w)
word_line_of w small =
    let ds = octal_padded 12 w in
    let len : length ds ≡ 12 = length-octal_padded 12 w in
    some_word ds w (digits-octal_padded 12 w) (omega arith) (omega arith) (padded_number 12 w (lit≤ tt) small)

address_cut : (a : ℕ) (rest : List ℕ) → cut 10 (address_text a ++ 10 ∷ rest) ≡ Some (address_text a, rest)
address_cut a rest = cut_front 10 (address_text a) rest (all_other 10 refl (octal_padded 6 a) (digits-octal_padded 6 a))

word_cut : (w : ℕ) (rest : List ℕ) → cut 10 (word_text w ++ 10 ∷ rest) ≡ Some (word_text w, rest)
word_cut w rest = cut_front 10 (word_text w) rest (all_other 10 refl (octal_padded 12 w) (digits-octal_padded 12 w))

next_address : (before : List Line) (a : ℕ) → a < 2 ^ 18 → next_line before (address_text a) ≡ Ok (at_address a)
unfolding next_line overruns
next_address before a small = ap (checked before) (address_line a small)

fits_there : (l w : ℕ) → l < 2 ^ 18 → overruns l (the_word w) ≡ false
unfolding overruns
fits_there l w small = at l small
  where
    at : (l : ℕ) → l < 2 ^ 18 → nat_lt (2 ^ 18) (l + 1) ≡ false
    at l h = grind (arith, nat_tests)

next_word : (before : List Line) (w : ℕ) → w < 2 ^ 36 → location before < 2 ^ 18 → next_line before (word_text w) ≡ Ok (the_word w)
unfolding next_line
next_word before w small fits =
    ap (checked before) (word_line_of w small)
    ∙ ap (λ (b : Bool). if b then Err (Overrun (length before + 1)) else Ok (the_word w)) (fits_there (location before) w fits)

-- the lines of a listing
lines_in : List Placed → List Line
lines_in [] = []
lines_in (p ∷ ps) = at_address p.address ∷ the_word p.word ∷ lines_in ps

place_is : (before : List Line) (a : ℕ) → location (before ++ at_address a ∷ []) ≡ a
place_is before a = location_more before (at_address a)

listing_read : (ps : List Placed) (before : List Line) → AreInSpace ps → read_behind before (pieces 10 (listing ps)) (remainder 10 (listing ps)) ≡ Ok (before ++ lines_in ps)
unfolding listing lines_in
listing_read [] before h = read_end before [] (cut_nothing 10) ∙ ap Ok (sym (append-nil before))
listing_read (p ∷ ps) before h =
    let fits = All-head (λ (q : Placed). (q.address < 2 ^ 18) × (q.word < 2 ^ 36)) p ps h in
    let others = All-tail (λ (q : Placed). (q.address < 2 ^ 18) × (q.word < 2 ^ 36)) p ps h in
    let a = p.address in
    let w = p.word in
    let rest = word_text w ++ 10 ∷ listing ps in
    let placed = before ++ at_address a ∷ [] in
    let there : location placed < 2 ^ 18 = omega (arith, place_is before a, fits.0) in
    read_step before (address_text a ++ 10 ∷ rest) (address_text a) rest (address_cut a rest) (at_address a) (next_address before a fits.0)
    ∙ (read_step placed rest (word_text w) (listing ps) (word_cut w (listing ps)) (the_word w) (next_word placed w fits.1 there)
    ∙ (listing_read ps (placed ++ the_word w ∷ []) others
    ∙ ap Ok (append_assoc placed (the_word w ∷ []) (lines_in ps) ∙ append_assoc before (at_address a ∷ []) (the_word w ∷ lines_in ps))))

none_used : (symbols : List ℕ → Option ℕ) (ps : List Placed) → first_undefined symbols (uses (lines_in ps)) ≡ None
unfolding first_undefined uses lines_in
none_used symbols [] = refl
none_used symbols (p ∷ ps) = none_used symbols ps

words_are : (symbols : List ℕ → Option ℕ) (before : List Line) (ps : List Placed) → assembled_by symbols before (lines_in ps) ≡ ps
unfolding assembled_by placed_from lines_in
words_are symbols before [] = refl
words_are symbols before (p ∷ ps) =
    ap (λ a. (let q : Placed = record { address = a; word = p.word } in q) ∷ assembled_by symbols ((before ++ at_address p.address ∷ []) ++ the_word p.word ∷ []) (lines_in ps)) (place_is before p.address)
    ∙ ap (λ l. p ∷ l) (words_are symbols ((before ++ at_address p.address ∷ []) ++ the_word p.word ∷ []) ps)

listing_lines : (ps : List Placed) → AreInSpace ps → lines_of (listing ps) ≡ Ok (lines_in ps)
unfolding lines_of
listing_lines ps h = listing_read ps [] h

-- a listing gives its words
pub listing_back : (ps : List Placed) → AreInSpace ps → outcome (listing ps) ≡ Ok ps
listing_back ps h =
    let lines = lines_in ps in
    outcome_done (listing ps) lines (listing_lines ps h) (value_in lines) (λ s. refl) (none_used (value_in lines) ps) ∙ ap Ok (words_are (value_in lines) [] ps)
