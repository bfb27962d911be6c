-- What the next line of a program is, by what the first pass keeps.
use Rattle.std.proofs.Common.{◌≡◌, ◌≢◌, ℕ, ◌+◌, ◌<◌, ◌≤◌, ◌^◌, List, [], ◌∷◌, ◌++◌, length, Bool, true, false, Option, None, Some, Ok, Err, ◌⊎◌, inl, inr, refl, sym, ◌∙◌, ap, arith, length-append}
use Rattle.std.specs.Prelude.{◌&&◌, ◌||◌, nat_le, nat_lt, if◌then◌else◌, IfSome}
use Rattle.std.specs.Option.{is_some}
use Rattle.std.proofs.lemmas.Bool.Decides.{nat_tests}
use Rattle.std.proofs.lemmas.Slice.Eq.{bytes_eq-Decides}
use Rattle.asm_core.specs.declared.line.Line.{Line}
use Rattle.asm_core.specs.declared.line.AsmFault.{AsmFault}
use Rattle.asm_core.specs.declared.line.AsmFault.TheVariants.{Memory, Line as BadLine, Overrun, Doubled}
use Rattle.asm_core.specs.declared.survey.Survey.{Survey}
use Rattle.asm_core.specs.Grammar.{line_of}
use Rattle.asm_core.specs.Passes.{IsDoubled, IsFault, IsNew, Surveyed, after_label, kept}
use Rattle.asm_core.specs.Places.{behind, checked, has_label, labelled_from, location, location_from, new_label, next_line, overruns, size_of, value_in}

-- the location behind two parts of a program
pub location_append : (l : ℕ) (xs ys : List Line) → location_from l (xs ++ ys) ≡ location_from (location_from l xs) ys
location_append l [] ys = refl
location_append l (x ∷ xs) ys = location_append (behind l x.statement) xs ys

pub location_more : (before : List Line) (x : Line) → location (before ++ x ∷ []) ≡ behind (location before) x.statement
unfolding location
location_more before x = location_append 0 before (x ∷ [])

-- the first of two values that there is
abbrev pub either : Option ℕ → Option ℕ → Option ℕ
either None other = other
either (Some n) other = Some n

either_by : (b : Bool) (n : ℕ) (o other : Option ℕ) → (if b then Some n else either o other) ≡ either (if b then Some n else o) other
either_by true n o other = refl
either_by false n o other = refl

-- what a symbol labels in two parts of a program
pub labelled_append : (l : ℕ) (xs ys : List Line) (symbol : List ℕ) → labelled_from l (xs ++ ys) symbol ≡ either (labelled_from l xs symbol) (labelled_from (location_from l xs) ys symbol)
labelled_append l [] ys symbol = refl
labelled_append l (x ∷ xs) ys symbol =
    ap (λ o. if has_label x.label symbol then Some l else o) (labelled_append (behind l x.statement) xs ys symbol)
    ∙ either_by (has_label x.label symbol) l (labelled_from (behind l x.statement) xs symbol) (labelled_from (location_from (behind l x.statement) xs) ys symbol)

pub value_more : (before : List Line) (x : Line) (symbol : List ℕ) → value_in (before ++ x ∷ []) symbol ≡ either (value_in before symbol) (if has_label x.label symbol then Some (location before) else None)
unfolding value_in location
value_more before x symbol = labelled_append 0 before (x ∷ []) symbol

-- a new label is a value of that symbol alone
new_by : (b : Bool) (l : ℕ) (o : Option ℕ) → (b ≡ true → o ≡ None) → (if b then Some l else o) ≡ either o (if b then Some l else None)
new_by true l o h = sym (ap (λ o. either o (Some l)) (h refl))
new_by false l None h = refl
new_by false l (Some n) h = refl

labels_new : (symbols : List ℕ → Option ℕ) (label : Option (List ℕ)) (other : List ℕ) → IsNew symbols label → has_label label other ≡ true → symbols other ≡ None
labels_new symbols None other h e = absurd (cc e)
labels_new symbols (Some symbol) other h e = let same : symbol ≡ other = (bytes_eq-Decides symbol other).0 e in ap symbols (sym same) ∙ h

module _ (s : Survey) (before : List Line) (stands : Surveyed s before) (text : List ℕ) where
  pub next_bad : None ≡ line_of text → next_line before text ≡ Err (BadLine (s.lines + 1))
  unfolding next_line
  next_bad e = ap (checked before) (sym e) ∙ ap (λ n. Err (BadLine (n + 1))) (sym stands.number)

  module _ (x : Line) (is : Some x ≡ line_of text) where
    over_here : (b : Bool) → b ≡ overruns s.location x → overruns (location before) x ≡ b
    over_here b e = ap (λ l. overruns l x) (sym stands.location) ∙ sym e

    pub next_overrun : true ≡ overruns s.location x → next_line before text ≡ Err (Overrun (s.lines + 1))
    unfolding next_line
    next_overrun e =
        ap (checked before) (sym is)
        ∙ (ap (λ (b : Bool). if b then Err (Overrun (length before + 1)) else new_label before x x.label) (over_here true e) ∙ ap (λ n. Err (Overrun (n + 1))) (sym stands.number))

    fits_here : false ≡ overruns s.location x → next_line before text ≡ new_label before x x.label
    unfolding next_line
    fits_here e = ap (checked before) (sym is) ∙ ap (λ (b : Bool). if b then Err (Overrun (length before + 1)) else new_label before x x.label) (over_here false e)

    is_new : (label : Option (List ℕ)) → IsNew (kept s.symbols) label → new_label before x label ≡ Ok x
    is_new None h = refl
    is_new (Some symbol) h = ap (λ (o : Option ℕ). if is_some o then Err (Doubled symbol) else Ok x) (sym (stands.symbols symbol) ∙ h)

    pub next_ok : false ≡ overruns s.location x → IsNew (kept s.symbols) x.label → next_line before text ≡ Ok x
    next_ok e h = fits_here e ∙ is_new x.label h

    known : (o : Option ℕ) (symbol : List ℕ) → o ≢ None → (if is_some o then Err (Doubled symbol) else Ok x) ≡ Err (Doubled symbol)
    known None symbol ne = absurd (ne refl)
    known (Some n) symbol ne = refl

    is_doubled : (label : Option (List ℕ)) (fault : AsmFault) → IsDoubled (kept s.symbols) label fault → new_label before x label ≡ Err fault
    is_doubled None fault h = absurd h
    is_doubled (Some symbol) fault h =
        ap (λ (o : Option ℕ). if is_some o then Err (Doubled symbol) else Ok x) (sym (stands.symbols symbol))
        ∙ (known (kept s.symbols symbol) symbol h.1 ∙ ap Err (sym h.0))

    pub next_doubled : (fault : AsmFault) → false ≡ overruns s.location x → (fault ≡ Memory) ⊎ IsDoubled (kept s.symbols) x.label fault → IsFault fault (next_line before text)
    next_doubled fault e (inl h) = inl h
    next_doubled fault e (inr h) = inr (fits_here e ∙ is_doubled x.label fault h)

    pub next_stands : (t : Survey) → t.lines ≡ s.lines + 1 → t.location ≡ behind s.location x.statement → t.location ≤ 2 ^ 18 → IsNew (kept s.symbols) x.label
        → ((other : List ℕ) → kept t.symbols other ≡ after_label x.label s.location (kept s.symbols) other) → Surveyed t (before ++ x ∷ [])
    next_stands t number place within new put = record {
      number = number ∙ (ap (λ n. n + 1) stands.number ∙ sym (length-append before (x ∷ [])));
      location = place ∙ (ap (λ l. behind l x.statement) stands.location ∙ sym (location_more before x));
      within = within;
      symbols = λ symbol.
          put symbol
          ∙ (new_by (has_label x.label symbol) s.location (kept s.symbols symbol) (λ e. labels_new (kept s.symbols) x.label symbol new e)
          ∙ (ap (λ o. either o (if has_label x.label symbol then Some s.location else None)) (stands.symbols symbol)
          ∙ (ap (λ l. either (value_in before symbol) (if has_label x.label symbol then Some l else None)) stands.location ∙ sym (value_more before x symbol))));
    }

-- what a line that overruns nothing tells
over_not : (a b : Bool) → (a || b) ≡ false → (a ≡ false) × (b ≡ false)
over_not true b h = absurd (cc h)
over_not false b h = (refl, h)

some_below : (label : Option (List ℕ)) (l : ℕ) → (is_some label && nat_le (2 ^ 18) l) ≡ false → IfSome label (λ symbol. l < 2 ^ 18)
some_below None l h = tt
some_below (Some symbol) l h = grind (arith, nat_tests)

fits_size : (l size : ℕ) → l ≤ 2 ^ 18 → (nat_le 1 size && nat_lt (2 ^ 18) (l + size)) ≡ false → l + size ≤ 2 ^ 18
fits_size l size within h = grind (arith, nat_tests)

pub label_below : (l : ℕ) (x : Line) → false ≡ overruns l x → IfSome x.label (λ symbol. l < 2 ^ 18)
unfolding overruns
label_below l x e = some_below x.label l (over_not _ _ (sym e)).0

pub words_below : (l : ℕ) (x : Line) → l ≤ 2 ^ 18 → false ≡ overruns l x → l + size_of x.statement ≤ 2 ^ 18
unfolding overruns
words_below l x within e = fits_size l (size_of x.statement) within (over_not _ _ (sym e)).1
