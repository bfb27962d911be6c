-- Which texts are programs.
use Rattle.std.proofs.Common.{◌≡◌, ◌≢◌, ℕ, zero, suc, ◌+◌, ◌<◌, List, [], ◌∷◌, ◌++◌, length, take, get_or, Bool, false, Result, Ok, Err, ◌⊎◌, inl, inr, refl, sym, ◌∙◌, ap, subst, arith, append_assoc}
use Rattle.std.specs.Prelude.{if◌then◌else◌, ◌==◌, ◌↔◌}
use Rattle.std.proofs.lemmas.Bool.Decides.{nat_tests}
use Rattle.std.proofs.lemmas.List.{append-nil}
use Rattle.asm_core.specs.declared.line.Line.{Line}
use Rattle.asm_core.specs.declared.line.AsmFault.{AsmFault}
use Rattle.asm_core.specs.declared.line.AsmFault.TheVariants.{Line as BadLine}
use Rattle.asm_core.specs.Cutting.{pieces, remainder}
use Rattle.asm_core.specs.Faults.{AreFirst, AreLines, IsFirstFault, blank}
use Rattle.asm_core.specs.Places.{lines_of, next_line, onward, read_behind}

-- the next lines of a text behind others
abbrev pub AreNext : List Line → List (List ℕ) → List Line → Type 0
AreNext before texts more = (i : ℕ) → i < length more → next_line (before ++ take i more) (get_or texts i []) ≡ Ok (get_or more i blank)

next_more : (before : List Line) (text : List ℕ) (texts : List (List ℕ)) (x : Line) (xs : List Line) → next_line before text ≡ Ok x → AreNext (before ++ x ∷ []) texts xs → AreNext before (text ∷ texts) (x ∷ xs)
next_more before text texts x xs first rest zero h = ap (λ b. next_line b text) (append-nil before) ∙ first
next_more before text texts x xs first rest (suc i) h = ap (λ b. next_line b (get_or texts i [])) (sym (append_assoc before (x ∷ []) (take i xs))) ∙ rest i (omega arith)

next_first : (before : List Line) (text : List ℕ) (texts : List (List ℕ)) (x : Line) (xs : List Line) → AreNext before (text ∷ texts) (x ∷ xs) → next_line before text ≡ Ok x
next_first before text texts x xs h = ap (λ b. next_line b text) (sym (append-nil before)) ∙ h 0 (omega arith)

next_rest : (before : List Line) (text : List ℕ) (texts : List (List ℕ)) (x : Line) (xs : List Line) → AreNext before (text ∷ texts) (x ∷ xs) → AreNext (before ++ x ∷ []) texts xs
next_rest before text texts x xs h i k = ap (λ b. next_line b (get_or texts i [])) (append_assoc before (x ∷ []) (take i xs)) ∙ h (suc i) (omega arith)

-- how reading goes on behind some lines
pub record Read (before : List Line) (texts : List (List ℕ)) (rest : List ℕ) (lines : List Line) : Type 0 where
  pub more : List Line
  pub whole : lines ≡ before ++ more
  pub next : AreNext before texts more
  pub many : length more ≡ length texts
  pub last : rest ≡ []

abbrev pub Fails : List Line → List (List ℕ) → List ℕ → List Line → AsmFault → Type 0
Fails before texts rest more fault =
    ((length more < length texts) × (next_line (before ++ more) (get_or texts (length more) []) ≡ Err fault))
    ⊎ ((length more ≡ length texts) × (rest ≢ []) × (fault ≡ BadLine (length (before ++ more) + 1)))

pub record Failed (before : List Line) (texts : List (List ℕ)) (rest : List ℕ) (fault : AsmFault) : Type 0 where
  pub more : List Line
  pub next : AreNext before texts more
  pub fails : Fails before texts rest more fault

none_next : (before : List Line) (texts : List (List ℕ)) → AreNext before texts []
none_next before texts i h = absurd (omega arith)

positive : (n : ℕ) → (suc n == 0) ≡ false
positive n = grind (arith, nat_tests)

some_end : (before : List Line) (c : ℕ) (cs : List ℕ) → (if length (c ∷ cs) == 0 then Ok before else Err (BadLine (length before + 1))) ≡ Err (BadLine (length before + 1))
some_end before c cs = ap (λ (b : Bool). if b then Ok before else Err (BadLine (length before + 1))) (positive (length cs))

end_read : (before lines : List Line) (rest : List ℕ) → (if length rest == 0 then Ok before else Err (BadLine (length before + 1))) ≡ Ok lines → Read before [] rest lines
end_read before lines [] e = let same : before ≡ lines = cc e in record { more = []; whole = sym same ∙ sym (append-nil before); next = none_next before []; many = refl; last = refl }
end_read before lines (c ∷ cs) e = let clash : Err (BadLine (length before + 1)) ≡ Ok lines = sym (some_end before c cs) ∙ e in absurd (cc clash)

end_failed : (before : List Line) (rest : List ℕ) (fault : AsmFault) → (if length rest == 0 then Ok before else Err (BadLine (length before + 1))) ≡ Err fault → Failed before [] rest fault
end_failed before [] fault e = absurd (cc e)
end_failed before (c ∷ cs) fault e =
    let same : Err (BadLine (length before + 1)) ≡ Err fault = sym (some_end before c cs) ∙ e in
    let is : BadLine (length before + 1) ≡ fault = cc same in
    record { more = []; next = none_next before []; fails = inr (refl, (λ none. cc none), sym is ∙ ap (λ b. BadLine (length b + 1)) (sym (append-nil before))) }

pub read_on : (texts : List (List ℕ)) (rest : List ℕ) (before lines : List Line) → read_behind before texts rest ≡ Ok lines → Read before texts rest lines
unfolding read_behind
read_on [] rest before lines e = end_read before lines rest e
read_on (text ∷ texts) rest before lines e = by (next_line before text) refl e (λ x h. read_on texts rest (before ++ x ∷ []) lines h)
  where
    by : (o : Result Line AsmFault) → next_line before text ≡ o → onward o (λ x. read_behind (before ++ x ∷ []) texts rest) ≡ Ok lines
        → ((x : Line) → read_behind (before ++ x ∷ []) texts rest ≡ Ok lines → Read (before ++ x ∷ []) texts rest lines) → Read before (text ∷ texts) rest lines
    by (Err fault) is h further = absurd (cc h)
    by (Ok x) is h further =
        let r = further x h in
        record {
          more = x ∷ r.more;
          whole = r.whole ∙ append_assoc before (x ∷ []) r.more;
          next = next_more before text texts x r.more is r.next;
          many = ap suc r.many;
          last = r.last;
        }

failed_more : (before : List Line) (text : List ℕ) (texts : List (List ℕ)) (rest : List ℕ) (fault : AsmFault) (x : Line) → next_line before text ≡ Ok x → Failed (before ++ x ∷ []) texts rest fault → Failed before (text ∷ texts) rest fault
failed_more before text texts rest fault x is f = record { more = x ∷ f.more; next = next_more before text texts x f.more is f.next; fails = at f.fails }
  where
    same : (before ++ x ∷ []) ++ f.more ≡ before ++ x ∷ f.more
    same = append_assoc before (x ∷ []) f.more

    at : Fails (before ++ x ∷ []) texts rest f.more fault → Fails before (text ∷ texts) rest (x ∷ f.more) fault
    at (inl h) = inl (omega (arith, h.0), ap (λ b. next_line b (get_or texts (length f.more) [])) (sym same) ∙ h.1)
    at (inr h) = inr (ap suc h.0, h.1, h.2 ∙ ap (λ b. BadLine (length b + 1)) same)

pub failed_on : (texts : List (List ℕ)) (rest : List ℕ) (before : List Line) (fault : AsmFault) → read_behind before texts rest ≡ Err fault → Failed before texts rest fault
unfolding read_behind
failed_on [] rest before fault e = end_failed before rest fault e
failed_on (text ∷ texts) rest before fault e = by (next_line before text) refl e (λ x h. failed_on texts rest (before ++ x ∷ []) fault h)
  where
    by : (o : Result Line AsmFault) → next_line before text ≡ o → onward o (λ x. read_behind (before ++ x ∷ []) texts rest) ≡ Err fault
        → ((x : Line) → read_behind (before ++ x ∷ []) texts rest ≡ Err fault → Failed (before ++ x ∷ []) texts rest fault) → Failed before (text ∷ texts) rest fault
    by (Err other) is h further =
        let same : other ≡ fault = cc h in
        let here : next_line (before ++ []) text ≡ Err fault = ap (λ b. next_line b text) (append-nil before) ∙ (is ∙ ap Err same) in
        record { more = []; next = none_next before (text ∷ texts); fails = inl (omega arith, here) }
    by (Ok x) is h further = failed_more before text texts rest fault x is (further x h)

-- and back
pub reads : (texts : List (List ℕ)) (rest : List ℕ) (before more : List Line) → AreNext before texts more → length more ≡ length texts → rest ≡ [] → read_behind before texts rest ≡ Ok (before ++ more)
unfolding read_behind
reads [] rest before [] next many last = ap (λ (r : List ℕ). if length r == 0 then Ok before else Err (BadLine (length before + 1))) last ∙ ap Ok (sym (append-nil before))
reads [] rest before (x ∷ xs) next many last = absurd (omega arith)
reads (text ∷ texts) rest before [] next many last = absurd (omega arith)
reads (text ∷ texts) rest before (x ∷ xs) next many last =
    ap (λ o. onward o (λ y. read_behind (before ++ y ∷ []) texts rest)) (next_first before text texts x xs next)
    ∙ (reads texts rest (before ++ x ∷ []) xs (next_rest before text texts x xs next) (omega arith) last ∙ ap Ok (append_assoc before (x ∷ []) xs))

some_left : (rest : List ℕ) (before : List Line) → rest ≢ [] → (if length rest == 0 then Ok before else Err (BadLine (length before + 1))) ≡ Err (BadLine (length before + 1))
some_left [] before ne = absurd (ne refl)
some_left (c ∷ cs) before ne = some_end before c cs

pub fails_on : (texts : List (List ℕ)) (rest : List ℕ) (before more : List Line) (fault : AsmFault) → AreNext before texts more → Fails before texts rest more fault → read_behind before texts rest ≡ Err fault
unfolding read_behind
fails_on [] rest before [] fault next (inl h) = absurd (omega (arith, h.0))
fails_on [] rest before [] fault next (inr h) = some_left rest before h.1 ∙ (ap (λ b. Err (BadLine (length b + 1))) (sym (append-nil before)) ∙ ap Err (sym h.2))
fails_on [] rest before (x ∷ xs) fault next (inl h) = absurd (omega (arith, h.0))
fails_on [] rest before (x ∷ xs) fault next (inr h) = absurd (omega (arith, h.0))
fails_on (text ∷ texts) rest before [] fault next (inl h) =
    ap (λ o. onward o (λ y. read_behind (before ++ y ∷ []) texts rest)) (ap (λ b. next_line b text) (sym (append-nil before)) ∙ h.1)
fails_on (text ∷ texts) rest before [] fault next (inr h) = absurd (omega (arith, h.0))
fails_on (text ∷ texts) rest before (x ∷ xs) fault next h =
    ap (λ o. onward o (λ y. read_behind (before ++ y ∷ []) texts rest)) (next_first before text texts x xs next)
    ∙ fails_on texts rest (before ++ x ∷ []) xs fault (next_rest before text texts x xs next) (at h)
  where
    same : (before ++ x ∷ []) ++ xs ≡ before ++ x ∷ xs
    same = append_assoc before (x ∷ []) xs

    at : Fails before (text ∷ texts) rest (x ∷ xs) fault → Fails (before ++ x ∷ []) texts rest xs fault
    at (inl h) = inl (omega (arith, h.0), ap (λ b. next_line b (get_or texts (length xs) [])) same ∙ h.1)
    at (inr h) = inr (omega (arith, h.0), h.1, h.2 ∙ ap (λ b. BadLine (length b + 1)) (sym same))

-- a text is these lines exactly where it is read as them
pub lines_are : (text : List ℕ) (lines : List Line) → (lines_of text ≡ Ok lines) ↔ AreLines text lines
unfolding lines_of
lines_are text lines = (there, back)
  where
    there : lines_of text ≡ Ok lines → AreLines text lines
    there e =
        let r = read_on (pieces 10 text) (remainder 10 text) [] lines e in
        (subst (AreFirst (pieces 10 text)) (sym r.whole) r.next, ap length r.whole ∙ r.many, r.last)

    back : AreLines text lines → lines_of text ≡ Ok lines
    back h = reads (pieces 10 text) (remainder 10 text) [] lines h.0 h.1 h.2

-- and this is its first fault exactly where it is read as that
pub fault_is : (text : List ℕ) (fault : AsmFault) → (lines_of text ≡ Err fault) ↔ IsFirstFault text fault
unfolding lines_of
fault_is text fault = (there, back)
  where
    there : lines_of text ≡ Err fault → IsFirstFault text fault
    there e = let f = failed_on (pieces 10 text) (remainder 10 text) [] fault e in (f.more, f.next, f.fails)

    back : IsFirstFault text fault → lines_of text ≡ Err fault
    back h = fails_on (pieces 10 text) (remainder 10 text) [] h.0 fault h.1 h.2
