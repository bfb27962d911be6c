-- What is held for one holder, with a home more and without one.
use Rattle.std.proofs.Common.{◌≡◌, ◌≢◌, ℕ, suc, ◌+◌, ◌≤◌, ◌==◌, arith, length, List, [], ◌∷◌, ◌++◌, Bool, true, false, not, cond, ◌||◌, refl, sym, ◌∙◌, ap}
use Rattle.std.proofs.lemmas.Bool.{false≢true, true≢false, not-true, not_from_false, eqb-true, eq-eqb, ne_eqb, and_parts, and_from}
use Rattle.paged_store.specs.Keeping.{is_among, is_distinct}
use Rattle.paged_store.specs.StoreSteps.{all_but}

-- a home is put at the end of what is held for one holder
pub among_push : (hs : List ℕ) (x h : ℕ) → is_among x (hs ++ h ∷ []) ≡ (is_among x hs || (h == x))
among_push [] x h = or_false (h == x)
  where
    or_false : (b : Bool) → (b || false) ≡ b
    or_false true = refl
    or_false false = refl
among_push (y ∷ hs) x h = ap (λ (b : Bool). (y == x) || b) (among_push hs x h) ∙ assoc (y == x) (is_among x hs) (h == x)
  where
    assoc : (a b c : Bool) → (a || (b || c)) ≡ ((a || b) || c)
    assoc true b c = refl
    assoc false b c = refl

pub push_other : (hs : List ℕ) (x h : ℕ) → x ≢ h → is_among x (hs ++ h ∷ []) ≡ is_among x hs
push_other hs x h other = among_push hs x h ∙ ap (λ (b : Bool). is_among x hs || b) (ne_eqb h x (λ e. other (sym e))) ∙ or_false (is_among x hs)
  where
    or_false : (b : Bool) → (b || false) ≡ b
    or_false true = refl
    or_false false = refl

pub push_own : (hs : List ℕ) (h : ℕ) → is_among h (hs ++ h ∷ []) ≡ true
push_own hs h = among_push hs h h ∙ ap (λ (b : Bool). is_among h hs || b) (eq-eqb h h refl) ∙ or_true (is_among h hs)
  where
    or_true : (b : Bool) → (b || true) ≡ true
    or_true true = refl
    or_true false = refl

pub distinct_push : (hs : List ℕ) (h : ℕ) → is_distinct hs ≡ true → is_among h hs ≡ false → is_distinct (hs ++ h ∷ []) ≡ true
distinct_push [] h distinct absent = refl
distinct_push (x ∷ hs) h distinct absent =
    let both = and_parts (not (is_among x hs)) (is_distinct hs) distinct in
    let parts = or_parts (x == h) (is_among h hs) absent in
    let apart : x ≢ h = λ e. false≢true (sym parts.0 ∙ eq-eqb x h e) in
    and_from (not (is_among x (hs ++ h ∷ []))) (is_distinct (hs ++ h ∷ [])) (not_from_false (is_among x (hs ++ h ∷ [])) (push_other hs x h apart ∙ not-true (is_among x hs) both.0))
    (distinct_push hs h both.1 parts.1)
  where
    or_parts : (a b : Bool) → (a || b) ≡ false → (a ≡ false) × (b ≡ false)
    or_parts true b e = absurd (true≢false e)
    or_parts false b e = (refl, e)

-- the last home of those that are held
pub distinct_last : (hs : List ℕ) (h : ℕ) → is_distinct (hs ++ h ∷ []) ≡ true → (is_distinct hs ≡ true) × (is_among h hs ≡ false)
distinct_last [] h distinct = (refl, refl)
distinct_last (x ∷ hs) h distinct =
    let both = and_parts (not (is_among x (hs ++ h ∷ []))) (is_distinct (hs ++ h ∷ [])) distinct in
    let rest = distinct_last hs h both.1 in
    let absent = not-true (is_among x (hs ++ h ∷ [])) both.0 in
    let apart : x ≢ h = λ e. false≢true (sym absent ∙ ap (λ (n : ℕ). is_among n (hs ++ h ∷ [])) e ∙ push_own hs h) in (
      and_from (not (is_among x hs)) (is_distinct hs) (not_from_false (is_among x hs) (sym (push_other hs x h apart) ∙ absent)) rest.0,
      ap (λ (b : Bool). b || is_among h hs) (ne_eqb x h apart) ∙ rest.1,
    )

-- all but one home
pub others_none : (hs : List ℕ) (h : ℕ) → is_among h (all_but h hs) ≡ false
others_none [] h = refl
others_none (x ∷ hs) h = at (x == h) refl (others_none hs h)
  where
    at : (b : Bool) → (x == h) ≡ b → is_among h (all_but h hs) ≡ false → is_among h (cond (not b) (x ∷ all_but h hs) (all_but h hs)) ≡ false
    at true is rest = rest
    at false is rest = ap (λ (b : Bool). b || is_among h (all_but h hs)) is ∙ rest

pub others_same : (hs : List ℕ) (h x : ℕ) → x ≢ h → is_among x (all_but h hs) ≡ is_among x hs
others_same [] h x other = refl
others_same (y ∷ hs) h x other = at (y == h) refl (others_same hs h x other)
  where
    at : (b : Bool) → (y == h) ≡ b → is_among x (all_but h hs) ≡ is_among x hs → is_among x (cond (not b) (y ∷ all_but h hs) (all_but h hs)) ≡ ((y == x) || is_among x hs)
    at true is rest = rest ∙ ap (λ (b : Bool). b || is_among x hs) (sym (ne_eqb y x (λ e. other (sym e ∙ eqb-true y h is))))
    at false is rest = ap (λ (b : Bool). (y == x) || b) rest

pub others_distinct : (hs : List ℕ) (h : ℕ) → is_distinct hs ≡ true → is_distinct (all_but h hs) ≡ true
others_distinct [] h distinct = refl
others_distinct (x ∷ hs) h distinct =
    let both = and_parts (not (is_among x hs)) (is_distinct hs) distinct in
    at (x == h) refl (others_distinct hs h both.1) (not-true (is_among x hs) both.0)
  where
    at : (b : Bool) → (x == h) ≡ b → is_distinct (all_but h hs) ≡ true → is_among x hs ≡ false → is_distinct (cond (not b) (x ∷ all_but h hs) (all_but h hs)) ≡ true
    at true is rest absent = rest
    at false is rest absent =
        and_from (not (is_among x (all_but h hs))) (is_distinct (all_but h hs))
        (not_from_false (is_among x (all_but h hs)) (others_same hs h x (λ e. false≢true (sym is ∙ eq-eqb x h e)) ∙ absent)) rest

-- where a home isn't among them, all are others
pub others_all : (hs : List ℕ) (h : ℕ) → is_among h hs ≡ false → all_but h hs ≡ hs
others_all [] h absent = refl
others_all (x ∷ hs) h absent = at (x == h) absent (others_all hs h)
  where
    at : (b : Bool) → (b || is_among h hs) ≡ false → (is_among h hs ≡ false → all_but h hs ≡ hs) → cond (not b) (x ∷ all_but h hs) (all_but h hs) ≡ x ∷ hs
    at true is rest = absurd (true≢false is)
    at false is rest = ap (λ (l : List ℕ). x ∷ l) (rest is)

-- a list with one more is longer by one
pub length-push : (hs : List ℕ) (h : ℕ) → length (hs ++ h ∷ []) ≡ length hs + 1
length-push [] h = refl
length-push (x ∷ xs) h = (let rest = length-push xs h in omega (arith, rest))

-- all but one are no more
pub others_fewer : (hs : List ℕ) (h : ℕ) → length (all_but h hs) ≤ length hs
others_fewer [] h = omega arith
others_fewer (x ∷ xs) h = at (x == h) (others_fewer xs h)
  where
    at : (b : Bool) → length (all_but h xs) ≤ length xs → length (cond (not b) (x ∷ all_but h xs) (all_but h xs)) ≤ suc (length xs)
    at true rest = omega (arith, rest)
    at false rest = omega (arith, rest)
