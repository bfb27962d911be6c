-- The words of statements, and the symbols in them.
use Rattle.std.proofs.Common.{◌≡◌, ℕ, suc, ◌+◌, ◌-◌, ◌/◌, ◌<◌, ◌≤◌, List, [], ◌∷◌, ◌++◌, length, drop, Bool, true, false, Option, None, Some, Result, Ok, Err, refl, sym, ◌∙◌, ap, subst, arith, append_assoc}
use Rattle.std.specs.Prelude.{if◌then◌else◌, OnOk}
use Rattle.std.specs.Option.{is_some, unwrap_or}
use Rattle.std.proofs.lemmas.List.{append-nil}
use Rattle.asm_core.specs.declared.line.Value.{Value}
use Rattle.asm_core.specs.declared.line.Value.TheVariants.{Number as Half, Named}
use Rattle.asm_core.specs.declared.line.Placed.{Placed}
use Rattle.asm_core.specs.declared.line.AsmFault.{AsmFault}
use Rattle.asm_core.specs.Passes.{IsUndefined}
use Rattle.asm_core.specs.Places.{first_undefined, five, half_by, names_in, packed, placed_from, used, words_by}
use Rattle.word36.specs.Words.{joined}
use Rattle.asm_core.specs.declared.line.Statement.{Statement}
use Rattle.asm_core.specs.declared.line.Statement.TheVariants.{Nothing, Loc, Number, Halves, Asciz}

pub on_ok : {A E : Type 0} {P Q : Type 0} (r : Result A E) → (P → Q) → OnOk r P → OnOk r Q
on_ok (Ok x) f h = f h
on_ok (Err e) f h = tt

module _ (symbols : List ℕ → Option ℕ) where
  next_undefined : (b : Bool) (s : List ℕ) (o p : Option (List ℕ)) → o ≡ p → (if b then o else Some s) ≡ (if b then p else Some s)
  next_undefined b s o p e = ap (λ q. if b then q else Some s) e

  first_by : (b : Bool) (s t : List ℕ) (o p : Option (List ℕ)) → (o ≡ Some t → p ≡ Some t) → (if b then o else Some s) ≡ Some t → (if b then p else Some s) ≡ Some t
  first_by true s t o p h e = h e
  first_by false s t o p h e = e

  -- the first of two parts that has an undefined symbol tells it
  pub undefined_first : (xs ys : List (List ℕ)) (t : List ℕ) → first_undefined symbols xs ≡ Some t → first_undefined symbols (xs ++ ys) ≡ Some t
  unfolding first_undefined
  undefined_first [] ys t e = absurd (cc e)
  undefined_first (s ∷ ss) ys t e = first_by (is_some (symbols s)) s t (first_undefined symbols ss) (first_undefined symbols (ss ++ ys)) (undefined_first ss ys t) e

  second_by : (b : Bool) (s : List ℕ) (o p q : Option (List ℕ)) → (o ≡ None → p ≡ q) → (if b then o else Some s) ≡ None → (if b then p else Some s) ≡ q
  second_by true s o p q h e = h e
  second_by false s o p q h e = absurd (cc e)

  pub undefined_second : (xs ys : List (List ℕ)) → first_undefined symbols xs ≡ None → first_undefined symbols (xs ++ ys) ≡ first_undefined symbols ys
  unfolding first_undefined
  undefined_second [] ys e = refl
  undefined_second (s ∷ ss) ys e = second_by (is_some (symbols s)) s (first_undefined symbols ss) (first_undefined symbols (ss ++ ys)) (first_undefined symbols ys) (undefined_second ss ys) e

  -- what a value is
  pub number_half : (v : Value) (n : ℕ) → v ≡ Half n → (first_undefined symbols (names_in v) ≡ None) × (n ≡ half_by symbols v)
  unfolding first_undefined
  number_half v n is = subst (λ w. (first_undefined symbols (names_in w) ≡ None) × (n ≡ half_by symbols w)) (sym is) (refl, refl)

  pub named_half : (v : Value) (s : List ℕ) (n : ℕ) → v ≡ Named s → Some n ≡ symbols s → (first_undefined symbols (names_in v) ≡ None) × (n ≡ half_by symbols v)
  unfolding first_undefined
  named_half v s n is e =
      subst (λ w. (first_undefined symbols (names_in w) ≡ None) × (n ≡ half_by symbols w)) (sym is)
      (ap (λ (o : Option ℕ). if is_some o then None else Some s) (sym e), ap (λ (o : Option ℕ). unwrap_or o 0) e)

  pub unnamed_half : (v : Value) (s : List ℕ) → v ≡ Named s → None ≡ symbols s → first_undefined symbols (names_in v) ≡ Some s
  unfolding first_undefined
  unnamed_half v s is e =
      subst (λ w. first_undefined symbols (names_in w) ≡ Some s) (sym is) (ap (λ (o : Option ℕ). if is_some o then None else Some s) (sym e))

  pub left_fault : (xs ys : List (List ℕ)) (fault : AsmFault) → IsUndefined symbols xs fault → IsUndefined symbols (xs ++ ys) fault
  left_fault xs ys fault h = (h.0, h.1, undefined_first xs ys h.0 h.2)

  pub right_fault : (xs ys : List (List ℕ)) (fault : AsmFault) → first_undefined symbols xs ≡ None → IsUndefined symbols ys fault → IsUndefined symbols (xs ++ ys) fault
  right_fault xs ys fault none h = (h.0, h.1, undefined_second xs ys none ∙ h.2)

  pub both_defined : (xs ys : List (List ℕ)) → first_undefined symbols xs ≡ None → first_undefined symbols ys ≡ None → first_undefined symbols (xs ++ ys) ≡ None
  both_defined xs ys hx hy = undefined_second xs ys hx ∙ hy

-- the next word of a text
pub text_step : (items : List Placed) (a n place : ℕ) (left : List ℕ) → place < n
    → items ++ placed_from (a + place) (packed (n - place) left) ≡ (items ++ (record { address = a + place; word = five left }) ∷ []) ++ placed_from (a + (place + 1)) (packed (n - (place + 1)) (drop 5 left))
unfolding placed_from packed
text_step items a n place left h =
    let more : n - place ≡ suc (n - (place + 1)) = omega arith in
    let next : a + place + 1 ≡ a + (place + 1) = omega arith in
    let first : Placed = record { address = a + place; word = five left } in
    ap (λ k. items ++ placed_from (a + place) (packed k left)) more
    ∙ (ap (λ b. items ++ first ∷ placed_from b (packed (n - (place + 1)) (drop 5 left))) next
    ∙ sym (append_assoc items (first ∷ []) (placed_from (a + (place + 1)) (packed (n - (place + 1)) (drop 5 left)))))

pub text_start : (items : List Placed) (a n : ℕ) (text : List ℕ) → items ++ placed_from (a + 0) (packed (n - 0) text) ≡ items ++ placed_from a (packed n text)
text_start items a n text =
    let same : a + 0 ≡ a = omega arith in
    let all : n - 0 ≡ n = omega arith in
    ap (λ b. items ++ placed_from b (packed (n - 0) text)) same ∙ ap (λ k. items ++ placed_from a (packed k text)) all

pub text_end : (items : List Placed) (a n place : ℕ) (left : List ℕ) → n ≤ place → items ++ placed_from (a + place) (packed (n - place) left) ≡ items
unfolding placed_from packed
text_end items a n place left h =
    let none : n - place ≡ 0 = omega arith in
    ap (λ k. items ++ placed_from (a + place) (packed k left)) none ∙ append-nil items

-- one word, and none
pub placed_one : (a w : ℕ) → placed_from a (w ∷ []) ≡ (record { address = a; word = w }) ∷ []
unfolding placed_from
placed_one a w = refl

pub placed_none : (a : ℕ) → placed_from a [] ≡ []
unfolding placed_from
placed_none a = refl

-- the words of a statement were put behind a program
module _ (symbols : List ℕ → Option ℕ) (l : ℕ) (old : List Placed) where
  abbrev pub Puts : List Placed → Statement → Type 0
  Puts new s = (first_undefined symbols (used s) ≡ None) × (new ≡ old ++ placed_from l (words_by symbols s))

  pub puts_nothing : (s : Statement) → s ≡ Nothing → Puts old s
  unfolding first_undefined placed_from
  puts_nothing s is = subst (Puts old) (sym is) (refl, sym (append-nil old))

  pub puts_no_word : (s : Statement) (n : ℕ) → s ≡ Loc n → Puts old s
  unfolding first_undefined placed_from
  puts_no_word s n is = subst (Puts old) (sym is) (refl, sym (append-nil old))

  module _ (new : List Placed) (s : Statement) where
    pub puts_number : (w : ℕ) → s ≡ Number w → new ≡ old ++ (record { address = l; word = w }) ∷ [] → Puts new s
    unfolding first_undefined placed_from
    puts_number w is h = subst (Puts new) (sym is) (refl, h)

    pub puts_halves : (a b : Value) → s ≡ Halves a b
        → (first_undefined symbols (names_in a ++ names_in b) ≡ None) × (new ≡ old ++ (record { address = l; word = joined (half_by symbols a) (half_by symbols b) }) ∷ [])
        → Puts new s
    unfolding first_undefined placed_from
    puts_halves a b is h = subst (Puts new) (sym is) h

    pub puts_text : (text read : List ℕ) → s ≡ Asciz text → read ≡ text → new ≡ old ++ placed_from l (packed (length read / 5 + 1) read) → Puts new s
    unfolding first_undefined placed_from
    puts_text text read is same h = subst (Puts new) (sym is) (refl, h ∙ ap (λ t. old ++ placed_from l (packed (length t / 5 + 1) t)) same)
