-- Two programs one behind the other.
use Rattle.std.proofs.Common.{◌≡◌, ℕ, List, [], ◌∷◌, ◌++◌, Bool, true, false, Option, None, Some, refl, sym, ◌∙◌, ap, append_assoc}
use Rattle.std.specs.Prelude.{if◌then◌else◌}
use Rattle.std.specs.Option.{is_some, unwrap_or}
use Rattle.word36.specs.Words.{joined}
use Rattle.asm_core.specs.declared.line.Value.{Value}
use Rattle.asm_core.specs.declared.line.Value.TheVariants.{Number as Half, Named}
use Rattle.asm_core.specs.declared.line.Statement.{Statement}
use Rattle.asm_core.specs.declared.line.Statement.TheVariants.{Nothing, Loc, Number, Halves, Asciz}
use Rattle.asm_core.specs.declared.line.Line.{Line}
use Rattle.asm_core.specs.Places.{assembled, assembled_by, behind, first_undefined, half_by, has_label, labelled_from, location, location_from, names_in, placed_from, used, uses, value_in, words_by}
use Rattle.asm_core.specs.Words.{AreApart, BeginsAnew, IsClosed}
use Rattle.asm_core.proofs.Assembling.{assembled_append}
use Rattle.asm_core.proofs.Surveying.{either, labelled_append, location_append}

-- of two parts, both have no undefined symbol where the whole has none
none_by : (b : Bool) (s : List ℕ) (o p q : Option (List ℕ)) → (o ≡ None → (p ≡ None) × (q ≡ None)) → (if b then o else Some s) ≡ None → ((if b then p else Some s) ≡ None) × (q ≡ None)
none_by true s o p q h e = h e
none_by false s o p q h e = absurd (cc e)

none_parts : (symbols : List ℕ → Option ℕ) (xs ys : List (List ℕ)) → first_undefined symbols (xs ++ ys) ≡ None → (first_undefined symbols xs ≡ None) × (first_undefined symbols ys ≡ None)
unfolding first_undefined
none_parts symbols [] ys e = (refl, e)
none_parts symbols (s ∷ ss) ys e =
    none_by (is_some (symbols s)) s (first_undefined symbols (ss ++ ys)) (first_undefined symbols ss) (first_undefined symbols ys) (none_parts symbols ss ys) e

-- symbols that have at least the values of others
module _ (more symbols : List ℕ → Option ℕ) (has : (s : List ℕ) (n : ℕ) → symbols s ≡ Some n → more s ≡ Some n) where
  one_by : (s : List ℕ) (o : Option ℕ) → symbols s ≡ o → (if is_some o then None else Some s) ≡ None → unwrap_or (more s) 0 ≡ unwrap_or o 0
  one_by s None is e = absurd (cc e)
  one_by s (Some n) is e = ap (λ (o : Option ℕ). unwrap_or o 0) (has s n is)

  half_same : (v : Value) → first_undefined symbols (names_in v) ≡ None → half_by more v ≡ half_by symbols v
  unfolding first_undefined
  half_same (Half n) e = refl
  half_same (Named s) e = one_by s (symbols s) refl e

  words_same : (s : Statement) → first_undefined symbols (used s) ≡ None → words_by more s ≡ words_by symbols s
  words_same Nothing e = refl
  words_same (Loc n) e = refl
  words_same (Number w) e = refl
  words_same (Halves l r) e =
      let parts = none_parts symbols (names_in l) (names_in r) e in
      ap (λ n. joined n (half_by more r) ∷ []) (half_same l parts.0) ∙ ap (λ n. joined (half_by symbols l) n ∷ []) (half_same r parts.1)
  words_same (Asciz text) e = refl

  pub assembled_same : (before xs : List Line) → first_undefined symbols (uses xs) ≡ None → assembled_by more before xs ≡ assembled_by symbols before xs
  unfolding assembled_by uses
  assembled_same before [] e = refl
  assembled_same before (x ∷ xs) e =
      let parts = none_parts symbols (used x.statement) (uses xs) e in
      ap (λ ws. placed_from (location before) ws ++ assembled_by more (before ++ x ∷ []) xs) (words_same x.statement parts.0)
      ∙ ap (λ l. placed_from (location before) (words_by symbols x.statement) ++ l) (assembled_same (before ++ x ∷ []) xs parts.1)

-- a program behind another that begins anew
module _ (xs : List Line) (n : ℕ) (x : Line) (no_label : x.label ≡ None) (place : x.statement ≡ Loc n) where
  location_same : (ws : List Line) → location (xs ++ x ∷ ws) ≡ location (x ∷ ws)
  unfolding location
  location_same ws =
      let here : (l : ℕ) → location_from l (x ∷ ws) ≡ location_from n ws = λ l. ap (λ s. location_from (behind l s) ws) place in
      location_append 0 xs (x ∷ ws) ∙ (here (location_from 0 xs) ∙ sym (here 0))

  shifted : (symbols : List ℕ → Option ℕ) (ws ys : List Line) → assembled_by symbols (xs ++ x ∷ ws) ys ≡ assembled_by symbols (x ∷ ws) ys
  unfolding assembled_by
  shifted symbols ws [] = refl
  shifted symbols ws (y ∷ ys) =
      ap (λ l. placed_from l (words_by symbols y.statement) ++ assembled_by symbols ((xs ++ x ∷ ws) ++ y ∷ []) ys) (location_same ws)
      ∙ ap (λ l. placed_from (location (x ∷ ws)) (words_by symbols y.statement) ++ l)
      (ap (λ b. assembled_by symbols b ys) (append_assoc xs (x ∷ ws) (y ∷ [])) ∙ shifted symbols (ws ++ y ∷ []) ys)

  nothing_placed : (symbols : List ℕ → Option ℕ) (l : ℕ) → placed_from l (words_by symbols x.statement) ≡ []
  unfolding placed_from
  nothing_placed symbols l = ap (λ s. placed_from l (words_by symbols s)) place

  anew : (symbols : List ℕ → Option ℕ) (ys : List Line) → assembled_by symbols xs (x ∷ ys) ≡ assembled_by symbols [] (x ∷ ys)
  unfolding assembled_by
  anew symbols ys =
      ap (λ l. l ++ assembled_by symbols (xs ++ x ∷ []) ys) (nothing_placed symbols (location xs))
      ∙ (shifted symbols [] ys ∙ ap (λ l. l ++ assembled_by symbols (x ∷ []) ys) (sym (nothing_placed symbols (location []))))

  labelled_anew : (l : ℕ) (ys : List Line) (s : List ℕ) → labelled_from l (x ∷ ys) s ≡ labelled_from n ys s
  labelled_anew l ys s =
      ap (λ o. if has_label o s then Some l else labelled_from (behind l x.statement) ys s) no_label ∙ ap (λ t. labelled_from (behind l t) ys s) place

  pub value_anew : (ys : List Line) (s : List ℕ) → value_in (xs ++ x ∷ ys) s ≡ either (value_in xs s) (value_in (x ∷ ys) s)
  unfolding value_in
  value_anew ys s =
      labelled_append 0 xs (x ∷ ys) s
      ∙ ap (either (labelled_from 0 xs s)) (labelled_anew (location_from 0 xs) ys s ∙ sym (labelled_anew 0 ys s))

-- a program and one that begins anew, with other symbols
pub assembled_joined : (xs ys : List Line) → BeginsAnew ys → AreApart xs ys → IsClosed xs → IsClosed ys → assembled (xs ++ ys) ≡ assembled xs ++ assembled ys
unfolding assembled
assembled_joined xs ys b apart closed_x closed_y =
    let x = b.line in
    let whole = value_in (xs ++ ys) in
    let value : (s : List ℕ) → whole s ≡ either (value_in xs s) (value_in ys s) =
    λ s. ap (λ l. value_in (xs ++ l) s) b.whole ∙ (value_anew xs b.start x b.no_label b.place b.others s ∙ ap (λ l. either (value_in xs s) (value_in l s)) (sym b.whole)) in
    let of_first : (s : List ℕ) (n : ℕ) → value_in xs s ≡ Some n → whole s ≡ Some n = λ s n e. value s ∙ ap (λ o. either o (value_in ys s)) e in
    let of_second : (s : List ℕ) (n : ℕ) → value_in ys s ≡ Some n → whole s ≡ Some n = λ s n e. value s ∙ (ap (λ o. either o (value_in ys s)) (apart s n e) ∙ e) in
    let behind_first : assembled_by whole xs ys ≡ assembled_by whole [] ys =
    ap (assembled_by whole xs) b.whole ∙ (anew xs b.start x b.no_label b.place whole b.others ∙ ap (assembled_by whole []) (sym b.whole)) in
    assembled_append whole [] xs ys
    ∙ (ap (λ l. l ++ assembled_by whole xs ys) (assembled_same whole (value_in xs) of_first [] xs closed_x)
    ∙ (ap (λ l. assembled_by (value_in xs) [] xs ++ l) (behind_first ∙ assembled_same whole (value_in ys) of_second [] ys closed_y)))
