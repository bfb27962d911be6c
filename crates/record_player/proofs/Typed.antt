-- The characters of a text that is typed, one behind the other.
use Rattle.std.proofs.Common.{◌≡◌, ℕ, suc, ◌+◌, ◌<◌, List, [], ◌∷◌, ◌++◌, length, take, drop, get_or, take-append-drop, append_assoc, refl, sym, ◌∙◌, ap, arith}
use Rattle.std.proofs.lemmas.List.{append-nil, drop_more}
use Rattle.std.proofs.Math.Seq.{take-suc}
use Rattle.machine_names.specs.declared.names.Tty.{Tty}
use Rattle.script_texts.specs.declared.event.Item.{Item}
use Rattle.plain_model.specs.State.{PlainState}
use Rattle.plain_model.specs.TypeEvents.{typed_all, typed_at}
use Rattle.plain_model.specs.Unit.{Effect}

-- an effect behind another
abbrev pub behind : Effect → (PlainState → Effect) → Effect
behind e next = let f = next e.state in record f { items = e.items ++ f.items }

-- nothing is typed
pub typed_none : (s : PlainState) (t : Tty) → ◌≡◌ {A = Effect} (typed_all s t []) (record { state = s; items = [] })
unfolding typed_all
typed_none s t = refl

typed_first : (s : PlainState) (t : Tty) (c : ℕ) (cs : List ℕ) → typed_all s t (c ∷ cs) ≡ behind (typed_at s t c) (λ x. typed_all x t cs)
unfolding typed_all
typed_first s t c cs = refl

behind_twice : (e : Effect) (f g : PlainState → Effect) → behind e (λ x. behind (f x) g) ≡ behind (behind e f) g
behind_twice e f g = let then = f e.state in let last = g then.state in ap (λ (is : List Item). record last { items = is }) (sym (append_assoc e.items then.items last.items))

-- a text in two parts
typed_append : (s : PlainState) (t : Tty) (xs ys : List ℕ) → typed_all s t (xs ++ ys) ≡ behind (typed_all s t xs) (λ x. typed_all x t ys)
typed_append s t [] ys = ap (λ e. behind e (λ x. typed_all x t ys)) (sym (typed_none s t))
typed_append s t (c ∷ cs) ys =
    typed_first s t c (cs ++ ys)
    ∙ ap (λ (e : Effect). let first = typed_at s t c in record e { items = first.items ++ e.items }) (typed_append (typed_at s t c).state t cs ys)
    ∙ behind_twice (typed_at s t c) (λ x. typed_all x t cs) (λ x. typed_all x t ys)
    ∙ ap (λ e. behind e (λ x. typed_all x t ys)) (sym (typed_first s t c cs))

typed_alone : (s : PlainState) (t : Tty) (c : ℕ) → typed_all s t (c ∷ []) ≡ typed_at s t c
typed_alone s t c =
    let one = typed_at s t c in
    typed_first s t c [] ∙ ap (λ (e : Effect). record e { items = one.items ++ e.items }) (typed_none one.state t) ∙ ap (λ (is : List Item). record one { items = is }) (append-nil one.items)

module _ (s : PlainState) (t : Tty) (text : List ℕ) (i : ℕ) (low : i < length text) where
  abbrev c : ℕ
  c = get_or text i 0

  -- the characters up to one, and that one
  pub typed_more : typed_all s t (take (i + 1) text) ≡ behind (typed_all s t (take i text)) (λ x. typed_at x t c)
  typed_more =
      let next : suc i ≡ i + 1 = omega arith in
      let before = typed_all s t (take i text) in
      ap (typed_all s t) (sym (ap (λ k. take k text) next) ∙ take-suc text i _ low)
      ∙ typed_append s t (take i text) (c ∷ [])
      ∙ ap (λ (e : Effect). record e { items = before.items ++ e.items }) (typed_alone before.state t c)

  -- the characters up to one, that one, and those behind it
  pub typed_split : typed_all s t text ≡ behind (typed_all s t (take i text)) (λ x. behind (typed_at x t c) (λ y. typed_all y t (drop (i + 1) text)))
  typed_split =
      let before = typed_all s t (take i text) in
      ap (typed_all s t) (sym (take-append-drop i text) ∙ ap (λ l. take i text ++ l) (drop_more text i 0 low))
      ∙ typed_append s t (take i text) (c ∷ drop (i + 1) text)
      ∙ ap (λ (e : Effect). record e { items = before.items ++ e.items }) (typed_first before.state t c (drop (i + 1) text))

  -- what one showed, behind what those before it showed
  module _ (mid after : PlainState) (shown : List Item) (so_far : mid ≡ (typed_all s t (take i text)).state) (state : after ≡ (typed_at mid t c).state) (items : shown ≡ (typed_at mid t c).items) where
    abbrev before : Effect
    before = typed_all s t (take i text)

    its_items : shown ≡ (typed_at before.state t c).items
    its_items = items ∙ ap (λ x. (typed_at x t c).items) so_far

    pub more_state : after ≡ (typed_all s t (take (i + 1) text)).state
    more_state = state ∙ ap (λ x. (typed_at x t c).state) so_far ∙ sym (ap (λ (e : Effect). e.state) typed_more)

    pub more_items : before.items ++ shown ≡ (typed_all s t (take (i + 1) text)).items
    more_items = ap (λ is. before.items ++ is) its_items ∙ sym (ap (λ (e : Effect). e.items) typed_more)

    -- what those behind it show
    abbrev pub rest : List Item
    rest = (typed_all (typed_at before.state t c).state t (drop (i + 1) text)).items

    pub split_items : (typed_all s t text).items ≡ before.items ++ (shown ++ rest)
    split_items = ap (λ (e : Effect). e.items) typed_split ∙ ap (λ is. before.items ++ (is ++ rest)) (sym its_items)
