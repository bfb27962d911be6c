-- What shows at one terminal, and at no other.
use Rattle.std.proofs.Common.{◌≡◌, ◌≢◌, ℕ, false, cond, List, [], ◌∷◌, All, inl, inr, refl, sym, ◌∙◌, ap}
use Rattle.std.specs.Prelude.{◌==◌}
use Rattle.std.proofs.lemmas.Bool.{cases_Bool, eq-eqb, eqb-true}
use Rattle.std.proofs.lemmas.List.Elements.{All-cons, All-head, All-nil, All-tail}
use Rattle.machine_names.specs.declared.names.Tty.{Tty}
use Rattle.script_texts.specs.declared.event.Item.{Item}
use Rattle.script_texts.specs.declared.event.Item.TheVariants.{Char}
use Rattle.plain_model.specs.Unit.{printed}
use Rattle.plain_alone.specs.Parts.{is_shown, shown}

-- an item shows at a terminal, and at no other
abbrev pub IsOnlyAt : Tty → Item → Type 0
IsOnlyAt u item = (t : Tty) → is_shown t item ≡ (u.0 == t.0)

pub not_same : (t u : Tty) → t.0 ≢ u.0 → (u.0 == t.0) ≡ false
not_same t u other = elim (cases_Bool (u.0 == t.0)) [ inl e ↦ absurd (other (sym (eqb-true u.0 t.0 e))) | inr e ↦ e ]

module _ (u : Tty) where
  -- of such items all show there
  pub all_shown : (items : List Item) → All (IsOnlyAt u) items → shown u items ≡ items
  all_shown [] all = refl
  all_shown (i ∷ is) all =
      ap (λ b. cond b (i ∷ shown u is) (shown u is)) (All-head (IsOnlyAt u) i is all u ∙ eq-eqb u.0 u.0 refl)
      ∙ ap (λ (l : List Item). i ∷ l) (all_shown is (All-tail (IsOnlyAt u) i is all))

  -- and none elsewhere
  pub none_shown : (t : Tty) → t.0 ≢ u.0 → (items : List Item) → All (IsOnlyAt u) items → shown t items ≡ []
  none_shown t other [] all = refl
  none_shown t other (i ∷ is) all =
      ap (λ b. cond b (i ∷ shown t is) (shown t is)) (All-head (IsOnlyAt u) i is all t ∙ not_same t u other) ∙ none_shown t other is (All-tail (IsOnlyAt u) i is all)

  -- what a terminal prints
  pub printed_at : (cs : List ℕ) → All (IsOnlyAt u) (printed u cs)
  printed_at [] = All-nil (IsOnlyAt u)
  printed_at (c ∷ cs) = All-cons (IsOnlyAt u) (Char u c) (printed u cs) (λ t. refl) (printed_at cs)
