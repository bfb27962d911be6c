use Rattle.std.proofs.Common.{◌≡◌, ℕ, [], ◌∷◌, ◌++◌, Bool, true, false, cond, not, decimal, None, Some, sym}
use Rattle.std.specs.Prelude.{◌==◌, ◌&&◌}
use Rattle.std.proofs.lemmas.List.{append-nil}
use Rattle.machine_names.specs.declared.names.Tty.{Tty}
use Rattle.script_texts.specs.declared.event.Item.TheVariants.{Char}
use Rattle.script_texts.specs.Texts.{escaped}
use Rattle.texts.specs.OpenLine.{Open, goes_on, item_text}

-- a character that goes on in its line is all that is written
goes_alone : (before : Open) (t : Tty) (c : ℕ) → goes_on before t.0 c ≡ true → escaped c ≡ item_text before (Char t c)
goes_alone None t c never = absurd (cc never)
goes_alone (Some s) t c goes = by (s == t.0) (c == 10) goes
  where
    by : (same ends : Bool) → (same && not ends) ≡ true → escaped c ≡ cond same [] (10 ∷ 84 ∷ (decimal t.0 ++ 32 ∷ [])) ++ (escaped c ++ cond ends (10 ∷ []) [])
    by true false is = sym (append-nil (escaped c))
    by true true never = absurd (cc never)
    by false ends never = absurd (cc never)
