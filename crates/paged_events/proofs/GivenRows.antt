-- Steps, given behind what the last of them shows.
use Rattle.std.proofs.Common.{◌≡◌, ℕ, ◌+◌, ◌-◌, ◌≤◌, List, [], ◌∷◌, ◌++◌, replicate, ◌∙◌, ap, subst, arith}
use Rattle.std.specs.Prelude.{Result, Ok, Err, OnErr, OnOk}
use Rattle.std.specs.Result.{IsErr}
use Rattle.std.proofs.lemmas.List.{append-nil, replicate-append-replicate}
use Rattle.script_texts.specs.declared.event.Item.{Item}
use Rattle.script_texts.specs.declared.event.Step.{Step}
use Rattle.script_texts.specs.Taker.{GoesOn, IsCut}
use Rattle.script_texts.proofs.Takers.{cut_behind, cut_longer, goes_on_append}

-- a fact that holds, holds of an error, and what failed is no success
pub on_err : {X E P : Type 0} (r : Result X E) → P → OnErr r P
on_err (Ok x) p = tt
on_err (Err e) p = p

pub no_ok : {X E : Type 0} (P : Type 0) (r : Result X E) → IsErr r → OnOk r P
no_ok P (Ok x) fails = absurd (cc fails)
no_ok P (Err e) fails = tt

-- so many equal steps, and the last of them
last_of : (count : ℕ) (step : Step) → 1 ≤ count → replicate (count - 1) step ++ step ∷ [] ≡ replicate count step
last_of count step some = let all : count - 1 + 1 ≡ count = omega (arith, some) in replicate-append-replicate (count - 1) 1 step ∙ ap (λ n. replicate n step) all

module _ {T : Type 0} (stands cut : T → T → List Item → List Step → Type 0) (step : Step) (count : ℕ) (some : 1 ≤ count) (items : List Item) where
  abbrev first : List Step
  first = replicate (count - 1) step

  whole : (first ++ []) ++ step ∷ [] ≡ replicate count step
  whole = ap (λ l. l ++ step ∷ []) (append-nil first) ∙ last_of count step some

  pub row_ok : (a b c e : T) → GoesOn stands a b [] first → GoesOn stands b c items [] → GoesOn stands c e [] (step ∷ []) → GoesOn stands a e items (replicate count step)
  row_ok a b c e f g h =
      subst (GoesOn stands a e items) whole
      (subst (λ is. GoesOn stands a e is ((first ++ []) ++ step ∷ [])) (append-nil items)
      (goes_on_append stands a c e items [] (first ++ []) (step ∷ []) (goes_on_append stands a b c [] items first [] f g) h))

  pub cut_in_steps : (a b : T) → IsCut stands cut a b [] first → IsCut stands cut a b items (replicate count step)
  cut_in_steps a b f = subst (IsCut stands cut a b items) (last_of count step some) (cut_longer stands cut a b [] items first (step ∷ []) f)

  pub cut_in_items : (a b c : T) → GoesOn stands a b [] first → IsCut stands cut b c items [] → IsCut stands cut a c items (replicate count step)
  cut_in_items a b c f g =
      subst (IsCut stands cut a c items) whole
      (subst (λ is. IsCut stands cut a c is ((first ++ []) ++ step ∷ [])) (append-nil items)
      (cut_longer stands cut a c items [] (first ++ []) (step ∷ []) (cut_behind stands cut a b c [] items first [] f g)))

  pub cut_in_last : (a b c e : T) → GoesOn stands a b [] first → GoesOn stands b c items [] → IsCut stands cut c e [] (step ∷ []) → IsCut stands cut a e items (replicate count step)
  cut_in_last a b c e f g h =
      subst (IsCut stands cut a e items) whole
      (subst (λ is. IsCut stands cut a e is ((first ++ []) ++ step ∷ [])) (append-nil items)
      (cut_behind stands cut a c e items [] (first ++ []) (step ∷ []) (goes_on_append stands a b c [] items first [] f g) h))
