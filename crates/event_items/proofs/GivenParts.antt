-- What is given in two parts, one behind the other.
use Rattle.std.proofs.Common.{◌≡◌, ℕ, List, [], ◌++◌, subst}
use Rattle.std.specs.Prelude.{Result, Ok, Err, OnOk}
use Rattle.std.specs.Result.{IsErr}
use Rattle.script_texts.specs.declared.event.Item.{Item}
use Rattle.script_texts.specs.declared.event.Step.{Step}
use Rattle.page_contracts.specs.DrumWords.{DrumWords}
use Rattle.event_items.specs.Giving.{Takes, TookItems}
use Rattle.event_items.proofs.Given.{taker_failed, taker_then, takes_part, takes_then}

-- what failed is no success
pub no_ok : {X E : Type 0} (P : Type 0) (r : Result X E) → IsErr r → OnOk r P
no_ok P (Ok x) fails = absurd (cc fails)
no_ok P (Err e) fails = tt

module _ {T E : Type 0} (fault_count : T → ℕ) (onward : T → T → Type 0) (stands cut : T → T → List Item → List Step → Type 0) where
  -- equal items
  pub took_same : {X : Type 0} (a b : T) (r : Result X E) (items others : DrumWords → List Item) → ((d : DrumWords) → items d ≡ others d) → TookItems fault_count onward stands cut a b r items
      → TookItems fault_count onward stands cut a b r others
  took_same a b r items others same took = record { taker = took.taker; given = λ d. subst (λ is. Takes stands cut a b r is []) (same d) (took.given d) }

  -- the first part failed
  pub part_failed : {X Y : Type 0} (a b : T) (e : E) (r : Result X E) (items more : DrumWords → List Item) → IsErr r → TookItems {X = Y} {E = E} fault_count onward stands cut a b (Err e) items
      → TookItems fault_count onward stands cut a b r (λ d. items d ++ more d)
  part_failed a b e r items more fails failed = record {
    taker = taker_failed fault_count onward a b e r failed.taker;
    given = λ d. takes_part stands cut a b r (items d) (more d) [] [] fails (failed.given d).err;
  }

  -- the second behind the first
  pub part_then : {X Y F : Type 0} (a b c : T) (y : Y) (r : Result X E) (items more : DrumWords → List Item) → TookItems {X = Y} {E = F} fault_count onward stands cut a b (Ok y) items → TookItems fault_count onward stands cut b c r more
      → TookItems fault_count onward stands cut a c r (λ d. items d ++ more d)
  part_then a b c y r items more first second = record {
    taker = taker_then fault_count onward a b c (Ok y) r first.taker second.taker;
    given = λ d. takes_then stands cut a b c r (items d) (more d) [] [] (first.given d).ok (second.given d);
  }
