-- Items and steps that are given in pieces.
use Rattle.std.proofs.Common.{◌≡◌, ℕ, ◌<◌, ◌≤◌, ◌+◌, ◌-◌, replicate, List, [], ◌∷◌, ◌++◌, length, take, drop, get_or, sym, ◌∙◌, ap, subst, arith, take-append-drop}
use Rattle.std.specs.Prelude.{Result, Ok, Err, OnErr, codes}
use Rattle.std.specs.Result.{IsErr}
use Rattle.std.proofs.lemmas.List.{map-append, drop_more, replicate-append-replicate}
use Rattle.std.proofs.lemmas.Result.{on_ok_weaker, on_err_weaker}
use Rattle.machine_names.specs.declared.character.TheConstants.{CARRIAGE_RETURN, LINE_FEED, PROMPT}
use Rattle.machine_names.specs.declared.names.Tty.{Tty}
use Rattle.script_texts.specs.declared.event.Item.{Item}
use Rattle.script_texts.specs.declared.event.Item.TheVariants.{Char}
use Rattle.script_texts.specs.declared.event.Step.{Step}
use Rattle.script_texts.specs.Taker.{GoesOn, IsCut}
use Rattle.page_contracts.specs.DrumWords.{DrumWords}
use Rattle.plain_model.specs.Unit.{printed}
use Rattle.script_texts.proofs.Takers.{onward_nil, onward_then, goes_on_append, goes_on_nil, cut_behind, cut_longer}
use Rattle.event_items.specs.Giving.{StaysTaker, Takes, TookAll, TookOver}

abbrev pub forced_start : List ℕ
forced_start = CARRIAGE_RETURN ∷ LINE_FEED ∷ codes "?FORCED "

abbrev pub forced_end : List ℕ
forced_end = CARRIAGE_RETURN ∷ LINE_FEED ∷ PROMPT ∷ []

pub printed_append : (t : Tty) (xs ys : List ℕ) → printed t (xs ++ ys) ≡ printed t xs ++ printed t ys
printed_append t xs ys = map-append (Char t) xs ys

pub printed_split : (t : Tty) (text : List ℕ) (i : ℕ) → i < length text → printed t text ≡ printed t (take i text) ++ (Char t (get_or text i 0) ∷ printed t (drop (i + 1) text))
printed_split t text i h = ap (printed t) (sym (take-append-drop i text)) ∙ printed_append t (take i text) (drop i text) ∙ ap (λ l. printed t (take i text) ++ printed t l) (drop_more text i 0 h)

pub printed_three : (t : Tty) (xs ys zs : List ℕ) → printed t (xs ++ (ys ++ zs)) ≡ printed t xs ++ (printed t ys ++ printed t zs)
printed_three t xs ys zs = printed_append t xs (ys ++ zs) ∙ ap (λ l. printed t xs ++ l) (printed_append t ys zs)

-- so many equal steps, and the last of them
pub last_of : (count : ℕ) (step : Step) → 1 ≤ count → replicate (count - 1) step ++ step ∷ [] ≡ replicate count step
last_of count step some = let all : count - 1 + 1 ≡ count = omega (arith, some) in replicate-append-replicate (count - 1) 1 step ∙ ap (λ n. replicate n step) all

-- a fact that holds, holds of an error
pub on_err : {X E P : Type 0} (r : Result X E) → P → OnErr r P
on_err (Ok x) p = tt
on_err (Err e) p = p

-- a call of a taker behind another
module _ {T X E : Type 0} (fault_count : T → ℕ) (onward : T → T → Type 0) where
  pub taker_then : {Y F : Type 0} (a b c : T) (q : Result Y F) (r : Result X E) → StaysTaker fault_count onward a b q → StaysTaker fault_count onward b c r → StaysTaker fault_count onward a c r
  taker_then a b c q r f g = record {
    later = omega (arith, f.later, g.later);
    cause = on_err_weaker r (λ h. omega (arith, h, f.later)) g.cause;
    goes_on = onward_then onward a b c f.goes_on g.goes_on;
  }

  -- a failure that is handed on
  pub taker_failed : {Y : Type 0} (a b : T) (e : E) (r : Result X E) → StaysTaker {X = Y} {E = E} fault_count onward a b (Err e) → StaysTaker fault_count onward a b r
  taker_failed a b e r f = record { later = f.later; cause = on_err r f.cause; goes_on = f.goes_on }

module _ {T X E : Type 0} (stands cut : T → T → List Item → List Step → Type 0) where
  -- a failure within what was given
  pub takes_part : (a b : T) (r : Result X E) (items more : List Item) (steps rest : List Step) → IsErr r → IsCut stands cut a b items steps → Takes stands cut a b r (items ++ more) (steps ++ rest)
  takes_part a b (Ok x) items more steps rest fails failed = absurd (cc fails)
  takes_part a b (Err e) items more steps rest fails failed = record { ok = tt; err = cut_longer stands cut a b items more steps rest failed }

  -- what is given behind what was taken
  pub takes_then : (a b c : T) (r : Result X E) (items more : List Item) (steps rest : List Step) → GoesOn stands a b items steps → Takes stands cut b c r more rest → Takes stands cut a c r (items ++ more) (steps ++ rest)
  takes_then a b c r items more steps rest went given = record {
    ok = on_ok_weaker r (goes_on_append stands a b c items more steps rest went) given.ok;
    err = on_err_weaker r (cut_behind stands cut a b c items more steps rest went) given.err;
  }

module _ {T X E : Type 0} (fits : DrumWords → Type 0) (fault_count : T → ℕ) (onward : T → T → Type 0) (stands cut : T → T → List Item → List Step → Type 0) where
  -- what was given over whatever drum was given over each that fits
  pub over_drums : {old new : T} {result : Result X E} {items : DrumWords → List Item} {steps : List Step} → TookAll fault_count onward stands cut old new result items steps → TookOver fits fault_count onward stands cut old new result items steps
  over_drums took = record { taker = took.taker; given = λ d f. took.given d }

  -- nothing is given where there is nothing to give
  pub took_nothing : (t : T) (x : X) (items : DrumWords → List Item) → ((d : DrumWords) → fits d → items d ≡ []) → TookOver {X = X} {E = E} fits fault_count onward stands cut t t (Ok x) items []
  took_nothing t x items none = record {
    taker = record { later = omega arith; cause = tt; goes_on = onward_nil onward t };
    given = λ d f. record { ok = subst (λ is. GoesOn stands t t is []) (sym (none d f)) (goes_on_nil stands t); err = tt };
  }
