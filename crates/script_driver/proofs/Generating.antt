-- The events of a generated script, one after another.
use Rattle.std.proofs.Common.{◌≡◌, ℕ, ◌+◌, ◌-◌, ◌<◌, ◌≤◌, List, [], ◌∷◌, ◌++◌, length, Some, None, refl, sym, ◌∙◌, ap, arith, append_assoc, length-append}
use Rattle.std.specs.Prelude.{drop, slice_get, unwrap_or}
use Rattle.std.proofs.lemmas.List.{append-nil}
use Rattle.std.proofs.lemmas.Option.{none-some}
use Rattle.script_texts.specs.declared.event.Event.{Event}
use Rattle.script_texts.specs.Script.{turns_of, turns_in}
use Rattle.script_lang.specs.Generator.{big_events, evictions, fills, logins, programs, shown}
use Rattle.script_texts.specs.Taker.{max_steps}
use Rattle.script_driver.specs.Verdicts.{BeginsGenerated}

-- the events so far, and those that are still to come
pub record Generated (seed : ℕ) (rest events : List Event) : Type 0 where
  pub whole : big_events seed ≡ events ++ rest

turns-append : (es fs : List Event) → turns_in (es ++ fs) ≡ turns_in es + turns_in fs
turns-append [] fs = omega arith
turns-append (e ∷ es) fs = let rest = turns-append es fs in omega (arith, rest)

all_events : (seed : ℕ) → length (big_events seed) ≡ 242
unfolding big_events evictions fills logins programs shown
all_events seed = refl

all_turns : (seed : ℕ) → turns_in (big_events seed) ≡ 20000
unfolding big_events evictions fills logins programs shown
all_turns seed = refl

-- how many entries there are at most, where these events are still to come
abbrev pub most_behind : List Event → ℕ
most_behind rest = 20242 - (turns_in rest + length rest)

pub generated_none : (seed : ℕ) → Generated seed (big_events seed) []
generated_none seed = record { whole = refl }

-- what is still to come begins with the next event
pub next_first : (rest : List Event) (e : Event) → Some e ≡ slice_get rest 0 → rest ≡ e ∷ drop 1 rest
next_first [] e is = absurd (none-some e (sym is))
next_first (f ∷ fs) e is = ap (λ o. unwrap_or o f ∷ fs) (sym is)

-- nothing is
pub next_none : (rest : List Event) → None ≡ slice_get rest 0 → rest ≡ []
next_none [] is = refl
next_none (f ∷ fs) is = absurd (none-some f is)

module _ {seed : ℕ} {rest events : List Event} (g : Generated seed rest events) where
  most_to_come : turns_in rest + length rest ≤ 20242
  most_to_come =
      let turns = ap turns_in g.whole ∙ turns-append events rest in
      let count = ap length g.whole ∙ length-append events rest in
      omega (arith, turns, count, all_turns seed, all_events seed)

  pub generated_few : most_behind rest < max_steps
  generated_few = omega arith

  pub generated_front : BeginsGenerated seed events
  generated_front = (rest, g.whole)

  pub generated_all : rest ≡ [] → events ≡ big_events seed
  generated_all none = sym (g.whole ∙ ap (λ l. events ++ l) none ∙ append-nil events)

  module _ {e : Event} {later : List Event} (first : rest ≡ e ∷ later) where
    pub generated_more : Generated seed later (events ++ e ∷ [])
    generated_more = record { whole = g.whole ∙ ap (λ l. events ++ l) first ∙ sym (append_assoc events (e ∷ []) later) }

    pub generated_further : most_behind rest + turns_of e + 1 ≤ most_behind later
    generated_further =
        let turns = ap turns_in first in
        let count = ap length first in
        omega (arith, turns, count, most_to_come)

    pub generated_next_few : most_behind rest + turns_of e + 1 < max_steps
    generated_next_few =
        let turns = ap turns_in first in
        omega (arith, turns, most_to_come)
