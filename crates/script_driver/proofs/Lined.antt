-- The events of a script's lines, as they are read.
use Rattle.std.proofs.Common.{◌≡◌, ℕ, ◌+◌, ◌<◌, ◌≤◌, List, [], ◌∷◌, ◌++◌, Option, sym, ◌∙◌, ap, arith}
use Rattle.script_texts.specs.declared.event.Event.{Event}
use Rattle.script_texts.specs.Script.{turns_of, turns_in, most_bytes, most_turns}
use Rattle.script_texts.specs.Taker.{max_steps}
use Rattle.script_lang.specs.Lines.{Advances, Skips, Takes, given, turns_given}
use Rattle.script_lang.specs.declared.lines.Lines.{Lines}
use Rattle.script_lang.proofs.Judging.{takes_none, takes_both, takes_skipped}
use Rattle.script_driver.proofs.Turns.{turns_push}

-- the lines of these events were taken, within the limits of a script
pub record Lined {S : Type 0} (left : S → Option (List ℕ)) (first lines : Lines) (script script' : S) (events : List Event) : Type 0 where
  pub takes : Takes left first lines script script' events
  pub turns : turns_given lines ≡ turns_in events
  pub few_turns : turns_given lines ≤ most_turns
  pub few_bytes : given lines ≤ most_bytes

-- how many entries there are at most
abbrev pub most_entries : Lines → ℕ
most_entries lines = turns_given lines + given lines

pub skipped_most : {l l' : Lines} → Skips l l' → most_entries l ≤ most_entries l'
skipped_most skips = omega (arith, skips.turns, skips.blank.more_bytes)

module _ {S : Type 0} {left : S → Option (List ℕ)} where
  pub lined_none : {lines : Lines} {script : S} → turns_given lines ≡ 0 → given lines ≡ 0 → Lined left lines lines script script []
  lined_none {lines} {script} turns bytes = record { takes = takes_none left lines script; turns = turns; few_turns = omega (arith, turns); few_bytes = omega (arith, bytes) }

  -- blank lines were passed over
  pub lined_skipped : {first l l' : Lines} {s t : S} (es : List Event) → Skips l l' → Lined left first l s t es → Lined left first l' s t es
  lined_skipped {first} {l} {l'} {s} {t} es skips f = record {
    takes = takes_skipped left first l l' s t es f.takes skips;
    turns = skips.turns ∙ f.turns;
    few_turns = omega (arith, skips.turns, f.few_turns);
    few_bytes = skips.short;
  }

  module _ {first l l' : Lines} {s t u : S} {e : Event} {es : List Event} (f : Lined left first l s t es) (takes : Takes left l l' t u (e ∷ [])) (far : Advances l l' (turns_of e)) where
    -- one more
    pub lined_more : Lined left first l' s u (es ++ e ∷ [])
    lined_more = record {
      takes = takes_both left first l l' s t u es (e ∷ []) f.takes takes;
      turns = far.more_turns ∙ ap (λ n. n + turns_of e) f.turns ∙ sym (turns_push es e);
      few_turns = far.few;
      few_bytes = far.short;
    }

    pub more_most : most_entries l + turns_of e + 1 ≤ most_entries l'
    more_most = omega (arith, far.more_turns, far.further)

    pub next_few : most_entries l + turns_of e + 1 < max_steps
    next_few = omega (arith, far.more_turns, far.few, f.few_bytes)

  pub lined_few : {first l : Lines} {s t : S} {es : List Event} → Lined left first l s t es → most_entries l < max_steps
  lined_few f = omega (arith, f.few_turns, f.few_bytes)

  pub few_in : {first l : Lines} {s t : S} {es : List Event} → Lined left first l s t es → turns_in es ≤ most_turns
  few_in f = omega (arith, f.turns, f.few_turns)
