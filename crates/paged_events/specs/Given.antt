-- What was given of an event, over what the drum told and tells.
use Rattle.std.specs.Prelude.{◌≡◌, ℕ, ◌+◌, ◌≤◌, List, length, Bool, Option, Result, Err, IfOk}
use Rattle.fork_lists.specs.declared.lists.ForkLists.{ForkLists}
use Rattle.page_contracts.specs.DrumWords.{DrumWords}
use Rattle.page_waits.specs.Systems.{SystemMeaning}
use Rattle.script_texts.specs.Follows.{FollowsOne}
use Rattle.script_texts.specs.declared.event.Event.{Event}
use Rattle.script_texts.specs.declared.event.Event.TheVariants.{Run}
use Rattle.script_texts.specs.declared.event.Item.{Item}
use Rattle.script_texts.specs.declared.event.Step.{Step}
use Rattle.event_items.specs.Outcome.{CutOff, GaveOver, Stopped}
use Rattle.paged_events.specs.Calmly.{GoesCalmly, TurnsCalmly}
use Rattle.paged_events.specs.Turns.{AreTurnsOver}
use Rattle.paged_events.specs.declared.fault.Fault.{Fault}
use Rattle.paged_events.specs.declared.fault.Fault.TheVariants.{Drum, Taker}

-- since the first, a taker stands for these items and steps, or is cut within them
abbrev pub Standing : Type 0 → Type 1
Standing T = T → T → List Item → List Step → Type 0

module _ {S : Type 0} (means : SystemMeaning S) where
  -- the counts of a system are no higher than so many entries let them be, nor than any more
  abbrev pub IsWithin : S → ℕ → Type 0
  IsWithin s n = (k : ℕ) → n ≤ k → means.within s k

  -- so many entries were done
  abbrev pub Adds : ℕ → S → S → Type 0
  Adds n s s' = (m : ℕ) → IsWithin s m → IsWithin s' (m + n)

  -- its counts are no higher than they might be
  abbrev pub StaysWithin : S → S → Type 0
  StaysWithin s s' = (k : ℕ) → means.within s k → means.within s' k

  module _ {D T : Type 0} (held : D → Option DrumWords) (stands cut : Standing T) where
    -- these steps were given
    abbrev pub Gives : Bool → S → S → D → D → T → T → List Step → Type 0
    Gives auto s s' drum drum' out out' steps = GaveOver means.store.flat means.fits means.plain held stands s s' drum drum' out out' auto steps

    -- steps that follow an event were given, so many
    pub record Given (auto : Bool) (event : Event) (count : ℕ) (s s' : S) (drum drum' : D) (out out' : T) : Type 0 where
      pub steps : List Step
      pub follows : FollowsOne event steps
      pub counts : length steps ≡ count
      pub adds : Adds count s s'
      pub told : Gives auto s s' drum drum' out out' steps

    -- they were given and took their turns, and where all was in core they went calmly
    pub record GivenCalmly (auto : Bool) (event : Event) (count : ℕ) (s s' : S) (l l' : ForkLists) (drum drum' : D) (out out' : T) : Type 0 where
      pub given : Given auto event count s s' drum drum' out out'
      pub turns : AreTurnsOver means held given.steps s l l' drum
      pub calm : GoesCalmly means held event given.steps s s' l l' drum

    -- so many turns of a run were given and taken, and where all was in core they came calmly
    pub record GivenTurns (auto : Bool) (count : ℕ) (s s' : S) (l l' : ForkLists) (drum drum' : D) (out out' : T) : Type 0 where
      pub given : Given auto (Run count) count s s' drum drum' out out'
      pub turns : AreTurnsOver means held given.steps s l l' drum
      pub calm : TurnsCalmly means held given.steps s s' l l' drum

    -- AN EVENT WAS ACTED ON: its steps were given; or the drum failed before they were, or the taker within them
    pub record Acted (auto : Bool) (event : Event) (result : Result ℕ Fault) (s s' : S) (l l' : ForkLists) (drum drum' : D) (out out' : T) : Type 0 where
      pub ok : IfOk result (λ n. GivenCalmly auto event n s s' l l' drum drum' out out')
      pub stopped : result ≡ Err Drum → Stopped means.store.flat means.fits means.plain held stands s drum out out' auto event
      pub cutoff : result ≡ Err Taker → CutOff means.store.flat means.fits means.plain held stands cut s drum out out' auto event

    -- SO MANY TURNS OF A RUN at most were taken, and given; or the drum failed behind some of them, or the taker within them
    pub record TookTurns (auto : Bool) (left : ℕ) (result : Result ℕ Fault) (s s' : S) (l l' : ForkLists) (drum drum' : D) (out out' : T) : Type 0 where
      pub some : IfOk result (λ n. 1 ≤ n)
      pub few : IfOk result (λ n. n ≤ left)
      pub ok : IfOk result (λ n. GivenTurns auto n s s' l l' drum drum' out out')
      pub stopped : result ≡ Err Drum → Stopped means.store.flat means.fits means.plain held stands s drum out out' auto (Run left)
      pub cutoff : result ≡ Err Taker → CutOff means.store.flat means.fits means.plain held stands cut s drum out out' auto (Run left)
