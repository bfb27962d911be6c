-- What was typed and shown, over what the drum told and tells.
use Rattle.std.specs.Prelude.{◌≡◌, ◌++◌, List, [], Option, Result, Err, OnOk}
use Rattle.event_deeds.specs.Deeds.{deed}
use Rattle.event_deeds.specs.declared.deed.Deed.{Deed}
use Rattle.page_contracts.specs.DrumWords.{DrumWords, Stands}
use Rattle.page_waits.specs.Systems.{SystemMeaning}
use Rattle.plain_model.specs.State.{PlainState}
use Rattle.plain_model.specs.Unit.{Effect}
use Rattle.script_texts.specs.declared.event.Item.{Item}
use Rattle.script_texts.specs.Taker.{GoesOn, IsCut}
use Rattle.paged_events.specs.Given.{Standing}
use Rattle.paged_events.specs.declared.fault.Fault.{Fault}
use Rattle.paged_events.specs.declared.fault.Fault.TheVariants.{Drum, Taker}

module _ {S : Type 0} (means : SystemMeaning S) {D T : Type 0} (held : D → Option DrumWords) (stands cut : Standing T) where
  -- a deed that is part of a character was done, and what it shows was given; and which comes next
  pub record DidPart (d : Deed) (next : Option Deed) (s s' : S) (drum drum' : D) (out out' : T) : Type 0 where
    pub each : (words : DrumWords) → Stands means.store.flat (held drum) words → means.fits s words
        → (e : DrumWords) × Stands means.store.flat (held drum') e × means.fits s' e × (means.plain s' e ≡ (deed (means.plain s words) d).state)
        × GoesOn stands out out' (deed (means.plain s words) d).items [] × (next ≡ (deed (means.plain s words) d).next)

  -- the taker failed within what a deed shows
  pub record CutPart (d : Deed) (s : S) (drum : D) (out out' : T) : Type 0 where
    pub each : (words : DrumWords) → Stands means.store.flat (held drum) words → means.fits s words → IsCut stands cut out out' (deed (means.plain s words) d).items []

  -- so much was done of the plain state, and what it shows was given
  pub record DidTyped (effect : PlainState → Effect) (s s' : S) (drum drum' : D) (out out' : T) : Type 0 where
    pub each : (words : DrumWords) → Stands means.store.flat (held drum) words → means.fits s words
        → (e : DrumWords) × Stands means.store.flat (held drum') e × means.fits s' e × (means.plain s' e ≡ (effect (means.plain s words)).state)
        × GoesOn stands out out' (effect (means.plain s words)).items []

  -- the drum failed: the first of what would be shown was given
  pub record ShowedFirst (effect : PlainState → Effect) (s : S) (drum : D) (out out' : T) : Type 0 where
    pub each : (words : DrumWords) → Stands means.store.flat (held drum) words → means.fits s words
        → (shown rest : List Item) × ((effect (means.plain s words)).items ≡ shown ++ rest) × GoesOn stands out out' shown []

  -- the taker failed within what would be shown
  pub record CutTyped (effect : PlainState → Effect) (s : S) (drum : D) (out out' : T) : Type 0 where
    pub each : (words : DrumWords) → Stands means.store.flat (held drum) words → means.fits s words → IsCut stands cut out out' (effect (means.plain s words)).items []

  -- SO MUCH WAS TYPED: it was done, and what it shows was given; or the drum failed before all was, or the taker within it
  pub record Typed {X : Type 0} (effect : PlainState → Effect) (result : Result X Fault) (s s' : S) (drum drum' : D) (out out' : T) : Type 0 where
    pub ok : OnOk result (DidTyped effect s s' drum drum' out out')
    pub stopped : result ≡ Err Drum → ShowedFirst effect s drum out out'
    pub cutoff : result ≡ Err Taker → CutTyped effect s drum out out'
