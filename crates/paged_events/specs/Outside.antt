-- The taker and the drum that a machine uses, and what they count.
use Rattle.std.specs.Prelude.{◌≡◌, ℕ, ◌≤◌, Result, Err}
use Rattle.outside.specs.Faults.{Rose}
use Rattle.script_texts.specs.Taker.{StaysOnward}
use Rattle.event_items.specs.Outcome.{DrumStays}
use Rattle.paged_events.specs.declared.fault.Fault.{Fault}
use Rattle.paged_events.specs.declared.fault.Fault.TheVariants.{Drum, Taker}

module _ {T D : Type 0} (goes_on : T → T → Type 0) (failed : T → ℕ) (faults reads writes size : D → ℕ) where
  -- no count of a taker and a drum has fallen, the taker is still the taker that it was, and the drum has its size
  pub record GoesOnOutside (out out' : T) (drum drum' : D) : Type 0 where
    pub taker_later : failed out ≤ failed out'
    pub onward : StaysOnward goes_on out out'
    pub drum_stays : DrumStays faults reads writes size drum drum'

  -- besides, who failed has counted it
  pub record UsesOutside {X : Type 0} (result : Result X Fault) (out out' : T) (drum drum' : D) : Type 0 where
    pub later : GoesOnOutside out out' drum drum'
    pub taker_rose : result ≡ Err Taker → Rose (failed out) (failed out')
    pub drum_rose : result ≡ Err Drum → Rose (faults drum) (faults drum')
