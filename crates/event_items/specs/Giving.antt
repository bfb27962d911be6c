-- What a taker was given, whether it took all of it or failed.
use Rattle.std.specs.Prelude.{ℕ, ◌≤◌, List, [], Result, OnOk, OnErr}
use Rattle.outside.specs.Faults.{Rose}
use Rattle.script_texts.specs.declared.event.Item.{Item}
use Rattle.script_texts.specs.declared.event.Step.{Step}
use Rattle.page_contracts.specs.DrumWords.{DrumWords}
use Rattle.script_texts.specs.Taker.{GoesOn, IsCut, StaysOnward}

-- since the first, a taker stands for these items and steps, or is cut within them
abbrev pub Standing : Type 0 → Type 1
Standing T = T → T → List Item → List Step → Type 0

-- its count of faults is no lower, and higher where it failed; and it is still the taker that it was
pub record StaysTaker {T X E : Type 0} (fault_count : T → ℕ) (onward : T → T → Type 0) (old new : T) (result : Result X E) : Type 0 where
  pub later : fault_count old ≤ fault_count new
  pub cause : OnErr result (Rose (fault_count old) (fault_count new))
  pub goes_on : StaysOnward onward old new

-- it took these items and steps, or is cut within them
pub record Takes {T X E : Type 0} (stands cut : Standing T) (old new : T) (result : Result X E) (items : List Item) (steps : List Step) : Type 0 where
  pub ok : OnOk result (GoesOn stands old new items steps)
  pub err : OnErr result (IsCut stands cut old new items steps)

-- it took these items and steps, over whatever drum they are told, or is cut within them
pub record TookAll {T X E : Type 0} (fault_count : T → ℕ) (onward : T → T → Type 0) (stands cut : Standing T) (old new : T) (result : Result X E) (items : DrumWords → List Item) (steps : List Step) : Type 0 where
  pub taker : StaysTaker fault_count onward old new result
  pub given : (d : DrumWords) → Takes stands cut old new result (items d) steps

-- the same over each drum that fits
pub record TookOver {T X E : Type 0} (fits : DrumWords → Type 0) (fault_count : T → ℕ) (onward : T → T → Type 0) (stands cut : Standing T) (old new : T) (result : Result X E) (items : DrumWords → List Item) (steps : List Step) : Type 0 where
  pub taker : StaysTaker fault_count onward old new result
  pub given : (d : DrumWords) → fits d → Takes stands cut old new result (items d) steps

-- items alone over whatever drum
abbrev pub TookItems : {T X E : Type 0} → (T → ℕ) → (T → T → Type 0) → Standing T → Standing T → T → T → Result X E → (DrumWords → List Item) → Type 0
TookItems fault_count onward stands cut old new result items = TookAll fault_count onward stands cut old new result items []
