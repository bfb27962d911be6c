-- WHAT A TURN NEEDS FIRST: of its steps in order the first that needs something says what.
use Rattle.std.specs.Prelude.{◌≡◌, ◌⊎◌, ℕ, true, false, Option, None, Some, Result, Ok, Err}
use Rattle.std.specs.Option.{option_and_then, option_map_or}
use Rattle.std.specs.Ordering.{nat_cmp}
use Rattle.plain_model.specs.declared.call.End.{End}
use Rattle.plain_model.specs.declared.call.Touched.{Touched}
use Rattle.plain_model.specs.declared.call.Touched.TheVariants.{Granted, Denied, Full}
use Rattle.page_contracts.specs.declared.answers.Need.{Need}
use Rattle.page_contracts.specs.declared.answers.Need.TheVariants as need
use Rattle.plain_pages.specs.declared.map.NewMap.{NewMap}
use Rattle.machine_names.specs.declared.names.ForkName.{ForkName}
use Rattle.machine_names.specs.declared.names.Tty.{Tty}
use Rattle.machine_names.specs.declared.names.Kind.{Kind}
use Rattle.plain_units.specs.declared.registers.Regs.{Regs}
use Rattle.plain_pages.specs.PlainPages.{NumberedPages}
use Rattle.plain_pages.specs.References.{Spot, in_file, Referred, granted, denied, full, page_at, reference, word_at}
use Rattle.plain_pages.specs.Room.{HasRoom}
use Rattle.plain_pages.specs.NewMaps.{with_map}
use Rattle.page_contracts.specs.Pages.{Scene, TakesFrames, TakesMap, frames_taken, touch_of}
use Rattle.plain_units.specs.Steps.{Steps, Ending}
use Rattle.plain_model.specs.Calls.{Turn, sees, finds, reads, touches, takes, adds, looks, makes, ends, Sight, Came, entry_of, spot_of, turn_on}
use Rattle.call_turns.specs.declared.turn.Outcome.{Outcome}
use Rattle.call_turns.specs.Granting.{pages_granted}
use Rattle.call_turns.specs.Telling.{entry_need, find_need, looks_need, touch_need, word_need}

-- this is needed, and if nothing is, what comes later
abbrev pub FirstNeeds : Option Need → Type 0 → Need → Type 0
FirstNeeds (Some m) Later n = n ≡ m
FirstNeeds None Later n = Later

-- a new map needs a frame where there is room for it and no frame is free; with room the turn goes on with the map, and else without it
pub record NeedsFrame (scene : Scene) (p : NumberedPages) (f : ForkName) (entries : NewMap) (n : Need) : Type 0 where
  pub room : HasRoom (with_map p f entries) f.tty ≡ true
  pub frames : scene.free_frames ≡ 0
  pub is : n ≡ need.Frame

-- what comes later, by what a reference came to: behind what it made, which took so many frames
abbrev pub ReferredLater : Scene → NumberedPages → ℕ → Referred nat_cmp → (Scene → NumberedPages → Touched → Type 0) → Type 0
ReferredLater scene p taken (granted q) later = (after : Scene) × TakesFrames scene after taken × later after q Granted
ReferredLater scene p taken (denied k) later = later scene p Denied
ReferredLater scene p taken full later = later scene p Full

-- what a reference needs that makes one page at most
abbrev pub OneTouchNeeds : Scene → NumberedPages → Tty → Spot ℕ → Kind → (Scene → NumberedPages → Touched → Type 0) → Need → Type 0
OneTouchNeeds scene p owner at kind later n =
    FirstNeeds (touch_need scene p at kind owner) (ReferredLater scene p (frames_taken (touch_of p scene at kind owner)) (reference p at kind owner) later) n

-- a call that takes no step of its fork needs nothing for one
abbrev pub NoSteps : Scene → NumberedPages → ForkName → Regs → Steps → (Scene → NumberedPages → Ending → Type 0) → Need → Type 0
NoSteps scene p f regs steps later n = ⊥

-- nor one that refers to no page for a reference
abbrev pub NoTouches : Scene → NumberedPages → Tty → Spot ℕ → Kind → (Scene → NumberedPages → Touched → Type 0) → Need → Type 0
NoTouches scene p owner at kind later n = ⊥

-- Looks need the maps on their ways. What references need, and what an end needs for its change, says who makes those; what comes later they
-- are handed.
module _ {F C : Type 0} (sight : Sight F ℕ)
    (StepsNeed : Scene → NumberedPages → ForkName → Regs → Steps → (Scene → NumberedPages → Ending → Type 0) → Need → Type 0)
    (TouchNeeds : Scene → NumberedPages → Tty → Spot ℕ → Kind → (Scene → NumberedPages → Touched → Type 0) → Need → Type 0)
    (EndNeeds : Scene → NumberedPages → End C → Need → Type 0) where
  -- a key that stands for no file is denied
  abbrev pub SpotNeeds : Scene → NumberedPages → Tty → Option (Spot ℕ) → Kind → (Scene → NumberedPages → Touched → Type 0) → Need → Type 0
  SpotNeeds scene p owner (Some at) kind later n = TouchNeeds scene p owner at kind later n
  SpotNeeds scene p owner None kind later n = later scene p Denied

  abbrev pub TurnNeeds : Scene → NumberedPages → Turn F C → Need → Type 0
  TurnNeeds scene p (sees s next) n = FirstNeeds (entry_need scene p s) (TurnNeeds scene p (next (entry_of p s)) n) n
  TurnNeeds scene p (finds at next) n = FirstNeeds (find_need scene p (spot_of sight at)) (TurnNeeds scene p (next (option_and_then (page_at p) (spot_of sight at))) n) n
  TurnNeeds scene p (reads f offset next) n =
      FirstNeeds (word_need scene p (spot_of sight (in_file f))) (TurnNeeds scene p (next (option_map_or (λ at. word_at p at offset) (spot_of sight (in_file f)) 0)) n) n
  TurnNeeds scene p (touches owner at kind next) n = SpotNeeds scene p owner (spot_of sight at) kind (λ after q what. TurnNeeds after q (next what) n) n
  TurnNeeds scene p (takes f regs steps next) n = StepsNeed scene p f regs steps (λ after q e. TurnNeeds after q (next e) n) n
  TurnNeeds scene p (adds f entries next) n =
      NeedsFrame scene p f entries n
      ⊎ (((HasRoom (with_map p f entries) f.tty ≡ true) × ((after : Scene) × TakesMap scene after f × TurnNeeds after (with_map p f entries) (next true) n))
      ⊎ ((HasRoom (with_map p f entries) f.tty ≡ false) × TurnNeeds scene p (next false) n))
  TurnNeeds scene p (looks name next) n = TurnNeeds scene p (next (sight.is_name name)) n
  TurnNeeds scene p (makes name next) n = TurnNeeds scene p (next sight.has_more) n
  TurnNeeds scene p (ends e) n = EndNeeds scene p e n

-- it came out so over the plain pages, with what was granted, and needed nothing; or needs this
abbrev pub Matches : {C : Type 0} → NumberedPages → Tty → Result (Outcome C) Need → Option Need → Came nat_cmp C → Type 0
Matches p owner (Ok o) needs came = (needs ≡ None) × (came ≡ record { end = o.end; pages = pages_granted p owner o.grant })
Matches p owner (Err n) needs came = needs ≡ Some n

-- a turn of looks, and of one reference as its last step, was driven to its end, or to the first step that needs something
abbrev pub DrivenTo : {C : Type 0} → Sight ℕ ℕ → Scene → NumberedPages → Tty → Turn ℕ C → Result (Outcome C) Need → Type 0
DrivenTo sight scene p owner t result = Matches p owner result (looks_need sight scene p t) (turn_on sight p t)
