-- Entries, the plain run over them, and which entries a script's events may have.
use Rattle.std.specs.Prelude.{◌≡◌, ◌⊎◌, ℕ, List, [], ◌∷◌, ◌++◌, Bool, true, ◌||◌, if◌then◌else◌}
use Rattle.std.specs.Option.{option_map_or}
use Rattle.std.specs.FinMap as map
use Rattle.machine_names.specs.declared.names.Tty.{Tty}
use Rattle.machine_names.specs.declared.names.ForkName.{ForkName}
use Rattle.script_texts.specs.declared.event.Event.{Event}
use Rattle.script_texts.specs.declared.event.Event.TheVariants.{TypeIn}
use Rattle.script_texts.specs.declared.event.Item.{Item}
use Rattle.script_texts.specs.declared.event.Item.TheVariants.{UnitLine}
use Rattle.script_texts.specs.declared.event.Step.{Step}
use Rattle.script_texts.specs.declared.event.Step.TheVariants.{Outer, Unit as AUnit, Idle}
use Rattle.plain_model.specs.State.{PlainState, opening}
use Rattle.plain_model.specs.Forks.{IsRunnable}
use Rattle.plain_model.specs.Unit.{Effect, unit}
use Rattle.plain_model.specs.Events.{outer}
use Rattle.script_texts.specs.Follows.{Follows, auto_after}

-- what is shown before a unit
abbrev pub unit_line : PlainState → ForkName → List Item
unit_line s f = if s.trace then option_map_or (λ k. UnitLine f k.body.regs.pc ∷ []) (map.get s.forks f) [] else []

-- one entry of the plain machine
unfoldable pub apply : PlainState → Step → Effect
apply s (Outer e) = outer s e
apply s (AUnit f) = let e = unit s f in record e { items = unit_line s f ++ e.items }
apply s Idle = record { state = s; items = [] }

-- the state that entries leave, one after another
abbrev pub state_after : PlainState → List Step → PlainState
state_after s [] = s
state_after s (x ∷ xs) = state_after (apply s x).state xs

-- what they show, in order
abbrev pub items_of : PlainState → List Step → List Item
items_of s [] = []
items_of s (x ∷ xs) = (apply s x).items ++ items_of (apply s x).state xs

-- the plain run of entries from the opening state, with so many pages on the drum
abbrev pub plain_run : ℕ → List Step → Effect
plain_run limit steps = record { state = state_after (opening limit) steps; items = items_of (opening limit) steps }

-- what was shown of an event whose own step was not given: the first items of a TYPE, and else nothing
abbrev pub ShownFirst : PlainState → Event → List Item → Type 0
ShownFirst s e items =
    (items ≡ []) ⊎ ((t : Tty) × (text : List ℕ) × (rest : List Item) × (e ≡ TypeIn t text) × ((outer s e).items ≡ items ++ rest))

-- a unit is of a fork that can run there; an idle entry under AUTO ON stands where none can
abbrev pub IsLegalStep : Bool → PlainState → Step → Type 0
IsLegalStep auto s (Outer e) = Unit {0}
IsLegalStep auto s (AUnit f) = IsRunnable s.forks f
IsLegalStep auto s Idle = auto ≡ true → (f : ForkName) → IsRunnable s.forks f → ⊥

-- each entry is legal where it stands
abbrev pub AreLegal : Bool → PlainState → List Step → Type 0
AreLegal auto s [] = Unit {0}
AreLegal auto s (x ∷ xs) = IsLegalStep auto s x × AreLegal auto (apply s x).state xs

-- Each event's entries are legal where they stand, under the AUTO mark that the events before it leave. Where all pages
-- are in memory alone no fork waits for a transfer: an idle entry then stands only where no fork can run, whatever the mark.
abbrev pub IsLegal : (flat auto : Bool) → PlainState → (events : List Event) (steps : List Step) → Follows events steps → Type 0
IsLegal flat auto s [] steps follows = Unit {0}
IsLegal flat auto s (e ∷ es) steps follows = AreLegal (flat || auto) s follows.0 × IsLegal flat (auto_after auto e) (state_after s follows.0) es follows.1 follows.4
