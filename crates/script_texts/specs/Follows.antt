-- Which entries the events of a script may have, but for what is legal.
use Rattle.std.specs.Prelude.{◌≡◌, ℕ, ◌≤◌, List, [], ◌∷◌, ◌++◌, length, Bool}
use Rattle.script_texts.specs.declared.event.Event.{Event}
use Rattle.script_texts.specs.declared.event.Event.TheVariants.{Run, Evict, Drum, Auto}
use Rattle.script_texts.specs.declared.event.Step.{Step}
use Rattle.script_texts.specs.declared.event.Step.TheVariants.{Outer, Unit as AUnit, Idle}

-- how an event shows among the entries: not at all, as so many turns, or as itself
pub data Shape : Type 0 where
  silent : Shape
  turns : ℕ → Shape
  single : Shape

-- the shape of each event
abbrev pub shape_of : Event → Shape
shape_of (Run n) = turns n
shape_of (Evict n) = silent
shape_of (Drum n) = silent
shape_of (Auto on) = silent
shape_of e = single

-- a turn of a RUN: a unit, or an idle entry
abbrev pub IsTurn : Step → Type 0
IsTurn (Outer e) = ⊥
IsTurn (AUnit f) = Unit {0}
IsTurn Idle = Unit {0}

-- each of them is a turn
abbrev pub AreTurns : List Step → Type 0
AreTurns [] = Unit {0}
AreTurns (x ∷ xs) = IsTurn x × AreTurns xs

-- entries of this shape: none, so many turns, or these
abbrev pub AreOfShape : (IsCount : ℕ → ℕ → Type 0) → List Step → Shape → List Step → Type 0
AreOfShape IsCount own silent steps = steps ≡ []
AreOfShape IsCount own (turns n) steps = IsCount (length steps) n × AreTurns steps
AreOfShape IsCount own single steps = steps ≡ own

-- the entries of one event
abbrev pub FollowsOne : Event → List Step → Type 0
FollowsOne e steps = AreOfShape (λ m n. m ≡ n) (Outer e ∷ []) (shape_of e) steps

-- entries with which one event's may begin
abbrev pub Begins : Event → List Step → Type 0
Begins e steps = AreOfShape (λ m n. m ≤ n) (Outer e ∷ []) (shape_of e) steps

-- the entries of one event that was not finished: turns of a RUN, as many as were given, and else none
abbrev pub Unfinished : Event → List Step → Type 0
Unfinished e steps = AreOfShape (λ m n. m ≤ n) [] (shape_of e) steps

-- the entries are those of the events in order
abbrev pub Follows : List Event → List Step → Type 0
Follows [] steps = steps ≡ []
Follows (e ∷ es) steps = (now : List Step) × (later : List Step) × (steps ≡ now ++ later) × FollowsOne e now × Follows es later

-- the AUTO mark behind an event
abbrev pub auto_after : Bool → Event → Bool
auto_after auto (Auto on) = on
auto_after auto e = auto

-- the AUTO mark behind events
abbrev pub auto_behind : Bool → List Event → Bool
auto_behind auto [] = auto
auto_behind auto (e ∷ es) = auto_behind (auto_after auto e) es
