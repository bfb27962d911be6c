-- What a chain meets at a slot, and what a walk along it comes to, where a map may be in no frame.
use Rattle.std.specs.Prelude.{◌≡◌, ℕ, ◌<◌, Bool, true, false, Option, None, Some}
use Rattle.machine_names.specs.declared.names.ForkName.{ForkName}
use Rattle.machine_names.specs.declared.names.TheConstants.{SPACE_PAGES}
use Rattle.page_gather.specs.declared.walk.Walked.{Walked}
use Rattle.page_gather.specs.declared.chains.ChainStep.{ChainStep}
use Rattle.page_gather.specs.declared.chains.ChainStep.TheVariants as step
use Rattle.page_gather.specs.declared.chains.Way.{Way}
use Rattle.page_gather.specs.declared.chains.Way.TheVariants as way
use Rattle.page_contracts.specs.declared.answers.Need.TheVariants as need
use Rattle.page_contracts.specs.Stores.{StoreMeaning, IsNeeded}
use Rattle.page_gather.specs.Walks.{View, Ends, Goes}

abbrev pub step_of : View → ChainStep
step_of (Ends empty a) = step.Ends empty a
step_of (Goes serial page a) = step.Goes serial page a

-- whether there is an entry, its map, and the entry
abbrev pub step_met : Option ℕ → Option View → ChainStep
step_met away None = step.Missing
step_met (Some home) (Some v) = step.Absent (record { 0 = home })
step_met None (Some v) = step_of v

-- the first map on the way that is in no frame, and else what is found
abbrev pub way_found : Option ℕ → Option Walked → Way
way_found (Some home) w = way.Absent (record { 0 = home })
way_found None None = way.Nowhere
way_found None (Some w) = way.Found w

-- an entry that was met is of a fork that lives, and follows a page of a space
abbrev pub IsOfLiving : (ForkName → Bool) → ForkName → ChainStep → Type 0
IsOfLiving lives f (step.Ends empty a) = lives f ≡ true
IsOfLiving lives f (step.Goes serial page a) = (lives f ≡ true) × (page < SPACE_PAGES)
IsOfLiving lives f met = Unit {0}

-- a chain that was found ends at a page of a fork that lives
abbrev pub EndsAtPlace : (ForkName → Bool) → Way → Type 0
EndsAtPlace lives (way.Found w) = (lives w.end.fork ≡ true) × (w.end.page < SPACE_PAGES)
EndsAtPlace lives found = Unit {0}

-- what wants no map first
abbrev pub is_met : ChainStep → Bool
is_met (step.Absent home) = false
is_met met = true

abbrev pub is_found : Way → Bool
is_found (way.Absent home) = false
is_found found = true

-- a map that is met in no frame is away, over whatever drum
abbrev pub StepNeeds : {P : Type 0} → StoreMeaning P → P → ChainStep → Type 0
StepNeeds store p (step.Absent home) = IsNeeded store 1 p (need.Page home)
StepNeeds store p met = Unit {0}

abbrev pub WayNeeds : {P : Type 0} → StoreMeaning P → P → Way → Type 0
WayNeeds store p (way.Absent home) = IsNeeded store 1 p (need.Page home)
WayNeeds store p found = Unit {0}
