-- Causes of a refusal, in their order.
use Rattle.std.specs.Prelude.{List, [], ◌∷◌, Bool, Option, None, Some, if◌then◌else◌}

-- causes in the order in which they are asked, each with whether it is there
abbrev pub Asking : Type 0 → Type 0
Asking A = List (A × Bool)

-- the first that is there
abbrev pub first_there : {A : Type 0} → Asking A → Option A
first_there [] = None
first_there (cause ∷ causes) = if cause.1 then Some cause.0 else first_there causes
