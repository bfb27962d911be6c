-- What comes of a look-up.
use Rattle.std.proofs.Common.{◌≡◌, Option, None, Some, refl}
use Rattle.std.specs.Option.{option_map_or}

-- what holds of what is made of a value that was found, and of what stands for none, holds of the look-up
pub looked_up : {A B : Type 0} (Holds : B → Type 0) (made : A → B) (none : B) (o : Option A) → ((a : A) → o ≡ Some a → Holds (made a)) → (o ≡ None → Holds none) → Holds (option_map_or made o none)
looked_up Holds made none None some absent = absent refl
looked_up Holds made none (Some a) some absent = some a refl
