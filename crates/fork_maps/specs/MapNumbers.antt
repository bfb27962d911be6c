-- Which number the map of a name has.
use Rattle.std.specs.Prelude.{◌≡◌, ℕ, ◌+◌, ◌-◌, ◌*◌, ◌&&◌, List, Option, None, Some, if◌then◌else◌, nat_lt, nat_le, slice_set, slice_index}
use Rattle.std.specs.Option.{option_map}
use Rattle.machine_names.specs.declared.names.ForkName.{ForkName}
use Rattle.machine_names.specs.declared.names.TheConstants.{TERMINALS, LAST_SERIAL}
use Rattle.fork_maps.specs.ForkMaps.{first_map}

-- where a name stands among those of all terminals, if there is room for it
abbrev pub name_index : ForkName → Option ℕ
name_index f = if nat_lt f.tty.0 TERMINALS && nat_le f.serial LAST_SERIAL then Some (f.tty.0 * (LAST_SERIAL + 1) + f.serial) else None

-- the number that stands under a name, if there is room for it
abbrev pub number_of : List ℕ → ForkName → Option ℕ
number_of numbers f = option_map (λ i. first_map f.tty + slice_index numbers i) (name_index f)

-- the numbers once the map with a number is that of a name
abbrev pub put_number : List ℕ → ForkName → ℕ → Option ℕ → List ℕ
put_number numbers f k None = numbers
put_number numbers f k (Some i) = slice_set numbers i (k - first_map f.tty)

abbrev pub with_number : List ℕ → ForkName → ℕ → List ℕ
with_number numbers f k = put_number numbers f k (name_index f)

-- The number of each fork's map stands under its name, where there is room for that.
pub record AreListed (fork : ℕ → Option ForkName) (numbers : List ℕ) : Type 0 where
  pub named : (k i : ℕ) (f : ForkName) → fork k ≡ Some f → name_index f ≡ Some i → first_map f.tty + slice_index numbers i ≡ k
