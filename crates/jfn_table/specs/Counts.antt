-- How many JFNs of a job name each file, as it is kept.
use Rattle.std.specs.Prelude.{◌≡◌, ℕ, ◌<◌, List, length, slice_index}
use Rattle.machine_names.specs.declared.names.TheConstants.{MOST_FILES}
use Rattle.plain_files.specs.JobFiles.{Held, names_in}

-- for each file there is how many JFNs name it
pub record CountNames (names : List ℕ) (m : Held) : Type 0 where
  pub size : length names ≡ MOST_FILES
  pub counts : (f : ℕ) → f < MOST_FILES → slice_index names f ≡ names_in m f
