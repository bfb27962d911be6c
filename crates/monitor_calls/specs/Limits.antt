-- Limits of a fork and of its units.
use Rattle.std.specs.Prelude.{◌≡◌, ℕ}
use Rattle.plain_model.specs.declared.fork.Body.{Body}
use Rattle.script_texts.specs.declared.status.ForkStatus.TheVariants.{Run}
use Rattle.ka10_unit.specs.Taking.{most_frames}
pub use Rattle.job_forks.specs.Limits.{FitsForced, IsBody}

-- how many frames a unit may want: an instruction wants most
abbrev pub unit_frames : ℕ
unit_frames = most_frames

-- what units of a fork ask besides: it runs
pub record CanUnit (b : Body) : Type 0 where
  pub runs : b.status ≡ Run
  pub fits : IsBody b
