-- A fork that begins a program stands where it stood.
use Rattle.std.proofs.Common.{ℕ, ◌<◌, ◌^◌, refl}
use Rattle.plain_model.specs.declared.fork.Fork.{Fork}
use Rattle.plain_model.specs.Forks.{first_regs, psi_at_rest}
use Rattle.plain_model.specs.Commands.{begun_at}
use Rattle.job_forks.proofs.Places.{IsMild}

pub begun_mild : (address : ℕ) (f : Fork) → address < 2 ^ 18 → IsMild (begun_at address) f
unfolding first_regs psi_at_rest
begun_mild address f low = record {
  name = refl;
  slot = refl;
  superior = refl;
  units = refl;
  within = λ b. record { status = λ channel e. absurd (cc e); pc = low; accumulators = refl };
}
