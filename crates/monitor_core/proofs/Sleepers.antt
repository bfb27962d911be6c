-- Sleepers that a tick awakes keep their places.
use Rattle.std.proofs.Common.{ℕ, Bool, true, false, cond, refl, nat_le}
use Rattle.plain_model.specs.declared.fork.Fork.{Fork}
use Rattle.script_texts.specs.declared.status.ForkStatus.{ForkStatus}
use Rattle.script_texts.specs.declared.status.ForkStatus.TheVariants.{Run, Wait, Halted, Forced}
use Rattle.script_texts.specs.declared.status.WaitOn.TheVariants as on
use Rattle.plain_model.specs.Forks.{ForkMap}
use Rattle.plain_model.specs.Trees.{awoken, sleepers_awoken, without_sleep}
use Rattle.plain_model.proofs.ForkMaps.{AreOwn}
use Rattle.job_forks.specs.Limits.{FitsForced}
use Rattle.job_forks.proofs.Places.{IsMild, Keep, all_keep}

-- a fork that sleeps no more was forced by no channel
awake_fits : (clock : ℕ) (s : ForkStatus) → FitsForced s → FitsForced (without_sleep clock s)
awake_fits clock Run h = h
awake_fits clock Halted h = h
awake_fits clock (Forced channel) h = h
awake_fits clock (Wait on.Input) h = h
awake_fits clock (Wait on.Fork) h = h
awake_fits clock (Wait (on.Sleep moment)) h = by (nat_le moment clock)
  where
    by : (b : Bool) → FitsForced (cond b Run (Wait (on.Sleep moment)))
    by true = λ channel e. absurd (cc e)
    by false = h

awoken_mild : (clock : ℕ) (f : Fork) → IsMild (awoken clock) f
awoken_mild clock f = record { name = refl; slot = refl; superior = refl; units = refl; within = λ b. record { status = awake_fits clock f.body.status b.status; pc = b.pc; accumulators = b.accumulators } }

pub sleepers_keep : (clock : ℕ) (forks : ForkMap) → AreOwn forks → Keep forks (sleepers_awoken clock forks)
unfolding sleepers_awoken
sleepers_keep clock forks own = all_keep (awoken clock) (awoken_mild clock) forks own
