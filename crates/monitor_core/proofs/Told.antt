-- Forks that are told of an end keep their places.
use Rattle.std.proofs.Common.{ℕ}
use Rattle.plain_units.specs.declared.channel.TheConstants.{INFERIOR_ENDED}
use Rattle.plain_model.specs.declared.fork.Fork.{Fork}
use Rattle.plain_model.specs.Forks.{ForkMap, superior_of}
use Rattle.plain_model.specs.Interrupts.{posted}
use Rattle.plain_model.specs.Trees.{end_told, waiters_woken}
use Rattle.plain_model.proofs.ForkMaps.{AreOwn, superior_tells}
use Rattle.plain_model.proofs.Posted.{posted_same}
use Rattle.job_forks.proofs.Places.{IsMild, Keep, changed_keeps, keep_on, waiters_keep}
use Rattle.monitor_calls.proofs.Keeping.{posted_body, posted_units}

-- a channel that is posted leaves a fork's place and its units, and its limits
pub posted_mild : (channel : ℕ) (k : Fork) → IsMild (λ h. posted h channel) k
posted_mild channel k =
    let same = posted_same k channel in
    record { name = same.0; slot = same.1; superior = same.2; units = posted_units k channel; within = posted_body k channel }

-- it is told that a fork has ended
pub end_keeps : (forks : ForkMap) → AreOwn forks → (g : Fork) → Keep forks (end_told forks g)
end_keeps forks own g =
    let woken = waiters_woken forks g.name.tty in
    let first = waiters_keep forks own g.name.tty in
    keep_on forks woken (end_told forks g) first (changed_keeps woken first.own (λ h. posted h INFERIOR_ENDED) (superior_of woken g) (λ k e. ((superior_tells woken first.own g k e).0, posted_mild INFERIOR_ENDED k)))
