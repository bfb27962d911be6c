-- A channel is posted to a fork, and the superior of one that ends is told: who came of forks keeps their places.
use Rattle.std.proofs.Common.{◌≡◌, ℕ, ◌<◌, cond, refl, arith}
use Rattle.std.proofs.lemmas.Bool.{cond_both}
use Rattle.plain_units.specs.declared.channel.TheConstants.{INFERIOR_ENDED}
use Rattle.plain_model.specs.declared.fork.Fork.{Fork}
use Rattle.script_texts.specs.declared.status.ForkStatus.{ForkStatus}
use Rattle.script_texts.specs.declared.status.ForkStatus.TheVariants.{Run, Wait, Halted, Forced}
use Rattle.plain_model.specs.Forks.{ForkMap, superior_of, with_status}
use Rattle.plain_model.specs.Interrupts.{is_panic, listens, pended, posted, woken}
use Rattle.plain_model.specs.Trees.{end_told, waiters_woken}
use Rattle.plain_model.proofs.ForkMaps.{AreOwn, superior_tells}
use Rattle.plain_model.proofs.Posted.{posted_same}
use Rattle.job_forks.specs.Limits.{FitsForced, IsBody}
use Rattle.job_forks.proofs.Places.{IsMild, Keep, changed_keeps, keep_on, waiters_keep}

woken_fits : (s : ForkStatus) → FitsForced s → FitsForced (woken s)
woken_fits Run h = h
woken_fits Halted h = h
woken_fits (Forced channel) h = h
woken_fits (Wait on) h = λ channel e. absurd (cc e)

-- a channel that is posted to a fork leaves its place and its units, and keeps its limits
pub posted_mild : (channel : ℕ) → channel < 36 → (f : Fork) → IsMild (λ k. posted k channel) f
posted_mild channel below f = record {
  name = (posted_same f channel).0;
  slot = (posted_same f channel).1;
  superior = (posted_same f channel).2;
  units = by (λ g. g.body.units ≡ f.body.units) refl refl refl;
  within = λ b. by (λ g. IsBody g.body)
      (record { status = woken_fits f.body.status b.status; pc = b.pc; accumulators = b.accumulators })
      (record { status = λ forced e. (let same : channel ≡ forced = cc e in omega (arith, same, below)); pc = b.pc; accumulators = b.accumulators })
      b;
}
  where
    by : (P : Fork → Type 0) → P (pended f channel) → P (with_status f (Forced channel)) → P f → P (posted f channel)
    by P pends forces drops =
        cond_both (listens f.body.psi channel) (pended f channel) (cond (is_panic channel) (with_status f (Forced channel)) f) P (λ takes. pends)
        (λ misses. cond_both (is_panic channel) (with_status f (Forced channel)) f P (λ panics. forces) (λ drops_it. drops))

-- who came of forks keeps their places where an end is told
pub end_keeps : (forks : ForkMap) → AreOwn forks → (f : Fork) → Keep forks (end_told forks f)
end_keeps forks own f =
    let waiters = waiters_keep forks own f.name.tty in
    let woken = waiters_woken forks f.name.tty in
    keep_on forks woken (end_told forks f) waiters
    (changed_keeps woken waiters.own (λ k. posted k INFERIOR_ENDED) (superior_of woken f) (λ k e. ((superior_tells woken waiters.own f k e).0, posted_mild INFERIOR_ENDED (omega arith) k)))
