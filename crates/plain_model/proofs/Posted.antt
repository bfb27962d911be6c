-- What a fork keeps to which a channel is posted.
use Rattle.std.proofs.Common.{◌≡◌, ℕ, refl, cond}
use Rattle.std.proofs.lemmas.Bool.{cond_both}
use Rattle.plain_model.specs.declared.fork.Fork.{Fork}
use Rattle.script_texts.specs.declared.status.ForkStatus.TheVariants.{Forced}
use Rattle.plain_model.specs.Forks.{with_status}
use Rattle.plain_model.specs.Interrupts.{posted, pended, listens, is_panic}

-- a fork with the same name and mark
abbrev pub SameMark : Fork → Fork → Type 0
SameMark f g = (g.name ≡ f.name) × (g.frozen ≡ f.frozen)

pub posted_mark : (f : Fork) (channel : ℕ) → SameMark f (posted f channel)
posted_mark f channel =
    cond_both (listens f.body.psi channel) (pended f channel) _ (SameMark f) (λ takes. (refl, refl)) (λ misses. cond_both (is_panic channel) (with_status f (Forced channel)) f (SameMark f) (λ panics. (refl, refl)) (λ drops. (refl, refl)))

-- a fork changed but for its name, slot and superior
abbrev pub IsSame : Fork → Fork → Type 0
IsSame f g = (g.name ≡ f.name) × (g.slot ≡ f.slot) × (g.superior ≡ f.superior)

pub posted_same : (f : Fork) (channel : ℕ) → IsSame f (posted f channel)
posted_same f channel =
    let dropped : Fork = cond (is_panic channel) (with_status f (Forced channel)) f in
    cond_both (listens f.body.psi channel) (pended f channel) dropped (IsSame f) (λ takes. (refl, refl, refl)) (λ misses. cond_both (is_panic channel) (with_status f (Forced channel)) f (IsSame f) (λ panics. (refl, refl, refl)) (λ drops. (refl, refl, refl)))
