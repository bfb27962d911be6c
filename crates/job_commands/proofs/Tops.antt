-- The top fork of a job.
use Rattle.std.proofs.Common.{◌≡◌, Option, None, Some, refl, ◌∙◌, ap}
use Rattle.std.specs.Option.{option_map}
use Rattle.std.specs.FinMap as map
use Rattle.machine_names.specs.declared.names.ForkName.{ForkName}
use Rattle.plain_model.specs.declared.fork.Fork.{Fork}
use Rattle.plain_model.specs.Forks.{ForkMap}
use Rattle.fork_tree.specs.Trees.{AreSlotted, Lives}
use Rattle.fork_tree.proofs.Slots.{held_lives}
use Rattle.job_commands.specs.Leaving.{IsTop}

-- the fork in the first slot
pub in_first : (o : Option Fork) → option_map (λ f. f.slot) o ≡ Some 1 → (f : Fork) × (o ≡ Some f) × (f.slot ≡ 1)
in_first None e = absurd (cc e)
in_first (Some f) e = (f, refl, cc e)

-- whoever lives in the first slot of the job is it
pub top_is : (forks : ForkMap) → AreSlotted forks → (top : ForkName) → IsTop forks top → (f : Fork) → Lives forks f → f.name.tty.0 ≡ top.tty.0 → f.slot ≡ 1 → f.name ≡ top
top_is forks slotted top is f lives job slot =
    let k = in_first (map.get forks top) is in
    let own : k.0.name ≡ top = slotted.own top k.0 k.1 in
    let same = slotted.once top.tty 1 f k.0 (lives, job, slot) (held_lives forks slotted top k.0 k.1, ap (λ (n : ForkName). n.tty.0) own, k.2) in
    ap (λ (x : Fork). x.name) same ∙ own
