-- Which forks stay, and that each is in its slot, where a character or a command of a terminal's job changes some.
use Rattle.std.proofs.Common.{◌≡◌, ℕ, Bool, Some, true, false, refl, ap, sym, subst}
use Rattle.std.specs.Prelude.{if◌then◌else◌}
use Rattle.std.specs.Option.{option_map_or}
use Rattle.std.specs.FinMap as map
use Rattle.machine_names.specs.declared.names.ForkName.{ForkName}
use Rattle.machine_names.specs.declared.names.Tty.{Tty}
use Rattle.plain_model.specs.declared.fork.TerminalMode.{TerminalMode}
use Rattle.plain_model.specs.declared.fork.TerminalMode.TheVariants.{Command, Program}
use Rattle.plain_model.specs.Forks.{ForkMap, OthersStay}
use Rattle.plain_model.specs.Interrupts.{channels_of}
use Rattle.plain_model.specs.Posting.{with_all_posted}
use Rattle.plain_model.specs.Trees.{PlainTree, readers_woken, with_mark}
use Rattle.plain_model.proofs.OtherJobs.{posted_others, readers_job}
use Rattle.fork_tree.specs.Trees.{AreSlotted, IsTree}
use Rattle.job_forks.specs.Holding.{ComeFrom}
use Rattle.psi_calls.proofs.PostedKeeps.{channels_keep}
use Rattle.step_shown.specs.declared.echo.Echo.{Echo}
use Rattle.step_shown.specs.declared.echo.Echo.TheVariants.{Shows, Wakes}
use Rattle.monitor_calls.specs.declared.job.Job.{Job}
use Rattle.monitor_core.specs.declared.system.System.{System}
use Rattle.monitor_typing.specs.Effects.{stopped_tree}
use Rattle.monitor_core.specs.Reaching.{ChangesJob}
use Rattle.monitor_typing.specs.Reaching.{EchoReaches}
use Rattle.monitor_typing.proofs.CommandDid.{readers_keep}
use Rattle.monitor_calls.specs.Jobs.{job_at}
use Rattle.monitor_core.proofs.JobOthers.{job_same, slots_came, slots_placed, top_changed, top_others}

module _ {P : Type 0} {b : _} (m : System P b) (t : Tty) (j : Job) (at : job_at m.jobs.items t.0 ≡ Some j) where
  -- each fork that is left stands where it stood
  pub top_left : (new : ForkMap) → AreSlotted new → ComeFrom m.tree.forks new → OthersStay j.top.tty m.tree.forks new → ChangesJob t m.tree.forks new
  top_left new slotted come stay = (top_others m t j at new stay, slots_came m.tree.forks new slotted come)

  -- it is stopped
  pub top_stopped : IsTree m.tree → (mode : TerminalMode) (new : PlainTree) → new ≡ stopped_tree mode m.tree j.top → ChangesJob t m.tree.forks new.forks
  top_stopped trees Program new is = top_changed m t j at trees (with_mark true) (λ k. refl) new is
  top_stopped trees Command new is = job_same t m.tree.forks new.forks (ap (λ (x : PlainTree). x.forks) is)

-- who waits for a character of a job runs again
pub readers_change : (tree new : PlainTree) → IsTree tree → (t : Tty) → new ≡ record tree { forks = readers_woken tree.forks t } → ChangesJob t tree.forks new.forks
readers_change tree new trees t is =
    let own = trees.slotted.own in
    subst (λ (x : PlainTree). ChangesJob t tree.forks x.forks) (sym is) ((readers_job tree.forks own t).others, slots_placed tree.forks (readers_woken tree.forks t) (readers_keep tree.forks own t).same)

-- so a character that is stored reaches forks of the job where it may have woken one, and else none
pub stored_reaches : (t : Tty) (may : Bool) (code : ℕ) (shown : Echo) → shown ≡ (if may then Wakes code else Shows code) → (old new : ForkMap) → (may ≡ false → new ≡ old) → ChangesJob t old new → EchoReaches t shown old new
stored_reaches t true code shown is old new none changes = subst (λ e. EchoReaches t e old new) (sym is) changes
stored_reaches t false code shown is old new none changes = subst (λ e. EchoReaches t e old new) (sym is) (none refl)

-- channels are posted to a fork of a name
pub posts_change : (tree new : PlainTree) → IsTree tree → (name : ForkName) (word : ℕ) → new ≡ record tree { forks = option_map_or (with_all_posted tree.forks (channels_of word)) (map.get tree.forks name) tree.forks }
    → ChangesJob name.tty tree.forks new.forks
posts_change tree new trees name word is =
    let own = trees.slotted.own in
    let posted = option_map_or (with_all_posted tree.forks (channels_of word)) (map.get tree.forks name) tree.forks in
    subst (λ (x : PlainTree). ChangesJob name.tty tree.forks x.forks) (sym is) (posted_others tree.forks own name (channels_of word), slots_placed tree.forks posted (channels_keep tree.forks own word name).same)
