-- A fork that stops, where nobody waits for one; and the call by which a fork halts.
use Rattle.std.proofs.Common.{◌≡◌, ◌==◌, ℕ, ◌%◌, slice_index, Bool, true, false, cond, Option, None, Some, refl, ◌∙◌, ap}
use Rattle.std.specs.Option.{option_map, option_and_then}
use Rattle.std.specs.FinMap as map
use Rattle.plain_model.specs.declared.call.TheConstants.{HALTF, PBOUT}
use Rattle.plain_units.specs.declared.channel.TheConstants.{INFERIOR_ENDED}
use Rattle.machine_names.specs.declared.names.Tty.{Tty}
use Rattle.machine_names.specs.declared.names.ForkName.{ForkName}
use Rattle.plain_model.specs.declared.fork.Fork.{Fork}
use Rattle.script_texts.specs.declared.status.ForkStatus.TheVariants.{Halted}
use Rattle.plain_model.specs.State.{PlainState}
use Rattle.plain_model.specs.Forks.{ForkMap, fork_in, counted, with_regs, with_status}
use Rattle.plain_model.specs.Trees.{changed, unwaited, waiters_woken, end_told}
use Rattle.plain_model.proofs.ChangedForks.{get_changed, of_job}
use Rattle.plain_model.specs.Calls.{behind_call, parts_behind, fork_behind, turn_on}
use Rattle.plain_model.specs.Unit.{parts_of, stopped, called, turned, caller_ended}
use Rattle.plain_model.specs.Interrupts.{posted}
use Rattle.plain_model.proofs.ForkMaps.{AreOwn, same_forks}

-- no fork waits for one
abbrev pub NoneWaits : ForkMap → Type 0
NoneWaits forks = (k : ForkName) (f : Fork) → map.get forks k ≡ Some f → unwaited f ≡ f

module _ (forks : ForkMap) (own : AreOwn forks) (none : NoneWaits forks) where
  -- then nobody is woken
  pub none_woken : (t : Tty) → waiters_woken forks t ≡ forks
  unfolding waiters_woken
  none_woken t = same_forks _ _ (λ k. get_changed (of_job unwaited t) forks k ∙ by k (map.get forks k) refl)
    where
      same : (f : Fork) → unwaited f ≡ f → (b : Bool) → cond b (unwaited f) f ≡ f
      same f is true = is
      same f is false = refl

      by : (k : ForkName) (o : Option Fork) → map.get forks k ≡ o → option_map (of_job unwaited t) o ≡ o
      by k None is = refl
      by k (Some f) is = ap Some (same f (none k f is) (f.name.tty.0 == t.0))

  -- and of the end of a top fork nobody is told
  pub none_told : (f : Fork) → f.superior ≡ None → end_told forks f ≡ forks
  none_told f top =
      ap (λ woken. changed woken (λ k. posted k INFERIOR_ENDED) (option_and_then (fork_in woken f.name.tty) f.superior)) (none_woken f.name.tty)
      ∙ ap (λ (o : Option ℕ). changed forks (λ k. posted k INFERIOR_ENDED) (option_and_then (fork_in forks f.name.tty) o)) top

-- a fork that calls HALTF stops, behind the call
pub halts_so : (s : PlainState) (f : Fork) → map.get s.forks f.name ≡ Some f → called s f HALTF ≡ stopped s (counted (with_status (with_regs f (behind_call f.body.regs)) Halted))
unfolding turn_on parts_behind fork_behind
halts_so s f there = ap (λ (o : Option Fork). caller_ended s (option_map (λ g. with_status (with_regs g (behind_call g.body.regs)) Halted) o)) there

-- and one that calls PBOUT prints, and goes on behind the call
pub prints_so : (s : PlainState) (f : Fork) → map.get s.forks f.name ≡ Some f
    → called s f PBOUT ≡ turned s f.name.tty (record { parts = parts_of s; caller = Some (with_regs f (behind_call f.body.regs)); out = Some (slice_index f.body.regs.ac 1 % 128) })
unfolding turn_on parts_behind fork_behind
prints_so s f there =
    ap (λ (o : Option Fork). turned s f.name.tty (record { parts = parts_of s; caller = option_map (λ g. with_regs g (behind_call f.body.regs)) o; out = Some (slice_index f.body.regs.ac 1 % 128) })) there
