-- The fork that a handle names lives.
use Rattle.std.proofs.Common.{◌≡◌, ℕ, ◌-◌, Bool, true, false, cond, ◌&&◌, Option, None, Some, subst, sym}
use Rattle.std.specs.Prelude.{◌==◌, nat_le, IfSome}
use Rattle.std.specs.FinMap as map
use Rattle.plain_model.specs.declared.call.TheConstants.{FORK_SELF, FORK_SUPERIOR, FIRST_HANDLE, LAST_HANDLE}
use Rattle.machine_names.specs.declared.names.ForkName.{ForkName}
use Rattle.plain_model.specs.declared.fork.Fork.{Fork}
use Rattle.plain_model.specs.Forks.{ForkMap, fork_in, superior_of}
use Rattle.plain_model.specs.Handles.{named_by}
use Rattle.plain_model.proofs.ForkMaps.{superior_tells}
use Rattle.fork_tree.specs.Trees.{AreSlotted, Lives}
use Rattle.fork_tree.proofs.Slots.{held_lives, in_tells}

module _ (m : ForkMap) (s : AreSlotted m) (who : ForkName) (handle : ℕ) where
  by_caller : (k f : Fork) → Lives m k → named_by m handle k ≡ Some f → Lives m f
  by_caller k f lives e = by (handle == FORK_SELF) (handle == FORK_SUPERIOR) (nat_le FIRST_HANDLE handle && nat_le handle LAST_HANDLE) e
    where
      by : (b c d : Bool) → cond b (Some k) (cond c (superior_of m k) (cond d (fork_in m k.name.tty (handle - FORK_SELF)) None)) ≡ Some f → Lives m f
      by true c d h = let same : k ≡ f = cc h in subst (Lives m) same lives
      by false true d h = (superior_tells m s.own k f h).0
      by false false true h = (in_tells m s k.name.tty (handle - FORK_SELF) f h).0
      by false false false h = absurd (cc h)

  pub named_lives : (k : Fork) → map.get m who ≡ Some k → (o : Option Fork) → o ≡ named_by m handle k → IfSome o (Lives m)
  named_lives k is None e = tt
  named_lives k is (Some f) e = by_caller k f (held_lives m s who k is) (sym e)
