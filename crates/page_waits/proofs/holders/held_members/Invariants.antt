use Rattle.std.proofs.Common.{◌≡◌, ◌≢◌, ◌<◌, ℕ, [], length}
use Rattle.std.specs.Prelude.{None, Some, slice_index_or}
use Rattle.machine_names.specs.declared.names.ForkName.{ForkName}
use Rattle.page_contracts.specs.declared.store.TheConstants.{CONSOLE_HOLDER}
use Rattle.page_waits.specs.Waits.{the_lists}
use Rattle.page_waits.proofs.holders.held_members.Given as goal

abbrev pub invariant-loop-seat : goal.invariant-loop-seat
invariant-loop-seat g l = record {
  long : length l.forks ≡ 63;
  all : (k : ℕ) → k < l.seat → k ≢ CONSOLE_HOLDER → slice_index_or l.forks k None ≡ None → g.S.System.means.store.holds l.system k ≡ [];
  members : (k : ℕ) (f : ForkName) → slice_index_or l.forks k None ≡ Some f → the_lists.member l.lists k ≡ Some f;
  held : (k : ℕ) (f : ForkName) → slice_index_or l.forks k None ≡ Some f → g.S.System.means.store.holds l.system k ≢ [];
}
