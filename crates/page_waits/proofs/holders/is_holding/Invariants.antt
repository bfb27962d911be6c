use Rattle.std.proofs.Common.{◌≡◌, ◌≢◌, ◌<◌, ℕ, []}
use Rattle.page_contracts.specs.declared.store.TheConstants.{CONSOLE_HOLDER}
use Rattle.page_waits.proofs.holders.is_holding.Given as goal

abbrev pub invariant-loop-seat : goal.invariant-loop-seat
invariant-loop-seat g l = record {
  none : (k : ℕ) → k < l.seat → k ≢ CONSOLE_HOLDER → g.S.System.means.store.holds l.system k ≡ [];
}
