-- How many transfers end with a row of units, and behind it.
use Rattle.std.proofs.Common.{◌≡◌, inl, inr, ℕ, ◌≤◌, Bool, true, false, refl, ap, arith}
use Rattle.page_waits.specs.Transfers.{Counts, EndsWhole, MovesAtMost, most_transfers}
use Rattle.paged_events.specs.Budgets.{most_in_turns}

module _ {D : Type 0} (counts : Counts D) where
  -- the transfer that ends with a quantum is one of those that the row's units have, since the quantum has more than one of these
  pub row_moves : (ended : Bool) (count : ℕ) (a b c : D) → 1 ≤ count → MovesAtMost counts most_transfers a b → MovesAtMost counts 1 b c → EndsWhole counts ended count a b → (ended ≡ false → c ≡ b)
      → MovesAtMost counts (most_in_turns count) a c
  row_moves false count a b c some few one whole stays =
      let reads = ap counts.reads (stays refl) in
      let writes = ap counts.writes (stays refl) in
      omega (arith, some, few, reads, writes)
  row_moves true count a b c some few one (inl none) stays = omega (arith, some, none, one)
  row_moves true count a b c some few one (inr all) stays = let many = all refl in omega (arith, few, one, many)
