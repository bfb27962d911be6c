use Rattle.std.proofs.Common.{◌≡◌, ◌≤◌, take}
use Rattle.page_gather.specs.Changes.{taken_names}
use Rattle.page_gather.proofs.chains.names_taken.Given as goal

abbrev pub invariant-loop-change : goal.invariant-loop-change
invariant-loop-change l = record {
  taken : l.count ≡ taken_names l.page (take l.change-index l.changes);
  few : l.count ≤ l.change-index;
}
