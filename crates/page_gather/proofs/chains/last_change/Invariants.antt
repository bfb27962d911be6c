use Rattle.std.proofs.Common.{◌≡◌, take}
use Rattle.page_gather.specs.Changes.{change_of}
use Rattle.page_gather.proofs.chains.last_change.Given as goal

abbrev pub invariant-loop-change : goal.invariant-loop-change
invariant-loop-change l = record { last : l.last ≡ change_of (take l.change-index l.changes) l.slot }
