use Rattle.std.proofs.Common.{ap, ◌∙◌}
use Rattle.paged_store.specs.HeldHomes.{no_holds}
use Rattle.paged_store.proofs.Holding.{lists_of, lists_none}
use Rattle.paged_store.proofs.holders.Holders.boot.Goals as goal

pub returns : goal.returns
unfolding no_holds
returns c = ap lists_of c.in_ok-empty_lists.ensures ∙ lists_none 64
