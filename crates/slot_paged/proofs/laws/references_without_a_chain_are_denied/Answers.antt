use Rattle.std.proofs.Common.{ap}
use Rattle.paged_tables.specs.PageHomes.{homed_along}
use Rattle.paged_tables.specs.PagedTouches.{walk_touched}
use Rattle.slot_paged.proofs.laws.references_without_a_chain_are_denied.Goals as goal

pub returns : goal.returns
returns c = record {
  denied = λ b places frames s kind none. ap (walk_touched b places frames kind) none;
  nowhere = λ b places s none. ap homed_along none;
}
