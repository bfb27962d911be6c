use Rattle.std.proofs.Common.{ap, ◌∙◌}
use Rattle.fork_maps.specs.declared.map_numbers.TheConstants.{MOST_MAPS}
use Rattle.flat_tables.specs.HeldMaps.{fork_at}
use Rattle.flat_tables.proofs.Looking.{looked_free}
use Rattle.flat_tables.proofs.Opening.{none_at}
use Rattle.flat_tables.proofs.kept_maps.KeptMaps.boot.Goals as goal

pub invariant_of-result : goal.invariant_of-result
invariant_of-result c = record {
  looked = rw (c.in_ok-held.ensures, c.in_ok-looks.ensures, c.in_ok-keys.ensures) looked_free;
  numbered = c.in_ok-numbers.ensures (fork_at c.in_ok-held.held.items) (λ k. ap (λ maps. fork_at maps k) c.in_ok-held.ensures ∙ none_at MOST_MAPS k);
}
