use Rattle.std.proofs.Common.{◌≡◌, replicate}
use Rattle.flat_tables.specs.Looks.{no_looks}
use Rattle.flat_tables.proofs.kept_maps.no_rows.Given as goal

abbrev pub invariant-loop-map : goal.invariant-loop-map
invariant-loop-map l = l.rows.items ≡ replicate l._map no_looks
