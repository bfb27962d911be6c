use Rattle.std.proofs.Common.{refl}
use Rattle.flat_tables.specs.Looks.{no_looks}
use Rattle.flat_tables.proofs.kept_maps.no_row.Goals as goal

pub returns : goal.returns
unfolding no_looks
returns c = refl
