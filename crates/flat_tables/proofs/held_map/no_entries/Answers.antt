use Rattle.std.proofs.Common.{refl}
use Rattle.flat_tables.specs.HeldMaps.{no_page}
use Rattle.flat_tables.proofs.held_map.no_entries.Goals as goal

pub returns : goal.returns
unfolding no_page
returns c = refl
