use Rattle.std.proofs.Common.{◌≡◌, length, map, take}
use Rattle.machine_names.specs.declared.names.TheConstants.{SPACE_PAGES}
use Rattle.flat_tables.specs.Looks.{look_of}
use Rattle.flat_tables.proofs.kept_maps.row_of.Given as goal

abbrev pub invariant-loop-page : goal.invariant-loop-page
invariant-loop-page l = record {
  size : length l.row ≡ SPACE_PAGES;
  so_far : take l.page l.row ≡ take l.page (map (look_of l.number) l.entries);
}
