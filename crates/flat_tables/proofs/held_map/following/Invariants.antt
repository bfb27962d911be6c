use Rattle.std.proofs.Common.{◌≡◌, length, map, take}
use Rattle.std.specs.List.{range_with_len}
use Rattle.machine_names.specs.declared.names.TheConstants.{SPACE_PAGES}
use Rattle.flat_tables.proofs.Beginning.{follower}
use Rattle.flat_tables.proofs.held_map.following.Given as goal

abbrev pub invariant-loop-page : goal.invariant-loop-page
invariant-loop-page l = record {
  size : length l.entries ≡ SPACE_PAGES;
  so_far : take l.page l.entries ≡ map (follower l.serial l.near) (range_with_len 0 l.page);
}
