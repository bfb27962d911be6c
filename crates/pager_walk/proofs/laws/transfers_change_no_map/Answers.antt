use Rattle.std.proofs.Common.{sym, subst}
use Rattle.pager_walk.specs.PagedMaps.{AreRooted}
use Rattle.pager_walk.proofs.WalkLaws.{fits_moved, maps_moved}
use Rattle.pager_walk.proofs.laws.transfers_change_no_map.Goals as goal

pub returns : goal.returns
returns c = record {
  rooted = λ t old new rooted same. subst (AreRooted t) (sym same) rooted;
  fits = fits_moved;
  told = maps_moved;
}
