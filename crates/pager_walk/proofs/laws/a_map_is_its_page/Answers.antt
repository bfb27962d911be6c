use Rattle.pager_walk.proofs.WalkLaws.{entries_kept, look_kept}
use Rattle.pager_walk.proofs.laws.a_map_is_its_page.Goals as goal

pub returns : goal.returns
returns c = record {
  entries = entries_kept;
  looks = look_kept;
}
