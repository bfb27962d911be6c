use Rattle.page_files.proofs.Places.{next_place}
use Rattle.page_files.proofs.laws.bytes_follow_each_other.Goals as goal

pub returns : goal.returns
returns c = next_place
