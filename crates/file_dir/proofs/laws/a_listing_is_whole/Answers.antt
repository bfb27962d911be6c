use Rattle.file_dir.proofs.Whole.{whole}
use Rattle.file_dir.proofs.laws.a_listing_is_whole.Goals as goal

pub returns : goal.returns
returns c = λ m dir fs files lists. whole m files dir fs lists
