use Rattle.asm_core.proofs.Listed.{listing_back}
use Rattle.asm_core.proofs.laws.listings_are_read.Goals as goal

pub returns : goal.returns
returns c = listing_back
