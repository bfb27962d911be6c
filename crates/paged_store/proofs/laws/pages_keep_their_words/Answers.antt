use Rattle.paged_store.proofs.Living.{keeps_words}
use Rattle.paged_store.proofs.laws.pages_keep_their_words.Goals as goal

pub returns : goal.returns
returns c = keeps_words
