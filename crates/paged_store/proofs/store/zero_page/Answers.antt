use Rattle.std.proofs.Common.{refl}
use Rattle.machine_names.specs.PageWords.{zero_words}
use Rattle.paged_store.proofs.store.zero_page.Goals as goal

pub returns : goal.returns
unfolding zero_words
returns c = refl
