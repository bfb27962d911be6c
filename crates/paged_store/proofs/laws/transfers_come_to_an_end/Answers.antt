use Rattle.std.proofs.Common.{length, refl}
use Rattle.paged_store.specs.StoreMeaning.{paged_meaning}
use Rattle.paged_store.proofs.Lasting.{all_ended}
use Rattle.paged_store.proofs.laws.transfers_come_to_an_end.Goals as goal

pub returns : goal.returns
returns c s n ended = all_ended (length (paged_meaning.queue s)) s n refl ended
