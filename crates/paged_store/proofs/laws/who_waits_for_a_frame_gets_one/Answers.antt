use Rattle.paged_store.proofs.Lasting.{waits_gets}
use Rattle.paged_store.proofs.laws.who_waits_for_a_frame_gets_one.Goals as goal

pub returns : goal.returns
returns c = waits_gets
