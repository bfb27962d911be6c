use Rattle.deed_laws.proofs.Characters.{whole_events}
use Rattle.deed_laws.proofs.laws.a_deed_is_its_event.Goals as goal

pub returns : goal.returns
returns c s e = whole_events s e
