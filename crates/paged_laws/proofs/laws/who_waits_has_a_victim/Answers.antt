use Rattle.std.proofs.Common.{refl}
use Rattle.page_contracts.proofs.Sharing.{queue_frames, victim_there}
use Rattle.paged_store.specs.StoreMeaning.{paged_meaning}
use Rattle.paged_store.specs.StoreSound.{paged_sound}
use Rattle.paged_laws.proofs.laws.who_waits_has_a_victim.Goals as goal

pub returns-clause-victim : goal.returns-clause-victim
returns-clause-victim c many still few = victim_there paged_meaning c.args.store.now (paged_sound c.args.store.now) refl many still few

pub returns-clause-queue : goal.returns-clause-queue
returns-clause-queue c = queue_frames paged_meaning c.args.store.now (paged_sound c.args.store.now)
