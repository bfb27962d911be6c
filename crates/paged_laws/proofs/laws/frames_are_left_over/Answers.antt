use Rattle.std.proofs.Common.{refl}
use Rattle.page_contracts.proofs.Sharing.{frames_left}
use Rattle.paged_store.specs.StoreMeaning.{paged_meaning}
use Rattle.paged_store.specs.StoreSound.{paged_sound}
use Rattle.paged_laws.proofs.laws.frames_are_left_over.Goals as goal

pub returns : goal.returns
returns c many = frames_left paged_meaning c.args.store.now (paged_sound c.args.store.now) refl many
