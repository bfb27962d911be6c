use Rattle.plain_laws.proofs.MappedFiles.{comes_back, maps_freely, unmapping_keeps}
use Rattle.plain_laws.proofs.mapped_laws.mapping_and_unmapping_take_no_room.Goals as goal

pub returns-clause-mapped : goal.returns-clause-mapped
returns-clause-mapped c = λ p s f a w h. maps_freely p w s f a h

pub returns-clause-back : goal.returns-clause-back
returns-clause-back c = λ p s f a w h. comes_back p w s f a h

pub returns-clause-kept : goal.returns-clause-kept
returns-clause-kept c = λ p s f w. unmapping_keeps p w s f
