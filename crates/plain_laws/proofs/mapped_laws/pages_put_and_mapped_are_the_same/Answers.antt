use Rattle.plain_laws.proofs.MappedFiles.{is_one, no_room_taken}
use Rattle.plain_laws.proofs.mapped_laws.pages_put_and_mapped_are_the_same.Goals as goal

pub returns-clause-one : goal.returns-clause-one
returns-clause-one c = λ p s t f a n w h has. is_one p w s t f a n h has

pub returns-clause-room : goal.returns-clause-room
returns-clause-room c = λ p s t f a w. no_room_taken p w s t f a
