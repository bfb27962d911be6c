use Rattle.plain_laws.proofs.MappedFiles.{shares_page}
use Rattle.plain_laws.proofs.WrittenFiles.{goes_at_once, shared_takes, shares_still}
use Rattle.plain_laws.proofs.mapped_laws.written_words_are_the_files.Goals as goal

pub returns-clause-shared : goal.returns-clause-shared
returns-clause-shared c = λ p s f a w has some unmarked. shares_page p w s f a has some unmarked

pub returns-clause-granted : goal.returns-clause-granted
returns-clause-granted c = λ p owner s n a offset word h right unmarked. goes_at_once p owner s n a h right unmarked offset word

pub returns-clause-written : goal.returns-clause-written
returns-clause-written c = λ p q owner s f offset word w shares below goes. shared_takes p q owner s offset word goes f shares w below

pub returns-clause-still : goal.returns-clause-still
returns-clause-still c = λ p q owner s f offset word shares goes. shares_still p q owner s offset word goes f shares
