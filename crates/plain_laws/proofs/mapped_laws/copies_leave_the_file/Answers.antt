use Rattle.plain_laws.proofs.WrittenFiles.{copies_leave, copies_read}
use Rattle.plain_laws.proofs.mapped_laws.copies_leave_the_file.Goals as goal

pub returns-clause-files : goal.returns-clause-files
returns-clause-files c = λ p q owner s k l f words w own h found goes. copies_leave p q w owner s own k l h found words goes f

pub returns-clause-own : goal.returns-clause-own
returns-clause-own c = λ p q owner s k l offset word w own h found goes. copies_read p q w owner s own k l h found offset word goes
