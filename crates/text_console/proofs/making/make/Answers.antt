use Rattle.std.proofs.Common.{ap}
use Rattle.text_console.specs.Made.{status_of_asm, status_of_replay}
use Rattle.text_console.proofs.Ending.{asm_handed, asm_read, asm_write, replay_read, replay_write}
use Rattle.text_console.proofs.making.make.Goals as goal

pub returns-in-Record-clause-read_cause : goal.returns-in-Record-clause-read_cause
returns-in-Record-clause-read_cause g c is = c.make_of_record.ensures.read_cause (replay_read c.make_of_record.result is)

pub returns-in-Record-clause-write_cause : goal.returns-in-Record-clause-write_cause
returns-in-Record-clause-write_cause g c is = c.make_of_record.ensures.write_cause (replay_write c.make_of_record.result is)

pub returns-in-Record-clause-unfaulted : goal.returns-in-Record-clause-unfaulted
returns-in-Record-clause-unfaulted g c read write memory =
    c.make_of_record.ensures.unfaulted (λ is. read (ap status_of_replay is)) (λ is. write (ap status_of_replay is)) (λ is. memory (ap status_of_replay is))

pub returns-in-Assemble-clause-read_cause : goal.returns-in-Assemble-clause-read_cause
returns-in-Assemble-clause-read_cause g c is = c.asm.ensures.read_cause (asm_read c.asm.result is)

pub returns-in-Assemble-clause-write_cause : goal.returns-in-Assemble-clause-write_cause
returns-in-Assemble-clause-write_cause g c is = c.asm.ensures.write_cause (asm_write c.asm.result is)

pub returns-in-Assemble-clause-unfaulted : goal.returns-in-Assemble-clause-unfaulted
returns-in-Assemble-clause-unfaulted g c read write memory = c.asm.ensures.unfaulted (λ is. read (ap status_of_asm is)) (λ is. write (ap status_of_asm is))

pub returns-in-Assemble-clause-handed : goal.returns-in-Assemble-clause-handed
returns-in-Assemble-clause-handed g c = asm_handed c.asm.result c.asm.ensures.handed c.asm.ensures.write_cause
