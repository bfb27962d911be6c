use Rattle.record_reader.proofs.Written.{reads_whole, size_again, told_again, written}
use Rattle.record_reader.proofs.laws.records_read_back.Goals as goal

pub returns-clause-text : goal.returns-clause-text
returns-clause-text c = written

pub returns-clause-reads : goal.returns-clause-reads
returns-clause-reads c = reads_whole

pub returns-clause-entries : goal.returns-clause-entries
returns-clause-entries c = told_again

pub returns-clause-size : goal.returns-clause-size
returns-clause-size c = size_again
