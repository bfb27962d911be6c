use Rattle.record_reader.proofs.OneReading.{begins_all, one_reading}
use Rattle.record_reader.proofs.laws.one_reading.Goals as goal

pub returns-clause-once : goal.returns-clause-once
returns-clause-once c = one_reading

pub returns-clause-fronts : goal.returns-clause-fronts
returns-clause-fronts c text rest read lines v = begins_all text read lines rest v
