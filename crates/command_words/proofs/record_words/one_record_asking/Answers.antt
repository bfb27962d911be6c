use Rattle.command_words.proofs.Records.{one_record}
use Rattle.command_words.proofs.record_words.one_record_asking.Goals as goal

pub returns : goal.returns
returns c = one_record
