use Rattle.command_words.proofs.Reading.{one_run}
use Rattle.command_words.proofs.words.one_asking.Goals as goal

pub returns : goal.returns
returns c = one_run
