use Rattle.plain_laws.proofs.ExampleTexts.{empty_recorded}
use Rattle.plain_laws.proofs.example.empty_script.Goals as goal

pub returns-clause-record : goal.returns-clause-record
returns-clause-record c = empty_recorded
