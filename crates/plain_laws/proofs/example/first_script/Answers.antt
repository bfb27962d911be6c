use Rattle.std.proofs.Common.{◌∙◌, ap}
use Rattle.script_texts.specs.Texts.{transcript}
use Rattle.plain_laws.proofs.ExampleRun.{example_shows, example_legal, example_follows}
use Rattle.plain_laws.proofs.ExampleTexts.{example_shown, example_recorded}
use Rattle.plain_laws.proofs.ExampleScript.{example_spelled}
use Rattle.plain_laws.proofs.example.first_script.Goals as goal

pub returns-clause-legal : goal.returns-clause-legal
returns-clause-legal c = example_legal

pub returns-clause-follows : goal.returns-clause-follows
returns-clause-follows c = example_follows

pub returns-clause-transcript : goal.returns-clause-transcript
returns-clause-transcript c = ap transcript example_shows ∙ example_shown

pub returns-clause-record : goal.returns-clause-record
returns-clause-record c = example_recorded

pub returns-clause-spelled : goal.returns-clause-spelled
returns-clause-spelled c = example_spelled
