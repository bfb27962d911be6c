use Rattle.script_lang.proofs.Choices.{read_last}
use Rattle.script_lang.proofs.keywords.event.Goals as goal

pub returns : goal.returns
returns c = read_last c.args.line.now c.file_event.result c.in_default.ensures c.in_default-machine_event.ensures c.file_event.ensures
