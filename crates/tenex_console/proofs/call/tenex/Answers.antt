use Rattle.tenex_console.proofs.Refusing.{refuses, unwritten}
use Rattle.tenex_console.proofs.call.tenex.Goals as goal

pub returns-in-None-clause-refused : goal.returns-in-None-clause-refused
returns-in-None-clause-refused g c nothing =
    let runs = c.run_command.ensures.runs in
    refuses c.args.words.now (g.D.Drum.size c.args.drum.now) _ nothing.0 c.run_command.result runs.tells (runs.always_usage nothing.0)

pub returns-in-None-clause-unwritten : goal.returns-in-None-clause-unwritten
returns-in-None-clause-unwritten g c nothing =
    let runs = c.run_command.ensures.runs in
    unwritten c.args.words.now (g.D.Drum.size c.args.drum.now) _ nothing.0 c.run_command.result runs.tells (runs.always_usage nothing.0)
