use Rattle.std.proofs.Common.{Some, arith, subst, sym}
use Rattle.run_console.specs.Command.{IsRight}
use Rattle.run_console.proofs.InBytes.{in_bytes, told}
use Rattle.run_console.proofs.Statuses.{faultless_but}
use Rattle.run_console.proofs.in_memory.run_in_memory.Goals as goal

pub returns-clause-headline : goal.returns-clause-headline
returns-clause-headline c done = in_bytes _ _ _ _ c.new-script.ensures.left _ _ _ _ _ _ (c.run_command.ensures.runs.framed done)

pub returns-clause-judged : goal.returns-clause-judged
returns-clause-judged c reads = (c.run_command.ensures.runs.judged c.args.script.items reads c.new-script.ensures.left).judged

pub returns-clause-usage : goal.returns-clause-usage
returns-clause-usage c = c.run_command.ensures.runs.usage

pub returns-clause-always_usage : goal.returns-clause-always_usage
returns-clause-always_usage c = c.run_command.ensures.runs.always_usage

pub returns-clause-write_cause : goal.returns-clause-write_cause
returns-clause-write_cause c = c.run_command.ensures.runs.caused.write

pub returns-clause-faultless : goal.returns-clause-faultless
returns-clause-faultless c =
    let seen = told c.args.words.now _ (Some c.new-script.result.unread) (Some c.run_command.new.script.unread) c.new-script.ensures.left c.args.out.now c.run_command.new.out c.args.rec.now c.run_command.new.rec c.args.drum.now c.run_command.new.drum in
    let caused = c.run_command.ensures.runs.caused in
    faultless_but _ _ seen c.run_command.result c.run_command.ensures.runs.tells (λ is. absurd (omega (arith, caused.drum is))) (λ is. absurd (omega (arith, caused.read is)))

pub returns-clause-complete : goal.returns-clause-complete
returns-clause-complete c right = c.run_command.ensures.runs.complete_run (subst (IsRight _ _) (sym c.new-script.ensures.left) right)
