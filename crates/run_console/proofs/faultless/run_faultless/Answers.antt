use Rattle.std.proofs.Common.{◌≡◌, ◌⊎◌, inl, inr, refl, arith, subst, sym}
use Rattle.run_console.specs.Command.{IsRight}
use Rattle.run_console.specs.Statuses.{IsFaultless}
use Rattle.run_console.proofs.Statuses.{early_usage}
use Rattle.run_console.proofs.faultless.run_faultless.Goals as goal

pub returns-clause-faultless : goal.returns-clause-faultless
returns-clause-faultless c =
    c.run_command.ensures.runs.complete (record { script = (refl, omega arith); out = (refl, omega arith); rec = (refl, omega arith); drum = (refl, omega arith) })

pub returns-clause-judged : goal.returns-clause-judged
returns-clause-judged c reads = (c.run_command.ensures.runs.judged c.args.script.items reads c.new-script.ensures.left).judged

pub returns-clause-usage : goal.returns-clause-usage
returns-clause-usage c = c.run_command.ensures.runs.usage

pub returns-clause-always_usage : goal.returns-clause-always_usage
returns-clause-always_usage c wrong = early_usage c.run_command.result (c.run_command.ensures.runs.always_usage wrong) (returns-clause-faultless c)

pub returns-clause-complete : goal.returns-clause-complete
returns-clause-complete c right = c.run_command.ensures.runs.complete_run (subst (IsRight _ _) (sym c.new-script.ensures.left) right) (returns-clause-faultless c)
