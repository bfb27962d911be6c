use Rattle.std.proofs.Common.{subst, rules}
use Rattle.texts.specs.declared.last.Last.TheVariants.{Stopped}
use Rattle.texts.specs.declared.last.Status.TheVariants.{WriteFault}
use Rattle.texts.specs.Writer.{FailsAtEnd, Finishes}
use Rattle.texts.proofs.Starts.{onward_start}
use Rattle.script_driver.proofs.Closing.{moved}
use Rattle.run_console.specs.Headline.{Stops}
use Rattle.run_console.proofs.Stopping.{stopped, unstopped}
use Rattle.run_console.proofs.call.stop.Goals as goal

pub returns-in-Ok-clause-stops : goal.returns-in-Ok-clause-stops
returns-in-Ok-clause-stops g c =
    let w = c.new-writer.result in
    let u = c.close.new.writer in
    let same = c.close.ensures.onward.each w (onward_start g.T.Sink.fault_count g.R.Sink.fault_count w) in
    moved (λ o o' r r'. Stops c.args.why (g.T.Sink.taken o) (g.T.Sink.taken o') (g.R.Sink.taken r) (g.R.Sink.taken r') c.status-in-Ok.result) c.new-writer.ensures.out (search rules) c.new-writer.ensures.rec (search rules)
    (stopped g.T.Sink.taken g.R.Sink.taken w u c.new-writer.ensures.line c.new-writer.ensures.run c.args.why c.status-in-Ok.result c.status-in-Ok.ensures
    (subst (λ s. Finishes g.T.Sink.taken g.R.Sink.taken (Stopped s 0) w u) c.status.ensures c.in-Ok.ensures.ok))

pub returns-in-Err-clause-stops : goal.returns-in-Err-clause-stops
returns-in-Err-clause-stops g c =
    let w = c.new-writer.result in
    let u = c.close.new.writer in
    let same = c.close.ensures.onward.each w (onward_start g.T.Sink.fault_count g.R.Sink.fault_count w) in
    moved (λ o o' r r'. Stops c.args.why (g.T.Sink.taken o) (g.T.Sink.taken o') (g.R.Sink.taken r) (g.R.Sink.taken r') WriteFault) c.new-writer.ensures.out (search rules) c.new-writer.ensures.rec (search rules)
    (unstopped g.T.Sink.taken g.R.Sink.taken w u c.new-writer.ensures.line c.new-writer.ensures.run c.args.why
    (subst (λ s. FailsAtEnd g.T.Sink.taken g.R.Sink.taken (Stopped s 0) w u) c.status.ensures c.in-Err.ensures.err))
