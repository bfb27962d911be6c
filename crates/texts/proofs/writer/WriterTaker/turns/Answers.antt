use Rattle.std.proofs.Common.{sym, subst, []}
use Rattle.std.specs.Prelude.{OnOk, OnErr, replicate}
use Rattle.script_texts.specs.Taker.{GoesOn, IsCut}
use Rattle.texts.specs.Writer.{Stands, IsCutWithin}
use Rattle.texts.proofs.writer.WriterTaker.turns.Goals as goal

pub returns-in-Unit-clause-ok : goal.returns-in-Unit-clause-ok
returns-in-Unit-clause-ok g c = subst (λ x. OnOk c.equal_turns.result (GoesOn (Stands g.T.Sink.taken g.R.Sink.taken) c.args.self.now c.equal_turns.new.self [] (replicate c.args.n x))) (sym c.in-Unit.is) c.equal_turns.ensures.ok

pub returns-in-Unit-clause-err : goal.returns-in-Unit-clause-err
returns-in-Unit-clause-err g c = subst (λ x. OnErr c.equal_turns.result (IsCut (Stands g.T.Sink.taken g.R.Sink.taken) (IsCutWithin g.T.Sink.taken g.R.Sink.taken) c.args.self.now c.equal_turns.new.self [] (replicate c.args.n x))) (sym c.in-Unit.is) c.equal_turns.ensures.err

pub returns-in-Idle-clause-ok : goal.returns-in-Idle-clause-ok
returns-in-Idle-clause-ok g c = subst (λ x. OnOk c.equal_turns-in-Idle.result (GoesOn (Stands g.T.Sink.taken g.R.Sink.taken) c.args.self.now c.equal_turns-in-Idle.new.self [] (replicate c.args.n x))) (sym c.in-Idle.is) c.equal_turns-in-Idle.ensures.ok

pub returns-in-Idle-clause-err : goal.returns-in-Idle-clause-err
returns-in-Idle-clause-err g c = subst (λ x. OnErr c.equal_turns-in-Idle.result (IsCut (Stands g.T.Sink.taken g.R.Sink.taken) (IsCutWithin g.T.Sink.taken g.R.Sink.taken) c.args.self.now c.equal_turns-in-Idle.new.self [] (replicate c.args.n x))) (sym c.in-Idle.is) c.equal_turns-in-Idle.ensures.err
