use Rattle.std.proofs.Common.{sym}
use Rattle.script_texts.specs.declared.event.Step.TheVariants.{Outer, Unit, Idle}
use Rattle.texts.proofs.Standing.{named_ok, named_err}
use Rattle.texts.proofs.writer.WriterTaker.step.Goals as goal

pub returns-in-Unit-clause-ok : goal.returns-in-Unit-clause-ok
returns-in-Unit-clause-ok g c = named_ok c.equal_turns.result _ _ _ c.args.s (Unit c.in-Unit.f) (sym c.in-Unit.is) c.equal_turns.ensures.ok

pub returns-in-Unit-clause-err : goal.returns-in-Unit-clause-err
returns-in-Unit-clause-err g c = named_err c.equal_turns.result _ _ _ c.args.s (Unit c.in-Unit.f) (sym c.in-Unit.is) _ c.equal_turns.ensures.err

pub returns-in-Idle-clause-ok : goal.returns-in-Idle-clause-ok
returns-in-Idle-clause-ok g c = named_ok c.equal_turns-in-Idle.result _ _ _ c.args.s (Idle) (sym c.in-Idle.is) c.equal_turns-in-Idle.ensures.ok

pub returns-in-Idle-clause-err : goal.returns-in-Idle-clause-err
returns-in-Idle-clause-err g c = named_err c.equal_turns-in-Idle.result _ _ _ c.args.s (Idle) (sym c.in-Idle.is) _ c.equal_turns-in-Idle.ensures.err

pub returns-in-Outer-clause-ok : goal.returns-in-Outer-clause-ok
returns-in-Outer-clause-ok g c = named_ok c.event.result _ _ _ c.args.s (Outer c.in-Outer.e) (sym c.in-Outer.is) c.event.ensures.ok

pub returns-in-Outer-clause-err : goal.returns-in-Outer-clause-err
returns-in-Outer-clause-err g c = named_err c.event.result _ _ _ c.args.s (Outer c.in-Outer.e) (sym c.in-Outer.is) _ c.event.ensures.err
