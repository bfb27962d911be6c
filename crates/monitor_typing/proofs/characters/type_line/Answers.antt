use Rattle.std.proofs.Common.{sym, subst}
use Rattle.event_deeds.specs.Deeds.{typed_by}
use Rattle.plain_model.specs.declared.fork.TerminalMode.TheVariants.{Command}
use Rattle.monitor_typing.specs.Deeds.{Does}
use Rattle.monitor_typing.specs.Effects.{job_in}
use Rattle.monitor_typing.proofs.CharacterDid.{does_end, does_other, does_stop}
use Rattle.monitor_typing.proofs.characters.type_line.Goals as goal

pub returns-then-code-eq-CONTROL_C-clause-does : goal.returns-then-code-eq-CONTROL_C-clause-does
returns-then-code-eq-CONTROL_C-clause-does g c =
    let m = c.args.system.now in
    let last = c.interrupt-shown.new.system in
    subst (Does m last (λ s. typed_by Command s c.args.t (job_in m c.args.t c.args.job) c.args.code)) (sym c.echoed.ensures)
    (does_stop m last c.args.t c.args.job c.interrupt-shown.result c.args.code c.if-code-eq-CONTROL_C.true c.interrupt-shown.ensures.has)

pub returns-then-code-eq-LINE_END-clause-does : goal.returns-then-code-eq-LINE_END-clause-does
returns-then-code-eq-LINE_END-clause-does g c = does_end c.args.system.now c.end_line.new.system c.args.t c.args.job c.end_line.result c.args.code c.if-code-eq-LINE_END.true c.end_line.ensures.does

pub returns-clause-does : goal.returns-clause-does
returns-clause-does g c =
    let m = c.args.system.now in
    let last = c.lengthen-shown.new.system in
    subst (Does m last (λ s. typed_by Command s c.args.t (job_in m c.args.t c.args.job) c.args.code)) (sym c.echoed-2.ensures)
    (does_other m last c.args.t c.args.job c.lengthen-shown.result c.args.code c.if-code-eq-CONTROL_C.false c.if-code-eq-LINE_END.false c.lengthen-shown.ensures.has)
