use Rattle.std.proofs.Common.{◌-◌, sym, subst}
use Rattle.event_deeds.specs.declared.deed.Deed.{Deed}
use Rattle.event_deeds.specs.Deeds.{deeds}
use Rattle.step_shown.specs.Echoes.{told_items}
use Rattle.step_shown.specs.declared.echo.Told.{Told as Printed}
use Rattle.monitor_typing.specs.Deeds.{IsPrinted}
use Rattle.monitor_typing.specs.Effects.{Has}
use Rattle.monitor_typing.proofs.CharacterParts.{has_behind, has_no_part, has_told, printed_changes, prints_so}
use Rattle.monitor_core.proofs.JobOthers.{job_on}
use Rattle.monitor_typing.proofs.typing.+end_command.Goals as goal

pub returns-then-left-eq0-clause-has : goal.returns-then-left-eq0-clause-has
returns-then-left-eq0-clause-has g n c = has_no_part c.args.system.now c.args.t c.args.left c.args.deed.now c.if-left-eq0.true

pub returns-in-Some-clause-has : goal.returns-in-Some-clause-has
returns-in-Some-clause-has g n c =
    has_behind c.args.system.now c.part.new.system c.end_command.new.system c.args.t c.args.left c.args.deed.now c.in-Some.next c.in-Ok.answer c.end_command.result c.if-left-eq0.false c.in-Some.is c.requires.behind c.in-Ok.ensures.does
    (subst (λ (x : Deed). Has c.part.new.system c.end_command.new.system (λ s. deeds (c.args.left - 1) s x) (told_items c.args.t c.end_command.result)) c.in-Some.next-is c.end_command.ensures.has)

pub returns-in-Told-clause-has : goal.returns-in-Told-clause-has
returns-in-Told-clause-has g n c =
    let m = c.args.system.now in
    let prints = prints_so c.args.t c.args.deed.now c.in-Ok.answer c.requires.behind c.in-Ok.ensures.printed in
    subst (λ (x : Printed). Has m c.part.new.system (λ s. deeds c.args.left s c.args.deed.now) (told_items c.args.t x)) (sym c.in-Told.told-is)
    (has_told m c.part.new.system c.args.t c.in-Told.field-0 c.args.left c.args.deed.now c.in-Told.told c.in-Ok.answer c.if-left-eq0.false c.in-None.is c.in-Told.is (subst (IsPrinted c.args.t) c.in-Told.is prints.shown) c.in-Ok.ensures.does)

pub returns-in-Some-clause-others : goal.returns-in-Some-clause-others
returns-in-Some-clause-others g n c =
    let t = c.args.t in
    let old = c.args.system.now.tree.forks in
    let mid = c.part.new.system.tree.forks in
    let prints = prints_so t c.args.deed.now c.in-Ok.answer c.requires.behind c.in-Ok.ensures.printed in
    job_on t old mid c.end_command.new.system.tree.forks (printed_changes t c.in-Ok.answer.showing old mid prints.shown c.in-Ok.ensures.others) c.end_command.ensures.others
