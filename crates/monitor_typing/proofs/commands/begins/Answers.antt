use Rattle.std.proofs.Common.{Some, ◌∙◌, ap}
use Rattle.event_deeds.specs.declared.deed.Deed.TheVariants.{Begin}
use Rattle.monitor_typing.proofs.Commanded.{begins_run}
use Rattle.monitor_typing.proofs.commands.begins.Goals as goal

pub returns-in-Some-clause-begins : goal.returns-in-Some-clause-begins
returns-in-Some-clause-begins g c =
    let found = c.in-Some.ensures.found in
    ap (λ n. Some (Begin c.args.t n)) (c.name_of.ensures.name ∙ found.1)
    ∙ begins_run c.args.system.now.files c.args.t c.in-Run.name c.in-Some.file.0 found.0 found.1 c.args.command.now c.in-Run.is

pub returns-in-Some-clause-fits : goal.returns-in-Some-clause-fits
returns-in-Some-clause-fits g c = ((c.requires.terminal, c.name_of.ensures.named), tt)
