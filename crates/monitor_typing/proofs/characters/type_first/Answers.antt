use Rattle.std.proofs.Common.{◌∙◌, sym, subst}
use Rattle.event_deeds.specs.Deeds.{deed}
use Rattle.event_deeds.specs.declared.deed.Deed.TheVariants.{Typed}
use Rattle.monitor_typing.specs.Deeds.{Does}
use Rattle.monitor_typing.proofs.CharacterDid.{does_in_line, does_in_program, types_nothing}
use Rattle.monitor_calls.proofs.Sounds.{entry_read, job_read}
use Rattle.monitor_typing.proofs.characters.type_first.Goals as goal

pub returns-in-Program-clause-does : goal.returns-in-Program-clause-does
returns-in-Program-clause-does g c =
    let m = c.args.system.now in
    let last = c.type_program-shown.new.system in
    subst (Does m last (λ s. deed s (Typed c.args.t c.args.c))) (sym c.echoed.ensures)
    (does_in_program m last c.args.t c.in-Some.job
    (job_read m.jobs.items c.args.t.0 c.index.result.now c.in-Some.job m.sound.job_room c.requires.terminal c.index.ensures c.in-Some.is) c.args.c c.type_program-shown.result c.in-Program.is c.type_program-shown.ensures.has)

pub returns-in-Command-clause-does : goal.returns-in-Command-clause-does
returns-in-Command-clause-does g c =
    let m = c.args.system.now in
    does_in_line m c.type_line.new.system c.args.t c.in-Some.job
    (job_read m.jobs.items c.args.t.0 c.index.result.now c.in-Some.job m.sound.job_room c.requires.terminal c.index.ensures c.in-Some.is) c.args.c c.type_line.result c.read_as.result c.read_as.ensures c.in-Command.is c.type_line.ensures.does

pub returns-in-None-clause-does : goal.returns-in-None-clause-does
returns-in-None-clause-does g c =
    let m = c.args.system.now in
    subst (Does m m (λ s. deed s (Typed c.args.t c.args.c))) (sym c.echoed-in-None.ensures)
    (types_nothing m c.args.t (entry_read m.jobs.items c.args.t.0 c.index.result.now m.sound.job_room c.requires.terminal c.index.ensures ∙ c.in-None.is) c.args.c)
