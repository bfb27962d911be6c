use Rattle.std.proofs.Common.{None, Some, ◌∙◌, sym, ap, subst}
use Rattle.event_deeds.specs.declared.answer.Answer.{Answer}
use Rattle.event_deeds.specs.Deeds.{line_begun}
use Rattle.file_tables.specs.Tables.{files_of}
use Rattle.plain_model.specs.Commands.{commanded}
use Rattle.step_shown.specs.Echoes.{told_items}
use Rattle.monitor_typing.specs.Deeds.{Does, begins_with}
use Rattle.monitor_typing.specs.Effects.{Has, job_in}
use Rattle.monitor_core.specs.Reaching.{ChangesJob}
use Rattle.monitor_typing.specs.Reaching.{PartReaches}
use Rattle.monitor_calls.specs.Jobs.{job_at}
use Rattle.monitor_typing.proofs.TypeDid.{line_done, line_goes}
use Rattle.plain_model.specs.Trees.{PlainTree}
use Rattle.monitor_typing.proofs.characters.end_line.Goals as goal

pub do_command-told-requires-clause-job : goal.do_command-told-requires-clause-job
do_command-told-requires-clause-job g c = ap (λ js. job_at js c.args.t.0) c.take_line-command.ensures.jobs ∙ c.requires.job

pub returns-in-Some-clause-does : goal.returns-in-Some-clause-does
returns-in-Some-clause-does g c =
    let m = c.args.system.now in
    let mid = c.take_line-command.new.system in
    let t = c.args.t in
    let j = c.args.job.now in
    let e = c.take_line-command.ensures in
    subst (Does m mid (λ s. line_begun s t (job_in m t j))) (sym c.ended.ensures)
    (line_goes m mid t j c.requires.job mid e.has e.left c.in-Some.next (ap (begins_with (files_of mid.files) t) (sym e.command) ∙ sym c.in-Some.ensures.begins))

pub returns-in-None-clause-does : goal.returns-in-None-clause-does
returns-in-None-clause-does g c =
    let m = c.args.system.now in
    let mid = c.take_line-command.new.system in
    let last = c.do_command-told.new.system in
    let t = c.args.t in
    let j = c.args.job.now in
    let e = c.take_line-command.ensures in
    subst (Does m last (λ s. line_begun s t (job_in m t j))) (sym c.ended-in-None.ensures)
    (line_done m last t j c.requires.job mid e.has e.left c.do_command-told.result (ap (begins_with (files_of mid.files) t) (sym e.command) ∙ sym c.in-None.ensures.begins)
    (subst (λ x. Has mid last (λ s. commanded s t (job_in mid t j) x) (told_items t c.do_command-told.result)) e.command c.do_command-told.ensures.has))

pub returns-in-None-clause-others : goal.returns-in-None-clause-others
returns-in-None-clause-others g c =
    let new = c.do_command-told.new.system.tree.forks in
    let changes = subst (λ (x : PlainTree). ChangesJob c.args.t x.forks new) c.take_line-command.ensures.tree c.do_command-told.ensures.others in
    subst (λ (a : Answer). PartReaches a.showing c.args.system.now.tree.forks new) (sym c.ended-in-None.ensures) changes
