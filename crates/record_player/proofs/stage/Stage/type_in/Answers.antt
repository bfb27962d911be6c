use Rattle.std.proofs.Common.{refl, sym, ◌∙◌, subst}
use Rattle.script_texts.specs.declared.event.Event.TheVariants.{TypeIn}
use Rattle.script_texts.specs.declared.event.Item.TheVariants.{Refusal}
use Rattle.script_texts.specs.declared.event.Refusal.TheVariants.{NoJob}
use Rattle.step_shown.specs.declared.reply.Reply.TheVariants.{One}
use Rattle.monitor_calls.specs.Jobs.{job_at}
use Rattle.monitor_core.proofs.EventDid.{missing}
use Rattle.monitor_core.proofs.JobDid.{did_still}
use Rattle.record_player.proofs.TypedIn.{has_one, types_nothing}
use Rattle.record_player.specs.Stages.{TypedOut}
use Rattle.record_player.proofs.Gone.{event_played}
use Rattle.record_player.proofs.Typing.{text_cut, text_played}
use Rattle.record_player.proofs.stage.Stage.type_in.Goals as goal

pub returns-then-not-has_job : goal.returns-then-not-has_job
returns-then-not-has_job g c =
    let m = c.args.self.now.system in
    let t = c.args.t in
    let e = TypeIn t c.args.text in
    let refused = One (Refusal (NoJob t)) in
    event_played g.T.Taker.fault_count g.T.Taker.onward g.T.Taker.stands g.T.Taker.cut c.args.self.now _ c.args.out.now c.give_all.new.out c.give_all.result e refused (c.requires.fits, refl)
    (did_still m m refl refl refl refl refl refl e refused c.requires.fits.0 (λ d f. types_nothing m t c.args.text d (missing (job_at m.jobs.items t.0) (sym c.has_job.ensures ∙ c.if-not-has_job.true)))) c.give_all.ensures refl

pub returns-in_err-type_text : goal.returns-in_err-type_text
returns-in_err-type_text g c =
    let m = c.args.self.now in
    let t = c.args.t in
    let r = c.from_residual.result in
    let j = has_one (job_at m.system.jobs.items t.0) (sym c.has_job.ensures ∙ c.if-not-has_job.false) in
    text_cut g.T.Taker.fault_count g.T.Taker.onward g.T.Taker.stands g.T.Taker.cut m t c.args.text j.0 j.1 c.type_text.new.self c.args.out.now c.type_text.new.out _ r c.from_residual.ensures.0
    (subst (TypedOut g.T.Taker.fault_count g.T.Taker.onward g.T.Taker.stands g.T.Taker.cut m c.type_text.new.self c.args.out.now c.type_text.new.out _ t) c.as_slice.ensures c.in_err-type_text.ensures)

pub returns : goal.returns
returns g c =
    let m = c.args.self.now in
    let t = c.args.t in
    let r = c.step.result in
    let j = has_one (job_at m.system.jobs.items t.0) (sym c.has_job.ensures ∙ c.if-not-has_job.false) in
    text_played g.T.Taker.fault_count g.T.Taker.onward g.T.Taker.stands g.T.Taker.cut m t c.args.text j.0 j.1 c.type_text.new.self _ c.args.out.now c.type_text.new.out c.step.new.self _ r
    (subst (TypedOut g.T.Taker.fault_count g.T.Taker.onward g.T.Taker.stands g.T.Taker.cut m c.type_text.new.self c.args.out.now c.type_text.new.out _ t) c.as_slice.ensures c.in_ok-type_text.ensures) refl refl
    (record { later = c.step.ensures.later; cause = c.step.ensures.cause; goes_on = c.step.ensures.onward })
    (record { ok = c.step.ensures.ok; err = c.step.ensures.err })
