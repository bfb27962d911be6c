use Rattle.std.proofs.Common.{ℕ, List, [], ◌∷◌, ◌-◌, drop, length, refl, sym, ap, subst, arith}
use Rattle.std.specs.Prelude.{Err}
use Rattle.plain_model.specs.Trees.{PlainTree}
use Rattle.plain_model.specs.TypeEvents.{typed_all}
use Rattle.script_texts.specs.declared.event.Event.TheVariants.{TypeIn}
use Rattle.script_texts.specs.declared.event.Step.TheVariants.{Outer}
use Rattle.paged_events.specs.declared.fault.Fault.TheVariants.{Drum, Taker}
use Rattle.paged_events.proofs.Acted.{adds_some, event_cut, event_given, one_goes}
use Rattle.paged_events.proofs.Outside.{outside_taker, outside_then, uses_failed, uses_taker, uses_well}
use Rattle.paged_events.proofs.Outside.{other_err}
use Rattle.paged_events.specs.Turns.{TookText}
use Rattle.paged_events.proofs.Entries.{event_told}
use Rattle.paged_events.proofs.TextLists.{nothing_typed}
use Rattle.paged_events.proofs.TypeIn.{all_of, last_cut, refused_cut, refused_gave, text_before, text_cut, text_gave, whole_text}
use Rattle.paged_events.proofs.Texts.{did_same, typed_same}
use Rattle.paged_events.proofs.typing.type_in.Goals as goal

pub returns-in-Ok-give_refused-clause-acted : goal.returns-in-Ok-give_refused-clause-acted
returns-in-Ok-give_refused-clause-acted g c =
    event_given g.S.System.means g.D.Drum.held g.T.Taker.stands g.T.Taker.cut c.args.waits.now.auto (TypeIn c.args.t c.args.text) c.args.waits.now.system c.args.waits.now.system c.args.waits.now.lists c.args.waits.now.lists c.args.drum.now c.args.drum.now c.args.out.now c.give_refused.new.out 1 (Outer (TypeIn c.args.t c.args.text) ∷ []) refl refl (adds_some g.S.System.means 1 c.args.waits.now.system c.args.waits.now.system (λ k w. w)) (refused_gave c.args.t c.args.text g.S.System.means g.D.Drum.held g.T.Taker.stands g.T.Taker.cut c.args.waits.now.auto c.args.waits.now.system c.args.drum.now c.args.out.now c.give_refused.new.out (λ d fits. sym (c.if-has_job.ensures d fits)) c.in-Ok-give_refused.ensures.ok)
    (event_told g.S.System.means g.D.Drum.held (λ s d fits. ap (λ (t : PlainTree). t.forks) (g.met.S.System.forked s d fits)) c.args.waits.now.system c.args.waits.now.lists c.args.drum.now c.lists_are_sound.ensures.tied c.lists_are_sound.ensures.sound (TypeIn c.args.t c.args.text) c.args.waits.now.lists (λ words st fits. nothing_typed (g.S.System.means.plain c.args.waits.now.system words) c.args.t c.args.text c.args.waits.now.lists.sched (sym (c.if-has_job.ensures words fits))))
    (one_goes g.S.System.means g.D.Drum.held (TypeIn c.args.t c.args.text) c.args.waits.now.system c.args.waits.now.system c.args.waits.now.lists c.args.waits.now.lists c.args.drum.now (λ frames d st fits core roomy. core))

pub returns-in-Err-give_refused-clause-acted : goal.returns-in-Err-give_refused-clause-acted
returns-in-Err-give_refused-clause-acted g c =
    event_cut g.S.System.means g.D.Drum.held g.T.Taker.stands g.T.Taker.cut c.args.waits.now.auto (TypeIn c.args.t c.args.text) c.args.waits.now.system c.args.waits.now.system c.args.waits.now.lists c.args.waits.now.lists c.args.drum.now c.args.drum.now c.args.out.now c.give_refused.new.out (Outer (TypeIn c.args.t c.args.text) ∷ []) refl (refused_cut c.args.t c.args.text g.S.System.means g.D.Drum.held g.T.Taker.stands g.T.Taker.cut c.args.waits.now.auto c.args.waits.now.system c.args.drum.now c.args.out.now c.give_refused.new.out (λ d fits. sym (c.if-has_job.ensures d fits)) c.in-Err-give_refused.ensures.err)

pub returns-in-Ok-give_refused-clause-outside : goal.returns-in-Ok-give_refused-clause-outside
returns-in-Ok-give_refused-clause-outside g c =
    uses_well g.T.Taker.onward g.T.Taker.fault_count g.D.Drum.fault_count g.D.Drum.read_count g.D.Drum.write_count g.D.Drum.size _ c.args.out.now c.give_refused.new.out c.args.drum.now c.args.drum.now (outside_taker g.T.Taker.onward g.T.Taker.fault_count g.D.Drum.fault_count g.D.Drum.read_count g.D.Drum.write_count g.D.Drum.size c.args.out.now c.give_refused.new.out c.args.drum.now c.give_refused.ensures.later c.give_refused.ensures.onward)

pub returns-in-Err-give_refused-clause-outside : goal.returns-in-Err-give_refused-clause-outside
returns-in-Err-give_refused-clause-outside g c =
    uses_taker g.T.Taker.onward g.T.Taker.fault_count g.D.Drum.fault_count g.D.Drum.read_count g.D.Drum.write_count g.D.Drum.size c.args.out.now c.give_refused.new.out c.args.drum.now c.args.drum.now (outside_taker g.T.Taker.onward g.T.Taker.fault_count g.D.Drum.fault_count g.D.Drum.read_count g.D.Drum.write_count g.D.Drum.size c.args.out.now c.give_refused.new.out c.args.drum.now c.give_refused.ensures.later c.give_refused.ensures.onward) c.in-Err-give_refused.ensures.cause

pub returns-in-Ok-step-clause-acted : goal.returns-in-Ok-step-clause-acted
returns-in-Ok-step-clause-acted g c =
    event_given g.S.System.means g.D.Drum.held g.T.Taker.stands g.T.Taker.cut c.args.waits.now.auto (TypeIn c.args.t c.args.text) c.args.waits.now.system c.type_text.new.waits.system c.args.waits.now.lists c.type_text.new.waits.lists c.args.drum.now c.type_text.new.drum c.args.out.now c.step.new.self 1 (Outer (TypeIn c.args.t c.args.text) ∷ []) refl refl (adds_some g.S.System.means 1 c.args.waits.now.system c.type_text.new.waits.system c.in-Ok.ensures.within) (text_gave c.args.t c.args.text g.S.System.means g.D.Drum.held g.T.Taker.stands g.T.Taker.cut c.args.waits.now.auto c.args.waits.now.system c.args.drum.now (λ d fits. sym (c.if-has_job.ensures d fits)) c.type_text.new.waits.system c.type_text.new.drum c.args.out.now c.type_text.new.out c.step.new.self (did_same g.S.System.means g.D.Drum.held g.T.Taker.stands g.T.Taker.cut (λ q. typed_all q c.args.t (drop (length c.as_slice-codes.result.now - (length c.as_slice-codes.result.now)) c.as_slice-codes.result.now)) (λ q. typed_all q c.args.t c.args.text) c.args.waits.now.system c.type_text.new.waits.system c.args.drum.now c.type_text.new.drum c.args.out.now c.type_text.new.out (λ words st fits. whole_text (g.S.System.means.plain c.args.waits.now.system words) c.args.t c.args.text c.as_slice-codes.result.now (length c.as_slice-codes.result.now) c.as_slice-codes.ensures refl) c.in-Ok.ensures.typed.ok) c.in-Ok-step.ensures.ok)
    (event_told g.S.System.means g.D.Drum.held (λ s d fits. ap (λ (t : PlainTree). t.forks) (g.met.S.System.forked s d fits)) c.args.waits.now.system c.args.waits.now.lists c.args.drum.now c.lists_are_sound.ensures.tied c.lists_are_sound.ensures.sound (TypeIn c.args.t c.args.text) c.type_text.new.waits.lists
    (λ words st fits. subst (λ (codes : List ℕ). TookText (g.S.System.means.plain c.args.waits.now.system words) c.args.t codes c.args.waits.now.lists.sched c.type_text.new.waits.lists.sched) (all_of c.args.text c.as_slice-codes.result.now (length c.as_slice-codes.result.now) c.as_slice-codes.ensures refl) (c.in-Ok.ensures.lists words st fits)))
    (one_goes g.S.System.means g.D.Drum.held (TypeIn c.args.t c.args.text) c.args.waits.now.system c.type_text.new.waits.system c.args.waits.now.lists c.type_text.new.waits.lists c.args.drum.now (λ frames d st fits core roomy. c.in-Ok.ensures.core frames d st fits core))

pub returns-in-Err-step-clause-acted : goal.returns-in-Err-step-clause-acted
returns-in-Err-step-clause-acted g c =
    event_cut g.S.System.means g.D.Drum.held g.T.Taker.stands g.T.Taker.cut c.args.waits.now.auto (TypeIn c.args.t c.args.text) c.args.waits.now.system c.type_text.new.waits.system c.args.waits.now.lists c.type_text.new.waits.lists c.args.drum.now c.type_text.new.drum c.args.out.now c.step.new.self (Outer (TypeIn c.args.t c.args.text) ∷ []) refl (last_cut c.args.t c.args.text g.S.System.means g.D.Drum.held g.T.Taker.stands g.T.Taker.cut c.args.waits.now.auto c.args.waits.now.system c.args.drum.now (λ d fits. sym (c.if-has_job.ensures d fits)) c.type_text.new.waits.system c.type_text.new.drum c.args.out.now c.type_text.new.out c.step.new.self (did_same g.S.System.means g.D.Drum.held g.T.Taker.stands g.T.Taker.cut (λ q. typed_all q c.args.t (drop (length c.as_slice-codes.result.now - (length c.as_slice-codes.result.now)) c.as_slice-codes.result.now)) (λ q. typed_all q c.args.t c.args.text) c.args.waits.now.system c.type_text.new.waits.system c.args.drum.now c.type_text.new.drum c.args.out.now c.type_text.new.out (λ words st fits. whole_text (g.S.System.means.plain c.args.waits.now.system words) c.args.t c.args.text c.as_slice-codes.result.now (length c.as_slice-codes.result.now) c.as_slice-codes.ensures refl) c.in-Ok.ensures.typed.ok) c.in-Err-step.ensures.err)

pub returns-in-Ok-step-clause-outside : goal.returns-in-Ok-step-clause-outside
returns-in-Ok-step-clause-outside g c =
    uses_well g.T.Taker.onward g.T.Taker.fault_count g.D.Drum.fault_count g.D.Drum.read_count g.D.Drum.write_count g.D.Drum.size _ c.args.out.now c.step.new.self c.args.drum.now c.type_text.new.drum (outside_then g.T.Taker.onward g.T.Taker.fault_count g.D.Drum.fault_count g.D.Drum.read_count g.D.Drum.write_count g.D.Drum.size c.args.out.now c.type_text.new.out c.step.new.self c.args.drum.now c.type_text.new.drum c.type_text.new.drum c.type_text.ensures.outside.later (outside_taker g.T.Taker.onward g.T.Taker.fault_count g.D.Drum.fault_count g.D.Drum.read_count g.D.Drum.write_count g.D.Drum.size c.type_text.new.out c.step.new.self c.type_text.new.drum c.step.ensures.later c.step.ensures.onward))

pub returns-in-Err-step-clause-outside : goal.returns-in-Err-step-clause-outside
returns-in-Err-step-clause-outside g c =
    let cause = c.in-Err-step.ensures.cause in uses_taker g.T.Taker.onward g.T.Taker.fault_count g.D.Drum.fault_count g.D.Drum.read_count g.D.Drum.write_count g.D.Drum.size c.args.out.now c.step.new.self c.args.drum.now c.type_text.new.drum (outside_then g.T.Taker.onward g.T.Taker.fault_count g.D.Drum.fault_count g.D.Drum.read_count g.D.Drum.write_count g.D.Drum.size c.args.out.now c.type_text.new.out c.step.new.self c.args.drum.now c.type_text.new.drum c.type_text.new.drum c.type_text.ensures.outside.later (outside_taker g.T.Taker.onward g.T.Taker.fault_count g.D.Drum.fault_count g.D.Drum.read_count g.D.Drum.write_count g.D.Drum.size c.type_text.new.out c.step.new.self c.type_text.new.drum c.step.ensures.later c.step.ensures.onward)) (omega (arith, cause, c.type_text.ensures.outside.later.taker_later))

pub returns-in-Err-clause-acted : goal.returns-in-Err-clause-acted
returns-in-Err-clause-acted g c =
    record {
      ok = tt;
      stopped = λ is. record { steps = []; unfinished = refl; told = text_before c.args.t c.args.text g.S.System.means g.D.Drum.held g.T.Taker.stands g.T.Taker.cut c.args.waits.now.auto c.args.waits.now.system c.args.drum.now (λ d fits. sym (c.if-has_job.ensures d fits)) c.args.out.now c.type_text.new.out ((typed_same g.S.System.means g.D.Drum.held g.T.Taker.stands g.T.Taker.cut (Err c.in-Err.fault) (λ q. typed_all q c.args.t (drop (length c.as_slice-codes.result.now - (length c.as_slice-codes.result.now)) c.as_slice-codes.result.now)) (λ q. typed_all q c.args.t c.args.text) c.args.waits.now.system c.type_text.new.waits.system c.args.drum.now c.type_text.new.drum c.args.out.now c.type_text.new.out (λ words st fits. whole_text (g.S.System.means.plain c.args.waits.now.system words) c.args.t c.args.text c.as_slice-codes.result.now (length c.as_slice-codes.result.now) c.as_slice-codes.ensures refl) c.in-Err.ensures.typed).stopped (other_err c.in-Err.fault Drum is)) };
      cutoff = λ is. record { steps = (Outer (TypeIn c.args.t c.args.text) ∷ []); begins = refl; told = text_cut c.args.t c.args.text g.S.System.means g.D.Drum.held g.T.Taker.stands g.T.Taker.cut c.args.waits.now.auto c.args.waits.now.system c.args.drum.now (λ d fits. sym (c.if-has_job.ensures d fits)) c.args.out.now c.type_text.new.out ((typed_same g.S.System.means g.D.Drum.held g.T.Taker.stands g.T.Taker.cut (Err c.in-Err.fault) (λ q. typed_all q c.args.t (drop (length c.as_slice-codes.result.now - (length c.as_slice-codes.result.now)) c.as_slice-codes.result.now)) (λ q. typed_all q c.args.t c.args.text) c.args.waits.now.system c.type_text.new.waits.system c.args.drum.now c.type_text.new.drum c.args.out.now c.type_text.new.out (λ words st fits. whole_text (g.S.System.means.plain c.args.waits.now.system words) c.args.t c.args.text c.as_slice-codes.result.now (length c.as_slice-codes.result.now) c.as_slice-codes.ensures refl) c.in-Err.ensures.typed).cutoff (other_err c.in-Err.fault Taker is)) };
    }

pub returns-in-Err-clause-outside : goal.returns-in-Err-clause-outside
returns-in-Err-clause-outside g c =
    uses_failed g.T.Taker.onward g.T.Taker.fault_count g.D.Drum.fault_count g.D.Drum.read_count g.D.Drum.write_count g.D.Drum.size c.in-Err.fault c.args.out.now c.type_text.new.out c.args.drum.now c.type_text.new.drum c.in-Err.ensures.outside
