use Rattle.std.proofs.Common.{◌-◌, ◌∙◌, ℕ, Option, None, Some, refl, sym, ap, subst}
use Rattle.std.proofs.lemmas.Result.{on_ok_weaker}
use Rattle.event_deeds.specs.Deeds.{deed, deeds}
use Rattle.event_deeds.specs.declared.deed.Deed.{Deed}
use Rattle.plain_model.specs.Trees.{PlainTree}
use Rattle.paged_events.specs.Turns.{TookDeeds}
use Rattle.paged_events.specs.Typing.{DidPart, ShowedFirst}
use Rattle.paged_events.specs.declared.fault.Fault.TheVariants.{Drum, Taker}
use Rattle.paged_events.proofs.Outside.{other_err, outside_nil, uses_failed, uses_then, uses_well}
use Rattle.paged_events.proofs.TextLists.{deeds_took}
use Rattle.paged_events.proofs.Texts.{behind, core_then, cut_part, deeds_none, deeds_so, did_none, did_then, effect_of, first_none, part_cut, part_did, part_so, typed_behind, typed_well}
use Rattle.paged_events.proofs.typing.+deeds.Goals as goal

pub returns-then-left-eq0-clause-typed : goal.returns-then-left-eq0-clause-typed
returns-then-left-eq0-clause-typed g n c =
    typed_well g.S.System.means g.D.Drum.held g.T.Taker.stands g.T.Taker.cut _ (λ q. deeds c.args.left q c.args.deed.now) c.args.waits.now.system c.args.waits.now.system c.args.drum.now c.args.drum.now c.args.out.now c.args.out.now (did_none g.S.System.means g.D.Drum.held g.T.Taker.stands g.T.Taker.cut (λ q. deeds c.args.left q c.args.deed.now) c.args.waits.now.system c.args.drum.now c.args.out.now (λ words st fits. ap (λ n. deeds n (g.S.System.means.plain c.args.waits.now.system words) c.args.deed.now) c.if-left-eq0.true ∙ deeds_none (g.S.System.means.plain c.args.waits.now.system words) c.args.deed.now))

pub returns-then-left-eq0-clause-outside : goal.returns-then-left-eq0-clause-outside
returns-then-left-eq0-clause-outside g n c =
    uses_well g.T.Taker.onward g.T.Taker.fault_count g.D.Drum.fault_count g.D.Drum.read_count g.D.Drum.write_count g.D.Drum.size _ c.args.out.now c.args.out.now c.args.drum.now c.args.drum.now (outside_nil g.T.Taker.onward g.T.Taker.fault_count g.D.Drum.fault_count g.D.Drum.read_count g.D.Drum.write_count g.D.Drum.size c.args.out.now c.args.drum.now)

pub returns-in-Some-clause-typed : goal.returns-in-Some-clause-typed
returns-in-Some-clause-typed g n c =
    typed_behind g.S.System.means g.D.Drum.held g.T.Taker.stands g.T.Taker.cut c.deeds.result (λ q. effect_of (deed q c.args.deed.now)) (behind (c.args.left - 1) (Some c.in-Some.next)) (λ q. deeds c.args.left q c.args.deed.now) c.args.waits.now.system c.part.new.waits.system c.deeds.new.waits.system c.args.drum.now c.part.new.drum c.deeds.new.drum c.args.out.now c.part.new.out c.deeds.new.out (part_so g.S.System.means g.D.Drum.held g.T.Taker.stands g.T.Taker.cut c.args.deed.now c.args.left c.if-left-eq0.false (Some c.in-Some.next) c.args.waits.now.system c.part.new.waits.system c.args.drum.now c.part.new.drum c.args.out.now c.part.new.out (subst (λ (o : Option Deed). DidPart g.S.System.means g.D.Drum.held g.T.Taker.stands g.T.Taker.cut c.args.deed.now o c.args.waits.now.system c.part.new.waits.system c.args.drum.now c.part.new.drum c.args.out.now c.part.new.out) c.in-Some.is c.in-Ok.ensures.did)) (part_did g.S.System.means g.D.Drum.held g.T.Taker.stands g.T.Taker.cut c.args.deed.now (Some c.in-Some.next) c.args.waits.now.system c.part.new.waits.system c.args.drum.now c.part.new.drum c.args.out.now c.part.new.out (subst (λ (o : Option Deed). DidPart g.S.System.means g.D.Drum.held g.T.Taker.stands g.T.Taker.cut c.args.deed.now o c.args.waits.now.system c.part.new.waits.system c.args.drum.now c.part.new.drum c.args.out.now c.part.new.out) c.in-Some.is c.in-Ok.ensures.did)) c.deeds.ensures.typed

pub returns-in-Some-clause-outside : goal.returns-in-Some-clause-outside
returns-in-Some-clause-outside g n c =
    uses_then g.T.Taker.onward g.T.Taker.fault_count g.D.Drum.fault_count g.D.Drum.read_count g.D.Drum.write_count g.D.Drum.size c.deeds.result c.args.out.now c.part.new.out c.deeds.new.out c.args.drum.now c.part.new.drum c.deeds.new.drum c.part.ensures.outside.later c.deeds.ensures.outside

pub returns-in-Some-clause-within : goal.returns-in-Some-clause-within
returns-in-Some-clause-within g n c =
    on_ok_weaker c.deeds.result (λ stays k w. stays k (c.in-Ok.ensures.within k w)) c.deeds.ensures.within

pub returns-in-Some-clause-core : goal.returns-in-Some-clause-core
returns-in-Some-clause-core g n c =
    on_ok_weaker c.deeds.result
    (core_then g.S.System.means g.D.Drum.held g.T.Taker.stands g.T.Taker.cut (λ q. effect_of (deed q c.args.deed.now)) c.args.waits.now.system c.part.new.waits.system c.deeds.new.waits.system c.args.waits.now.lists c.part.new.waits.lists c.deeds.new.waits.lists c.args.drum.now c.part.new.drum c.args.out.now c.part.new.out
    (part_did g.S.System.means g.D.Drum.held g.T.Taker.stands g.T.Taker.cut c.args.deed.now _ c.args.waits.now.system c.part.new.waits.system c.args.drum.now c.part.new.drum c.args.out.now c.part.new.out c.in-Ok.ensures.did) c.in-Ok.ensures.core)
    c.deeds.ensures.core

pub returns-in-Some-clause-marks : goal.returns-in-Some-clause-marks
returns-in-Some-clause-marks g n c =
    record { limit = c.deeds.ensures.marks.limit ∙ c.part.ensures.marks.limit; frames = c.deeds.ensures.marks.frames ∙ c.part.ensures.marks.frames; auto = c.deeds.ensures.marks.auto ∙ c.part.ensures.marks.auto }

pub returns-in-None-clause-typed : goal.returns-in-None-clause-typed
returns-in-None-clause-typed g n c =
    typed_well g.S.System.means g.D.Drum.held g.T.Taker.stands g.T.Taker.cut _ (λ q. deeds c.args.left q c.args.deed.now) c.args.waits.now.system c.part.new.waits.system c.args.drum.now c.part.new.drum c.args.out.now c.part.new.out
    (did_then g.S.System.means g.D.Drum.held g.T.Taker.stands g.T.Taker.cut (λ q. effect_of (deed q c.args.deed.now)) (behind (c.args.left - 1) None) (λ q. deeds c.args.left q c.args.deed.now) c.args.waits.now.system c.part.new.waits.system c.part.new.waits.system c.args.drum.now c.part.new.drum c.part.new.drum c.args.out.now c.part.new.out c.part.new.out (part_so g.S.System.means g.D.Drum.held g.T.Taker.stands g.T.Taker.cut c.args.deed.now c.args.left c.if-left-eq0.false None c.args.waits.now.system c.part.new.waits.system c.args.drum.now c.part.new.drum c.args.out.now c.part.new.out (subst (λ (o : Option Deed). DidPart g.S.System.means g.D.Drum.held g.T.Taker.stands g.T.Taker.cut c.args.deed.now o c.args.waits.now.system c.part.new.waits.system c.args.drum.now c.part.new.drum c.args.out.now c.part.new.out) c.in-None.is c.in-Ok.ensures.did)) (part_did g.S.System.means g.D.Drum.held g.T.Taker.stands g.T.Taker.cut c.args.deed.now None c.args.waits.now.system c.part.new.waits.system c.args.drum.now c.part.new.drum c.args.out.now c.part.new.out (subst (λ (o : Option Deed). DidPart g.S.System.means g.D.Drum.held g.T.Taker.stands g.T.Taker.cut c.args.deed.now o c.args.waits.now.system c.part.new.waits.system c.args.drum.now c.part.new.drum c.args.out.now c.part.new.out) c.in-None.is c.in-Ok.ensures.did)) (did_none g.S.System.means g.D.Drum.held g.T.Taker.stands g.T.Taker.cut (behind (c.args.left - 1) None) c.part.new.waits.system c.part.new.drum c.part.new.out (λ words st fits. refl)))

pub returns-in-None-clause-outside : goal.returns-in-None-clause-outside
returns-in-None-clause-outside g n c =
    uses_well g.T.Taker.onward g.T.Taker.fault_count g.D.Drum.fault_count g.D.Drum.read_count g.D.Drum.write_count g.D.Drum.size _ c.args.out.now c.part.new.out c.args.drum.now c.part.new.drum c.part.ensures.outside.later

pub returns-in-Err-clause-typed : goal.returns-in-Err-clause-typed
returns-in-Err-clause-typed g n c =
    record {
      ok = tt;
      stopped = λ is. subst (ShowedFirst g.S.System.means g.D.Drum.held g.T.Taker.stands g.T.Taker.cut (λ q. deeds c.args.left q c.args.deed.now) c.args.waits.now.system c.args.drum.now c.args.out.now) (sym (c.in-Err.ensures.still (other_err c.in-Err.fault Drum is))) (first_none g.S.System.means g.D.Drum.held g.T.Taker.stands g.T.Taker.cut (λ q. deeds c.args.left q c.args.deed.now) c.args.waits.now.system c.args.drum.now c.args.out.now);
      cutoff = λ is.
          cut_part g.S.System.means g.D.Drum.held g.T.Taker.stands g.T.Taker.cut (λ q. effect_of (deed q c.args.deed.now)) (λ q. deeds c.args.left q c.args.deed.now) c.args.waits.now.system c.args.drum.now c.args.out.now c.part.new.out (deeds_so g.S.System.means g.D.Drum.held g.T.Taker.stands g.T.Taker.cut c.args.deed.now c.args.left c.if-left-eq0.false c.args.waits.now.system c.args.drum.now)
          (part_cut g.S.System.means g.D.Drum.held g.T.Taker.stands g.T.Taker.cut c.args.deed.now c.args.waits.now.system c.args.drum.now c.args.out.now c.part.new.out (c.in-Err.ensures.cutoff (other_err c.in-Err.fault Taker is)));
    }

pub returns-in-Err-clause-outside : goal.returns-in-Err-clause-outside
returns-in-Err-clause-outside g n c =
    uses_failed g.T.Taker.onward g.T.Taker.fault_count g.D.Drum.fault_count g.D.Drum.read_count g.D.Drum.write_count g.D.Drum.size c.in-Err.fault c.args.out.now c.part.new.out c.args.drum.now c.part.new.drum c.in-Err.ensures.outside

pub returns-then-left-eq0-clause-lists : goal.returns-then-left-eq0-clause-lists
returns-then-left-eq0-clause-lists g n c words st fits =
    let l = c.args.waits.now.lists.sched in
    subst (λ (k : ℕ). TookDeeds k (g.S.System.means.plain c.args.waits.now.system words) c.args.deed.now l l) (sym c.if-left-eq0.true) refl

pub returns-in-Some-clause-lists : goal.returns-in-Some-clause-lists
returns-in-Some-clause-lists g n c =
    on_ok_weaker c.deeds.result
    (deeds_took g.S.System.means g.D.Drum.held g.T.Taker.stands g.T.Taker.cut (λ s d fits. ap (λ (t : PlainTree). t.forks) (g.met.S.System.forked s d fits)) c.args.deed.now c.args.left c.if-left-eq0.false (Some c.in-Some.next) c.args.waits.now.system c.part.new.waits.system c.args.waits.now.lists.sched c.part.new.waits.lists.sched c.args.drum.now c.part.new.drum c.args.out.now c.part.new.out
    (subst (λ (o : Option Deed). DidPart g.S.System.means g.D.Drum.held g.T.Taker.stands g.T.Taker.cut c.args.deed.now o c.args.waits.now.system c.part.new.waits.system c.args.drum.now c.part.new.drum c.args.out.now c.part.new.out) c.in-Some.is c.in-Ok.ensures.did) c.in-Ok.ensures.took c.deeds.new.waits.lists.sched)
    c.deeds.ensures.lists

pub returns-in-None-clause-lists : goal.returns-in-None-clause-lists
returns-in-None-clause-lists g n c =
    deeds_took g.S.System.means g.D.Drum.held g.T.Taker.stands g.T.Taker.cut (λ s d fits. ap (λ (t : PlainTree). t.forks) (g.met.S.System.forked s d fits)) c.args.deed.now c.args.left c.if-left-eq0.false None c.args.waits.now.system c.part.new.waits.system c.args.waits.now.lists.sched c.part.new.waits.lists.sched c.args.drum.now c.part.new.drum c.args.out.now c.part.new.out
    (subst (λ (o : Option Deed). DidPart g.S.System.means g.D.Drum.held g.T.Taker.stands g.T.Taker.cut c.args.deed.now o c.args.waits.now.system c.part.new.waits.system c.args.drum.now c.part.new.drum c.args.out.now c.part.new.out) c.in-None.is c.in-Ok.ensures.did) c.in-Ok.ensures.took c.part.new.waits.lists.sched (λ words st fits. refl)
