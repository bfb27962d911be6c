use Rattle.std.proofs.Common.{[], refl, sym, ◌∙◌, ap, subst}
use Rattle.std.specs.Prelude.{Ok}
use Rattle.script_texts.specs.declared.event.Event.{Event}
use Rattle.script_texts.specs.declared.event.Event.TheVariants.{Auto, Evict}
use Rattle.script_texts.specs.Follows.{auto_after}
use Rattle.fork_lists.specs.declared.lists.ForkLists.{ForkLists}
use Rattle.page_waits.proofs.Silence.{silent_nil}
use Rattle.page_waits.specs.Told.{MovesSilently}
use Rattle.paged_events.specs.Given.{Acted}
use Rattle.paged_events.proofs.Acted.{adds_none, adds_some, event_given, nothing_goes, state_gave, transfers_acted}
use Rattle.paged_events.proofs.Entries.{no_entry}
use Rattle.paged_events.proofs.Outside.{transfers_used}
use Rattle.paged_events.proofs.Over.{over_none}
use Rattle.paged_events.proofs.machine.act.Goals as goal

pub returns-in-Run-clause-acted : goal.returns-in-Run-clause-acted
returns-in-Run-clause-acted g c =
    subst (λ (e : Event). Acted g.S.System.means g.D.Drum.held g.T.Taker.stands g.T.Taker.cut c.args.waits.now.auto e c.run.result c.args.waits.now.system c.run.new.waits.system c.args.waits.now.lists c.run.new.waits.lists c.args.drum.now c.run.new.drum c.args.out.now c.run.new.out) (sym c.in-Run.is) c.run.ensures.acted

pub returns-in-Run-clause-auto : goal.returns-in-Run-clause-auto
returns-in-Run-clause-auto g c =
    c.run.ensures.marks.auto ∙ sym (ap (auto_after c.args.waits.now.auto) c.in-Run.is)

pub returns-in-TypeIn-clause-acted : goal.returns-in-TypeIn-clause-acted
returns-in-TypeIn-clause-acted g c =
    subst (λ (e : Event). Acted g.S.System.means g.D.Drum.held g.T.Taker.stands g.T.Taker.cut c.args.waits.now.auto e c.type_in.result c.args.waits.now.system c.type_in.new.waits.system c.args.waits.now.lists c.type_in.new.waits.lists c.args.drum.now c.type_in.new.drum c.args.out.now c.type_in.new.out) (sym c.in-TypeIn.is) c.type_in.ensures.acted

pub returns-in-TypeIn-clause-auto : goal.returns-in-TypeIn-clause-auto
returns-in-TypeIn-clause-auto g c =
    c.type_in.ensures.marks.auto ∙ sym (ap (auto_after c.args.waits.now.auto) c.in-TypeIn.is)

pub returns-in-Poke-clause-auto : goal.returns-in-Poke-clause-auto
returns-in-Poke-clause-auto g c =
    c.look.ensures.marks.auto ∙ sym (ap (auto_after c.args.waits.now.auto) c.in-Poke.is)

pub returns-in-Examine-clause-auto : goal.returns-in-Examine-clause-auto
returns-in-Examine-clause-auto g c =
    c.look-in-Examine.ensures.marks.auto ∙ sym (ap (auto_after c.args.waits.now.auto) c.in-Examine.is)

pub returns-in-Evict-clause-acted : goal.returns-in-Evict-clause-acted
returns-in-Evict-clause-acted g c =
    subst (λ (e : Event). Acted g.S.System.means g.D.Drum.held g.T.Taker.stands g.T.Taker.cut c.args.waits.now.auto e c.evict.result c.args.waits.now.system c.evict.new.waits.system c.args.waits.now.lists c.evict.new.waits.lists c.args.drum.now c.args.drum.now c.args.out.now c.args.out.now) (sym c.in-Evict.is)
    (subst (λ r. Acted g.S.System.means g.D.Drum.held g.T.Taker.stands g.T.Taker.cut c.args.waits.now.auto (Evict c.in-Evict.frame) r c.args.waits.now.system c.evict.new.waits.system c.args.waits.now.lists c.evict.new.waits.lists c.args.drum.now c.args.drum.now c.args.out.now c.args.out.now) (sym c.evict.ensures.none)
    (event_given g.S.System.means g.D.Drum.held g.T.Taker.stands g.T.Taker.cut c.args.waits.now.auto (Evict c.in-Evict.frame) c.args.waits.now.system c.evict.new.waits.system c.args.waits.now.lists c.evict.new.waits.lists c.args.drum.now c.args.drum.now c.args.out.now c.args.out.now 0 [] refl refl (adds_some g.S.System.means 0 c.args.waits.now.system c.evict.new.waits.system c.evict.ensures.state.told.within) (state_gave g.S.System.means g.D.Drum.held g.T.Taker.stands g.T.Taker.cut c.args.waits.now.auto c.args.waits.now.system c.evict.new.waits.system c.args.drum.now c.args.out.now c.evict.ensures.state) (no_entry g.S.System.means g.D.Drum.held c.args.waits.now.system c.args.waits.now.lists c.evict.new.waits.lists c.args.drum.now (subst (λ (m : ForkLists). MovesSilently c.args.waits.now.lists.sched m.sched) (sym c.evict.ensures.lists) (silent_nil c.args.waits.now.lists.sched))) (λ frames d st fits core evict. absurd (evict c.in-Evict.frame refl))))

pub returns-in-Evict-clause-auto : goal.returns-in-Evict-clause-auto
returns-in-Evict-clause-auto g c =
    c.evict.ensures.marks.auto ∙ sym (ap (auto_after c.args.waits.now.auto) c.in-Evict.is)

pub returns-in-Drum-clause-acted : goal.returns-in-Drum-clause-acted
returns-in-Drum-clause-acted g c =
    subst (λ (e : Event). Acted g.S.System.means g.D.Drum.held g.T.Taker.stands g.T.Taker.cut c.args.waits.now.auto e c.end_transfers.result c.args.waits.now.system c.end_transfers.new.waits.system c.args.waits.now.lists c.end_transfers.new.waits.lists c.args.drum.now c.end_transfers.new.drum c.args.out.now c.args.out.now) (sym c.in-Drum.is)
    (transfers_acted g.S.System.means g.D.Drum.held g.T.Taker.stands g.T.Taker.cut c.args.waits.now.auto c.in-Drum.n c.end_transfers.result c.args.waits.now.system c.end_transfers.new.waits.system c.args.waits.now.lists c.end_transfers.new.waits.lists c.args.drum.now c.end_transfers.new.drum c.args.out.now c.end_transfers.ensures.none c.end_transfers.ensures.quiet c.end_transfers.ensures.fails c.end_transfers.ensures.silent c.end_transfers.ensures.core)

pub returns-in-Drum-clause-outside : goal.returns-in-Drum-clause-outside
returns-in-Drum-clause-outside g c =
    transfers_used g.T.Taker.onward g.T.Taker.fault_count g.D.Drum.fault_count g.D.Drum.read_count g.D.Drum.write_count g.D.Drum.size c.end_transfers.result c.args.out.now c.args.drum.now c.end_transfers.new.drum c.end_transfers.ensures.later c.end_transfers.ensures.reads c.end_transfers.ensures.writes c.end_transfers.ensures.size c.end_transfers.ensures.cause c.end_transfers.ensures.fails

pub returns-in-Drum-clause-auto : goal.returns-in-Drum-clause-auto
returns-in-Drum-clause-auto g c =
    c.end_transfers.ensures.marks.auto ∙ sym (ap (auto_after c.args.waits.now.auto) c.in-Drum.is)

pub returns-in-Auto-clause-acted : goal.returns-in-Auto-clause-acted
returns-in-Auto-clause-acted g c =
    let means = g.S.System.means in
    let held = g.D.Drum.held in
    let stands = g.T.Taker.stands in
    let cut = g.T.Taker.cut in
    let auto = c.args.waits.now.auto in
    let s = c.args.waits.now.system in
    let l = c.args.waits.now.lists in
    let drum = c.args.drum.now in
    let out = c.args.out.now in
    let own = Auto c.in-Auto.on in
    subst (λ (e : Event). Acted means held stands cut auto e c.set_auto.result s c.set_auto.new.waits.system l c.set_auto.new.waits.lists drum drum out out) (sym c.in-Auto.is)
    (subst (λ r. Acted means held stands cut auto own r s c.set_auto.new.waits.system l c.set_auto.new.waits.lists drum drum out out) (sym c.set_auto.ensures.none)
    (subst (λ (m : ForkLists). Acted means held stands cut auto own (Ok 0) s c.set_auto.new.waits.system l m drum drum out out) (sym c.set_auto.ensures.lists)
    (subst (λ s'. Acted means held stands cut auto own (Ok 0) s s' l l drum drum out out) (sym c.set_auto.ensures.system)
    (event_given means held stands cut auto own s s l l drum drum out out 0 [] refl refl (adds_none means s) (over_none means held stands cut auto s drum out) (no_entry means held s l l drum (silent_nil l.sched)) (nothing_goes means held own s s l l drum (λ frames core. core))))))

pub returns-in-Auto-clause-auto : goal.returns-in-Auto-clause-auto
returns-in-Auto-clause-auto g c =
    c.set_auto.ensures.mark ∙ sym (ap (auto_after c.args.waits.now.auto) c.in-Auto.is)
