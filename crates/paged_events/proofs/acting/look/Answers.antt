use Rattle.std.proofs.Common.{◌∷◌, [], inr, ap, refl}
use Rattle.std.specs.Prelude.{Ok}
use Rattle.page_waits.specs.Waits.{the_lists}
use Rattle.script_texts.specs.declared.event.Step.TheVariants.{Outer}
use Rattle.paged_events.proofs.Acted.{adds_counted, adds_some, begins_single, event_cut, event_given, follows_single, nothing_given, one_goes, unfinished_single}
use Rattle.paged_events.proofs.Deeds.{deed_cut, deed_gave, spent_cut, spent_gave}
use Rattle.paged_events.proofs.Entries.{deed_told, spent_takes}
use Rattle.paged_events.proofs.Outside.{outside_drum, outside_taker, outside_then, uses_drum, uses_taker, uses_well}
use Rattle.plain_model.specs.Trees.{PlainTree}
use Rattle.paged_events.proofs.NoMoves.{nothing_took}
use Rattle.paged_events.proofs.acting.look.Goals as goal

pub returns-in-Ok-give_row-clause-acted : goal.returns-in-Ok-give_row-clause-acted
returns-in-Ok-give_row-clause-acted g c = event_given g.S.System.means g.D.Drum.held g.T.Taker.stands g.T.Taker.cut c.args.waits.now.auto c.args.e.now c.args.waits.now.system c.bring.new.self.system c.args.waits.now.lists c.bring.new.self.lists c.args.drum.now c.bring.new.drum c.args.out.now c.give_row.new.out 1 (Outer c.args.e.now ∷ []) (follows_single c.args.e.now c.requires.deed.0.1) refl (adds_counted g.S.System.means 1 c.args.waits.now.system c.bring.new.self.system (λ k w. c.in-Ok.ensures.within c.in-Some.answer k (ap Ok c.in-Some.is) w)) (deed_gave g.S.System.means the_lists g.D.Drum.held g.T.Taker.stands g.T.Taker.cut c.args.waits.now.auto c.args.e.now c.in-Some.answer c.args.waits.now.system c.bring.new.self.system c.args.drum.now c.bring.new.drum c.args.out.now c.give_row.new.out (c.in-Ok.ensures.did c.in-Some.answer (ap Ok c.in-Some.is)) c.in-Ok-give_row.ensures.ok) (deed_told g.S.System.means g.D.Drum.held (λ s d fits. ap (λ (t : PlainTree). t.forks) (g.met.S.System.forked s d fits)) c.args.waits.now.system c.args.waits.now.lists c.args.drum.now c.lists_are_sound.ensures.tied c.lists_are_sound.ensures.sound c.args.e.now c.in-Some.answer c.bring.new.self.system c.bring.new.self.lists c.bring.new.drum c.requires.deed.1 (c.in-Ok.ensures.did c.in-Some.answer (ap Ok c.in-Some.is)) (c.in-Ok.ensures.took c.in-Some.answer (ap Ok c.in-Some.is))) (one_goes g.S.System.means g.D.Drum.held c.args.e.now c.args.waits.now.system c.bring.new.self.system c.args.waits.now.lists c.bring.new.self.lists c.args.drum.now (λ frames d st fits core roomy. c.in-Ok.ensures.calm frames d fits core (inr roomy)))

pub returns-in-Err-give_row-clause-acted : goal.returns-in-Err-give_row-clause-acted
returns-in-Err-give_row-clause-acted g c = event_cut g.S.System.means g.D.Drum.held g.T.Taker.stands g.T.Taker.cut c.args.waits.now.auto c.args.e.now c.args.waits.now.system c.bring.new.self.system c.args.waits.now.lists c.bring.new.self.lists c.args.drum.now c.bring.new.drum c.args.out.now c.give_row.new.out (Outer c.args.e.now ∷ []) (begins_single c.args.e.now c.requires.deed.0.1) (deed_cut g.S.System.means the_lists g.D.Drum.held g.T.Taker.stands g.T.Taker.cut c.args.waits.now.auto c.args.e.now c.in-Some.answer c.args.waits.now.system c.bring.new.self.system c.args.drum.now c.bring.new.drum c.args.out.now c.give_row.new.out (c.in-Ok.ensures.did c.in-Some.answer (ap Ok c.in-Some.is)) c.in-Err-give_row.ensures.err)

pub returns-in-Ok-give_row-clause-outside : goal.returns-in-Ok-give_row-clause-outside
returns-in-Ok-give_row-clause-outside g c = uses_well g.T.Taker.onward g.T.Taker.fault_count g.D.Drum.fault_count g.D.Drum.read_count g.D.Drum.write_count g.D.Drum.size _ c.args.out.now c.give_row.new.out c.args.drum.now c.bring.new.drum (outside_then g.T.Taker.onward g.T.Taker.fault_count g.D.Drum.fault_count g.D.Drum.read_count g.D.Drum.write_count g.D.Drum.size c.args.out.now c.args.out.now c.give_row.new.out c.args.drum.now c.bring.new.drum c.bring.new.drum (outside_drum g.T.Taker.onward g.T.Taker.fault_count g.D.Drum.fault_count g.D.Drum.read_count g.D.Drum.write_count g.D.Drum.size c.args.out.now c.args.drum.now c.bring.new.drum c.bring.ensures.later c.bring.ensures.reads c.bring.ensures.writes c.bring.ensures.size) (outside_taker g.T.Taker.onward g.T.Taker.fault_count g.D.Drum.fault_count g.D.Drum.read_count g.D.Drum.write_count g.D.Drum.size c.args.out.now c.give_row.new.out c.bring.new.drum c.give_row.ensures.later c.give_row.ensures.onward))

pub returns-in-Err-give_row-clause-outside : goal.returns-in-Err-give_row-clause-outside
returns-in-Err-give_row-clause-outside g c = uses_taker g.T.Taker.onward g.T.Taker.fault_count g.D.Drum.fault_count g.D.Drum.read_count g.D.Drum.write_count g.D.Drum.size c.args.out.now c.give_row.new.out c.args.drum.now c.bring.new.drum (outside_then g.T.Taker.onward g.T.Taker.fault_count g.D.Drum.fault_count g.D.Drum.read_count g.D.Drum.write_count g.D.Drum.size c.args.out.now c.args.out.now c.give_row.new.out c.args.drum.now c.bring.new.drum c.bring.new.drum (outside_drum g.T.Taker.onward g.T.Taker.fault_count g.D.Drum.fault_count g.D.Drum.read_count g.D.Drum.write_count g.D.Drum.size c.args.out.now c.args.drum.now c.bring.new.drum c.bring.ensures.later c.bring.ensures.reads c.bring.ensures.writes c.bring.ensures.size) (outside_taker g.T.Taker.onward g.T.Taker.fault_count g.D.Drum.fault_count g.D.Drum.read_count g.D.Drum.write_count g.D.Drum.size c.args.out.now c.give_row.new.out c.bring.new.drum c.give_row.ensures.later c.give_row.ensures.onward)) c.in-Err-give_row.ensures.cause

pub returns-in-Ok-give_refused-clause-acted : goal.returns-in-Ok-give_refused-clause-acted
returns-in-Ok-give_refused-clause-acted g c = event_given g.S.System.means g.D.Drum.held g.T.Taker.stands g.T.Taker.cut c.args.waits.now.auto c.args.e.now c.args.waits.now.system c.bring.new.self.system c.args.waits.now.lists c.bring.new.self.lists c.args.drum.now c.bring.new.drum c.args.out.now c.give_refused.new.out 1 (Outer c.args.e.now ∷ []) (follows_single c.args.e.now c.requires.deed.0.1) refl (adds_some g.S.System.means 1 c.args.waits.now.system c.bring.new.self.system (c.in-Ok.ensures.kept (ap Ok c.in-None.is)).within) (spent_gave g.S.System.means the_lists g.D.Drum.held g.T.Taker.stands g.T.Taker.cut c.args.waits.now.auto c.args.e.now c.args.waits.now.system c.bring.new.self.system c.args.drum.now c.bring.new.drum c.args.out.now c.give_refused.new.out (Outer c.args.e.now ∷ []) (c.in-Ok.ensures.spent (ap Ok c.in-None.is))) (spent_takes g.S.System.means g.D.Drum.held c.args.waits.now.system c.args.waits.now.lists c.bring.new.self.lists c.args.drum.now (Outer c.args.e.now ∷ []) (c.in-Ok.ensures.spent (ap Ok c.in-None.is))) (one_goes g.S.System.means g.D.Drum.held c.args.e.now c.args.waits.now.system c.bring.new.self.system c.args.waits.now.lists c.bring.new.self.lists c.args.drum.now (λ frames d st fits core roomy. absurd ((c.in-Ok.ensures.spent (ap Ok c.in-None.is)).never d st fits)))

pub returns-in-Err-give_refused-clause-acted : goal.returns-in-Err-give_refused-clause-acted
returns-in-Err-give_refused-clause-acted g c = event_cut g.S.System.means g.D.Drum.held g.T.Taker.stands g.T.Taker.cut c.args.waits.now.auto c.args.e.now c.args.waits.now.system c.bring.new.self.system c.args.waits.now.lists c.bring.new.self.lists c.args.drum.now c.bring.new.drum c.args.out.now c.give_refused.new.out (Outer c.args.e.now ∷ []) (begins_single c.args.e.now c.requires.deed.0.1) (spent_cut g.S.System.means the_lists g.D.Drum.held g.T.Taker.stands g.T.Taker.cut c.args.waits.now.auto c.args.e.now c.args.waits.now.system c.args.drum.now c.args.out.now c.give_refused.new.out (Outer c.args.e.now ∷ []) (c.in-Ok.ensures.spent (ap Ok c.in-None.is)))

pub returns-in-Ok-give_refused-clause-outside : goal.returns-in-Ok-give_refused-clause-outside
returns-in-Ok-give_refused-clause-outside g c = uses_well g.T.Taker.onward g.T.Taker.fault_count g.D.Drum.fault_count g.D.Drum.read_count g.D.Drum.write_count g.D.Drum.size _ c.args.out.now c.give_refused.new.out c.args.drum.now c.bring.new.drum (outside_then g.T.Taker.onward g.T.Taker.fault_count g.D.Drum.fault_count g.D.Drum.read_count g.D.Drum.write_count g.D.Drum.size c.args.out.now c.args.out.now c.give_refused.new.out c.args.drum.now c.bring.new.drum c.bring.new.drum (outside_drum g.T.Taker.onward g.T.Taker.fault_count g.D.Drum.fault_count g.D.Drum.read_count g.D.Drum.write_count g.D.Drum.size c.args.out.now c.args.drum.now c.bring.new.drum c.bring.ensures.later c.bring.ensures.reads c.bring.ensures.writes c.bring.ensures.size) (outside_taker g.T.Taker.onward g.T.Taker.fault_count g.D.Drum.fault_count g.D.Drum.read_count g.D.Drum.write_count g.D.Drum.size c.args.out.now c.give_refused.new.out c.bring.new.drum c.give_refused.ensures.later c.give_refused.ensures.onward))

pub returns-in-Err-give_refused-clause-outside : goal.returns-in-Err-give_refused-clause-outside
returns-in-Err-give_refused-clause-outside g c = uses_taker g.T.Taker.onward g.T.Taker.fault_count g.D.Drum.fault_count g.D.Drum.read_count g.D.Drum.write_count g.D.Drum.size c.args.out.now c.give_refused.new.out c.args.drum.now c.bring.new.drum (outside_then g.T.Taker.onward g.T.Taker.fault_count g.D.Drum.fault_count g.D.Drum.read_count g.D.Drum.write_count g.D.Drum.size c.args.out.now c.args.out.now c.give_refused.new.out c.args.drum.now c.bring.new.drum c.bring.new.drum (outside_drum g.T.Taker.onward g.T.Taker.fault_count g.D.Drum.fault_count g.D.Drum.read_count g.D.Drum.write_count g.D.Drum.size c.args.out.now c.args.drum.now c.bring.new.drum c.bring.ensures.later c.bring.ensures.reads c.bring.ensures.writes c.bring.ensures.size) (outside_taker g.T.Taker.onward g.T.Taker.fault_count g.D.Drum.fault_count g.D.Drum.read_count g.D.Drum.write_count g.D.Drum.size c.args.out.now c.give_refused.new.out c.bring.new.drum c.give_refused.ensures.later c.give_refused.ensures.onward)) c.in-Err-give_refused.ensures.cause

pub returns-in-Err-clause-acted : goal.returns-in-Err-clause-acted
returns-in-Err-clause-acted g c = nothing_given g.S.System.means g.D.Drum.held g.T.Taker.stands g.T.Taker.cut c.args.waits.now.auto c.args.e.now c.args.waits.now.system c.bring.new.self.system c.args.waits.now.lists c.bring.new.self.lists c.args.drum.now c.bring.new.drum c.args.out.now (unfinished_single c.args.e.now c.requires.deed.0.1)

pub returns-in-Err-clause-outside : goal.returns-in-Err-clause-outside
returns-in-Err-clause-outside g c = uses_drum g.T.Taker.onward g.T.Taker.fault_count g.D.Drum.fault_count g.D.Drum.read_count g.D.Drum.write_count g.D.Drum.size c.args.out.now c.args.out.now c.args.drum.now c.bring.new.drum (outside_drum g.T.Taker.onward g.T.Taker.fault_count g.D.Drum.fault_count g.D.Drum.read_count g.D.Drum.write_count g.D.Drum.size c.args.out.now c.args.drum.now c.bring.new.drum c.bring.ensures.later c.bring.ensures.reads c.bring.ensures.writes c.bring.ensures.size) c.in-Err.ensures.cause

pub returns-in-Ok-give_row-clause-took : goal.returns-in-Ok-give_row-clause-took
returns-in-Ok-give_row-clause-took g c = c.in-Ok.ensures.took c.in-Some.answer (ap Ok c.in-Some.is)

pub returns-in-Ok-give_refused-clause-took : goal.returns-in-Ok-give_refused-clause-took
returns-in-Ok-give_refused-clause-took g c =
    nothing_took (g.S.System.means.tree c.args.waits.now.system).forks (g.S.System.means.tree c.bring.new.self.system).forks c.args.waits.now.lists.sched c.bring.new.self.lists.sched
    (ap (λ (t : PlainTree). t.forks) (c.in-Ok.ensures.kept (ap Ok c.in-None.is)).tree) (c.in-Ok.ensures.silent (ap Ok c.in-None.is))
