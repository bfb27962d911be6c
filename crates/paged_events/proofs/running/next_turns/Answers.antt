use Rattle.std.proofs.Common.{◌≡◌, ◌+◌, ◌≤◌, [], ◌∷◌, Bool, true, false, ◌&&◌, ◌^◌, replicate, refl, ◌∙◌, ap, subst, arith}
use Rattle.std.proofs.lemmas.List.{length-replicate}
use Rattle.script_texts.specs.declared.event.Event.TheVariants.{Run}
use Rattle.script_texts.specs.declared.event.Step.TheVariants.{Idle, Unit}
use Rattle.std.specs.Prelude.{Ok}
use Rattle.plain_model.specs.Trees.{PlainTree}
use Rattle.page_waits.specs.Acts.{Turned, turns_of}
use Rattle.page_waits.specs.InCore.{TookCalmly}
use Rattle.page_waits.specs.Systems.{row_of}
use Rattle.page_waits.specs.declared.turn.Turn.{Turn}
use Rattle.page_waits.specs.Transfers.{Counts}
use Rattle.page_waits.specs.Waits.{the_lists}
use Rattle.paged_events.specs.Rows.{idle, units}
use Rattle.paged_events.proofs.Acted.{adds_counted, adds_some, took_cut, took_given, took_stopped}
use Rattle.paged_events.proofs.Coming.{idle_calm, units_calm}
use Rattle.paged_events.proofs.Entries.{idle_told, units_told}
use Rattle.paged_events.proofs.Moving.{row_moves}
use Rattle.paged_events.proofs.Outside.{outside_drum, outside_taker, outside_then, uses_drum, uses_taker, uses_well}
use Rattle.paged_events.proofs.Over.{over_none, over_quiet, so_far}
use Rattle.paged_events.proofs.Turning.{are_turns, idle_cut, idle_gave, units_cut, units_gave}
use Rattle.paged_events.proofs.running.next_turns.Goals as goal

-- no quantum ends a transfer under AUTO OFF
and_off : (a b : Bool) → b ≡ false → (a && b) ≡ false
and_off true b e = e
and_off false b e = refl

pub returns-in-Ok-end_quantum-clause-took : goal.returns-in-Ok-end_quantum-clause-took
returns-in-Ok-end_quantum-clause-took g c =
    let some = (subst (λ (w : Turn). 1 ≤ turns_of w) c.in-Ran.is c.in-Ok.ensures.some) in
    let most = (subst (λ (w : Turn). turns_of w ≤ c.args.left) c.in-Ran.is c.in-Ok.ensures.most) in
    took_given g.S.System.means g.D.Drum.held g.T.Taker.stands g.T.Taker.cut c.args.waits.now.auto c.args.left c.args.waits.now.system c.end_quantum.new.self.system c.args.waits.now.lists c.end_quantum.new.self.lists c.args.drum.now c.end_quantum.new.drum c.args.out.now c.give_units.new.out (row_of c.in-Ran.row.fork c.in-Ran.row.progress.count) (are_turns c.in-Ran.row.progress.count (Unit c.in-Ran.row.fork) tt) c.in-Ran.row.progress.count some most (length-replicate c.in-Ran.row.progress.count (Unit c.in-Ran.row.fork))
    (adds_counted g.S.System.means c.in-Ran.row.progress.count c.args.waits.now.system c.end_quantum.new.self.system (λ k w. c.in-Ok-end_quantum.ensures.quiet.told.within (k + c.in-Ran.row.progress.count) ((subst (λ (w : Turn). Turned g.S.System.means the_lists g.D.Drum.held c.args.waits.now.auto c.args.waits.now.system c.turns.new.self.system c.args.drum.now c.turns.new.drum w) c.in-Ran.is c.in-Ok.ensures.turned).within k w)))
    (over_quiet g.S.System.means g.D.Drum.held g.T.Taker.stands g.T.Taker.cut c.args.waits.now.auto the_lists 0 c.args.waits.now.system c.turns.new.self.system c.end_quantum.new.self.system c.turns.new.self.lists c.end_quantum.new.self.lists c.args.drum.now c.turns.new.drum c.end_quantum.new.drum c.args.out.now c.give_units.new.out (row_of c.in-Ran.row.fork c.in-Ran.row.progress.count)
    (units_gave g.S.System.means the_lists g.D.Drum.held g.T.Taker.stands g.T.Taker.cut c.args.waits.now.auto c.in-Ran.row.fork c.in-Ran.row.progress c.args.waits.now.system c.turns.new.self.system c.args.drum.now c.turns.new.drum c.args.out.now c.give_units.new.out (subst (λ (w : Turn). Turned g.S.System.means the_lists g.D.Drum.held c.args.waits.now.auto c.args.waits.now.system c.turns.new.self.system c.args.drum.now c.turns.new.drum w) c.in-Ran.is c.in-Ok.ensures.turned) c.in-Ok-give_units.ensures.ok) c.in-Ok-end_quantum.ensures.quiet)
    (units_told g.S.System.means g.D.Drum.held (λ s d fits. ap (λ (t : PlainTree). t.forks) (g.met.S.System.forked s d fits)) c.args.waits.now.system c.args.waits.now.lists c.args.drum.now c.lists_are_sound.ensures.tied c.lists_are_sound.ensures.sound c.in-Ran.row.fork c.in-Ran.row.progress c.in-Ran.row.ended c.turns.new.self.system c.turns.new.self.lists c.end_quantum.new.self.lists c.turns.new.drum some
    (subst (λ (w : Turn). Turned g.S.System.means the_lists g.D.Drum.held c.args.waits.now.auto c.args.waits.now.system c.turns.new.self.system c.args.drum.now c.turns.new.drum w) c.in-Ran.is c.in-Ok.ensures.turned) (c.in-Ok.ensures.row c.in-Ran.row (ap Ok c.in-Ran.is)) c.in-Ok-end_quantum.ensures.silent)
    (units_calm g.S.System.means (λ s d fits. ap (λ (t : PlainTree). t.forks) (g.met.S.System.forked s d fits)) g.D.Drum.held c.args.waits.now.system c.args.waits.now.lists c.args.drum.now c.lists_are_sound.ensures.tied c.lists_are_sound.ensures.sound c.in-Ran.row c.turns.new.self.system c.end_quantum.new.self.system c.turns.new.self.lists c.end_quantum.new.self.lists c.turns.new.drum some
    c.lists_are_sound-in-Ok-end_quantum.ensures.tied c.lists_are_sound-in-Ok-end_quantum.ensures.sound (subst (λ (w : Turn). Turned g.S.System.means the_lists g.D.Drum.held c.args.waits.now.auto c.args.waits.now.system c.turns.new.self.system c.args.drum.now c.turns.new.drum w) c.in-Ran.is c.in-Ok.ensures.turned) c.in-Ok-end_quantum.ensures.quiet.told.tree
    (λ frames d fits core room. subst (λ (w : Turn). TookCalmly g.S.System.means frames w c.args.waits.now.system c.turns.new.self.system c.args.waits.now.lists c.turns.new.self.lists) c.in-Ran.is (c.in-Ok.ensures.calm frames d fits core room)) c.end_quantum.ensures.system c.end_quantum.ensures.lists)

pub returns-in-Ok-end_quantum-clause-rows : goal.returns-in-Ok-end_quantum-clause-rows
returns-in-Ok-end_quantum-clause-rows g c =
    let auto = c.turns.ensures.mark in
    record {
      rows = units c.in-Ran.row.fork c.in-Ran.row.progress.count ∷ [];
      count = omega arith;
      are = (
        c.end_quantum.new.self.system,
        c.end_quantum.new.self.lists,
        c.end_quantum.new.drum,
        record {
          ended = c.in-Ran.row.ended;
          between = c.turns.new.self.system;
          lists = c.turns.new.self.lists;
          at = c.turns.new.drum;
          few = c.turns.ensures.bounded;
          row = c.in-Ok.ensures.row c.in-Ran.row (ap Ok c.in-Ran.is);
          forks = c.in-Ok-end_quantum.ensures.quiet.told.tree;
          silent = c.in-Ok-end_quantum.ensures.silent;
          ends = λ is. c.in-Ok-end_quantum.ensures.ended (ap (λ b. c.in-Ran.row.ended && b) auto ∙ is);
          stays = λ is. c.end_quantum.ensures.still (ap (λ b. c.in-Ran.row.ended && b) auto ∙ is);
          one = c.end_quantum.ensures.bounded;
          whole = c.in-Ok.ensures.whole c.in-Ran.row (ap Ok c.in-Ran.is);
          off = λ is. c.end_quantum.ensures.still (and_off c.in-Ran.row.ended c.turns.new.self.auto (auto ∙ is)) ∙ c.turns.ensures.off is;
        },
        (refl, refl, refl),
      );
    }

pub returns-in-Ok-end_quantum-clause-some : goal.returns-in-Ok-end_quantum-clause-some
returns-in-Ok-end_quantum-clause-some g c =
    let counts : Counts g.row.D.Denot = record { reads = g.D.Drum.read_count; writes = g.D.Drum.write_count } in
    let row = c.in-Ran.row in
    row_moves counts row.ended row.progress.count c.args.drum.now c.turns.new.drum c.end_quantum.new.drum (subst (λ (w : Turn). 1 ≤ turns_of w) c.in-Ran.is c.in-Ok.ensures.some) c.turns.ensures.bounded c.end_quantum.ensures.bounded
    (c.in-Ok.ensures.whole row (ap Ok c.in-Ran.is)) (λ is. c.end_quantum.ensures.still (ap (λ b. b && c.turns.new.self.auto) is))

pub returns-in-Ok-end_quantum-clause-bounded : goal.returns-in-Ok-end_quantum-clause-bounded
returns-in-Ok-end_quantum-clause-bounded g c =
    let some = returns-in-Ok-end_quantum-clause-some g c in
    let most = subst (λ (w : Turn). turns_of w ≤ c.args.left) c.in-Ran.is c.in-Ok.ensures.most in
    omega (arith, some, most)

pub returns-in-Err-end_quantum-clause-bounded : goal.returns-in-Err-end_quantum-clause-bounded
returns-in-Err-end_quantum-clause-bounded g c =
    let counts : Counts g.row.D.Denot = record { reads = g.D.Drum.read_count; writes = g.D.Drum.write_count } in
    let row = c.in-Ran.row in
    let some = subst (λ (w : Turn). 1 ≤ turns_of w) c.in-Ran.is c.in-Ok.ensures.some in
    let most = subst (λ (w : Turn). turns_of w ≤ c.args.left) c.in-Ran.is c.in-Ok.ensures.most in
    let moves = row_moves counts row.ended row.progress.count c.args.drum.now c.turns.new.drum c.end_quantum.new.drum some c.turns.ensures.bounded c.end_quantum.ensures.bounded
    (c.in-Ok.ensures.whole row (ap Ok c.in-Ran.is)) (λ is. c.end_quantum.ensures.still (ap (λ b. b && c.turns.new.self.auto) is)) in
    omega (arith, moves, most)

pub returns-in-Ok-end_quantum-clause-off : goal.returns-in-Ok-end_quantum-clause-off
returns-in-Ok-end_quantum-clause-off g c =
    λ is. c.end_quantum.ensures.still (and_off c.in-Ran.row.ended c.turns.new.self.auto (c.turns.ensures.mark ∙ is)) ∙ c.turns.ensures.off is

pub returns-in-Ok-end_quantum-clause-marks : goal.returns-in-Ok-end_quantum-clause-marks
returns-in-Ok-end_quantum-clause-marks g c =
    record { limit = c.end_quantum.ensures.marks.limit ∙ c.turns.ensures.limit; frames = c.end_quantum.ensures.marks.frames ∙ c.turns.ensures.frames; auto = c.end_quantum.ensures.marks.auto ∙ c.turns.ensures.mark }

pub returns-in-Err-end_quantum-clause-off : goal.returns-in-Err-end_quantum-clause-off
returns-in-Err-end_quantum-clause-off g c =
    λ is. c.end_quantum.ensures.still (and_off c.in-Ran.row.ended c.turns.new.self.auto (c.turns.ensures.mark ∙ is)) ∙ c.turns.ensures.off is

pub returns-in-Err-end_quantum-clause-marks : goal.returns-in-Err-end_quantum-clause-marks
returns-in-Err-end_quantum-clause-marks g c =
    record { limit = c.end_quantum.ensures.marks.limit ∙ c.turns.ensures.limit; frames = c.end_quantum.ensures.marks.frames ∙ c.turns.ensures.frames; auto = c.end_quantum.ensures.marks.auto ∙ c.turns.ensures.mark }

pub returns-in-Ok-end_quantum-clause-outside : goal.returns-in-Ok-end_quantum-clause-outside
returns-in-Ok-end_quantum-clause-outside g c =
    uses_well g.T.Taker.onward g.T.Taker.fault_count g.D.Drum.fault_count g.D.Drum.read_count g.D.Drum.write_count g.D.Drum.size c.in-Ran.row.progress.count c.args.out.now c.give_units.new.out c.args.drum.now c.end_quantum.new.drum (outside_then g.T.Taker.onward g.T.Taker.fault_count g.D.Drum.fault_count g.D.Drum.read_count g.D.Drum.write_count g.D.Drum.size c.args.out.now c.give_units.new.out c.give_units.new.out c.args.drum.now c.turns.new.drum c.end_quantum.new.drum (outside_then g.T.Taker.onward g.T.Taker.fault_count g.D.Drum.fault_count g.D.Drum.read_count g.D.Drum.write_count g.D.Drum.size c.args.out.now c.args.out.now c.give_units.new.out c.args.drum.now c.turns.new.drum c.turns.new.drum (outside_drum g.T.Taker.onward g.T.Taker.fault_count g.D.Drum.fault_count g.D.Drum.read_count g.D.Drum.write_count g.D.Drum.size c.args.out.now c.args.drum.now c.turns.new.drum c.turns.ensures.later c.turns.ensures.reads c.turns.ensures.writes c.turns.ensures.size) (outside_taker g.T.Taker.onward g.T.Taker.fault_count g.D.Drum.fault_count g.D.Drum.read_count g.D.Drum.write_count g.D.Drum.size c.args.out.now c.give_units.new.out c.turns.new.drum c.give_units.ensures.later c.give_units.ensures.onward)) (outside_drum g.T.Taker.onward g.T.Taker.fault_count g.D.Drum.fault_count g.D.Drum.read_count g.D.Drum.write_count g.D.Drum.size c.give_units.new.out c.turns.new.drum c.end_quantum.new.drum c.end_quantum.ensures.later c.end_quantum.ensures.reads c.end_quantum.ensures.writes c.end_quantum.ensures.size))

pub returns-in-Err-end_quantum-clause-outside : goal.returns-in-Err-end_quantum-clause-outside
returns-in-Err-end_quantum-clause-outside g c =
    let cause = c.in-Err-end_quantum.ensures.cause in uses_drum g.T.Taker.onward g.T.Taker.fault_count g.D.Drum.fault_count g.D.Drum.read_count g.D.Drum.write_count g.D.Drum.size c.args.out.now c.give_units.new.out c.args.drum.now c.end_quantum.new.drum (outside_then g.T.Taker.onward g.T.Taker.fault_count g.D.Drum.fault_count g.D.Drum.read_count g.D.Drum.write_count g.D.Drum.size c.args.out.now c.give_units.new.out c.give_units.new.out c.args.drum.now c.turns.new.drum c.end_quantum.new.drum (outside_then g.T.Taker.onward g.T.Taker.fault_count g.D.Drum.fault_count g.D.Drum.read_count g.D.Drum.write_count g.D.Drum.size c.args.out.now c.args.out.now c.give_units.new.out c.args.drum.now c.turns.new.drum c.turns.new.drum (outside_drum g.T.Taker.onward g.T.Taker.fault_count g.D.Drum.fault_count g.D.Drum.read_count g.D.Drum.write_count g.D.Drum.size c.args.out.now c.args.drum.now c.turns.new.drum c.turns.ensures.later c.turns.ensures.reads c.turns.ensures.writes c.turns.ensures.size) (outside_taker g.T.Taker.onward g.T.Taker.fault_count g.D.Drum.fault_count g.D.Drum.read_count g.D.Drum.write_count g.D.Drum.size c.args.out.now c.give_units.new.out c.turns.new.drum c.give_units.ensures.later c.give_units.ensures.onward)) (outside_drum g.T.Taker.onward g.T.Taker.fault_count g.D.Drum.fault_count g.D.Drum.read_count g.D.Drum.write_count g.D.Drum.size c.give_units.new.out c.turns.new.drum c.end_quantum.new.drum c.end_quantum.ensures.later c.end_quantum.ensures.reads c.end_quantum.ensures.writes c.end_quantum.ensures.size)) (omega (arith, cause, c.turns.ensures.later))

pub returns-in-Err-end_quantum-clause-took : goal.returns-in-Err-end_quantum-clause-took
returns-in-Err-end_quantum-clause-took g c =
    took_stopped g.S.System.means g.D.Drum.held g.T.Taker.stands g.T.Taker.cut c.args.waits.now.auto c.args.left c.args.waits.now.system c.end_quantum.new.self.system c.args.waits.now.lists c.end_quantum.new.self.lists c.args.drum.now c.end_quantum.new.drum c.args.out.now c.give_units.new.out (row_of c.in-Ran.row.fork c.in-Ran.row.progress.count) (are_turns c.in-Ran.row.progress.count (Unit c.in-Ran.row.fork) tt) (omega (arith, length-replicate c.in-Ran.row.progress.count (Unit c.in-Ran.row.fork), (subst (λ (w : Turn). turns_of w ≤ c.args.left) c.in-Ran.is c.in-Ok.ensures.most))) (so_far g.S.System.means g.D.Drum.held g.T.Taker.stands g.T.Taker.cut c.args.waits.now.auto (Run c.args.left) c.args.waits.now.system c.turns.new.self.system c.args.drum.now c.turns.new.drum c.args.out.now c.give_units.new.out (row_of c.in-Ran.row.fork c.in-Ran.row.progress.count) (units_gave g.S.System.means the_lists g.D.Drum.held g.T.Taker.stands g.T.Taker.cut c.args.waits.now.auto c.in-Ran.row.fork c.in-Ran.row.progress c.args.waits.now.system c.turns.new.self.system c.args.drum.now c.turns.new.drum c.args.out.now c.give_units.new.out (subst (λ (w : Turn). Turned g.S.System.means the_lists g.D.Drum.held c.args.waits.now.auto c.args.waits.now.system c.turns.new.self.system c.args.drum.now c.turns.new.drum w) c.in-Ran.is c.in-Ok.ensures.turned) c.in-Ok-give_units.ensures.ok))

pub returns-in-Err-give_units-clause-took : goal.returns-in-Err-give_units-clause-took
returns-in-Err-give_units-clause-took g c =
    took_cut g.S.System.means g.D.Drum.held g.T.Taker.stands g.T.Taker.cut c.args.waits.now.auto c.args.left c.args.waits.now.system c.turns.new.self.system c.args.waits.now.lists c.turns.new.self.lists c.args.drum.now c.turns.new.drum c.args.out.now c.give_units.new.out (row_of c.in-Ran.row.fork c.in-Ran.row.progress.count) (are_turns c.in-Ran.row.progress.count (Unit c.in-Ran.row.fork) tt) (omega (arith, length-replicate c.in-Ran.row.progress.count (Unit c.in-Ran.row.fork), (subst (λ (w : Turn). turns_of w ≤ c.args.left) c.in-Ran.is c.in-Ok.ensures.most))) (units_cut g.S.System.means the_lists g.D.Drum.held g.T.Taker.stands g.T.Taker.cut c.args.waits.now.auto c.in-Ran.row.fork c.in-Ran.row.progress c.args.waits.now.system c.turns.new.self.system c.args.drum.now c.turns.new.drum c.args.out.now c.give_units.new.out (subst (λ (w : Turn). Turned g.S.System.means the_lists g.D.Drum.held c.args.waits.now.auto c.args.waits.now.system c.turns.new.self.system c.args.drum.now c.turns.new.drum w) c.in-Ran.is c.in-Ok.ensures.turned) c.in-Err-give_units.ensures.err)

pub returns-in-Err-give_units-clause-outside : goal.returns-in-Err-give_units-clause-outside
returns-in-Err-give_units-clause-outside g c =
    uses_taker g.T.Taker.onward g.T.Taker.fault_count g.D.Drum.fault_count g.D.Drum.read_count g.D.Drum.write_count g.D.Drum.size c.args.out.now c.give_units.new.out c.args.drum.now c.turns.new.drum (outside_then g.T.Taker.onward g.T.Taker.fault_count g.D.Drum.fault_count g.D.Drum.read_count g.D.Drum.write_count g.D.Drum.size c.args.out.now c.args.out.now c.give_units.new.out c.args.drum.now c.turns.new.drum c.turns.new.drum (outside_drum g.T.Taker.onward g.T.Taker.fault_count g.D.Drum.fault_count g.D.Drum.read_count g.D.Drum.write_count g.D.Drum.size c.args.out.now c.args.drum.now c.turns.new.drum c.turns.ensures.later c.turns.ensures.reads c.turns.ensures.writes c.turns.ensures.size) (outside_taker g.T.Taker.onward g.T.Taker.fault_count g.D.Drum.fault_count g.D.Drum.read_count g.D.Drum.write_count g.D.Drum.size c.args.out.now c.give_units.new.out c.turns.new.drum c.give_units.ensures.later c.give_units.ensures.onward)) c.in-Err-give_units.ensures.cause

pub returns-in-Ok-give_idle-clause-took : goal.returns-in-Ok-give_idle-clause-took
returns-in-Ok-give_idle-clause-took g c =
    took_given g.S.System.means g.D.Drum.held g.T.Taker.stands g.T.Taker.cut c.args.waits.now.auto c.args.left c.args.waits.now.system c.turns.new.self.system c.args.waits.now.lists c.turns.new.self.lists c.args.drum.now c.turns.new.drum c.args.out.now c.give_idle.new.out (replicate c.in-Idle.count Idle) (are_turns c.in-Idle.count Idle tt) c.in-Idle.count (subst (λ (w : Turn). 1 ≤ turns_of w) c.in-Idle.is c.in-Ok.ensures.some) (subst (λ (w : Turn). turns_of w ≤ c.args.left) c.in-Idle.is c.in-Ok.ensures.most) (length-replicate c.in-Idle.count Idle) (adds_some g.S.System.means c.in-Idle.count c.args.waits.now.system c.turns.new.self.system (subst (λ (w : Turn). Turned g.S.System.means the_lists g.D.Drum.held c.args.waits.now.auto c.args.waits.now.system c.turns.new.self.system c.args.drum.now c.turns.new.drum w) c.in-Idle.is c.in-Ok.ensures.turned).within)
    (idle_gave g.S.System.means the_lists g.D.Drum.held g.T.Taker.stands g.T.Taker.cut c.args.waits.now.auto c.in-Idle.count c.args.waits.now.system c.turns.new.self.system c.args.drum.now c.turns.new.drum c.args.out.now c.give_idle.new.out (subst (λ (w : Turn). Turned g.S.System.means the_lists g.D.Drum.held c.args.waits.now.auto c.args.waits.now.system c.turns.new.self.system c.args.drum.now c.turns.new.drum w) c.in-Idle.is c.in-Ok.ensures.turned) c.in-Ok-give_idle.ensures.ok)
    (idle_told g.S.System.means g.D.Drum.held (λ s d fits. ap (λ (t : PlainTree). t.forks) (g.met.S.System.forked s d fits)) c.args.waits.now.system c.args.waits.now.lists c.args.drum.now c.lists_are_sound.ensures.tied c.lists_are_sound.ensures.sound c.in-Idle.count c.turns.new.self.lists (c.in-Ok.ensures.silent c.in-Idle.count (ap Ok c.in-Idle.is)) (c.in-Ok.ensures.idle c.in-Idle.count (ap Ok c.in-Idle.is)).nobody)
    (idle_calm g.S.System.means (λ s d fits. ap (λ (t : PlainTree). t.forks) (g.met.S.System.forked s d fits)) g.D.Drum.held c.args.waits.now.system c.args.waits.now.lists c.args.drum.now c.lists_are_sound.ensures.tied c.lists_are_sound.ensures.sound c.in-Idle.count c.turns.new.self.system c.turns.new.self.lists (subst (λ (w : Turn). 1 ≤ turns_of w) c.in-Idle.is c.in-Ok.ensures.some)
    (λ frames d fits core room. subst (λ (w : Turn). TookCalmly g.S.System.means frames w c.args.waits.now.system c.turns.new.self.system c.args.waits.now.lists c.turns.new.self.lists) c.in-Idle.is (c.in-Ok.ensures.calm frames d fits core room)))

pub returns-in-Ok-give_idle-clause-rows : goal.returns-in-Ok-give_idle-clause-rows
returns-in-Ok-give_idle-clause-rows g c =
    record {
      rows = idle c.in-Idle.count ∷ [];
      count = omega arith;
      are = (
        c.turns.new.self.system,
        c.turns.new.self.lists,
        c.turns.new.drum,
        record { forks = (subst (λ (w : Turn). Turned g.S.System.means the_lists g.D.Drum.held c.args.waits.now.auto c.args.waits.now.system c.turns.new.self.system c.args.drum.now c.turns.new.drum w) c.in-Idle.is c.in-Ok.ensures.turned).tree; silent = c.in-Ok.ensures.silent c.in-Idle.count (ap Ok c.in-Idle.is); idle = c.in-Ok.ensures.idle c.in-Idle.count (ap Ok c.in-Idle.is); off = c.turns.ensures.off; few = c.turns.ensures.bounded },
        (refl, refl, refl),
      );
    }

pub returns-in-Ok-give_idle-clause-outside : goal.returns-in-Ok-give_idle-clause-outside
returns-in-Ok-give_idle-clause-outside g c =
    uses_well g.T.Taker.onward g.T.Taker.fault_count g.D.Drum.fault_count g.D.Drum.read_count g.D.Drum.write_count g.D.Drum.size c.in-Idle.count c.args.out.now c.give_idle.new.out c.args.drum.now c.turns.new.drum (outside_then g.T.Taker.onward g.T.Taker.fault_count g.D.Drum.fault_count g.D.Drum.read_count g.D.Drum.write_count g.D.Drum.size c.args.out.now c.args.out.now c.give_idle.new.out c.args.drum.now c.turns.new.drum c.turns.new.drum (outside_drum g.T.Taker.onward g.T.Taker.fault_count g.D.Drum.fault_count g.D.Drum.read_count g.D.Drum.write_count g.D.Drum.size c.args.out.now c.args.drum.now c.turns.new.drum c.turns.ensures.later c.turns.ensures.reads c.turns.ensures.writes c.turns.ensures.size) (outside_taker g.T.Taker.onward g.T.Taker.fault_count g.D.Drum.fault_count g.D.Drum.read_count g.D.Drum.write_count g.D.Drum.size c.args.out.now c.give_idle.new.out c.turns.new.drum c.give_idle.ensures.later c.give_idle.ensures.onward))

pub returns-in-Err-give_idle-clause-outside : goal.returns-in-Err-give_idle-clause-outside
returns-in-Err-give_idle-clause-outside g c =
    uses_taker g.T.Taker.onward g.T.Taker.fault_count g.D.Drum.fault_count g.D.Drum.read_count g.D.Drum.write_count g.D.Drum.size c.args.out.now c.give_idle.new.out c.args.drum.now c.turns.new.drum (outside_then g.T.Taker.onward g.T.Taker.fault_count g.D.Drum.fault_count g.D.Drum.read_count g.D.Drum.write_count g.D.Drum.size c.args.out.now c.args.out.now c.give_idle.new.out c.args.drum.now c.turns.new.drum c.turns.new.drum (outside_drum g.T.Taker.onward g.T.Taker.fault_count g.D.Drum.fault_count g.D.Drum.read_count g.D.Drum.write_count g.D.Drum.size c.args.out.now c.args.drum.now c.turns.new.drum c.turns.ensures.later c.turns.ensures.reads c.turns.ensures.writes c.turns.ensures.size) (outside_taker g.T.Taker.onward g.T.Taker.fault_count g.D.Drum.fault_count g.D.Drum.read_count g.D.Drum.write_count g.D.Drum.size c.args.out.now c.give_idle.new.out c.turns.new.drum c.give_idle.ensures.later c.give_idle.ensures.onward)) c.in-Err-give_idle.ensures.cause

pub returns-in-Err-give_idle-clause-took : goal.returns-in-Err-give_idle-clause-took
returns-in-Err-give_idle-clause-took g c =
    took_cut g.S.System.means g.D.Drum.held g.T.Taker.stands g.T.Taker.cut c.args.waits.now.auto c.args.left c.args.waits.now.system c.turns.new.self.system c.args.waits.now.lists c.turns.new.self.lists c.args.drum.now c.turns.new.drum c.args.out.now c.give_idle.new.out (replicate c.in-Idle.count Idle) (are_turns c.in-Idle.count Idle tt) (omega (arith, length-replicate c.in-Idle.count Idle, (subst (λ (w : Turn). turns_of w ≤ c.args.left) c.in-Idle.is c.in-Ok.ensures.most))) (idle_cut g.S.System.means the_lists g.D.Drum.held g.T.Taker.stands g.T.Taker.cut c.args.waits.now.auto c.in-Idle.count c.args.waits.now.system c.turns.new.self.system c.args.drum.now c.turns.new.drum c.args.out.now c.give_idle.new.out (subst (λ (w : Turn). Turned g.S.System.means the_lists g.D.Drum.held c.args.waits.now.auto c.args.waits.now.system c.turns.new.self.system c.args.drum.now c.turns.new.drum w) c.in-Idle.is c.in-Ok.ensures.turned) c.in-Err-give_idle.ensures.err)

pub returns-in-Err-clause-took : goal.returns-in-Err-clause-took
returns-in-Err-clause-took g c =
    took_stopped g.S.System.means g.D.Drum.held g.T.Taker.stands g.T.Taker.cut c.args.waits.now.auto c.args.left c.args.waits.now.system c.turns.new.self.system c.args.waits.now.lists c.turns.new.self.lists c.args.drum.now c.turns.new.drum c.args.out.now c.args.out.now [] tt (omega arith) (so_far g.S.System.means g.D.Drum.held g.T.Taker.stands g.T.Taker.cut c.args.waits.now.auto (Run c.args.left) c.args.waits.now.system c.args.waits.now.system c.args.drum.now c.args.drum.now c.args.out.now c.args.out.now [] (over_none g.S.System.means g.D.Drum.held g.T.Taker.stands g.T.Taker.cut c.args.waits.now.auto c.args.waits.now.system c.args.drum.now c.args.out.now))

pub returns-in-Err-clause-outside : goal.returns-in-Err-clause-outside
returns-in-Err-clause-outside g c =
    uses_drum g.T.Taker.onward g.T.Taker.fault_count g.D.Drum.fault_count g.D.Drum.read_count g.D.Drum.write_count g.D.Drum.size c.args.out.now c.args.out.now c.args.drum.now c.turns.new.drum (outside_drum g.T.Taker.onward g.T.Taker.fault_count g.D.Drum.fault_count g.D.Drum.read_count g.D.Drum.write_count g.D.Drum.size c.args.out.now c.args.drum.now c.turns.new.drum c.turns.ensures.later c.turns.ensures.reads c.turns.ensures.writes c.turns.ensures.size) c.in-Err.ensures.cause

pub turns-requires-clause-within : goal.turns-requires-clause-within
turns-requires-clause-within g c = c.requires.within (2 ^ 52) (omega arith)

pub give_units-requires-clause-shown : goal.give_units-requires-clause-shown
give_units-requires-clause-shown g c = (subst (λ (w : Turn). Turned g.S.System.means the_lists g.D.Drum.held c.args.waits.now.auto c.args.waits.now.system c.turns.new.self.system c.args.drum.now c.turns.new.drum w) c.in-Ran.is c.in-Ok.ensures.turned).shown

pub give_units-requires-clause-named : goal.give_units-requires-clause-named
give_units-requires-clause-named g c = (subst (λ (w : Turn). Turned g.S.System.means the_lists g.D.Drum.held c.args.waits.now.auto c.args.waits.now.system c.turns.new.self.system c.args.drum.now c.turns.new.drum w) c.in-Ran.is c.in-Ok.ensures.turned).named
