use Rattle.std.proofs.Common.{◌≡◌, ◌+◌, ◌-◌, ◌^◌, refl, ◌∙◌, ap, subst, arith}
use Rattle.script_texts.specs.declared.event.Event.TheVariants.{Run}
use Rattle.plain_model.specs.Trees.{PlainTree}
use Rattle.page_waits.specs.Transfers.{Counts}
use Rattle.paged_events.specs.Given.{GivenTurns}
use Rattle.event_items.specs.Outcome.{CutOff, Stopped}
use Rattle.paged_events.specs.Rows.{TookRows}
use Rattle.paged_events.proofs.Acted.{no_turns, turns_cut, turns_given, turns_more, turns_stopped}
use Rattle.paged_events.proofs.Coming.{nothing_calm}
use Rattle.paged_events.proofs.Outside.{outside_nil, outside_then, uses_then, uses_well}
use Rattle.paged_events.proofs.RowsMore.{rows_more, rows_none}
use Rattle.paged_events.proofs.running.run.Goals as goal

pub loop-left-init : goal.loop-left-init
loop-left-init g c =
    let none : 0 ≡ c.args.n - c.args.n = omega arith in
    let counts : Counts g.row.D.Denot = record { reads = g.D.Drum.read_count; writes = g.D.Drum.write_count } in
    record {
      few = omega arith;
      given = subst (λ k. GivenTurns g.S.System.means g.D.Drum.held g.T.Taker.stands g.T.Taker.cut c.args.waits.now.auto k c.args.waits.now.system c.args.waits.now.system c.args.waits.now.lists c.args.waits.now.lists c.args.drum.now c.args.drum.now c.args.out.now c.args.out.now) none
          (no_turns g.S.System.means g.D.Drum.held g.T.Taker.stands g.T.Taker.cut c.args.waits.now.auto c.args.waits.now.system c.args.waits.now.lists c.args.drum.now c.args.out.now
          (nothing_calm g.S.System.means (λ s d fits. ap (λ (t : PlainTree). t.forks) (g.met.S.System.forked s d fits)) g.D.Drum.held c.args.waits.now.system c.args.waits.now.lists c.args.drum.now c.lists_are_sound.ensures.tied c.lists_are_sound.ensures.sound));
      rows = subst (λ k. TookRows g.S.System.means counts c.args.waits.now.auto k c.args.waits.now.system c.args.waits.now.system c.args.waits.now.lists c.args.waits.now.lists c.args.drum.now c.args.drum.now) none (rows_none g.S.System.means counts c.args.waits.now.auto c.args.waits.now.system c.args.waits.now.lists c.args.drum.now);
      outside = outside_nil g.T.Taker.onward g.T.Taker.fault_count g.D.Drum.fault_count g.D.Drum.read_count g.D.Drum.write_count g.D.Drum.size c.args.out.now c.args.drum.now;
      bounded = omega arith;
      off = λ is. refl;
      bare = c.requires.bare;
      marks = record { limit = refl; frames = refl; auto = refl };
    }

pub next_turns-requires-clause-drum : goal.next_turns-requires-clause-drum
next_turns-requires-clause-drum g c = omega (arith, c.requires.drum, c.loop-left.invariant.marks.limit, c.loop-left.invariant.outside.drum_stays.same_size)

pub next_turns-requires-clause-within : goal.next_turns-requires-clause-within
next_turns-requires-clause-within g c k low = c.loop-left.invariant.given.given.adds (2 ^ 50) c.requires.within k (omega (arith, low, c.requires.few))

pub loop-left-preserved : goal.loop-left-preserved
loop-left-preserved g c =
    let i = c.loop-left.invariant in
    let took = c.in-Ok.ensures.took in
    let n = c.in-Ok.taken in
    let counts : Counts g.row.D.Denot = record { reads = g.D.Drum.read_count; writes = g.D.Drum.write_count } in
    let few = took.few in
    let more : (c.args.n - c.loop-left.left) + n ≡ c.args.n - (c.loop-left.left - n) = omega (arith, i.few, few) in
    record {
      few = omega (arith, i.few);
      given = subst (λ k. GivenTurns g.S.System.means g.D.Drum.held g.T.Taker.stands g.T.Taker.cut c.args.waits.now.auto k c.args.waits.now.system c.next_turns.new.waits.system c.args.waits.now.lists c.next_turns.new.waits.lists c.args.drum.now c.next_turns.new.drum c.args.out.now c.next_turns.new.out) more
          (turns_more g.S.System.means g.D.Drum.held g.T.Taker.stands g.T.Taker.cut c.args.waits.now.auto (c.args.n - c.loop-left.left) n c.args.waits.now.system c.loop-left.waits.system c.next_turns.new.waits.system c.args.waits.now.lists c.loop-left.waits.lists c.next_turns.new.waits.lists c.args.drum.now c.loop-left.drum c.next_turns.new.drum c.args.out.now c.loop-left.out c.next_turns.new.out i.given
          (subst (λ a. GivenTurns g.S.System.means g.D.Drum.held g.T.Taker.stands g.T.Taker.cut a n c.loop-left.waits.system c.next_turns.new.waits.system c.loop-left.waits.lists c.next_turns.new.waits.lists c.loop-left.drum c.next_turns.new.drum c.loop-left.out c.next_turns.new.out) i.marks.auto took.ok));
      rows = subst (λ k. TookRows g.S.System.means counts c.args.waits.now.auto k c.args.waits.now.system c.next_turns.new.waits.system c.args.waits.now.lists c.next_turns.new.waits.lists c.args.drum.now c.next_turns.new.drum) more
          (rows_more g.S.System.means counts c.args.waits.now.auto (c.args.n - c.loop-left.left) n c.args.waits.now.system c.loop-left.waits.system c.next_turns.new.waits.system c.args.waits.now.lists c.loop-left.waits.lists c.next_turns.new.waits.lists c.args.drum.now c.loop-left.drum c.next_turns.new.drum i.rows
          (subst (λ a. TookRows g.S.System.means counts a n c.loop-left.waits.system c.next_turns.new.waits.system c.loop-left.waits.lists c.next_turns.new.waits.lists c.loop-left.drum c.next_turns.new.drum) i.marks.auto c.in-Ok.ensures.rows));
      outside = outside_then g.T.Taker.onward g.T.Taker.fault_count g.D.Drum.fault_count g.D.Drum.read_count g.D.Drum.write_count g.D.Drum.size c.args.out.now c.loop-left.out c.next_turns.new.out c.args.drum.now c.loop-left.drum c.next_turns.new.drum i.outside c.next_turns.ensures.outside.later;
      bounded = omega (arith, more, i.bounded, c.in-Ok.ensures.some);
      off = λ is. c.next_turns.ensures.off (i.marks.auto ∙ is) ∙ i.off is;
      bare = c.in-Ok.ensures.bare;
      marks = record { limit = c.next_turns.ensures.marks.limit ∙ i.marks.limit; frames = c.next_turns.ensures.marks.frames ∙ i.marks.frames; auto = c.next_turns.ensures.marks.auto ∙ i.marks.auto };
    }

pub returns-in-Err-clause-acted : goal.returns-in-Err-clause-acted
returns-in-Err-clause-acted g c =
    let i = c.loop-left.invariant in
    let took = c.in-Err.ensures.took in
    record {
      ok = tt;
      stopped = λ is.
          turns_stopped g.S.System.means g.D.Drum.held g.T.Taker.stands g.T.Taker.cut c.args.waits.now.auto (c.args.n - c.loop-left.left) c.loop-left.left c.args.n c.args.waits.now.system c.loop-left.waits.system c.args.waits.now.lists c.loop-left.waits.lists c.args.drum.now c.loop-left.drum c.args.out.now c.loop-left.out c.next_turns.new.out (omega (arith, i.few)) i.given
          (subst (λ a. Stopped g.S.System.means.store.flat g.S.System.means.fits g.S.System.means.plain g.D.Drum.held g.T.Taker.stands c.loop-left.waits.system c.loop-left.drum c.loop-left.out c.next_turns.new.out a (Run c.loop-left.left)) i.marks.auto (took.stopped is));
      cutoff = λ is.
          turns_cut g.S.System.means g.D.Drum.held g.T.Taker.stands g.T.Taker.cut c.args.waits.now.auto (c.args.n - c.loop-left.left) c.loop-left.left c.args.n c.args.waits.now.system c.loop-left.waits.system c.args.waits.now.lists c.loop-left.waits.lists c.args.drum.now c.loop-left.drum c.args.out.now c.loop-left.out c.next_turns.new.out (omega (arith, i.few)) i.given
          (subst (λ a. CutOff g.S.System.means.store.flat g.S.System.means.fits g.S.System.means.plain g.D.Drum.held g.T.Taker.stands g.T.Taker.cut c.loop-left.waits.system c.loop-left.drum c.loop-left.out c.next_turns.new.out a (Run c.loop-left.left)) i.marks.auto (took.cutoff is));
    }

pub returns-in-Err-clause-outside : goal.returns-in-Err-clause-outside
returns-in-Err-clause-outside g c = uses_then g.T.Taker.onward g.T.Taker.fault_count g.D.Drum.fault_count g.D.Drum.read_count g.D.Drum.write_count g.D.Drum.size _ c.args.out.now c.loop-left.out c.next_turns.new.out c.args.drum.now c.loop-left.drum c.next_turns.new.drum c.loop-left.invariant.outside c.in-Err.ensures.outside

pub returns-in-Err-clause-off : goal.returns-in-Err-clause-off
returns-in-Err-clause-off g c is = c.next_turns.ensures.off (c.loop-left.invariant.marks.auto ∙ is) ∙ c.loop-left.invariant.off is

pub returns-in-Err-clause-marks : goal.returns-in-Err-clause-marks
returns-in-Err-clause-marks g c = record { limit = c.next_turns.ensures.marks.limit ∙ c.loop-left.invariant.marks.limit; frames = c.next_turns.ensures.marks.frames ∙ c.loop-left.invariant.marks.frames; auto = c.next_turns.ensures.marks.auto ∙ c.loop-left.invariant.marks.auto }

pub returns-clause-acted : goal.returns-clause-acted
returns-clause-acted g c =
    let all : (c.args.n - c.loop-left.left) ≡ c.args.n = omega arith in
    turns_given g.S.System.means g.D.Drum.held g.T.Taker.stands g.T.Taker.cut c.args.waits.now.auto c.args.n c.args.waits.now.system c.loop-left.waits.system c.args.waits.now.lists c.loop-left.waits.lists c.args.drum.now c.loop-left.drum c.args.out.now c.loop-left.out
    (subst (λ k. GivenTurns g.S.System.means g.D.Drum.held g.T.Taker.stands g.T.Taker.cut c.args.waits.now.auto k c.args.waits.now.system c.loop-left.waits.system c.args.waits.now.lists c.loop-left.waits.lists c.args.drum.now c.loop-left.drum c.args.out.now c.loop-left.out) all c.loop-left.invariant.given)

pub returns-clause-rows : goal.returns-clause-rows
returns-clause-rows g c =
    let all : (c.args.n - c.loop-left.left) ≡ c.args.n = omega arith in
    let counts : Counts g.row.D.Denot = record { reads = g.D.Drum.read_count; writes = g.D.Drum.write_count } in
    subst (λ k. TookRows g.S.System.means counts c.args.waits.now.auto k c.args.waits.now.system c.loop-left.waits.system c.args.waits.now.lists c.loop-left.waits.lists c.args.drum.now c.loop-left.drum) all c.loop-left.invariant.rows

pub returns-clause-outside : goal.returns-clause-outside
returns-clause-outside g c = uses_well g.T.Taker.onward g.T.Taker.fault_count g.D.Drum.fault_count g.D.Drum.read_count g.D.Drum.write_count g.D.Drum.size c.args.n c.args.out.now c.loop-left.out c.args.drum.now c.loop-left.drum c.loop-left.invariant.outside
