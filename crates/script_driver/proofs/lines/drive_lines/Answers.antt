use Rattle.std.proofs.Common.{refl, subst, ◌∙◌, arith}
use Rattle.page_waits.specs.Placed.{AreOnDrum}
use Rattle.script_lang.specs.Lines.{given, pending}
use Rattle.script_lang.proofs.Undecided.{undecided_earlier}
use Rattle.script_driver.specs.declared.driver.Driven.TheVariants.{Done, Bad, Long, ReadFault}
use Rattle.script_driver.proofs.Drums.{drum_on, drum_still}
use Rattle.script_driver.proofs.Found.{found_begun, found_done, found_bad, found_long, found_unread}
use Rattle.script_driver.proofs.Lined.{few_in, lined_few, lined_more, lined_none, lined_skipped, more_most, next_few, skipped_most}
use Rattle.script_driver.proofs.Running.{ran, ran_cut, ran_stopped, ran_unshown, so_far_more, so_far_none, so_far_shown}
use Rattle.script_driver.proofs.lines.drive_lines.Goals as goal

pub loop-lines-init : goal.loop-lines-init
loop-lines-init g c = record {
  read_later = omega arith;
  unfaulted = refl;
  later = omega arith;
  onward = record { each = λ first h. h };
  drum = drum_still g.D.Drum.fault_count g.D.Drum.read_count g.D.Drum.write_count g.D.Drum.size c.args.drum.now;
  most = refl;
  core = refl;
  live = c.requires.new.live;
  bare = c.requires.new.bare;
  within = c.requires.new.within;
  is_open = c.new-lines.ensures.open;
  none = c.new-lines.ensures.pending;
  start = c.new-lines.ensures.given;
  no_lines = c.new-lines.ensures.lines;
  so_far = so_far_none c.requires.new.core c.requires.new.empty (lined_none c.new-lines.ensures.turns c.new-lines.ensures.given) c.requires.new.auto_on c.requires.new.none;
}

pub loop-lines-preserved : goal.loop-lines-preserved
loop-lines-preserved g c =
    let i = c.loop-lines.invariant in
    let e = c.in-One.event in
    let shown = so_far_shown i.so_far (λ es f. lined_skipped es c.hand_on.ensures.skips f) (skipped_most c.hand_on.ensures.skips) c.in-Ok.ensures.ok in
    record {
      read_later = omega (arith, i.read_later, c.next.ensures.later);
      unfaulted = c.in-One.ensures.unfaulted (λ is. absurd cc) ∙ i.unfaulted;
      later = omega (arith, i.later, c.hand_on.ensures.later, c.event.ensures.later);
      onward = record { each = λ first h. c.event.ensures.onward.each first (c.hand_on.ensures.onward.each first (i.onward.each first h)) };
      drum = drum_on g.D.Drum.fault_count g.D.Drum.read_count g.D.Drum.write_count g.D.Drum.size i.drum c.event.ensures.drum;
      most = c.event.ensures.limit ∙ i.most;
      core = c.event.ensures.frames ∙ i.core;
      live = c.in-Went.ensures.live.1 refl;
      bare = c.in-Went.ensures.bare refl;
      within = c.in-Went.ensures.within refl;
      is_open = c.in-One.ensures.open e refl;
      none = i.none;
      start = i.start;
      no_lines = i.no_lines;
      so_far = so_far_more shown e (c.in-One.ensures.fits e refl) (lined_more shown.are (c.in-One.ensures.takes e refl) (c.in-One.ensures.advances e refl)) (more_most shown.are (c.in-One.ensures.takes e refl) (c.in-One.ensures.advances e refl)) c.event.ensures.auto (c.in-Went.ensures.went refl);
    }

pub returns-in_default-clause-drove : goal.returns-in_default-clause-drove
returns-in_default-clause-drove g c =
    let i = c.loop-lines.invariant in
    ran_unshown i.so_far (lined_few i.so_far.are) (found_begun i.none i.start i.so_far.are.takes (few_in i.so_far.are)) c.in_default.ensures.err

pub returns-in-DrumFault-clause-drove : goal.returns-in-DrumFault-clause-drove
returns-in-DrumFault-clause-drove g c =
    let i = c.loop-lines.invariant in
    let e = c.in-One.event in
    let shown = so_far_shown i.so_far (λ es f. lined_skipped es c.hand_on.ensures.skips f) (skipped_most c.hand_on.ensures.skips) c.in-Ok.ensures.ok in
    let more = lined_more shown.are (c.in-One.ensures.takes e refl) (c.in-One.ensures.advances e refl) in
    ran_stopped shown e (c.in-One.ensures.fits e refl) (found_begun i.none i.start more.takes (few_in more)) (next_few shown.are (c.in-One.ensures.takes e refl) (c.in-One.ensures.advances e refl)) (c.in-DrumFault.ensures.stopped refl)

pub returns-in-TakerFault-clause-drove : goal.returns-in-TakerFault-clause-drove
returns-in-TakerFault-clause-drove g c =
    let i = c.loop-lines.invariant in
    let e = c.in-One.event in
    let shown = so_far_shown i.so_far (λ es f. lined_skipped es c.hand_on.ensures.skips f) (skipped_most c.hand_on.ensures.skips) c.in-Ok.ensures.ok in
    let more = lined_more shown.are (c.in-One.ensures.takes e refl) (c.in-One.ensures.advances e refl) in
    ran_cut shown e (c.in-One.ensures.fits e refl) (found_begun i.none i.start more.takes (few_in more)) (next_few shown.are (c.in-One.ensures.takes e refl) (c.in-One.ensures.advances e refl)) (c.in-TakerFault.ensures.cutoff refl)

pub returns-in-End-clause-drove : goal.returns-in-End-clause-drove
returns-in-End-clause-drove g c =
    let i = c.loop-lines.invariant in
    let shown = so_far_shown i.so_far (λ es f. lined_skipped es c.hand_on.ensures.skips f) (skipped_most c.hand_on.ensures.skips) c.in-Ok.ensures.ok in
    ran shown (lined_few shown.are) Done (λ es ss x. x) (λ is x. x) (λ is x. x)
    (λ is d framed fits. subst (λ n. AreOnDrum n (g.M.System.means.plain c.loop-lines.machine.waits.system d) d) i.core (g.met.M.System.placed c.loop-lines.machine.waits.system d framed fits))
    (found_done i.none i.start shown.are.takes (few_in shown.are) (c.in-End.ensures.end refl) (c.in-End.ensures.spends refl))

pub returns-in-Bad-clause-drove : goal.returns-in-Bad-clause-drove
returns-in-Bad-clause-drove g c =
    let i = c.loop-lines.invariant in
    let n = c.in-Bad.number in
    let shown = so_far_shown i.so_far (λ es f. lined_skipped es c.hand_on.ensures.skips f) (skipped_most c.hand_on.ensures.skips) c.in-Ok.ensures.ok in
    ran shown (lined_few shown.are) (Bad n) (λ es ss x. x) (λ is x. x) (λ is x. x) (λ is. absurd (cc is)) (found_bad i.none i.start shown.are.takes (few_in shown.are) c.next.ensures.reads i.no_lines shown.are.turns (c.in-Bad.ensures.bad n refl))

pub returns-in-ReadFault-clause-drove : goal.returns-in-ReadFault-clause-drove
returns-in-ReadFault-clause-drove g c =
    let i = c.loop-lines.invariant in
    let shown = so_far_shown i.so_far (λ es f. lined_skipped es c.hand_on.ensures.skips f) (skipped_most c.hand_on.ensures.skips) c.in-Ok.ensures.ok in
    ran shown (lined_few shown.are) ReadFault (λ es ss x. x) (λ is x. x) (λ is x. x) (λ is. absurd (cc is)) (found_unread i.none i.start shown.are.takes (few_in shown.are) c.in-ReadFault.ensures.reads)

pub returns-in-Long-clause-drove : goal.returns-in-Long-clause-drove
returns-in-Long-clause-drove g c =
    let i = c.loop-lines.invariant in
    let shown = so_far_shown i.so_far (λ es f. lined_skipped es c.hand_on.ensures.skips f) (skipped_most c.hand_on.ensures.skips) c.in-Ok.ensures.ok in
    ran shown (lined_few shown.are) Long (λ es ss x. x) (λ is x. x) (λ is x. x) (λ is. absurd (cc is)) (found_long i.none i.start shown.are.takes (few_in shown.are) c.next.ensures.reads (c.in-Long.ensures.long refl))

pub returns-in-ReadFault-clause-handed : goal.returns-in-ReadFault-clause-handed
returns-in-ReadFault-clause-handed g c is =
    let reads = c.in-ReadFault.ensures.reads in
    c.in-Ok.ensures.handed (undecided_earlier (given c.hand_on.new.lines) (pending c.hand_on.new.lines) reads.bytes reads.is)

-- an event may ask the drum
pub event-requires-clause-drum : goal.event-requires-clause-drum
event-requires-clause-drum g c =
    let i = c.loop-lines.invariant in
    omega (arith, c.requires.size, i.most, i.drum.same_size)

pub returns-in-DrumFault-clause-drum : goal.returns-in-DrumFault-clause-drum
returns-in-DrumFault-clause-drum g c = drum_on g.D.Drum.fault_count g.D.Drum.read_count g.D.Drum.write_count g.D.Drum.size c.loop-lines.invariant.drum c.event.ensures.drum

pub returns-in-DrumFault-clause-drum_cause : goal.returns-in-DrumFault-clause-drum_cause
returns-in-DrumFault-clause-drum_cause g c is = omega (arith, c.loop-lines.invariant.drum.faults_later, c.in-DrumFault.ensures.drum_cause refl)

pub returns-in-TakerFault-clause-drum : goal.returns-in-TakerFault-clause-drum
returns-in-TakerFault-clause-drum g c = drum_on g.D.Drum.fault_count g.D.Drum.read_count g.D.Drum.write_count g.D.Drum.size c.loop-lines.invariant.drum c.event.ensures.drum
