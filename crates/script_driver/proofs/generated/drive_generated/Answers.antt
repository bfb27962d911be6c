use Rattle.std.proofs.Common.{refl, sym, subst, ◌∙◌, ap, arith, [], ◌∷◌}
use Rattle.page_waits.specs.Placed.{AreOnDrum}
use Rattle.script_driver.specs.declared.driver.Driven.TheVariants.{Done}
use Rattle.script_driver.proofs.Drums.{drum_on, drum_still}
use Rattle.script_driver.proofs.Generating.{Generated, generated_all, generated_few, generated_front, generated_further, generated_more, generated_next_few, generated_none, next_first, next_none}
use Rattle.script_driver.proofs.Running.{ran, ran_cut, ran_stopped, so_far_more, so_far_none}
use Rattle.script_driver.proofs.generated.drive_generated.Goals as goal

pub loop-event-init : goal.loop-event-init
loop-event-init g c = record {
  later = omega arith;
  onward = record { each = λ first h. h };
  drum = drum_still g.D.Drum.fault_count g.D.Drum.read_count g.D.Drum.write_count g.D.Drum.size c.args.drum.now;
  most = refl;
  core = refl;
  live = c.requires.new.live;
  bare = c.requires.new.bare;
  within = c.requires.new.within;
  so_far = so_far_none c.requires.new.core c.requires.new.empty (subst (λ rest. Generated c.args.seed rest []) (sym c.big_from-big.ensures) (generated_none c.args.seed)) c.requires.new.auto_on c.requires.new.none;
}

pub loop-event-preserved : goal.loop-event-preserved
loop-event-preserved g c =
    let i = c.loop-event.invariant in
    let e = c.in-Some.event in
    let first = next_first c.loop-event.big e (sym c.in-Some.is ∙ c.next.ensures.event) ∙ ap (λ l. e ∷ l) (sym c.next.ensures.rest) in
    record {
      later = omega (arith, i.later, c.event.ensures.later);
      onward = record { each = λ first h. c.event.ensures.onward.each first (i.onward.each first h) };
      drum = drum_on g.D.Drum.fault_count g.D.Drum.read_count g.D.Drum.write_count g.D.Drum.size i.drum c.event.ensures.drum;
      most = c.event.ensures.limit ∙ i.most;
      core = c.event.ensures.frames ∙ i.core;
      live = c.in-Went.ensures.live.1 refl;
      bare = c.in-Went.ensures.bare refl;
      within = c.in-Went.ensures.within refl;
      so_far = so_far_more i.so_far e c.in-Some.ensures.fits (generated_more i.so_far.are first) (generated_further i.so_far.are first) c.event.ensures.auto (c.in-Went.ensures.went refl);
    }

pub event-requires-clause-drum : goal.event-requires-clause-drum
event-requires-clause-drum g c =
    let i = c.loop-event.invariant in
    omega (arith, c.requires.size, i.most, i.drum.same_size)

pub returns-in-DrumFault-clause-drove : goal.returns-in-DrumFault-clause-drove
returns-in-DrumFault-clause-drove g c =
    let i = c.loop-event.invariant in
    let e = c.in-Some.event in
    let first = next_first c.loop-event.big e (sym c.in-Some.is ∙ c.next.ensures.event) in
    ran_stopped i.so_far e c.in-Some.ensures.fits (generated_front (generated_more i.so_far.are first)) (generated_next_few i.so_far.are first) (c.in-DrumFault.ensures.stopped refl)

pub returns-in-TakerFault-clause-drove : goal.returns-in-TakerFault-clause-drove
returns-in-TakerFault-clause-drove g c =
    let i = c.loop-event.invariant in
    let e = c.in-Some.event in
    let first = next_first c.loop-event.big e (sym c.in-Some.is ∙ c.next.ensures.event) in
    ran_cut i.so_far e c.in-Some.ensures.fits (generated_front (generated_more i.so_far.are first)) (generated_next_few i.so_far.are first) (c.in-TakerFault.ensures.cutoff refl)

pub returns-clause-drove : goal.returns-clause-drove
returns-clause-drove g c =
    let i = c.loop-event.invariant in
    let none = next_none c.loop-event.big (sym c.in_default.is ∙ c.next.ensures.event) in
    ran i.so_far (generated_few i.so_far.are) Done (λ es ss x. x) (λ is x. x) (λ is x. x)
    (λ is d framed fits. subst (λ n. AreOnDrum n (g.M.System.means.plain c.loop-event.machine.waits.system d) d) i.core (g.met.M.System.placed c.loop-event.machine.waits.system d framed fits))
    (generated_all i.so_far.are none)

pub returns-in-DrumFault-clause-drum : goal.returns-in-DrumFault-clause-drum
returns-in-DrumFault-clause-drum g c = drum_on g.D.Drum.fault_count g.D.Drum.read_count g.D.Drum.write_count g.D.Drum.size c.loop-event.invariant.drum c.event.ensures.drum

pub returns-in-DrumFault-clause-drum_cause : goal.returns-in-DrumFault-clause-drum_cause
returns-in-DrumFault-clause-drum_cause g c is = omega (arith, c.loop-event.invariant.drum.faults_later, c.in-DrumFault.ensures.drum_cause refl)

pub returns-in-TakerFault-clause-drum : goal.returns-in-TakerFault-clause-drum
returns-in-TakerFault-clause-drum g c = drum_on g.D.Drum.fault_count g.D.Drum.read_count g.D.Drum.write_count g.D.Drum.size c.loop-event.invariant.drum c.event.ensures.drum
