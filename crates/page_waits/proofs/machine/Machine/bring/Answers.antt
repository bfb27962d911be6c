use Rattle.std.proofs.Common.{◌≡◌, ◌⊎◌, ℕ, ◌+◌, ◌-◌, ◌∙◌, refl, sym, subst, arith}
use Rattle.std.specs.Prelude.{None, Some}
use Rattle.event_deeds.specs.Deeds.{IsNext}
use Rattle.page_contracts.specs.DrumWords.{DrumWords}
use Rattle.page_waits.specs.Acts.{Quiet}
use Rattle.page_waits.specs.Waits.{the_lists}
use Rattle.page_waits.specs.Calm.{IsRoomy}
use Rattle.page_waits.specs.InCore.{IsInCore}
use Rattle.page_waits.proofs.InCore.{from_calm}
use Rattle.page_waits.proofs.Marks.{marks_then}
use Rattle.page_waits.proofs.Moving.{few_then, fewer}
use Rattle.plain_model.specs.Moves.{moves}
use Rattle.plain_model.specs.Trees.{PlainTree}
use Rattle.turn_forms.specs.Turns.{moved}
use Rattle.fork_lists.specs.declared.lists.ForkLists.{ForkLists}
use Rattle.page_waits.specs.Told.{AllTold, MovesSilently}
use Rattle.page_waits.specs.Transfers.{Counts}
use Rattle.page_waits.proofs.Silence.{deed_behind, silent_then}
use Rattle.page_waits.proofs.Staying.{told_then}
use Rattle.page_waits.proofs.Quieting.{quiet_still, quiet_then, spent}
use Rattle.page_waits.proofs.machine.Machine.bring.Goals as goal

pub returns-then-left-eq0-clause-spent : goal.returns-then-left-eq0-clause-spent
returns-then-left-eq0-clause-spent g c is =
    spent g.S.System.means the_lists g.D.Drum.held (Some c.args.deed.now) None c.loop-waits.waits c.args.self.now.system c.loop-waits.self.system c.args.self.now.lists c.loop-waits.self.lists c.args.drum.now c.loop-waits.drum
    (subst (λ n. Quiet g.S.System.means the_lists g.D.Drum.held (Some c.args.deed.now) None c.loop-waits.waits (4294967296 - n) c.args.self.now.system c.loop-waits.self.system c.args.self.now.lists c.loop-waits.self.lists c.args.drum.now c.loop-waits.drum) c.if-left-eq0.true c.loop-waits.invariant.quiet)
    (g.met.S.System.housed c.args.self.now.system)

pub loop-waits-preserved : goal.loop-waits-preserved
loop-waits-preserved g c =
    let i = c.loop-waits.invariant in
    let counts : Counts g.row.D.Denot = record { reads = g.D.Drum.read_count; writes = g.D.Drum.write_count } in
    let more : 4294967296 - c.loop-waits.left + 1 ≡ 4294967296 - (c.loop-waits.left - 1) = omega (arith, i.few, c.if-left-eq0.false) in
    let here = subst (λ w. Quiet g.S.System.means the_lists g.D.Drum.held (Some c.args.deed.now) None w (4294967296 - c.loop-waits.left) c.args.self.now.system c.loop-waits.self.system c.args.self.now.lists c.loop-waits.self.lists c.args.drum.now c.loop-waits.drum) c.in-Some.is i.quiet in
    record {
      few = omega (arith, i.few);
      quiet = subst (λ n. Quiet g.S.System.means the_lists g.D.Drum.held (Some c.args.deed.now) None c.in-Ok-complete_for.after n c.args.self.now.system c.complete_for.new.self.system c.args.self.now.lists c.complete_for.new.self.lists c.args.drum.now c.complete_for.new.drum) more
          (quiet_then g.S.System.means the_lists g.D.Drum.held (Some c.args.deed.now) None (Some c.in-Some.need) c.in-Ok-complete_for.after (4294967296 - c.loop-waits.left) 1 c.args.self.now.system c.loop-waits.self.system c.complete_for.new.self.system c.args.self.now.lists c.loop-waits.self.lists c.complete_for.new.self.lists c.args.drum.now c.loop-waits.drum c.complete_for.new.drum here
          (c.in-Ok-complete_for.ensures.quiet c.in-Ok-complete_for.after (Some c.args.deed.now) refl));
      awaited = c.in-Ok-complete_for.ensures.awaited c.in-Ok-complete_for.after refl;
      later = omega (arith, i.later, c.complete_for.ensures.later);
      size = c.complete_for.ensures.size ∙ i.size;
      reads = omega (arith, i.reads, c.complete_for.ensures.reads);
      writes = omega (arith, i.writes, c.complete_for.ensures.writes);
      bounded = few_then counts (4294967296 - c.loop-waits.left) 1 (4294967296 - (c.loop-waits.left - 1)) c.args.drum.now c.loop-waits.drum c.complete_for.new.drum (omega (arith, more)) i.bounded c.complete_for.ensures.bounded;
      silent = silent_then c.args.self.now.lists.sched c.loop-waits.self.lists.sched c.complete_for.new.self.lists.sched i.silent (c.in-Ok-complete_for.ensures.silent c.in-Ok-complete_for.after refl);
      within = λ n w. (c.in-Ok-complete_for.ensures.quiet c.in-Ok-complete_for.after (Some c.args.deed.now) refl).told.within n (i.within n w);
      marks = marks_then c.args.self.now c.loop-waits.self c.complete_for.new.self i.marks c.complete_for.ensures.marks;
      calm = λ frames d fits core which. absurd (let none : None ≡ Some c.in-Some.need = sym (i.first frames d fits core which) ∙ c.in-Some.is in cc none);
      first = λ frames d fits core which. absurd (let none : None ≡ Some c.in-Some.need = sym (i.first frames d fits core which) ∙ c.in-Some.is in cc none);
    }

pub returns-in-Ok-clause-took : goal.returns-in-Ok-clause-took
returns-in-Ok-clause-took g c answer is =
    let after = (g.S.System.means.tree c.ask.new.self.system).forks in
    deed_behind (g.S.System.means.tree c.args.self.now.system).forks after c.args.self.now.lists.sched c.loop-waits.self.lists.sched c.ask.new.self.lists.sched c.loop-waits.invariant.silent
    (subst (λ (t : PlainTree). AllTold (moved (moves t.forks after) c.loop-waits.self.lists.sched) c.ask.new.self.lists.sched) c.loop-waits.invariant.quiet.told.tree c.in-Ok.ensures.lists)

pub returns-then-left-eq0-clause-silent : goal.returns-then-left-eq0-clause-silent
returns-then-left-eq0-clause-silent g c is = subst (λ (l : ForkLists). MovesSilently c.args.self.now.lists.sched l.sched) (sym c.release.ensures.lists) c.loop-waits.invariant.silent

pub returns-then-left-eq0-clause-kept : goal.returns-then-left-eq0-clause-kept
returns-then-left-eq0-clause-kept g c is = told_then g.S.System.means c.args.self.now.system c.loop-waits.self.system c.release.new.self.system c.loop-waits.invariant.quiet.told c.release.ensures.told

pub returns-in-Ok-clause-calm : goal.returns-in-Ok-clause-calm
returns-in-Ok-clause-calm g c frames d fits core which =
    let old = c.args.self.now in
    let mid = c.loop-waits.self in
    from_calm g.S.System.means (λ n s. IsNext c.args.deed.now ⊎ IsRoomy n s) old.system mid.system old.lists mid.lists c.loop-waits.invariant.calm frames d fits core which
    (λ t m. IsInCore g.S.System.means frames c.ask.new.self.system c.ask.new.self.lists) (λ f k r. c.in-Ok.ensures.calm frames d f k r)

pub loop-waits-preserved-in-Err : goal.loop-waits-preserved-in-Err
loop-waits-preserved-in-Err g c =
    let means = g.S.System.means in
    let i = c.loop-waits.invariant in
    let old = c.args.self.now in
    let mid = c.loop-waits.self in
    let new = c.ask.new.self in
    let need = c.in-Err.need in
    let still = c.in-Err.ensures.still need refl in
    let before = subst (λ w. Quiet means the_lists g.D.Drum.held (Some c.args.deed.now) None w (4294967296 - c.loop-waits.left) old.system mid.system old.lists mid.lists c.args.drum.now c.loop-waits.drum) c.in-None.is i.quiet in
    let done = λ (frames : ℕ) (d : DrumWords) (fits : means.fits old.system d) (core : IsInCore means frames old.system old.lists) (which : IsNext c.args.deed.now ⊎ IsRoomy frames (means.plain old.system d)).
    from_calm means (λ n s. IsNext c.args.deed.now ⊎ IsRoomy n s) old.system mid.system old.lists mid.lists i.calm frames d fits core which (λ t m. ⊥) (λ f k r. c.in-Err.ensures.calm frames d f k r) in
    record {
      few = i.few;
      quiet = quiet_still means the_lists g.D.Drum.held (Some c.args.deed.now) None None (Some need) (4294967296 - c.loop-waits.left) old.system mid.system new.system old.lists mid.lists new.lists c.args.drum.now c.loop-waits.drum before still;
      awaited = c.in-Err.ensures.awaited need refl;
      later = i.later;
      size = i.size;
      reads = i.reads;
      writes = i.writes;
      bounded = i.bounded;
      within = λ n w. still.told.within n (i.within n w);
      silent = subst (λ (l : ForkLists). MovesSilently old.lists.sched l.sched) (sym (c.in-Err.ensures.stays need refl)) i.silent;
      marks = marks_then old mid new i.marks (record { limit = c.ask.ensures.limit; frames = c.ask.ensures.frames; auto = c.ask.ensures.mark });
      calm = λ frames d fits core which. absurd (done frames d fits core which);
      first = λ frames d fits core which. absurd (done frames d fits core which);
    }

pub returns-then-left-eq0-clause-calm : goal.returns-then-left-eq0-clause-calm
returns-then-left-eq0-clause-calm g c frames d fits core which = absurd (let none : None ≡ Some c.in-Some.need = sym (c.loop-waits.invariant.first frames d fits core which) ∙ c.in-Some.is in cc none)

pub returns-then-left-eq0-clause-answers : goal.returns-then-left-eq0-clause-answers
returns-then-left-eq0-clause-answers g c frames d fits core which = let none : None ≡ Some c.in-Some.need = sym (c.loop-waits.invariant.first frames d fits core which) ∙ c.in-Some.is in cc none

pub returns-in-Ok-clause-bounded : goal.returns-in-Ok-clause-bounded
returns-in-Ok-clause-bounded g c =
    let counts : Counts g.row.D.Denot = record { reads = g.D.Drum.read_count; writes = g.D.Drum.write_count } in
    fewer counts (4294967296 - c.loop-waits.left) 4294967296 c.args.drum.now c.loop-waits.drum (omega arith) c.loop-waits.invariant.bounded

pub returns-then-left-eq0-clause-bounded : goal.returns-then-left-eq0-clause-bounded
returns-then-left-eq0-clause-bounded g c =
    let counts : Counts g.row.D.Denot = record { reads = g.D.Drum.read_count; writes = g.D.Drum.write_count } in
    fewer counts (4294967296 - c.loop-waits.left) 4294967296 c.args.drum.now c.loop-waits.drum (omega arith) c.loop-waits.invariant.bounded

pub returns-in-Err-complete_for-clause-bounded : goal.returns-in-Err-complete_for-clause-bounded
returns-in-Err-complete_for-clause-bounded g c =
    let counts : Counts g.row.D.Denot = record { reads = g.D.Drum.read_count; writes = g.D.Drum.write_count } in
    let some = c.if-left-eq0.false in
    let few = c.loop-waits.invariant.few in
    few_then counts (4294967296 - c.loop-waits.left) 1 4294967296 c.args.drum.now c.loop-waits.drum c.complete_for.new.drum (omega (arith, some, few)) c.loop-waits.invariant.bounded c.complete_for.ensures.bounded
