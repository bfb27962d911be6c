use Rattle.std.proofs.Common.{◌≡◌, ◌⊎◌, inl, inr, ℕ, ◌+◌, ◌-◌, ◌<◌, ◌≤◌, ◌||◌, None, Option, Bool, true, false, nat_le, not, refl, sym, ◌∙◌, ap, subst, arith}
use Rattle.std.specs.Prelude.{◌==◌}
use Rattle.std.proofs.lemmas.Bool.Decides.{nat_tests}
use Rattle.machine_names.specs.declared.names.ForkName.{ForkName}
use Rattle.job_sched.specs.Schedules.{Schedule}
use Rattle.plain_model.specs.Trees.{PlainTree}
use Rattle.page_waits.specs.Acts.{IdledOver, Quiet}
use Rattle.page_waits.specs.Calm.{IsRoomy}
use Rattle.page_waits.specs.Holders.{AreReleased}
use Rattle.page_waits.specs.InCore.{RanCalmly}
use Rattle.fork_lists.specs.declared.lists.ForkLists.{ForkLists}
use Rattle.page_waits.specs.Told.{MovesSilently, TookRow}
use Rattle.page_waits.specs.Transfers.{Counts, Moved}
use Rattle.page_waits.specs.Waits.{the_lists}
use Rattle.page_waits.proofs.Idle.{nobody_runs}
use Rattle.page_waits.proofs.InCore.{from_calm, from_idle, still_idle}
use Rattle.page_waits.proofs.Marks.{marks_then}
use Rattle.page_waits.proofs.Moving.{few_then, fewer, moved_then}
use Rattle.page_waits.proofs.Quanta.{ends_whole}
use Rattle.page_waits.proofs.Quieting.{ran_quiet, quiet_still, quiet_then, idle_spent, idle_quiet}
use Rattle.page_waits.proofs.Silence.{row_behind, silent_arrival, silent_then}
use Rattle.page_waits.proofs.machine.Machine.look.Goals as goal
use Rattle.page_waits.proofs.machine.Machine.look.Goals.{then-not-self-via-then-not-self, then-not-self-via-else-not-self+then-left-eq0}

spent : (auto : Bool) (left : ℕ) → left ≡ 0 → (not auto || (left == 0)) ≡ true
spent false left is = refl
spent true left is = grind (arith, nat_tests, is)

pub returns-in-Some-clause-did : goal.returns-in-Some-clause-did
returns-in-Some-clause-did g c =
    ran_quiet g.S.System.means the_lists g.D.Drum.held c.in-Some.u.fork c.in-Some.u.progress (4294967296 - c.loop-u.left) c.args.self.now.system c.loop-u.self.system c.first_units.new.self.system c.args.self.now.lists c.loop-u.self.lists c.args.drum.now c.loop-u.drum c.loop-u.invariant.quiet c.in-Some.ensures.did

pub returns-then-not-self-clause-idled : goal.returns-then-not-self-clause-idled
returns-then-not-self-clause-idled g c count done =
    let mark : c.first_units.new.self.auto ≡ c.args.self.now.auto = c.first_units.ensures.mark ∙ c.loop-u.invariant.marks.auto in
    let none = c.in_default.is in
    let after = c.first_units.new.self in
    idle_spent g.S.System.means the_lists g.D.Drum.held c.args.self.now.system after.system c.args.self.now.lists after.lists c.args.drum.now c.loop-u.drum
    (nobody_runs g.S.System.means after.system after.lists c.sound.ensures after.standing (c.first_units.ensures.nobody none)) (g.met.S.System.housed after.system) (λ d fits. ap (λ (t : PlainTree). t.forks) (g.met.S.System.forked after.system d fits))
    c.args.self.now.auto count c.loop-u.left
    (elim c.then-not-self.branch [
      | then-not-self-via-then-not-self w ↦ ap (λ b. not b || (c.loop-u.left == 0)) (sym mark ∙ w.if-not-self.true)
      | then-not-self-via-else-not-self+then-left-eq0 w ↦ spent c.args.self.now.auto c.loop-u.left w.if-left-eq0.true
    ])
    (quiet_still g.S.System.means the_lists g.D.Drum.held None None None None (4294967296 - c.loop-u.left) c.args.self.now.system c.loop-u.self.system after.system c.args.self.now.lists c.loop-u.self.lists after.lists c.args.drum.now c.loop-u.drum c.loop-u.invariant.quiet (c.first_units.ensures.still none))
    (g.met.S.System.housed c.args.self.now.system)

pub returns-in-Nothing-clause-idled : goal.returns-in-Nothing-clause-idled
returns-in-Nothing-clause-idled g c count done =
    let none = c.in_default.is in
    let before = c.first_units.new.self in
    let after = c.complete.new.self in
    let same = c.in-Nothing.ensures.system refl in
    let lists = c.in-Nothing.ensures.lists refl in
    let drum = c.in-Nothing.ensures.stays refl in
    subst (λ s. IdledOver g.S.System.means the_lists g.D.Drum.held c.args.self.now.auto count c.args.self.now.system s c.args.drum.now c.complete.new.drum) (sym same)
    (subst (IdledOver g.S.System.means the_lists g.D.Drum.held c.args.self.now.auto count c.args.self.now.system before.system c.args.drum.now) (sym drum)
    (idle_quiet g.S.System.means the_lists g.D.Drum.held c.args.self.now.system before.system c.args.self.now.lists before.lists c.args.drum.now c.loop-u.drum
    (nobody_runs g.S.System.means before.system before.lists c.sound.ensures before.standing (c.first_units.ensures.nobody none)) (g.met.S.System.housed before.system) (λ d fits. ap (λ (t : PlainTree). t.forks) (g.met.S.System.forked before.system d fits))
    c.args.self.now.auto count (4294967296 - c.loop-u.left) (c.in-Nothing.ensures.nothing refl)
    (quiet_still g.S.System.means the_lists g.D.Drum.held None None None None (4294967296 - c.loop-u.left) c.args.self.now.system c.loop-u.self.system before.system c.args.self.now.lists c.loop-u.self.lists before.lists c.args.drum.now c.loop-u.drum c.loop-u.invariant.quiet (c.first_units.ensures.still none))))

pub returns-then-not-self-clause-silent : goal.returns-then-not-self-clause-silent
returns-then-not-self-clause-silent g c is =
    silent_then c.args.self.now.lists.sched c.loop-u.self.lists.sched c.first_units.new.self.lists.sched c.loop-u.invariant.silent (c.first_units.ensures.silent c.in_default.is)

pub returns-in-Nothing-clause-silent : goal.returns-in-Nothing-clause-silent
returns-in-Nothing-clause-silent g c is =
    subst (λ (l : ForkLists). MovesSilently c.args.self.now.lists.sched l.sched) (sym (c.in-Nothing.ensures.lists refl))
    (silent_then c.args.self.now.lists.sched c.loop-u.self.lists.sched c.first_units.new.self.lists.sched c.loop-u.invariant.silent (c.first_units.ensures.silent c.in_default.is))

pub returns-in-Some-clause-row : goal.returns-in-Some-clause-row
returns-in-Some-clause-row g c =
    let u = c.in-Some.u in
    let after = (g.S.System.means.tree c.first_units.new.self.system).forks in
    row_behind u.fork u.progress.count u.ended (g.S.System.means.tree c.args.self.now.system).forks after c.args.self.now.lists.sched c.loop-u.self.lists.sched c.first_units.new.self.lists.sched c.loop-u.invariant.silent
    (subst (λ (t : PlainTree). TookRow u.fork u.progress.count u.ended t.forks after c.loop-u.self.lists.sched c.first_units.new.self.lists.sched) c.loop-u.invariant.quiet.told.tree c.in-Some.ensures.row)

pub returns-in-Some-clause-released : goal.returns-in-Some-clause-released
returns-in-Some-clause-released g c =
    subst (λ (m : ℕ → Option ForkName). AreReleased m (the_lists.member c.first_units.new.self.lists) (g.S.System.means.store.holds c.first_units.new.self.system)) c.loop-u.invariant.seated c.in-Some.ensures.released

pub loop-u-preserved : goal.loop-u-preserved
loop-u-preserved g c =
    let means = g.S.System.means in
    let counts : Counts g.row.D.Denot = record { reads = g.D.Drum.read_count; writes = g.D.Drum.write_count } in
    let i = c.loop-u.invariant in
    let none = c.in_default.is in
    let old = c.args.self.now in
    let mid = c.loop-u.self in
    let planned = c.first_units.new.self in
    let new = c.complete.new.self in
    let need = c.in-Done.field-0 in
    let more : 4294967296 - c.loop-u.left + 1 ≡ 4294967296 - (c.loop-u.left - 1) = omega (arith, i.few, c.if-left-eq0.false) in
    let still = c.first_units.ensures.still none in
    let quiet = c.in-Done.ensures.done need refl in
    record {
      few = omega (arith, i.few);
      quiet =
          subst (λ n. Quiet means the_lists g.D.Drum.held None None None n old.system new.system old.lists new.lists c.args.drum.now c.complete.new.drum) more
          (quiet_then means the_lists g.D.Drum.held None None None None (4294967296 - c.loop-u.left) 1 old.system planned.system new.system old.lists planned.lists new.lists c.args.drum.now c.loop-u.drum c.complete.new.drum
          (quiet_still means the_lists g.D.Drum.held None None None None (4294967296 - c.loop-u.left) old.system mid.system planned.system old.lists mid.lists planned.lists c.args.drum.now c.loop-u.drum i.quiet still) quiet);
      moved =
          subst (λ n. Moved counts n c.args.drum.now c.complete.new.drum) more
          (moved_then counts (4294967296 - c.loop-u.left) 1 c.args.drum.now c.loop-u.drum c.complete.new.drum i.moved (c.in-Done.ensures.moved need refl) c.complete.ensures.reads c.complete.ensures.writes);
      bounded = few_then counts (4294967296 - c.loop-u.left) 1 (4294967296 - (c.loop-u.left - 1)) c.args.drum.now c.loop-u.drum c.complete.new.drum (omega (arith, more)) i.bounded c.complete.ensures.bounded;
      later = omega (arith, i.later, c.complete.ensures.later);
      size = c.complete.ensures.size ∙ i.size;
      reads = omega (arith, i.reads, c.complete.ensures.reads);
      writes = omega (arith, i.writes, c.complete.ensures.writes);
      off = λ off. let mark : planned.auto ≡ old.auto = c.first_units.ensures.mark ∙ i.marks.auto in absurd (on (sym c.if-not-self.false) (mark ∙ off));
      fresh = λ _. ap (λ (s : Schedule). s.used) (c.in-Done.ensures.told need refl) ∙ c.sound.ensures.idle (c.first_units.ensures.none none);
      silent =
          silent_then old.lists.sched planned.lists.sched new.lists.sched (silent_then old.lists.sched mid.lists.sched planned.lists.sched i.silent (c.first_units.ensures.silent none))
          (silent_arrival planned.lists.sched new.lists.sched need (c.in-Done.ensures.told need refl));
      seated = c.complete.ensures.seated ∙ c.first_units.ensures.seated none ∙ i.seated;
      within = λ n w. quiet.told.within n (still.told.within n (i.within n w));
      marks = marks_then old mid new i.marks (marks_then mid planned new (record { limit = c.first_units.ensures.limit; frames = c.first_units.ensures.frames; auto = c.first_units.ensures.mark }) c.complete.ensures.marks);
      bare = c.complete.ensures.bare c.first_units.ensures.bare;
      calm = λ frames d fits core roomy.
          let idled = from_idle means IsRoomy old.system mid.system old.lists mid.lists i.calm frames d fits core roomy planned.system planned.lists c.first_units.result (c.first_units.ensures.calm frames d) none in
          absurd (cc (c.in-Done.ensures.empty (still_idle means frames old.system planned.system old.lists planned.lists core idled)));
    }
  where
    on : {b : Bool} → true ≡ b → b ≡ false → ⊥
    on e f = cc (e ∙ f)

pub returns-in-Some-clause-calm : goal.returns-in-Some-clause-calm
returns-in-Some-clause-calm g c frames d fits core roomy =
    let old = c.args.self.now in
    let mid = c.loop-u.self in
    let new = c.first_units.new.self in
    from_calm g.S.System.means IsRoomy old.system mid.system old.lists mid.lists c.loop-u.invariant.calm frames d fits core roomy
    (λ t m. RanCalmly g.S.System.means frames c.in-Some.u t new.system m new.lists) (λ f k r. c.in-Some.ensures.calm frames d f k r)

pub returns-then-not-self-clause-calm : goal.returns-then-not-self-clause-calm
returns-then-not-self-clause-calm g c frames d fits core roomy =
    let old = c.args.self.now in
    let mid = c.loop-u.self in
    let new = c.first_units.new.self in
    from_idle g.S.System.means IsRoomy old.system mid.system old.lists mid.lists c.loop-u.invariant.calm frames d fits core roomy new.system new.lists c.first_units.result (c.first_units.ensures.calm frames d) c.in_default.is

pub returns-in-Nothing-clause-calm : goal.returns-in-Nothing-clause-calm
returns-in-Nothing-clause-calm g c frames d fits core roomy =
    let old = c.args.self.now in
    let mid = c.loop-u.self in
    let planned = c.first_units.new.self in
    let idled = from_idle g.S.System.means IsRoomy old.system mid.system old.lists mid.lists c.loop-u.invariant.calm frames d fits core roomy planned.system planned.lists c.first_units.result (c.first_units.ensures.calm frames d) c.in_default.is in
    record { nobody = idled.nobody; system = c.in-Nothing.ensures.system refl ∙ idled.system; lists = c.in-Nothing.ensures.lists refl ∙ idled.lists }

pub returns-in-DrumFault-clause-calm : goal.returns-in-DrumFault-clause-calm
returns-in-DrumFault-clause-calm g c frames d fits core roomy =
    let means = g.S.System.means in
    let old = c.args.self.now in
    let mid = c.loop-u.self in
    let planned = c.first_units.new.self in
    let idled = from_idle means IsRoomy old.system mid.system old.lists mid.lists c.loop-u.invariant.calm frames d fits core roomy planned.system planned.lists c.first_units.result (c.first_units.ensures.calm frames d) c.in_default.is in
    cc (c.in-DrumFault.ensures.empty (still_idle means frames old.system planned.system old.lists planned.lists core idled))

pub returns-in-Some-clause-bounded : goal.returns-in-Some-clause-bounded
returns-in-Some-clause-bounded g c =
    let counts : Counts g.row.D.Denot = record { reads = g.D.Drum.read_count; writes = g.D.Drum.write_count } in
    fewer counts (4294967296 - c.loop-u.left) 4294967296 c.args.drum.now c.loop-u.drum (omega arith) c.loop-u.invariant.bounded

pub returns-then-not-self-clause-bounded : goal.returns-then-not-self-clause-bounded
returns-then-not-self-clause-bounded g c =
    let counts : Counts g.row.D.Denot = record { reads = g.D.Drum.read_count; writes = g.D.Drum.write_count } in
    fewer counts (4294967296 - c.loop-u.left) 4294967296 c.args.drum.now c.loop-u.drum (omega arith) c.loop-u.invariant.bounded

pub returns-in-Nothing-clause-bounded : goal.returns-in-Nothing-clause-bounded
returns-in-Nothing-clause-bounded g c =
    let counts : Counts g.row.D.Denot = record { reads = g.D.Drum.read_count; writes = g.D.Drum.write_count } in
    let some = c.if-left-eq0.false in
    let few = c.loop-u.invariant.few in
    few_then counts (4294967296 - c.loop-u.left) 1 4294967296 c.args.drum.now c.loop-u.drum c.complete.new.drum (omega (arith, some, few)) c.loop-u.invariant.bounded c.complete.ensures.bounded

pub returns-in-DrumFault-clause-bounded : goal.returns-in-DrumFault-clause-bounded
returns-in-DrumFault-clause-bounded g c =
    let counts : Counts g.row.D.Denot = record { reads = g.D.Drum.read_count; writes = g.D.Drum.write_count } in
    let some = c.if-left-eq0.false in
    let few = c.loop-u.invariant.few in
    few_then counts (4294967296 - c.loop-u.left) 1 4294967296 c.args.drum.now c.loop-u.drum c.complete.new.drum (omega (arith, some, few)) c.loop-u.invariant.bounded c.complete.ensures.bounded

pub returns-in-Some-clause-whole : goal.returns-in-Some-clause-whole
returns-in-Some-clause-whole g c =
    let u = c.in-Some.u in
    let i = c.loop-u.invariant in
    elim (searched c.loop-u.left i.few) [
      | inl none ↦ inl (omega (arith, none, i.bounded))
      | inr some ↦
          inr (λ is. ends_whole u.fork u.progress.count u.ended (g.S.System.means.tree c.loop-u.self.system).forks (g.S.System.means.tree c.first_units.new.self.system).forks
          c.loop-u.self.lists.sched c.first_units.new.self.lists.sched c.in-Some.ensures.row (i.fresh some) is)
    ]
  where
    searched : (left : ℕ) → left ≤ 4294967296 → (left ≡ 4294967296) ⊎ (left < 4294967296)
    searched left few = by (nat_le 4294967296 left) refl
      where
        by : (t : Bool) → nat_le 4294967296 left ≡ t → (left ≡ 4294967296) ⊎ (left < 4294967296)
        by true e = inl (grind (arith, nat_tests, e, few))
        by false e = inr (grind (arith, nat_tests, e))
