use Rattle.std.proofs.Common.{◌≡◌, ◌+◌, List, suc, drop, refl, sym, ◌∙◌, ap, subst, arith}
use Rattle.std.specs.Prelude.{None, map, take}
use Rattle.job_sched.specs.Schedules.{Schedule, arrived}
use Rattle.page_contracts.specs.Stores.{need_of}
use Rattle.page_contracts.specs.declared.answers.Need.{Need}
use Rattle.fork_lists.specs.declared.lists.ForkLists.{ForkLists}
use Rattle.page_waits.proofs.InCore.{core_same}
use Rattle.page_waits.proofs.Marks.{marks_then}
use Rattle.page_waits.proofs.Moving.{few_then}
use Rattle.page_waits.proofs.Queued.{drop_next, drop_none, arrived_next, drop_map, take_rest}
use Rattle.page_waits.specs.Told.{MovesSilently, all_arrived}
use Rattle.page_waits.specs.Transfers.{Counts}
use Rattle.page_waits.specs.Waits.{the_lists}
use Rattle.page_waits.proofs.Quieting.{quiet_less, quiet_then}
use Rattle.page_waits.proofs.Silence.{silent_arrival, silent_then}
use Rattle.page_waits.proofs.machine.Machine.transfers.Goals as goal

pub loop-k-preserved : goal.loop-k-preserved
loop-k-preserved g c =
    let means = g.S.System.means in
    let i = c.loop-k.invariant in
    let need = c.in-Done.field-0 in
    let old = c.args.self.now in
    let mid = c.loop-k.self in
    let new = c.complete.new.self in
    let counts : Counts g.row.D.Denot = record { reads = g.D.Drum.read_count; writes = g.D.Drum.write_count } in
    let next : suc c.loop-k._k ≡ c.loop-k._k + 1 = omega arith in
    record {
      later = omega (arith, i.later, c.complete.ensures.later);
      size = c.complete.ensures.size ∙ i.size;
      reads = omega (arith, i.reads, c.complete.ensures.reads);
      writes = omega (arith, i.writes, c.complete.ensures.writes);
      bounded = few_then counts c.loop-k._k 1 (c.loop-k._k + 1) c.args.drum.now c.loop-k.drum c.complete.new.drum (omega arith) i.bounded c.complete.ensures.bounded;
      quiet = quiet_less means the_lists g.D.Drum.held None None None (0 + 1) 0 old.system new.system old.lists new.lists c.args.drum.now c.complete.new.drum (omega arith)
          (quiet_then means the_lists g.D.Drum.held None None None None 0 1 old.system mid.system new.system old.lists mid.lists new.lists c.args.drum.now c.loop-k.drum c.complete.new.drum i.quiet (c.in-Done.ensures.done need refl));
      silent = silent_then old.lists.sched mid.lists.sched new.lists.sched i.silent (silent_arrival mid.lists.sched new.lists.sched need (c.in-Done.ensures.told need refl));
      oldest = c.in-Done.ensures.oldest need refl ∙ ap (drop 1) i.oldest ∙ drop_next c.loop-k._k (means.store.queue old.system) ∙ ap (λ n. drop n (means.store.queue old.system)) next;
      told =
          let first = means.store.queue old.system in
          c.in-Done.ensures.told need refl ∙ ap (λ (s : Schedule). arrived s need) i.told
          ∙ sym (arrived_next c.loop-k._k (map need_of first) need (map need_of (means.store.queue new.system)) old.lists.sched (drop_map need_of c.loop-k._k first ∙ ap (map need_of) (sym i.oldest) ∙ c.in-Done.ensures.tells need refl))
          ∙ ap (λ n. all_arrived (take n (map need_of first)) old.lists.sched) next;
      bare = c.complete.ensures.bare i.bare;
      marks = marks_then old mid new i.marks c.complete.ensures.marks;
      same = λ none. absurd (cc (c.in-Done.ensures.empty (ap means.store.queue (i.same none).0 ∙ none)));
    }

pub returns-in-Nothing-clause-silent : goal.returns-in-Nothing-clause-silent
returns-in-Nothing-clause-silent g c = subst (λ (l : ForkLists). MovesSilently c.args.self.now.lists.sched l.sched) (sym (c.in-Nothing.ensures.lists refl)) c.loop-k.invariant.silent

pub returns-in-Nothing-clause-oldest : goal.returns-in-Nothing-clause-oldest
returns-in-Nothing-clause-oldest g c =
    let queue = g.S.System.means.store.queue in
    let none = c.in-Nothing.ensures.nothing refl in
    ap queue (c.in-Nothing.ensures.system refl) ∙ none ∙ sym (drop_none c.loop-k._k c.args.n (queue c.args.self.now.system) (omega (arith, c.loop-k-test.true)) (sym c.loop-k.invariant.oldest ∙ none))

pub returns-in-Nothing-clause-told : goal.returns-in-Nothing-clause-told
returns-in-Nothing-clause-told g c =
    let queue = g.S.System.means.store.queue in
    let old = c.args.self.now in
    let i = c.loop-k.invariant in
    ap (λ (l : ForkLists). l.sched) (c.in-Nothing.ensures.lists refl) ∙ i.told
    ∙ ap (λ (needs : List Need). all_arrived needs old.lists.sched)
    (sym (take_rest c.loop-k._k c.args.n (map need_of (queue old.system)) (omega (arith, c.loop-k-test.true)) (drop_map need_of c.loop-k._k (queue old.system) ∙ ap (map need_of) (sym i.oldest ∙ c.in-Nothing.ensures.nothing refl))))

pub returns-in-Nothing-clause-system : goal.returns-in-Nothing-clause-system
returns-in-Nothing-clause-system g c none = c.in-Nothing.ensures.system refl ∙ (c.loop-k.invariant.same none).0

pub returns-in-Nothing-clause-lists : goal.returns-in-Nothing-clause-lists
returns-in-Nothing-clause-lists g c none = c.in-Nothing.ensures.lists refl ∙ (c.loop-k.invariant.same none).1

pub returns-in-Nothing-clause-drum : goal.returns-in-Nothing-clause-drum
returns-in-Nothing-clause-drum g c none = c.in-Nothing.ensures.stays refl ∙ (c.loop-k.invariant.same none).2

pub returns-in-Nothing-clause-core : goal.returns-in-Nothing-clause-core
returns-in-Nothing-clause-core g c frames core =
    core_same g.S.System.means frames c.args.self.now.system c.complete.new.self.system c.args.self.now.lists c.complete.new.self.lists core
    (c.in-Nothing.ensures.system refl ∙ (c.loop-k.invariant.same core.still).0) (c.in-Nothing.ensures.lists refl ∙ (c.loop-k.invariant.same core.still).1)

pub returns-in-Nothing-clause-bounded : goal.returns-in-Nothing-clause-bounded
returns-in-Nothing-clause-bounded g c =
    let counts : Counts g.row.D.Denot = record { reads = g.D.Drum.read_count; writes = g.D.Drum.write_count } in
    let test = c.loop-k-test.true in
    few_then counts c.loop-k._k 1 c.args.n c.args.drum.now c.loop-k.drum c.complete.new.drum (omega (arith, test)) c.loop-k.invariant.bounded c.complete.ensures.bounded

pub returns-in-DrumFault-clause-bounded : goal.returns-in-DrumFault-clause-bounded
returns-in-DrumFault-clause-bounded g c =
    let counts : Counts g.row.D.Denot = record { reads = g.D.Drum.read_count; writes = g.D.Drum.write_count } in
    let test = c.loop-k-test.true in
    few_then counts c.loop-k._k 1 c.args.n c.args.drum.now c.loop-k.drum c.complete.new.drum (omega (arith, test)) c.loop-k.invariant.bounded c.complete.ensures.bounded
