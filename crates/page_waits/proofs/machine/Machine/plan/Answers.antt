use Rattle.fork_lists.specs.Following.{last_counted}
use Rattle.job_sched.specs.Schedules.{Schedule, waited}
use Rattle.job_sched.specs.Units.{row_ran}
use Rattle.job_sched.proofs.Alone.{fewer}
use Rattle.plain_model.specs.Moves.{moves}
use Rattle.turn_forms.specs.Turns.{moved}
use Rattle.page_waits.specs.Told.{LastCounted}
use Rattle.std.proofs.Common.{◌≡◌, ℕ, ◌+◌, ◌-◌, List, filter, not, refl, sym, ◌∙◌, ap, subst, arith}
use Rattle.event_deeds.specs.Deeds.{unit_of}
use Rattle.plain_model.specs.Trees.{PlainTree}
use Rattle.fork_lists.specs.declared.lists.ForkLists.{ForkLists}
use Rattle.fork_lists.specs.Ties.{AreTied}
use Rattle.page_waits.specs.Waits.{IsHead, Waits, the_lists}
use Rattle.page_waits.proofs.Awaiting.{awaited_fewer, awaited_lost, standing_begun}
use Rattle.page_waits.proofs.Lists.{are_lists, fewer_wait, member_below}
use Rattle.page_contracts.proofs.Losing.{can_fetch}
use Rattle.page_contracts.specs.Stores.{traffic}
use Rattle.page_waits.proofs.Holding.{all_lost, released_of, unheld_same}
use Rattle.page_waits.proofs.InCore.{core_kept, no_frame, none_needed}
use Rattle.page_waits.proofs.Silence.{silent_nil, silent_wait}
use Rattle.page_waits.proofs.Needing.{few_free}
use Rattle.page_waits.proofs.Quieting.{still_begun}
use Rattle.event_deeds.specs.declared.answer.Showing.TheVariants as showing
use Rattle.page_waits.proofs.machine.Machine.plan.Goals as goal

pub finish-ended-requires-clause-awaited : goal.finish-ended-requires-clause-awaited
finish-ended-requires-clause-awaited g c =
    awaited_fewer g.S.System.means the_lists c.units.new.self (the_lists.waiting c.args.self.now.lists) (the_lists.waiting c.units.new.lists)
    (awaited_lost g.S.System.means the_lists c.args.self.now.system c.units.new.self (the_lists.waiting c.args.self.now.lists) c.args.self.now.standing.awaited c.args.self.now.standing.told c.in-Ok.ensures.did.loses)
    (fewer_wait c.args.self.now.lists c.sound.ensures c.units.new.lists c.in-Ok.ensures.waits)

pub finish-ended-requires-clause-members : goal.finish-ended-requires-clause-members
finish-ended-requires-clause-members g c =
    let was = c.args.self.now.standing.members in
    let set = c.units.ensures.set in
    let same = c.in-Ok.ensures.did.loses.members in
    omega (arith, was, set, same)

pub invariant_of-self : goal.invariant_of-self
invariant_of-self g c = record {
  standing = c.finish-ended.ensures.standing;
  tied = c.finish-ended.ensures.tied;
  unheld = c.still_holding-self.ensures;
}

pub returns-in-Ok-clause-did : goal.returns-in-Ok-clause-did
returns-in-Ok-clause-did g c =
    let did = c.in-Ok.ensures.did in
    let state = c.finish-ended.ensures.state in
    record {
      named = did.named;
      shown = did.shown;
      limit = state.told.limit ∙ did.limit;
      within = λ n w. state.told.within (n + c.in-Ok.progress.count) (did.within n w);
      each = λ d fits.
          let y = did.each d fits in
          let z = state.each d y.0 in
          (z.fits, y.1, z.plain ∙ y.2, ap (λ p. g.S.System.means.items p (showing.Reply c.in-Ok.progress.reply)) z.plain ∙ y.3, state.gives d (showing.Reply c.in-Ok.progress.reply) y.0 y.4);
      runs = did.runs;
    }

pub returns-in-Ok-clause-bare : goal.returns-in-Ok-clause-bare
returns-in-Ok-clause-bare g c =
    c.finish-ended.ensures.bare (c.in-Ok.ensures.did.loses.holds 63 ∙ ap (filter (λ home. not (c.in-Ok.ensures.did.loses.given home))) c.requires.bare)

pub fetch-awaited-requires : goal.fetch-awaited-requires
fetch-awaited-requires g c = can_fetch g.S.System.means.store 32 c.units.new.self c.in-Err.need c.in-Err.ensures.needs.needed

pub wait-requires : goal.wait-requires
wait-requires g c = record { head = subst (λ (l : ForkLists). IsHead the_lists l c.args.head) (sym c.in-Err.ensures.stays) c.requires.head }

pub invariant_of-self-in-Err : goal.invariant_of-self-in-Err
invariant_of-self-in-Err g c =
    let needs = c.in-Err.ensures.needs in
    let fetched = c.fetch-awaited.ensures in
    let same = c.in-Err.ensures.stays in
    let waits = subst (λ (l : ForkLists). Waits the_lists c.args.head c.fetch-awaited.result l c.wait.new.lists) same c.wait.ensures.waits in
    let tree = fetched.state.told.tree ∙ needs.state.told.tree in
    record {
      standing =
          standing_begun g.S.System.means the_lists c.args.self.now.system c.units.new.self c.fetch-awaited.new.self c.args.self.now.lists c.wait.new.lists c.args.head c.in-Err.need (unit_of c.args.head.fork) c.args.self.now.standing
          (g.met.S.System.housed c.units.new.self) needs (few_free g.S.System.means c.args.head.fork c.args.self.now.system c.units.new.self c.in-Err.need needs c.requires.bare) fetched.fetched
          (subst (λ n. Waits the_lists c.args.head n c.args.self.now.lists c.wait.new.lists) fetched.answer waits);
      tied =
          c.wait.ensures.tied (g.S.System.means.tree c.fetch-awaited.new.self).forks
          (subst (λ (l : ForkLists). AreTied (g.S.System.means.tree c.fetch-awaited.new.self).forks l) (sym same)
          (subst (λ (t : PlainTree). AreTied t.forks c.args.self.now.lists) (sym tree) c.args.self.now.tied));
      unheld = λ none. unheld_same _ _ (fetched.fetched.holds ∙ needs.stored.holds) (c.args.self.now.unheld none);
    }

pub returns-in-Err-clause-still : goal.returns-in-Err-clause-still
returns-in-Err-clause-still g c is =
    let same = c.in-Err.ensures.stays in
    let waits = subst (λ (l : ForkLists). Waits the_lists c.args.head c.fetch-awaited.result l c.wait.new.lists) same c.wait.ensures.waits in
    still_begun g.S.System.means the_lists c.args.self.now.system c.units.new.self c.fetch-awaited.new.self c.in-Err.need (unit_of c.args.head.fork) c.in-Err.ensures.needs c.fetch-awaited.ensures.fetched c.fetch-awaited.ensures.state c.args.self.now.lists c.wait.new.lists c.args.head refl c.requires.head (are_lists c.args.self.now.lists c.sound.ensures)
    (subst (λ n. Waits the_lists c.args.head n c.args.self.now.lists c.wait.new.lists) c.fetch-awaited.ensures.answer waits)

pub returns-in-Err-clause-fewer : goal.returns-in-Err-clause-fewer
returns-in-Err-clause-fewer g c is =
    (subst (λ (l : ForkLists). Waits the_lists c.args.head c.fetch-awaited.result l c.wait.new.lists) c.in-Err.ensures.stays c.wait.ensures.waits).fewer

pub returns-in-Err-clause-bare : goal.returns-in-Err-clause-bare
returns-in-Err-clause-bare g c = ap (λ (f : ℕ → List ℕ). f 63) (c.fetch-awaited.ensures.fetched.holds ∙ c.in-Err.ensures.needs.stored.holds) ∙ c.requires.bare

pub finish-ended-requires-clause-below : goal.finish-ended-requires-clause-below
finish-ended-requires-clause-below g c k f is =
    let below = member_below c.args.self.now.lists.sched c.sound.ensures k f (c.held_members-holders.ensures.members k f is) in
    omega (arith, below, c.units.ensures.set)

pub finish-ended-requires-clause-all : goal.finish-ended-requires-clause-all
finish-ended-requires-clause-all g c =
    all_lost c.held_members-holders.result (traffic g.S.System.means.store c.args.self.now.system) (traffic g.S.System.means.store c.units.new.self) c.in-Ok.ensures.did.loses c.held_members-holders.ensures.all

pub returns-in-Ok-clause-row : goal.returns-in-Ok-clause-row
returns-in-Ok-clause-row g c =
    let old = c.args.self.now.lists.sched in
    let forks = (g.S.System.means.tree c.args.self.now.system).forks in
    let row = row_ran (c.in-Ok.progress.count - 1) old in
    record {
      begun = old;
      silent = silent_nil old;
      head = c.requires.heads;
      within = fewer c.in-Ok.progress.count c.most_units-most.result old c.most_units-most.ensures.row c.in-Ok.ensures.few;
      counted =
          subst (λ (s : Schedule). LastCounted c.args.head.fork c.finish-ended.result s c.finish-ended.new.lists.sched) (c.in-Ok.ensures.moved ∙ ap (λ (t : PlainTree). moved (moves forks t.forks) row) (sym c.finish-ended.ensures.state.told.tree))
          c.finish-ended.ensures.counted;
    }

pub returns-in-Ok-clause-released : goal.returns-in-Ok-clause-released
returns-in-Ok-clause-released g c =
    released_of c.held_members-holders.result (the_lists.member c.args.self.now.lists) (the_lists.member c.finish-ended.new.lists) (g.S.System.means.store.holds c.finish-ended.new.system) c.held_members-holders.ensures.members c.finish-ended.ensures.all c.finish-ended.ensures.released

pub returns-in-Err-clause-silent : goal.returns-in-Err-clause-silent
returns-in-Err-clause-silent g c is =
    silent_wait c.args.self.now.lists.sched c.wait.new.lists.sched c.fetch-awaited.result (subst (λ (l : ForkLists). c.wait.new.lists.sched ≡ waited l.sched c.fetch-awaited.result) c.in-Err.ensures.stays c.wait.ensures.schedule)

pub returns-in-Err-clause-seated : goal.returns-in-Err-clause-seated
returns-in-Err-clause-seated g c is = (subst (λ (l : ForkLists). Waits the_lists c.args.head c.fetch-awaited.result l c.wait.new.lists) c.in-Err.ensures.stays c.wait.ensures.waits).seated.member

pub returns-in-Ok-clause-calm : goal.returns-in-Ok-clause-calm
returns-in-Ok-clause-calm g c frames d fits core roomy =
    let forks = (g.S.System.means.tree c.args.self.now.system).forks in
    let row = row_ran (c.in-Ok.progress.count - 1) c.args.self.now.lists.sched in
    let behind = core_kept g.S.System.means frames c.args.self.now.system c.units.new.self c.args.self.now.lists c.units.new.lists core c.in-Ok.ensures.did.loses c.in-Ok.ensures.waits in
    record {
      head = c.requires.heads;
      within = fewer c.in-Ok.progress.count c.most_units-most.result c.args.self.now.lists.sched c.most_units-most.ensures.row c.in-Ok.ensures.few;
      lists =
          c.finish-ended.ensures.calm frames behind
          ∙ ap (last_counted c.args.head.fork) (c.in-Ok.ensures.moved ∙ ap (λ (t : PlainTree). moved (moves forks t.forks) row) (sym c.finish-ended.ensures.state.told.tree));
      core = c.finish-ended.ensures.core frames behind;
    }

pub returns-in-Err-clause-calm : goal.returns-in-Err-clause-calm
returns-in-Err-clause-calm g c frames d fits core roomy =
    let old = c.args.self.now.system in
    let housed = g.met.S.System.housed old in
    none_needed g.S.System.means frames (unit_of c.args.head.fork) old c.units.new.self c.args.self.now.lists c.in-Err.need core c.in-Err.ensures.needs
    (no_frame g.S.System.means frames (unit_of c.args.head.fork) old c.units.new.self c.args.self.now.lists c.in-Err.need core c.in-Err.ensures.needs d housed.sound (g.met.S.System.lives old d fits) roomy)

pub returns-in-Ok-clause-frames : goal.returns-in-Ok-clause-frames
returns-in-Ok-clause-frames g c = c.finish-ended.ensures.frames ∙ c.in-Ok.ensures.did.loses.frames

pub returns-in-Err-clause-frames : goal.returns-in-Err-clause-frames
returns-in-Err-clause-frames g c = c.fetch-awaited.ensures.fetched.frames ∙ c.in-Err.ensures.needs.stored.frames
