use Rattle.std.proofs.Common.{⊎_elim, ℕ, ◌+◌, ◌≤◌, List, refl, sym, ◌∙◌, ap, subst, arith}
use Rattle.std.specs.Prelude.{None, Some, Result, Ok, Err}
use Rattle.event_deeds.specs.Deeds.{deed_of, entries_of}
use Rattle.page_contracts.proofs.Losing.{can_fetch}
use Rattle.page_contracts.specs.Stores.{traffic}
use Rattle.page_contracts.specs.declared.answers.Need.{Need}
use Rattle.page_contracts.specs.declared.answers.Need.TheVariants.{Frame}
use Rattle.plain_model.specs.Trees.{PlainTree}
use Rattle.fork_lists.specs.declared.lists.ForkLists.{ForkLists}
use Rattle.fork_lists.specs.Ties.{AreTied}
use Rattle.event_deeds.specs.declared.answer.Answer.{Answer}
use Rattle.page_waits.specs.Acts.{Still, told_work}
use Rattle.page_waits.specs.Waits.{AreAwaited, AreStanding, waits_with, the_lists}
use Rattle.page_waits.proofs.Awaiting.{awaited_fewer, awaited_lost, awaited_same, standing_asked, awaited_asked}
use Rattle.page_waits.proofs.Lists.{fewer_wait, member_below}
use Rattle.page_waits.proofs.Holding.{all_let_go, all_lost, all_same, owned_of, released_of, unheld_same}
use Rattle.page_waits.proofs.InCore.{core_kept, core_there, no_frame, none_needed}
use Rattle.page_waits.proofs.Needing.{few_asked}
use Rattle.page_waits.proofs.Quieting.{still_asked, told_asked}
use Rattle.page_waits.proofs.Staying.{there_then}
use Rattle.page_waits.proofs.machine.Machine.ask.Goals as goal

-- what is needed first
need_in : Result Answer Need → Need
need_in (Ok answer) = Frame
need_in (Err n) = n

pub tell-requires : goal.tell-requires
tell-requires g c =
    awaited_same g.S.System.means the_lists c.deed.new.self c.let_go.new.self (the_lists.waiting c.deed.new.lists)
    (awaited_fewer g.S.System.means the_lists c.deed.new.self (the_lists.waiting c.args.self.now.lists) (the_lists.waiting c.deed.new.lists)
    (awaited_lost g.S.System.means the_lists c.args.self.now.system c.deed.new.self (the_lists.waiting c.args.self.now.lists) c.args.self.now.standing.awaited c.args.self.now.standing.told c.in-Ok.ensures.did.loses)
    (fewer_wait c.args.self.now.lists c.sound.ensures c.deed.new.lists c.in-Ok.ensures.waits))
    c.let_go.ensures.lets_go.queued.queue c.let_go.ensures.lets_go.queued.untold

pub release_left-requires-clause-members : goal.release_left-requires-clause-members
release_left-requires-clause-members g c k f is =
    let below = member_below c.args.self.now.lists.sched c.sound.ensures k f (c.held_members-holders.ensures.members k f is) in
    omega (arith, below, c.deed.ensures.set, c.tell.ensures.seated.set)

-- those for whom something is held, behind the deed
pub release_left-requires-clause-all : goal.release_left-requires-clause-all
release_left-requires-clause-all g c =
    let store = g.S.System.means.store in
    all_same c.held_members-holders.result (store.holds c.let_go.new.self) (store.holds c.tell.new.system) c.tell.ensures.holds
    (all_let_go c.held_members-holders.result 63 (store.holds c.deed.new.self) (store.holds c.let_go.new.self) c.let_go.ensures.lets_go.holds
    (all_lost c.held_members-holders.result (traffic store c.args.self.now.system) (traffic store c.deed.new.self) c.in-Ok.ensures.did.loses c.held_members-holders.ensures.all))

pub invariant_of-self : goal.invariant_of-self
invariant_of-self g c =
    let left = c.release_left.ensures in
    let tree = left.state.told.tree ∙ c.tell.ensures.state.told.tree ∙ c.let_go.ensures.state.told.tree in
    record {
      standing = record {
        awaited = awaited_same g.S.System.means the_lists c.tell.new.system c.release_left.new.system (the_lists.waiting c.tell.new.lists) c.tell.ensures.awaited left.queued.queue left.queued.untold;
        told = left.queued.untold ∙ c.tell.ensures.told;
        members =
            let was = c.args.self.now.standing.members in
            let set = c.deed.ensures.set in
            let set_now = c.tell.ensures.seated.set in
            let same = c.in-Ok.ensures.did.loses.members in
            let kept = c.let_go.ensures.lets_go.stays.framed.members in
            let told = c.tell.ensures.members in
            let released = left.there.framed.members in
            omega (arith, was, set, set_now, same, kept, told, released);
        owned = owned_of c.held_members-holders.result (the_lists.member c.tell.new.lists) (g.S.System.means.store.holds c.release_left.new.system) left.all left.released;
      };
      tied = c.tell.ensures.tied (g.S.System.means.tree c.release_left.new.system).forks (subst (λ (t : PlainTree). AreTied t.forks c.deed.new.lists) (sym tree) c.in-Ok.ensures.tied);
      unheld = c.still_holding-self.ensures;
    }

pub returns-in-Ok-clause-did : goal.returns-in-Ok-clause-did
returns-in-Ok-clause-did g c =
    let did = c.in-Ok.ensures.did in
    let gone = c.let_go.ensures.state in
    let told = c.tell.ensures.state in
    let left = c.release_left.ensures.state in
    let n = entries_of c.args.deed.now in
    record {
      shown = did.shown;
      limit = left.told.limit ∙ told.told.limit ∙ gone.told.limit ∙ did.limit;
      within = λ k w. left.told.within (k + n) (told.told.within (k + n) (gone.told.within (k + n) (did.within k w)));
      each = λ d fits.
          let y = did.each d fits in
          let z = gone.each d y.fits in
          let v = told.each d z.fits in
          let u = left.each d v.fits in
          record {
            fits = u.fits;
            plain = u.plain ∙ v.plain ∙ z.plain ∙ y.plain;
            items = ap (λ p. g.S.System.means.items p c.in-Ok.answer.showing) (u.plain ∙ v.plain ∙ z.plain) ∙ y.items;
            next = y.next;
            gives = left.gives d c.in-Ok.answer.showing v.fits (told.gives d c.in-Ok.answer.showing z.fits (gone.gives d c.in-Ok.answer.showing y.fits y.gives));
          };
    }

pub returns-in-Ok-clause-released : goal.returns-in-Ok-clause-released
returns-in-Ok-clause-released g c =
    released_of c.held_members-holders.result (the_lists.member c.args.self.now.lists) (the_lists.member c.tell.new.lists) (g.S.System.means.store.holds c.release_left.new.system) c.held_members-holders.ensures.members c.release_left.ensures.all c.release_left.ensures.released

pub returns-in-Ok-clause-bare : goal.returns-in-Ok-clause-bare
returns-in-Ok-clause-bare g c =
    c.release_left.ensures.less 63 (ap (λ (f : ℕ → List ℕ). f 63) c.tell.ensures.holds ∙ ap (λ (f : ℕ → List ℕ). f 63) c.let_go.ensures.lets_go.holds)

pub fetch-requires : goal.fetch-requires
fetch-requires g c = can_fetch g.S.System.means.store 16 c.deed.new.self c.in-Err.need c.in-Err.ensures.needs.needed

pub invariant_of-self-in-Err : goal.invariant_of-self-in-Err
invariant_of-self-in-Err g c =
    let needs = c.in-Err.ensures.needs in
    let same = c.in-Err.ensures.stays in
    let tree = c.fetch.ensures.state.told.tree ∙ needs.state.told.tree in
    record {
      standing =
          subst (AreStanding g.S.System.means the_lists c.fetch.new.self) (sym same)
          (standing_asked g.S.System.means the_lists c.args.self.now.system c.deed.new.self c.fetch.new.self c.args.self.now.lists c.in-Err.need (deed_of c.args.deed.now) c.args.self.now.standing needs c.fetch.ensures.fetched);
      tied =
          subst (λ (l : ForkLists). AreTied (g.S.System.means.tree c.fetch.new.self).forks l) (sym same)
          (subst (λ (t : PlainTree). AreTied t.forks c.args.self.now.lists) (sym tree) c.args.self.now.tied);
      unheld = λ none. unheld_same _ _ (c.fetch.ensures.fetched.holds ∙ needs.stored.holds) (c.args.self.now.unheld none);
    }

pub returns-in-Err-clause-still : goal.returns-in-Err-clause-still
unfolding need_in
returns-in-Err-clause-still g c n is =
    subst (λ (l : ForkLists). Still g.S.System.means the_lists (Some c.args.deed.now) None (Some n) c.args.self.now.system c.fetch.new.self c.args.self.now.lists l) (sym c.in-Err.ensures.stays)
    (subst (λ m. Still g.S.System.means the_lists (Some c.args.deed.now) None (Some m) c.args.self.now.system c.fetch.new.self c.args.self.now.lists c.args.self.now.lists) (sym c.fetch.ensures.answer ∙ ap need_in is)
    (still_asked g.S.System.means the_lists c.args.self.now.system c.deed.new.self c.fetch.new.self c.in-Err.need (deed_of c.args.deed.now) c.in-Err.ensures.needs c.fetch.ensures.fetched c.fetch.ensures.state c.args.self.now.lists c.args.deed.now refl))

pub returns-in-Err-clause-awaited : goal.returns-in-Err-clause-awaited
unfolding need_in
returns-in-Err-clause-awaited g c n is =
    subst (λ (l : ForkLists). AreAwaited g.S.System.means (waits_with (Some n) (the_lists.waiting l)) c.fetch.new.self) (sym c.in-Err.ensures.stays)
    (subst (λ m. AreAwaited g.S.System.means (waits_with (Some m) (the_lists.waiting c.args.self.now.lists)) c.fetch.new.self) (sym c.fetch.ensures.answer ∙ ap need_in is)
    (awaited_asked g.S.System.means the_lists c.args.self.now.system c.deed.new.self c.fetch.new.self c.args.self.now.lists c.in-Err.need (deed_of c.args.deed.now) c.args.self.now.standing (g.met.S.System.housed c.deed.new.self) c.in-Err.ensures.needs
    (few_asked g.S.System.means c.args.deed.now c.args.self.now.system c.deed.new.self c.in-Err.need c.in-Err.ensures.needs (g.met.S.System.housed c.deed.new.self)) c.fetch.ensures.fetched))

pub returns-in-Err-clause-fewer : goal.returns-in-Err-clause-fewer
unfolding need_in
returns-in-Err-clause-fewer g c n told is =
    subst (λ (l : ForkLists). told_work g.S.System.means the_lists c.args.deed.now (Some n) c.fetch.new.self l ≤ told_work g.S.System.means the_lists c.args.deed.now None c.args.self.now.system c.args.self.now.lists) (sym c.in-Err.ensures.stays)
    (subst (λ m. told_work g.S.System.means the_lists c.args.deed.now (Some m) c.fetch.new.self c.args.self.now.lists ≤ told_work g.S.System.means the_lists c.args.deed.now None c.args.self.now.system c.args.self.now.lists) (sym c.fetch.ensures.answer ∙ ap need_in is)
    (told_asked g.S.System.means the_lists c.args.self.now.system c.deed.new.self c.fetch.new.self c.in-Err.need (deed_of c.args.deed.now) c.in-Err.ensures.needs c.fetch.ensures.fetched c.fetch.ensures.state c.args.self.now.lists c.args.deed.now
    (λ home page. c.in-Err.ensures.told home told (ap Err page))))

pub returns-in-Ok-clause-calm : goal.returns-in-Ok-clause-calm
returns-in-Ok-clause-calm g c frames d fits core which =
    let store = g.S.System.means.store in
    let done = core_kept g.S.System.means frames c.args.self.now.system c.deed.new.self c.args.self.now.lists c.deed.new.lists core c.in-Ok.ensures.did.loses c.in-Ok.ensures.waits in
    let gone = c.let_go.ensures.lets_go in
    let left = c.release_left.ensures in
    core_there g.S.System.means frames c.deed.new.self c.release_left.new.system c.deed.new.lists c.tell.new.lists done
    (there_then store c.deed.new.self c.let_go.new.self c.release_left.new.system gone.stays (there_then store c.let_go.new.self c.tell.new.system c.release_left.new.system c.tell.ensures.there left.there))
    (left.queued.queue ∙ c.tell.ensures.queue ∙ gone.queued.queue) (left.queued.untold ∙ c.tell.ensures.told)
    (ap (λ (l : ForkLists). l.sched.waiting) (c.tell.ensures.none (gone.queued.untold ∙ done.told)))

pub returns-in-Err-clause-calm : goal.returns-in-Err-clause-calm
returns-in-Err-clause-calm g c frames d fits core which =
    let old = c.args.self.now.system in
    let x = deed_of c.args.deed.now in
    let housed = g.met.S.System.housed old in
    none_needed g.S.System.means frames x old c.deed.new.self c.args.self.now.lists c.in-Err.need core c.in-Err.ensures.needs
    (⊎_elim (λ part. λ is. c.in-Err.ensures.unframed part (ap Err is))
    (λ roomy. no_frame g.S.System.means frames x old c.deed.new.self c.args.self.now.lists c.in-Err.need core c.in-Err.ensures.needs d housed.sound (g.met.S.System.lives old d fits) roomy) which)

pub returns-in-Ok-clause-frames : goal.returns-in-Ok-clause-frames
returns-in-Ok-clause-frames g c = c.release_left.ensures.there.framed.frames ∙ c.tell.ensures.there.framed.frames ∙ c.let_go.ensures.lets_go.stays.framed.frames ∙ c.in-Ok.ensures.did.loses.frames

pub returns-in-Err-clause-frames : goal.returns-in-Err-clause-frames
returns-in-Err-clause-frames g c = c.fetch.ensures.fetched.frames ∙ c.in-Err.ensures.needs.stored.frames
