use Rattle.std.proofs.Common.{◌≡◌, ◌+◌, ◌≤◌, ℕ, List, ◌∷◌, cond, map, None, drop, arith, subst, ap, refl, sym, ◌∙◌, inl, inr}
use Rattle.page_contracts.specs.declared.answers.Need.TheVariants.{Page, Frame}
use Rattle.page_contracts.specs.declared.answers.Need.{Need}
use Rattle.page_contracts.specs.declared.store.Completed.{Completed}
use Rattle.page_contracts.specs.declared.store.Completed.TheVariants.{Done}
use Rattle.page_waits.specs.Acts.{Quiet, told_work}
use Rattle.page_contracts.specs.Stores.{Transfer, most_held, need_of}
use Rattle.page_waits.specs.Holding.{comes_for, held_with}
use Rattle.page_waits.specs.Waits.{AreAwaited, AreStanding, waits_with, woken, the_lists}
use Rattle.page_waits.proofs.Awaiting.{standing_ended, standing_stored, awaited_ended, awaited_same, woken_with}
use Rattle.page_waits.proofs.Lists.{are_lists}
use Rattle.page_waits.proofs.Oldest.{can_hold}
use Rattle.page_waits.proofs.Quieting.{quiet_ended, told_ended}
use Rattle.page_waits.proofs.completing.complete.Goals as goal

pub hold_needed-requires-clause-can : goal.hold_needed-requires-clause-can
hold_needed-requires-clause-can g c home k is below =
    let members = c.requires.standing.members in
    can_hold g.S.System.means.store c.args.system.now c.complete.new.self c.in-Done.need (c.in-Done.ensures.ends.done c.in-Done.need refl) (g.met.S.System.housed c.args.system.now) home k is (inl (omega (arith, below, members)))

pub hold_needed-requires-clause-own : goal.hold_needed-requires-clause-own
hold_needed-requires-clause-own g c home is =
    can_hold g.S.System.means.store c.args.system.now c.complete.new.self c.in-Done.need (c.in-Done.ensures.ends.done c.in-Done.need refl) (g.met.S.System.housed c.args.system.now) home 63 is (inr refl)

-- what was told
told_by : Completed → Need
told_by (Done n) = n
told_by other = Frame

pub returns-in-Done-clause-standing : goal.returns-in-Done-clause-standing
returns-in-Done-clause-standing g c =
    standing_ended g.S.System.means the_lists c.args.system.now c.complete.new.self c.hold_needed.new.system c.args.lists.now c.wake.new.lists c.in-Done.need c.args.console (are_lists c.args.lists.now c.sound.ensures) c.requires.standing (c.in-Done.ensures.ends.done c.in-Done.need refl)
    c.hold_needed.ensures.there c.hold_needed.ensures.queued c.wake.ensures.wakes c.hold_needed.ensures.holds

pub returns-in-Done-clause-awaited : goal.returns-in-Done-clause-awaited
unfolding told_by
returns-in-Done-clause-awaited g c n is =
    let means = g.S.System.means in
    let lists = the_lists in
    let before = waits_with c.args.console (lists.waiting c.args.lists.now) in
    let after = waits_with (woken c.in-Done.need c.args.console) (lists.waiting c.wake.new.lists) in
    let ended = awaited_ended means lists c.in-Done.need c.args.system.now c.complete.new.self before after c.requires.awaited c.requires.standing.told (c.in-Done.ensures.ends.done c.in-Done.need refl)
    (woken_with means lists c.in-Done.need c.args.console (lists.waiting c.args.lists.now) (lists.waiting c.wake.new.lists) c.wake.ensures.wakes.waiting) in
    subst (λ m. AreAwaited means (waits_with (woken m c.args.console) (lists.waiting c.wake.new.lists)) c.hold_needed.new.system) (ap told_by is)
    (awaited_same means lists c.complete.new.self c.hold_needed.new.system after ended c.hold_needed.ensures.queued.queue c.hold_needed.ensures.queued.untold)

pub returns-in-Done-clause-done : goal.returns-in-Done-clause-done
unfolding told_by
returns-in-Done-clause-done g c n x is =
    subst (λ m. Quiet g.S.System.means the_lists g.D.Drum.held x c.args.console (woken m c.args.console) 1 c.args.system.now c.hold_needed.new.system c.args.lists.now c.wake.new.lists c.args.drum.now c.complete.new.drum) (ap told_by is)
    (quiet_ended g.S.System.means the_lists g.D.Drum.held c.args.system.now c.complete.new.self c.hold_needed.new.system c.args.lists.now c.wake.new.lists c.in-Done.need c.args.drum.now c.complete.new.drum
    (c.in-Done.ensures.ends.done c.in-Done.need refl) c.in-Done.ensures.told (c.in-Done.ensures.over (λ e. cc e)) x c.args.console c.hold_needed.ensures.holds c.hold_needed.ensures.there c.hold_needed.ensures.queued c.hold_needed.ensures.state c.wake.ensures.wakes
    (g.met.S.System.housed c.args.system.now) (λ d y fits. g.met.S.System.wants_few c.args.system.now d y fits))

pub returns-in-Done-clause-bare : goal.returns-in-Done-clause-bare
returns-in-Done-clause-bare g c alone none =
    c.hold_needed.ensures.holds 63
    ∙ ap (λ w. cond (comes_for c.in-Done.need (waits_with w (the_lists.waiting c.args.lists.now) 63)) (held_with (most_held 63) c.in-Done.need (g.S.System.means.store.holds c.complete.new.self 63)) (g.S.System.means.store.holds c.complete.new.self 63)) alone
    ∙ for_nobody c.in-Done.need (g.S.System.means.store.holds c.complete.new.self 63)
    ∙ ap (λ (f : ℕ → List ℕ). f 63) (c.in-Done.ensures.ends.done c.in-Done.need refl).holds ∙ none
  where
    for_nobody : (n : Need) (hs : List ℕ) → cond (comes_for n None) (held_with (most_held 63) n hs) hs ≡ hs
    for_nobody Frame hs = refl
    for_nobody (Page h) hs = refl

pub returns-in-DrumFault-clause-standing : goal.returns-in-DrumFault-clause-standing
returns-in-DrumFault-clause-standing g c =
    standing_stored g.S.System.means the_lists c.args.system.now c.complete.new.self c.args.lists.now c.requires.standing (c.in-DrumFault.ensures.ends.failed refl)

pub returns-in-DrumFault-clause-bare : goal.returns-in-DrumFault-clause-bare
returns-in-DrumFault-clause-bare g c alone none = ap (λ (f : ℕ → List ℕ). f 63) (c.in-DrumFault.ensures.ends.failed refl).holds ∙ none

pub returns-in-Nothing-clause-standing : goal.returns-in-Nothing-clause-standing
returns-in-Nothing-clause-standing g c = subst (λ s. AreStanding g.S.System.means the_lists s c.args.lists.now) (sym (c.in-Nothing.ensures.ends.same refl).0) c.requires.standing

pub returns-in-Nothing-clause-bare : goal.returns-in-Nothing-clause-bare
returns-in-Nothing-clause-bare g c alone none = ap (λ s. g.S.System.means.store.holds s 63) (c.in-Nothing.ensures.ends.same refl).0 ∙ none

pub returns-in-Done-clause-fewer : goal.returns-in-Done-clause-fewer
unfolding told_by
returns-in-Done-clause-fewer g c n x is =
    subst (λ m. told_work g.S.System.means the_lists x (woken m c.args.console) c.hold_needed.new.system c.wake.new.lists + 1 ≤ told_work g.S.System.means the_lists x c.args.console c.args.system.now c.args.lists.now) (ap told_by is)
    (told_ended g.S.System.means the_lists g.D.Drum.held c.args.system.now c.complete.new.self c.hold_needed.new.system c.args.lists.now c.wake.new.lists c.in-Done.need c.args.drum.now c.complete.new.drum
    (c.in-Done.ensures.ends.done c.in-Done.need refl) c.in-Done.ensures.told (c.in-Done.ensures.over (λ e. cc e)) None c.args.console c.hold_needed.ensures.holds c.hold_needed.ensures.there c.hold_needed.ensures.queued c.hold_needed.ensures.state c.wake.ensures.wakes
    (g.met.S.System.housed c.args.system.now) (λ d y fits. g.met.S.System.wants_few c.args.system.now d y fits) x (g.met.S.System.told_few c.args.system.now x))

pub returns-in-Done-clause-oldest : goal.returns-in-Done-clause-oldest
returns-in-Done-clause-oldest g c n is = c.hold_needed.ensures.queued.queue ∙ sym (ap (drop 1) (c.in-Done.ensures.ends.done c.in-Done.need refl).oldest)

pub returns-in-Done-clause-frames : goal.returns-in-Done-clause-frames
returns-in-Done-clause-frames g c = c.hold_needed.ensures.there.framed.frames ∙ (c.in-Done.ensures.ends.done c.in-Done.need refl).frames

pub returns-in-DrumFault-clause-frames : goal.returns-in-DrumFault-clause-frames
returns-in-DrumFault-clause-frames g c = (c.in-DrumFault.ensures.ends.failed refl).there.framed.frames

pub returns-in-Nothing-clause-frames : goal.returns-in-Nothing-clause-frames
returns-in-Nothing-clause-frames g c = ap g.S.System.means.store.frames (c.in-Nothing.ensures.ends.same refl).0

pub returns-in-Done-clause-tells : goal.returns-in-Done-clause-tells
unfolding told_by
returns-in-Done-clause-tells g c n is =
    let queue = g.S.System.means.store.queue in
    let ends = c.in-Done.ensures.ends.done c.in-Done.need refl in
    ap (map need_of) ends.oldest ∙ ap (λ (m : Need). m ∷ map need_of (queue c.complete.new.self)) (sym ends.told ∙ ap told_by is)
    ∙ ap (λ (q : List Transfer). n ∷ map need_of q) (sym c.hold_needed.ensures.queued.queue)

pub returns-in-Done-clause-holds : goal.returns-in-Done-clause-holds
unfolding told_by
returns-in-Done-clause-holds g c n k is =
    let holds = g.S.System.means.store.holds in
    let new = holds c.hold_needed.new.system k in
    let waits = waits_with c.args.console (the_lists.waiting c.args.lists.now) k in
    let ends = c.in-Done.ensures.ends.done c.in-Done.need refl in
    subst (λ (m : Need). new ≡ cond (comes_for m waits) (held_with (most_held k) m (holds c.args.system.now k)) (holds c.args.system.now k)) (ap told_by is)
    (subst (λ (h : ℕ → List ℕ). new ≡ cond (comes_for c.in-Done.need waits) (held_with (most_held k) c.in-Done.need (h k)) (h k)) ends.holds (c.hold_needed.ensures.holds k))
