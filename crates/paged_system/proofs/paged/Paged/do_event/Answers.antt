use Rattle.std.proofs.Common.{◌≡◌, List, ℕ, refl, sym, ◌∙◌, ap, subst}
use Rattle.event_deeds.specs.Deeds.{deed_of}
use Rattle.event_deeds.specs.declared.deed.Deed.{Deed}
use Rattle.event_deeds.specs.declared.deed.Deed.TheVariants.{Outer}
use Rattle.page_contracts.specs.declared.answers.Need.TheVariants.{Page}
use Rattle.plain_model.specs.Moves.{moves}
use Rattle.plain_model.specs.Trees.{PlainTree}
use Rattle.file_tables.specs.Keys.{key_of}
use Rattle.monitor_core.specs.Needing.{EventNeeds}
use Rattle.monitor_core.specs.Reaching.{EventReaches}
use Rattle.monitor_core.specs.Systems.{Did, Waits, event_frames}
use Rattle.script_texts.specs.declared.event.Step.TheVariants as step
use Rattle.turn_forms.specs.Turns.{moved}
use Rattle.page_waits.specs.Seats.{has}
use Rattle.paged_system.specs.Paging.{parts_of}
use Rattle.paged_system.proofs.DeedDone.{event_did, tried_waits}
use Rattle.paged_system.proofs.Keeping.{either_way, many_stay}
use Rattle.paged_system.proofs.Needing.{event_needs, event_told}
use Rattle.paged_system.proofs.Staying.{told_same}
use Rattle.paged_system.proofs.paged.Paged.do_event.Goals as goal

pub follow_event-requires-clause-had : goal.follow_event-requires-clause-had
follow_event-requires-clause-had g c =
    let tree = c.args.self.now.system.tree in
    let clock = c.apply.new.self.panel.clock in
    record {
      old = tree;
      trees = c.trees.ensures;
      tied = c.requires.tied;
      changed = (clock, subst (λ (x : PlainTree). EventReaches c.args.e.now clock tree x) (sym c.forks.ensures.forks) c.in-Ok.ensures.reach);
    }

pub invariant_of-self : goal.invariant_of-self
invariant_of-self g c =
    let old = c.args.self.now in
    let new = c.apply.new.self in
    record {
      trees = ∣ c.apply.ensures.trees ∣₁;
      many = many_stay old new (either_way (Did old.system new (step.Outer c.args.e.now)) (Waits event_frames old.system new) c.apply.result c.apply.ensures.did c.apply.ensures.waits (λ x did. did.loses.frames) (λ need waits. waits.planned.frames));
    }

pub returns-in-Ok-clause-did : goal.returns-in-Ok-clause-did
returns-in-Ok-clause-did g c = event_did c.args.self.now _ c.args.e.now c.in-Ok.reply c.in-Ok.ensures.did c.in-Ok.ensures.shown

pub returns-in-Ok-clause-moved : goal.returns-in-Ok-clause-moved
returns-in-Ok-clause-moved g c =
    let tree = c.args.self.now.system.tree in
    let clock = c.apply.new.self.panel.clock in
    let is = c.forks.ensures.forks in
    c.follow_event.ensures.moved tree c.trees.ensures c.requires.tied
    (clock, subst (λ (x : PlainTree). EventReaches c.args.e.now clock tree x) (sym is) c.in-Ok.ensures.reach)
    ∙ ap (λ (x : PlainTree). moved (moves tree.forks x.forks) c.args.lists.now.sched) is

pub returns-in-Err-clause-needs : goal.returns-in-Err-clause-needs
returns-in-Err-clause-needs g c =
    let means = g.P.Pages.means in
    let old = c.args.self.now.system in
    let m = c.apply.new.self in
    let x = Outer c.args.e.now in
    tried_waits c.args.self.now _ c.in-Err.need event_frames c.in-Err.ensures.waits (g.met.P.Pages.housed old.pages) (g.met.P.Pages.housed m.pages) (λ flat. (let wrong = c.in-Err.ensures.core flat in cc wrong)) (deed_of x) refl
    (λ d home fits is. c.what_is_needed_is_wanted.ensures.deeds (key_of m.files) (means.scene m.pages) (parts_of m d) x (means.map_home m.pages) (means.page_home m.pages) home.0 (c.homes_are_of_pages.ensures.homed m.pages)
    (event_needs m d fits c.args.e.now home (subst (EventNeeds m c.args.e.now) is c.in-Err.ensures.reason)))

pub returns-in-Err-clause-told : goal.returns-in-Err-clause-told
returns-in-Err-clause-told g c home told is =
    let m = c.apply.new.self in
    let waits = c.in-Err.ensures.waits in
    let needs : c.in-Err.need ≡ Page home = cc is in
    ap (λ (of : Deed → List ℕ). has home.0 (of (Outer c.args.e.now))) (sym (told_same c.args.self.now.system m waits.beside waits.homed))
    ∙ event_told m c.args.e.now home told (subst (EventNeeds m c.args.e.now) needs c.in-Err.ensures.reason)
