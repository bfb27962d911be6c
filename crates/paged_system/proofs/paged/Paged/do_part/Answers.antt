use Rattle.std.proofs.Common.{◌≡◌, refl, sym, ◌∙◌, ap, subst}
use Rattle.event_deeds.specs.Deeds.{deed, deed_of}
use Rattle.page_contracts.specs.declared.answers.Need.TheVariants.{Frame, Page}
use Rattle.plain_model.specs.Moves.{moves}
use Rattle.plain_model.specs.Trees.{PlainTree}
use Rattle.file_tables.specs.Keys.{key_of}
use Rattle.step_wants.specs.Homes.{told}
use Rattle.monitor_typing.specs.Deeds.{Does, PartNeeds}
use Rattle.monitor_typing.specs.Reaching.{PartReaches}
use Rattle.monitor_core.specs.Systems.{Waits, event_frames}
use Rattle.turn_forms.specs.Turns.{moved}
use Rattle.page_waits.specs.Seats.{has}
use Rattle.paged_system.specs.Paging.{parts_of}
use Rattle.paged_system.proofs.DeedDone.{is_told, part_did, task_waits}
use Rattle.paged_system.proofs.Keeping.{either_way, many_stay}
use Rattle.paged_system.proofs.Needing.{part_told, part_unframed, same_filed}
use Rattle.paged_system.proofs.paged.Paged.do_part.Goals as goal

pub follow_part-requires-clause-had : goal.follow_part-requires-clause-had
follow_part-requires-clause-had g c =
    let tree = c.args.self.now.system.tree in
    record {
      old = tree;
      trees = c.trees.ensures;
      tied = c.requires.tied;
      changed = subst (λ (x : PlainTree). PartReaches c.in-Ok.answer.showing tree.forks x.forks) (sym c.forks.ensures.forks) c.in-Ok.ensures.others;
    }

pub invariant_of-self : goal.invariant_of-self
invariant_of-self g c =
    let old = c.args.self.now in
    let new = c.part.new.system in
    record {
      trees = ∣ c.part.ensures.trees ∣₁;
      many = many_stay old new (either_way (Does old.system new (λ s. deed s c.args.deed.now)) (Waits event_frames old.system new) c.part.result c.part.ensures.does c.part.ensures.waits (λ x did. did.has.loses.frames) (λ need waits. waits.planned.frames));
    }

pub returns-in-Ok-clause-did : goal.returns-in-Ok-clause-did
returns-in-Ok-clause-did g c = part_did c.args.self.now _ c.args.deed.now c.in-Ok.answer c.requires.part.1 c.in-Ok.ensures.does c.in-Ok.ensures.fits

pub returns-in-Ok-clause-moved : goal.returns-in-Ok-clause-moved
returns-in-Ok-clause-moved g c =
    let tree = c.args.self.now.system.tree in
    let is = c.forks.ensures.forks in
    c.follow_part.ensures.moved tree c.trees.ensures c.requires.tied
    (subst (λ (x : PlainTree). PartReaches c.in-Ok.answer.showing tree.forks x.forks) (sym is) c.in-Ok.ensures.others)
    ∙ ap (λ (x : PlainTree). moved (moves tree.forks x.forks) c.args.lists.now.sched) is

pub returns-in-Err-clause-needs : goal.returns-in-Err-clause-needs
returns-in-Err-clause-needs g c =
    let means = g.P.Pages.means in
    let m = c.args.self.now.system in
    let x = c.args.deed.now in
    task_waits c.args.self.now _ c.in-Err.need event_frames c.in-Err.ensures.waits (g.met.P.Pages.housed m.pages) (g.met.P.Pages.housed c.part.new.system.pages) (λ flat. (let wrong = c.in-Err.ensures.core flat in cc wrong)) (deed_of x) refl
    (λ d home fits is.
    ap (has home.0) (c.the_tables_tell.ensures (key_of m.files) (parts_of m d) x (means.map_home m.pages) (means.page_home m.pages) (is_told x c.requires.part.1)
    ∙ ap (λ filed. told (means.map_home m.pages) (means.page_home m.pages) (key_of m.files) filed m.tree.forks (parts_of m d).jobs x) (same_filed m d fits (g.met.P.Pages.agrees m.pages d fits.pages)))
    ∙ part_told m x home (subst (PartNeeds m x) is c.in-Err.ensures.needs))

pub returns-in-Err-clause-told : goal.returns-in-Err-clause-told
returns-in-Err-clause-told g c home told is =
    let needs : c.in-Err.need ≡ Page home = cc is in
    part_told c.args.self.now.system c.args.deed.now home (subst (PartNeeds c.args.self.now.system c.args.deed.now) needs c.in-Err.ensures.needs)

pub returns-in-Err-clause-unframed : goal.returns-in-Err-clause-unframed
returns-in-Err-clause-unframed g c is =
    let needs : c.in-Err.need ≡ Frame = cc is in
    part_unframed c.args.self.now.system c.args.deed.now (subst (PartNeeds c.args.self.now.system c.args.deed.now) needs c.in-Err.ensures.needs)
