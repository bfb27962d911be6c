use Rattle.std.proofs.Common.{sym, ◌∙◌, ap, subst, arith, None}
use Rattle.std.proofs.lemmas.List.{get_or_read}
use Rattle.plain_model.specs.Forks.{fork_in}
use Rattle.fork_tree.specs.Trees.{AreSlotted}
use Rattle.fork_tree.proofs.Tables.{in_nowhere, in_place, slotted}
use Rattle.fork_tree.proofs.fork_table.ForkTable.at.Goals as goal

pub returns-in-Some-clause-found : goal.returns-in-Some-clause-found
returns-in-Some-clause-found c =
    let t = c.self.inside in
    let place = c.in-Some.ensures in
    c.as_ref.ensures.value
    ∙ (get_or_read t.places.items c.in-Some.place c.index.result.now (omega (arith, place, c.self.invariant.table.all_places)) c.index.ensures None
    ∙ (in_place t.places.items t.slots.items t.lasts.items c.self.invariant.table c.args.tty c.args.slot c.in-Some.place place.1 place.2
    ∙ ap (λ m. fork_in m c.args.tty c.args.slot) c.self.view_is))

pub returns-in-Some-clause-slotted : goal.returns-in-Some-clause-slotted
returns-in-Some-clause-slotted c = let t = c.self.inside in subst AreSlotted c.self.view_is (slotted t.places.items t.slots.items t.lasts.items c.self.invariant.table)

pub returns-in-None-clause-found : goal.returns-in-None-clause-found
returns-in-None-clause-found c =
    let t = c.self.inside in
    sym (ap (λ m. fork_in m c.args.tty c.args.slot) (sym c.self.view_is)
    ∙ in_nowhere t.places.items t.slots.items t.lasts.items c.self.invariant.table c.args.tty c.args.slot c.in-None.ensures)

pub returns-in-None-clause-slotted : goal.returns-in-None-clause-slotted
returns-in-None-clause-slotted c = let t = c.self.inside in subst AreSlotted c.self.view_is (slotted t.places.items t.slots.items t.lasts.items c.self.invariant.table)
