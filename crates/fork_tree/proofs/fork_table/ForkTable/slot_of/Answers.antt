use Rattle.std.proofs.Common.{◌∙◌, ap, subst, arith, get_or}
use Rattle.std.proofs.lemmas.List.{get_or_read}
use Rattle.std.specs.FinMap as map
use Rattle.machine_names.specs.declared.names.ForkName.{ForkName}
use Rattle.fork_tree.specs.Trees.{AreSlotted}
use Rattle.fork_tree.proofs.Tables.{got, slot_had, slotted}
use Rattle.fork_tree.proofs.fork_table.ForkTable.slot_of.Goals as goal

pub returns-then-name-le-LAST_SERIAL-clause-slot : goal.returns-then-name-le-LAST_SERIAL-clause-slot
returns-then-name-le-LAST_SERIAL-clause-slot c = λ f e.
    let t = c.self.inside in
    get_or_read t.slots.items c.name_index.result c.index.result.now (omega (arith, c.name_index.ensures, c.self.invariant.table.all_names)) c.index.ensures 0
    ∙ (ap (λ i. get_or t.slots.items i 0) c.name_index.ensures
    ∙ slot_had t.places.items t.slots.items t.lasts.items c.self.invariant.table c.args.name f (ap (λ m. map.get m c.args.name) c.self.view_is ∙ e))

pub returns-then-name-le-LAST_SERIAL-clause-slotted : goal.returns-then-name-le-LAST_SERIAL-clause-slotted
returns-then-name-le-LAST_SERIAL-clause-slotted c = let t = c.self.inside in subst AreSlotted c.self.view_is (slotted t.places.items t.slots.items t.lasts.items c.self.invariant.table)

pub returns-else-name-lt-TERMINALS-clause-slotted : goal.returns-else-name-lt-TERMINALS-clause-slotted
returns-else-name-lt-TERMINALS-clause-slotted c = let t = c.self.inside in subst AreSlotted c.self.view_is (slotted t.places.items t.slots.items t.lasts.items c.self.invariant.table)

pub returns-else-name-lt-TERMINALS-clause-slot : goal.returns-else-name-lt-TERMINALS-clause-slot
returns-else-name-lt-TERMINALS-clause-slot c = λ f e.
    let t = c.self.inside in
    let there = got t.places.items c.args.name f (ap (λ m. map.get m c.args.name) c.self.view_is ∙ e) in
    let name = c.self.invariant.table.named there.0 f there.1 in
    absurd (omega (arith, name.0, name.2, ap (λ (n : ForkName). n.tty.0) there.2, ap (λ (n : ForkName). n.serial) there.2, c.else-name-lt-TERMINALS.either))
