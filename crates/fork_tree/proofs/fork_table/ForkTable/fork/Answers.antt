use Rattle.std.proofs.Common.{◌≡◌, ◌∙◌, sym, ap, Some, None}
use Rattle.std.specs.Option.{option_copied}
use Rattle.std.specs.FinMap as map
use Rattle.plain_model.specs.declared.fork.Fork.{Fork}
use Rattle.machine_names.specs.Orders.{same_fork}
use Rattle.fork_tree.proofs.Slots.{in_tells, named_in, names_same}
use Rattle.fork_tree.proofs.fork_table.ForkTable.fork.Goals as goal
use Rattle.fork_tree.proofs.fork_table.ForkTable.fork.Goals.{in_default-via-in-Some+else-eq, in_default-via-in_default}

pub returns-in-Some-clause-found : goal.returns-in-Some-clause-found
returns-in-Some-clause-found c =
    let m = c.args.self.now in
    let f = c.in-Some.fork.now in
    let lives = (in_tells m c.at.ensures.slotted c.args.name.tty c.slot_of.result f (sym c.in-Some.ensures.found)).0 in
    sym (ap (map.get m) (sym (names_same f.name c.args.name (sym c.if-eq.ensures))) ∙ lives)

pub returns-in_default-clause-found : goal.returns-in_default-clause-found
returns-in_default-clause-found c =
    named_in c.args.self.now c.at.ensures.slotted c.args.name c.slot_of.result (option_copied c.at.result) c.slot_of.ensures.slot c.at.ensures.found
    (elim c.in_default.branch [
      | in_default-via-in-Some+else-eq w ↦ λ f e.
          let found : Some w.in-Some.fork.now ≡ Some f = ap option_copied (sym w.in-Some.is) ∙ e in
          let same : w.in-Some.fork.now ≡ f = cc found in
          ap (λ (k : Fork). same_fork k.name c.args.name) (sym same) ∙ sym w.if-eq.ensures
      | in_default-via-in_default w ↦ λ f e. let none : None ≡ Some f = ap option_copied (sym w.in_default.is) ∙ e in absurd (cc none)
    ])
