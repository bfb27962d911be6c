use Rattle.std.proofs.Common.{◌≡◌, Some, refl, sym, ◌∙◌, ap, subst}
use Rattle.std.specs.Prelude.{IsSome}
use Rattle.std.specs.FinMap as map
use Rattle.machine_names.specs.declared.names.ForkName.{ForkName}
use Rattle.fork_tree.proofs.Slots.{held_lives, in_found}
use Rattle.fork_calls.proofs.Grown.{all_grown, new_regs, new_stands, room_slot}
use Rattle.fork_calls.proofs.making.grow.Goals as goal

pub make-requires-clause-superior : goal.make-requires-clause-superior
make-requires-clause-superior c =
    let tree = c.args.tree.now in
    let f = c.in-Some.caller.now in
    let s = c.in-Some.ensures.tree.slotted in
    let there : map.get tree.forks c.args.who ≡ Some f = sym c.in-Some.ensures.found in
    let name = s.own c.args.who f there in
    subst IsSome (sym (in_found tree.forks s c.args.who.tty f.slot f (held_lives tree.forks s c.args.who f there, ap (λ (n : ForkName). n.tty.0) name, refl))) refl

pub begin_in-requires-clause-new : goal.begin_in-requires-clause-new
begin_in-requires-clause-new c =
    let tree = c.args.tree.now in
    let slot = room_slot tree c.args.who.tty c.in-Ok.ensures.0 in
    new_regs tree c.args.who c.in-Some.caller.now slot.0 (sym c.in-Some.ensures.found) slot.1 c.make.new.self c.in-Ok.name c.in-Ok.ensures.1 c.in-Ok.ensures.2

pub begin_in-requires-clause-lives : goal.begin_in-requires-clause-lives
begin_in-requires-clause-lives c =
    let tree = c.args.tree.now in
    let slot = room_slot tree c.args.who.tty c.in-Ok.ensures.0 in
    subst IsSome (sym (new_stands tree c.args.who c.in-Some.caller.now slot.0 (sym c.in-Some.ensures.found) slot.1 c.make.new.self c.in-Ok.name c.in-Ok.ensures.1 c.in-Ok.ensures.2)) refl

pub returns-in-Ok : goal.returns-in-Ok
returns-in-Ok c = record {
  told = λ slot is.
      c.begin_in.ensures
      ∙ all_grown c.args.tree.now c.args.who c.in-Some.caller.now slot (sym c.in-Some.ensures.found) is c.make.new.self c.in-Ok.name c.in-Ok.ensures.1 c.in-Ok.ensures.2 c.args.regs.now c.args.words;
}
