use Rattle.std.proofs.Common.{◌≡◌, refl, ◌<◌, ◌∙◌, ap, sym, subst, arith, length, length-set, Some}
use Rattle.std.specs.Prelude.{IsSome}
use Rattle.plain_model.specs.declared.fork.Fork.{Fork}
use Rattle.plain_model.specs.Forks.{fork_in}
use Rattle.plain_model.specs.Trees.{with_body}
use Rattle.fork_tree.specs.Trees.{IsIn}
use Rattle.fork_tree.specs.Waking.{lent_notes}
use Rattle.fork_tree.proofs.Kept.{changed_look}
use Rattle.fork_tree.proofs.Reading.{its_terminal, quiet_lent}
use Rattle.fork_tree.proofs.Slots.{in_tells}
use Rattle.fork_tree.proofs.tree.Tree.body_at.Goals as goal

pub index_mut-requires : goal.index_mut-requires
index_mut-requires c =
    let t = c.self.inside in
    let forks = ap (λ tree. tree.forks) c.self.view_is in
    omega (arith, its_terminal t.forks c.self.invariant.tree.slotted c.args.tty c.args.slot (subst (λ m. IsSome (fork_in m c.args.tty c.args.slot)) (sym forks) c.requires), c.from.ensures, c.self.invariant.terminals)

pub invariant_of-self-lent : goal.invariant_of-self-lent
invariant_of-self-lent c = λ w.
    let t = c.self.inside in
    let in_slot : (f : Fork) → fork_in t.forks c.args.tty c.args.slot ≡ Some f → IsIn t.forks c.args.tty c.args.slot f = λ f e. in_tells t.forks c.self.invariant.tree.slotted c.args.tty c.args.slot f e in
    let within : c.args.tty.0 < length t.notes.items =
    omega (arith, its_terminal t.forks c.self.invariant.tree.slotted c.args.tty c.args.slot (subst (λ m. IsSome (fork_in m c.args.tty c.args.slot)) (sym (ap (λ tree. tree.forks) c.self.view_is)) c.requires), c.self.invariant.terminals) in
    record {
      tree = changed_look (record { forks = t.forks; serials = t.serials.items }) (with_body w) (λ k. refl) (λ k. refl) (λ k. refl) c.self.invariant.tree (fork_in t.forks c.args.tty c.args.slot) (λ f e. (in_slot f e).0);
      terminals = length-set t.notes.items c.from.result lent_notes ∙ c.self.invariant.terminals;
      quiet = rw c.from.ensures (quiet_lent t.forks t.notes.items c.args.tty w (fork_in t.forks c.args.tty c.args.slot) (λ f e. (in_slot f e).1) within c.self.invariant.quiet);
    }
