use Rattle.std.proofs.Common.{◌≡◌, ◌∙◌, sym, ap, subst, arith, None, get_or}
use Rattle.std.specs.Prelude.{IsSome, MatchOption}
use Rattle.std.proofs.lemmas.List.{get_or_read}
use Rattle.plain_model.specs.Forks.{fork_in}
use Rattle.plain_model.specs.Trees.{PlainTree, new_fork, next_name}
use Rattle.fork_tree.proofs.Kept.{made_tree, slot_first, slot_free, slot_last}
use Rattle.fork_tree.proofs.Reading.{halted_calm, quiet_put}
use Rattle.fork_tree.proofs.tree.Tree.make.Goals as goal

pub insert-requires-clause-first : goal.insert-requires-clause-first
insert-requires-clause-first c =
    let t = c.self.inside in
    let tree : PlainTree = record { forks = t.forks; serials = t.serials.items } in
    let serial : c.index-serial.result.now ≡ get_or t.serials.items c.args.tty.0 0 =
    get_or_read t.serials.items c.from.result c.index-serial.result.now (omega (arith, c.from.ensures, c.self.invariant.tree.terminals, c.requires.terminal)) c.index-serial.ensures 0
    ∙ ap (λ i. get_or t.serials.items i 0) c.from.ensures in
    let over = subst (λ m. MatchOption c.args.superior (fork_in m c.args.tty 1 ≡ None) (λ s. IsSome (fork_in m c.args.tty s))) (sym (ap (λ x. x.forks) c.self.view_is)) c.requires.superior in
    rw c.new_fork.ensures (slot_first tree c.args.tty c.args.superior c.in-Some.slot c.self.invariant.tree c.requires.terminal (sym c.in-Some.ensures) (omega (arith, serial, c.if-serial-gt-LAST_SERIAL.false)) over)

pub insert-requires-clause-last : goal.insert-requires-clause-last
insert-requires-clause-last c =
    let t = c.self.inside in
    let tree : PlainTree = record { forks = t.forks; serials = t.serials.items } in
    let serial : c.index-serial.result.now ≡ get_or t.serials.items c.args.tty.0 0 =
    get_or_read t.serials.items c.from.result c.index-serial.result.now (omega (arith, c.from.ensures, c.self.invariant.tree.terminals, c.requires.terminal)) c.index-serial.ensures 0
    ∙ ap (λ i. get_or t.serials.items i 0) c.from.ensures in
    let over = subst (λ m. MatchOption c.args.superior (fork_in m c.args.tty 1 ≡ None) (λ s. IsSome (fork_in m c.args.tty s))) (sym (ap (λ x. x.forks) c.self.view_is)) c.requires.superior in
    rw c.new_fork.ensures (slot_last tree c.args.tty c.args.superior c.in-Some.slot c.self.invariant.tree c.requires.terminal (sym c.in-Some.ensures) (omega (arith, serial, c.if-serial-gt-LAST_SERIAL.false)) over)

pub insert-requires-clause-free : goal.insert-requires-clause-free
insert-requires-clause-free c =
    let t = c.self.inside in
    let tree : PlainTree = record { forks = t.forks; serials = t.serials.items } in
    let serial : c.index-serial.result.now ≡ get_or t.serials.items c.args.tty.0 0 =
    get_or_read t.serials.items c.from.result c.index-serial.result.now (omega (arith, c.from.ensures, c.self.invariant.tree.terminals, c.requires.terminal)) c.index-serial.ensures 0
    ∙ ap (λ i. get_or t.serials.items i 0) c.from.ensures in
    let over = subst (λ m. MatchOption c.args.superior (fork_in m c.args.tty 1 ≡ None) (λ s. IsSome (fork_in m c.args.tty s))) (sym (ap (λ x. x.forks) c.self.view_is)) c.requires.superior in
    rw c.new_fork.ensures (slot_free tree c.args.tty c.args.superior c.in-Some.slot c.self.invariant.tree c.requires.terminal (sym c.in-Some.ensures) (omega (arith, serial, c.if-serial-gt-LAST_SERIAL.false)) over)

pub invariant_of-self : goal.invariant_of-self
invariant_of-self c =
    let t = c.self.inside in
    let tree : PlainTree = record { forks = t.forks; serials = t.serials.items } in
    let serial : c.index-serial.result.now ≡ get_or t.serials.items c.args.tty.0 0 =
    get_or_read t.serials.items c.from.result c.index-serial.result.now (omega (arith, c.from.ensures, c.self.invariant.tree.terminals, c.requires.terminal)) c.index-serial.ensures 0
    ∙ ap (λ i. get_or t.serials.items i 0) c.from.ensures in
    let over = subst (λ m. MatchOption c.args.superior (fork_in m c.args.tty 1 ≡ None) (λ s. IsSome (fork_in m c.args.tty s))) (sym (ap (λ x. x.forks) c.self.view_is)) c.requires.superior in
    rw (c.insert.ensures, c.new_fork.ensures, c.from-2.ensures, serial) (record {
      tree = made_tree tree c.args.tty c.args.superior c.in-Some.slot c.self.invariant.tree c.requires.terminal (sym c.in-Some.ensures) (omega (arith, serial, c.if-serial-gt-LAST_SERIAL.false)) over;
      terminals = c.self.invariant.terminals;
      quiet = quiet_put t.forks t.notes.items (new_fork (next_name tree c.args.tty) c.in-Some.slot c.args.superior) c.self.invariant.quiet halted_calm;
    })
