use Rattle.std.proofs.Common.{◌≡◌, ◌<◌, ℕ, false, ◌∙◌, sym, ap, subst, arith, length, length-set, get_or}
use Rattle.std.proofs.lemmas.List.{get_or_read}
use Rattle.plain_model.specs.Forks.{ForkMap}
use Rattle.fork_tree.specs.Waking.{NoneWaits, is_by, quiet_notes}
use Rattle.fork_tree.specs.declared.notes.Awaited.TheVariants.{Moment}
use Rattle.fork_tree.proofs.Reading.{sleepers_noted}
use Rattle.fork_tree.proofs.tree.Tree.note_sleepers.Goals as goal

pub invariant_of-self : goal.invariant_of-self
invariant_of-self c =
    let t = c.self.inside in
    let notes = t.notes.items in
    let n = c.index_mut.result.now in
    let due = c.args.due in
    let forks = ap (λ tree. tree.forks) c.self.view_is in
    let within : c.args.tty.0 < length notes = omega (arith, c.requires.terminal, c.self.invariant.terminals) in
    let is : n ≡ get_or notes c.args.tty.0 quiet_notes =
    get_or_read notes c.from.result n (omega (arith, within, c.from.ensures)) c.index_mut.ensures.value quiet_notes ∙ ap (λ i. get_or notes i quiet_notes) c.from.ensures in
    let none : (clock : ℕ) → is_by due clock ≡ false → NoneWaits (Moment clock) t.forks c.args.tty =
    subst (λ (m : ForkMap). (clock : ℕ) → is_by due clock ≡ false → NoneWaits (Moment clock) m c.args.tty) (sym forks) c.requires.none in
    record {
      tree = c.self.invariant.tree;
      terminals = length-set notes c.from.result (record n { sleepers = due }) ∙ c.self.invariant.terminals;
      quiet = rw c.from.ensures (sleepers_noted t.forks notes c.args.tty n due within is none c.self.invariant.quiet);
    }
