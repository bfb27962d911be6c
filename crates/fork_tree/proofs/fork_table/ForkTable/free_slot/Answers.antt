use Rattle.std.proofs.Common.{◌≡◌, ◌∙◌, sym, ap, arith, get_or, Some, w32}
use Rattle.std.specs.Int.{trailing_ones}
use Rattle.std.proofs.lemmas.List.{get_or_read}
use Rattle.plain_model.specs.Trees.{free_slot}
use Rattle.fork_tree.proofs.Taken.{clear_free, none_clear}
use Rattle.fork_tree.proofs.fork_table.ForkTable.free_slot.Goals as goal

pub returns-then-slot-le-MOST_FORKS : goal.returns-then-slot-le-MOST_FORKS
returns-then-slot-le-MOST_FORKS c =
    let t = c.self.inside in
    let word = get_or_read t.taken.items c.from.result c.index.result.now (omega (arith, c.from.ensures, c.self.invariant.bits.all_jobs, c.requires)) c.index.ensures 0
    ∙ ap (λ i. get_or t.taken.items i 0) c.from.ensures in
    let slot : c.trailing_ones-slot.result ≡ trailing_ones w32 (get_or t.taken.items c.args.tty.0 0) = c.trailing_ones-slot.ensures ∙ ap (trailing_ones w32) word in
    ap Some slot
    ∙ (sym (clear_free t.places.items t.slots.items t.lasts.items t.taken.items c.self.invariant c.args.tty c.requires (omega (arith, slot, c.if-slot-le-MOST_FORKS.true)))
    ∙ ap (λ m. free_slot m c.args.tty) c.self.view_is)

pub returns-else-slot-le-MOST_FORKS : goal.returns-else-slot-le-MOST_FORKS
returns-else-slot-le-MOST_FORKS c =
    let t = c.self.inside in
    let word = get_or_read t.taken.items c.from.result c.index.result.now (omega (arith, c.from.ensures, c.self.invariant.bits.all_jobs, c.requires)) c.index.ensures 0
    ∙ ap (λ i. get_or t.taken.items i 0) c.from.ensures in
    let slot : c.trailing_ones-slot.result ≡ trailing_ones w32 (get_or t.taken.items c.args.tty.0 0) = c.trailing_ones-slot.ensures ∙ ap (trailing_ones w32) word in
    sym (none_clear t.places.items t.slots.items t.lasts.items t.taken.items c.self.invariant c.args.tty c.requires (omega (arith, slot, c.if-slot-le-MOST_FORKS.false)))
    ∙ ap (λ m. free_slot m c.args.tty) c.self.view_is
