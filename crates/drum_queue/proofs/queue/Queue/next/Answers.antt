use Rattle.std.proofs.Common.{◌≡◌, None, Some, sym, ◌∙◌, arith, slice_get}
use Rattle.std.proofs.lemmas.List.{get_or_read}
use Rattle.drum_queue.proofs.Placed.{oldest, none_queued, first_below, found_at}
use Rattle.drum_queue.proofs.queue.Queue.next.Goals as goal

pub returns-in_err-frame : goal.returns-in_err-frame
returns-in_err-frame c =
    let none : slice_get c.self.inside.order.order 0 ≡ None = sym c.first.ensures ∙ c.in_err-frame.was in
    rw (none_queued c.self.inside.order c.self.inside.transfers.items c.args.self.now c.self.view_is none) c.from_residual.ensures

pub index-requires : goal.index-requires
index-requires c =
    let first : slice_get c.self.inside.order.order 0 ≡ Some c.in_ok-frame.frame = sym c.first.ensures ∙ c.in_ok-frame.was in
    let below = first_below c.self.inside.order c.self.inside.transfers.items c.in_ok-frame.frame c.self.invariant first in
    omega arith

pub returns : goal.returns
returns c =
    let first : slice_get c.self.inside.order.order 0 ≡ Some c.in_ok-frame.frame = sym c.first.ensures ∙ c.in_ok-frame.was in
    let below = first_below c.self.inside.order c.self.inside.transfers.items c.in_ok-frame.frame c.self.invariant first in
    let there = oldest c.self.inside.order c.self.inside.transfers.items c.in_ok-frame.frame c.args.self.now c.self.invariant c.self.view_is first in
    get_or_read c.self.inside.transfers.items c.in_ok-frame.frame c.index.result.now below c.index.ensures None
    ∙ sym (found_at c.self.inside.order c.self.inside.transfers.items c.args.self.now c.in_ok-frame.frame c.self.invariant c.self.view_is)
    ∙ there.here ∙ sym there.first
