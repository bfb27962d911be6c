use Rattle.std.proofs.Common.{is_some, length, refl, sym, ap, ◌∙◌, arith}
use Rattle.drum_queue.proofs.Placed.{oldest, none_queued}
use Rattle.drum_queue.proofs.queue.Queue.finish.Goals as goal

pub take-requires : goal.take-requires
take-requires c =
    ap is_some (oldest c.self.inside.order c.self.inside.transfers.items c.in-Some.frame c.args.self.now c.self.invariant c.self.view_is (sym c.first.ensures ∙ c.in-Some.is)).here

pub returns-in-Some : goal.returns-in-Some
returns-in-Some c =
    let there = oldest c.self.inside.order c.self.inside.transfers.items c.in-Some.frame c.args.self.now c.self.invariant c.self.view_is (sym c.first.ensures ∙ c.in-Some.is) in
    rw (c.take.ensures, there.rest) refl

pub returns-in_default : goal.returns-in_default
returns-in_default c =
    let none = none_queued c.self.inside.order c.self.inside.transfers.items c.args.self.now c.self.view_is (sym c.first.ensures ∙ c.in_default.is) in
    absurd (omega (arith, ap length none))
