use Rattle.std.proofs.Common.{ℕ, Bool, ◌||◌, ◌+◌, ◌∙◌, ap, sym, arith}
use Rattle.std.specs.List.{list_any}
use Rattle.fork_lists.specs.declared.seen.Seen.{Seen}
use Rattle.fork_lists.specs.Seeing.{seen_in}
use Rattle.fork_lists.proofs.Folds.{all_slots, none_left, one_more, slots_from}
use Rattle.fork_lists.proofs.lists.ForkLists.has_waiters.Goals as goal

pub loop-slot-init : goal.loop-slot-init
loop-slot-init c = ap (list_any (λ slot. (seen_in c.args.self.now.seen.items c.args.t slot).waits)) all_slots

pub returns-then-seen_in : goal.returns-then-seen_in
returns-then-seen_in c =
    let waits : ℕ → Bool = λ slot. (seen_in c.args.self.now.seen.items c.args.t slot).waits in
    ap (λ b. b || list_any waits (slots_from (c.loop-slot.slot + 1))) (sym c.if-seen_in.true ∙ ap (λ (x : Seen). x.waits) c.seen_in.ensures)
    ∙ sym (ap (list_any waits) (one_more c.loop-slot.slot (omega arith))) ∙ c.loop-slot.invariant

pub loop-slot-preserved : goal.loop-slot-preserved
loop-slot-preserved c =
    let waits : ℕ → Bool = λ slot. (seen_in c.args.self.now.seen.items c.args.t slot).waits in
    ap (λ b. b || list_any waits (slots_from (c.loop-slot.slot + 1))) (sym c.if-seen_in.false ∙ ap (λ (x : Seen). x.waits) c.seen_in.ensures)
    ∙ sym (ap (list_any waits) (one_more c.loop-slot.slot (omega arith))) ∙ c.loop-slot.invariant

pub returns : goal.returns
returns c = sym (ap (list_any (λ slot. (seen_in c.args.self.now.seen.items c.args.t slot).waits)) (none_left c.loop-slot.slot (omega arith))) ∙ c.loop-slot.invariant
