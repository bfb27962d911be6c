use Rattle.std.proofs.Common.{◌≡◌, None, Some, Option, is_some, false, refl, sym, ◌∙◌}
use Rattle.drum_queue.specs.declared.transfer.Transfer.{Transfer}
use Rattle.drum_queue.proofs.Listed.{without_idle}
use Rattle.drum_queue.proofs.queue.Queue.cancel.Goals as goal

none_left : (t : Option Transfer) → is_some t ≡ false → t ≡ None
none_left None none = refl
none_left (Some t) none = absurd cc

pub returns-else-is_some-clause-gone : goal.returns-else-is_some-clause-gone
returns-else-is_some-clause-gone c =
    let none : c.transfer_of-transfer.result ≡ None = none_left c.transfer_of-transfer.result (sym c.is_some.ensures ∙ c.if-is_some.false) in
    rw (without_idle c.args.f.0 c.args.self.now.queued (sym c.transfer_of-transfer.ensures ∙ none)) refl
