use Rattle.std.proofs.Common.{◌∙◌, ◌+◌, ◌-◌, sym, ap, take, drop, arith}
use Rattle.outside.proofs.Fronts.{front_copied}
use Rattle.outside.proofs.memory_source.Unread.fill.Goals as goal

pub returns-clause-bytes : goal.returns-clause-bytes
returns-clause-bytes c =
    let at = c.self.inside.at in
    let n = c.min-n.result in
    sym c.self.view_is ∙ front_copied c.self.inside.bytes.items _ _ at n (omega (arith, c.self.invariant, c.min-n.ensures))
    (c.copy_from_slice.ensures.after ∙ ap (λ l. take (at + n - at) (drop at l)) c.deref.ensures.value)
