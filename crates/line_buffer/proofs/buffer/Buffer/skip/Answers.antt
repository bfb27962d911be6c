use Rattle.std.proofs.Common.{◌∙◌, ◌≡◌, ◌-◌, ap, drop, length, arith, sym}
use Rattle.line_buffer.proofs.Held.{part_skipped, length-part}
use Rattle.line_buffer.proofs.buffer.Buffer.skip.Goals as goal

pub returns : goal.returns
returns c =
    let i = c.self.inside in
    let long : length c.args.self.now ≡ i.to - i.from = ap length (sym c.self.view_is) ∙ length-part i.bytes i.from i.to (omega (arith, c.self.invariant)) in
    part_skipped i.bytes i.from i.to c.args.n (omega (arith, c.requires)) ∙ ap (λ l. drop c.args.n l) c.self.view_is
