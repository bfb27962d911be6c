use Rattle.std.proofs.Common.{◌∙◌}
use Rattle.std.specs.Prelude.{◌&&◌, ◌||◌, not}
use Rattle.pmap_calls.proofs.mapping.allows.Goals as goal

pub returns : goal.returns
returns c files =
    let a = c.args.access in
    c.needs_no_more.ensures ∙ (λ i. (not (a.r || a.x || a.c) || c.is_read.ensures files i) && (not (a.w && not a.c) || c.is_written.ensures files i))
