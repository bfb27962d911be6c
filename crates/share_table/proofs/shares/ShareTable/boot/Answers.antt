use Rattle.std.proofs.Common.{sym, ◌∙◌, arith}
use Rattle.share_table.proofs.Slabs.{none_held}
use Rattle.share_table.proofs.shares.ShareTable.boot.Goals as goal

pub invariant_of-result : goal.invariant_of-result
invariant_of-result c =
    (none_held c.args.pages c.in_ok-slab.slab (omega (arith, c.ranges.pages.fits)) c.in_ok-slab.ensures.empty (sym c.capacity.ensures.value ∙ c.if-capacity-pages.false)).roomy

pub returns : goal.returns
returns c =
    (none_held c.args.pages c.in_ok-slab.slab (omega (arith, c.ranges.pages.fits)) c.in_ok-slab.ensures.empty (sym c.capacity.ensures.value ∙ c.if-capacity-pages.false)).view
