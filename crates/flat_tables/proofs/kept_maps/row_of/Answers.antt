use Rattle.std.proofs.Common.{rules, arith, length-set, ◌∙◌}
use Rattle.flat_tables.proofs.Looking.{row_more}
use Rattle.flat_tables.proofs.kept_maps.row_of.Goals as goal

pub loop-page-preserved : goal.loop-page-preserved
loop-page-preserved c = record {
  size = length-set c.loop-page.row c.loop-page.page c.look_of.result ∙ c.loop-page.invariant.size;
  so_far = row_more c.args.number c.loop-page.page c.loop-page.row c.args.entries.now c.look_of.result (omega (arith, c.loop-page.invariant.size, c.loop-page-test.true)) (search rules) c.look_of.ensures c.loop-page.invariant.so_far;
}
