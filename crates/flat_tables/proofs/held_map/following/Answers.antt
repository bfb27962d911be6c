use Rattle.std.proofs.Common.{◌≡◌, ◌∙◌, sym, ap, arith, take, map, length-set}
use Rattle.std.specs.List.{range_with_len}
use Rattle.flat_tables.proofs.Beginning.{follower, followers_more, followers_all}
use Rattle.flat_tables.proofs.held_map.following.Goals as goal

pub returns : goal.returns
returns c =
    let end : c.loop-page.page ≡ 512 = omega (arith, c.loop-page-test.false, c.loop-page.auto.page-end) in
    followers_all c.args.serial c.args.near c.loop-page.entries c.loop-page.invariant.size (ap (λ n. take n c.loop-page.entries) (sym end) ∙ c.loop-page.invariant.so_far ∙ ap (λ n. map (follower c.args.serial c.args.near) (range_with_len 0 n)) end)

pub loop-page-preserved : goal.loop-page-preserved
loop-page-preserved c = record {
  size = length-set c.loop-page.entries c.loop-page.page (follower c.args.serial c.args.near c.loop-page.page) ∙ c.loop-page.invariant.size;
  so_far = followers_more c.args.serial c.args.near c.loop-page.page c.loop-page.entries (omega (arith, c.loop-page.invariant.size, c.loop-page-test.true)) c.loop-page.invariant.so_far;
}
