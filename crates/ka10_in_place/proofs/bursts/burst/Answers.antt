use Rattle.std.proofs.Common.{◌≡◌, ℕ, ◌+◌, ◌-◌, ◌<◌, refl, arith}
use Rattle.ka10_in_place.proofs.BurstLemmas.{so_far_none, so_far_more, ends_overflow, ends_pushdown, ends_slow, ends_most}
use Rattle.ka10_in_place.proofs.bursts.burst.Goals as goal
use Rattle.ka10_in_place.proofs.bursts.burst.Goals.{else-loop-left-test, then-loop-left-test+in-Overflow, then-loop-left-test+in-Pushdown, then-loop-left-test+in-Slow}

pub loop-left-init : goal.loop-left-init
loop-left-init g c =
    let none : c.args.most - c.args.most ≡ 0 = omega arith in
    (omega arith, refl, rw none (so_far_none g.P.Pages.means c.args.space c.args.pages.now c.args.regs.now _ refl c.requires.pc))

pub loop-left-preserved : goal.loop-left-preserved
loop-left-preserved g c =
    let before = c.loop-left.invariant in
    let more : c.args.most - (c.loop-left.left - 1) ≡ c.args.most - c.loop-left.left + 1 = omega (arith, before.0, c.loop-left-test.true) in (
      omega (arith, before.0),
      before.1,
      rw more (so_far_more g.P.Pages.means c.args.space c.args.pages.now c.loop-left.pages c.quick.new.pages c.args.regs.now c.loop-left.regs c.quick.new.regs c.loop-left.kept c.quick.new.kept (c.args.most - c.loop-left.left) before.2 c.in-Done.ensures.unit c.in-Done.ensures.there),
    )

pub returns : goal.returns
returns g c =
    let before = c.loop-left.invariant in
    let n : ℕ = c.args.most - c.loop-left.left in
    elim c.loop-left-test.branch [
      | else-loop-left-test w ↦
          let all : c.args.most - c.loop-left.left ≡ c.args.most = omega (arith, w.loop-left-test.false) in
          rw (w.regs-is, w.pages-is, w.end-is, before.1, all) (ends_most g.P.Pages.means c.args.space c.args.pages.now c.loop-left.pages c.args.regs.now c.loop-left.regs c.loop-left.kept c.args.most n all before.2)
      | then-loop-left-test+in-Overflow w ↦
          let less : n < c.args.most = omega (arith, before.0, w.loop-left-test.true) in
          rw (w.regs-is, w.pages-is, w.end-is) (ends_overflow g.P.Pages.means c.args.space c.args.pages.now c.loop-left.pages w.quick.new.pages c.args.regs.now c.loop-left.regs w.quick.new.regs c.loop-left.kept w.quick.new.kept n before.2 c.args.most less w.in-Overflow.ensures.unit)
      | then-loop-left-test+in-Pushdown w ↦
          let less : n < c.args.most = omega (arith, before.0, w.loop-left-test.true) in
          rw (w.regs-is, w.pages-is, w.end-is) (ends_pushdown g.P.Pages.means c.args.space c.args.pages.now c.loop-left.pages w.quick.new.pages c.args.regs.now c.loop-left.regs w.quick.new.regs c.loop-left.kept w.quick.new.kept n before.2 c.args.most less w.in-Pushdown.ensures.unit)
      | then-loop-left-test+in-Slow w ↦
          let less : n < c.args.most = omega (arith, before.0, w.loop-left-test.true) in
          rw (w.regs-is, w.pages-is, w.end-is) (ends_slow g.P.Pages.means c.args.space c.args.pages.now c.loop-left.pages w.quick.new.pages c.args.regs.now c.loop-left.regs w.quick.new.regs c.loop-left.kept w.quick.new.kept n before.2 c.args.most less w.in-Slow.ensures.unit)
    ]
