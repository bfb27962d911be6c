use Rattle.std.proofs.Common.{◌≡◌, ◌-◌, ◌+◌, replicate, subst, arith}
use Rattle.script_texts.specs.declared.event.Step.TheVariants.{Unit as AUnit}
use Rattle.script_texts.proofs.Takers.{onward_nil, onward_then}
use Rattle.record_player.specs.Stages.{Gives}
use Rattle.record_player.proofs.Gone.{gives_none}
use Rattle.record_player.proofs.Rows.{more_given, more_halts}
use Rattle.record_player.proofs.stage.Stage.units.Goals as goal

pub loop-left-init : goal.loop-left-init
loop-left-init g c = record {
  few = omega arith;
  later = omega arith;
  onward = onward_nil g.T.Taker.onward _;
  gives = subst (λ n. Gives g.T.Taker.stands c.args.self.now c.args.self.now c.args.out.now c.args.out.now (replicate n (AUnit c.args.fork))) (let none : 0 ≡ c.args.count - c.args.count = omega arith in none) (gives_none g.T.Taker.stands c.args.self.now c.args.out.now);
}

pub loop-left-preserved : goal.loop-left-preserved
loop-left-preserved g c =
    let i = c.loop-left.invariant in
    let row = c.in-Ok.ensures in
    let n = c.in-Ok.done in
    record {
      few = omega (arith, i.few);
      later = omega (arith, i.later, row.later);
      onward = onward_then g.T.Taker.onward _ _ _ i.onward row.goes_on;
      gives = more_given g.T.Taker.fault_count g.T.Taker.stands g.T.Taker.cut (AUnit c.args.fork) c.args.self.now _ _ c.args.out.now _ _ (c.args.count - c.loop-left.left) n (c.args.count - (c.loop-left.left - c.from-left.result)) (omega (arith, i.few, row.few, c.from-left.ensures)) i.gives row.ok;
    }

pub returns-in-Err : goal.returns-in-Err
returns-in-Err g c =
    let i = c.loop-left.invariant in
    let row = c.in-Err.ensures in
    record {
      later = omega (arith, i.later, row.later);
      goes_on = onward_then g.T.Taker.onward _ _ _ i.onward row.goes_on;
      ok = tt;
      err = more_halts g.T.Taker.fault_count g.T.Taker.stands g.T.Taker.cut (AUnit c.args.fork) c.args.self.now _ _ c.args.out.now _ _ (c.args.count - c.loop-left.left) c.loop-left.left c.args.count (omega (arith, i.few)) i.later i.gives c.in-Err.why row.err;
    }

pub returns : goal.returns
returns g c =
    let i = c.loop-left.invariant in
    record {
      later = i.later;
      goes_on = i.onward;
      ok = subst (λ n. Gives g.T.Taker.stands c.args.self.now c.loop-left.self c.args.out.now c.loop-left.out (replicate n (AUnit c.args.fork))) (let all : c.args.count - c.loop-left.left ≡ c.args.count = omega arith in all) i.gives;
      err = tt;
    }
