use Rattle.std.proofs.Common.{refl, arith}
use Rattle.monitor_core.proofs.Systems.{within_later}
use Rattle.record_player.proofs.Gone.{idles_cut, idles_given}
use Rattle.record_player.proofs.stage.Stage.idles.Goals as goal

pub invariant_of-self : goal.invariant_of-self
invariant_of-self g c = record { flat = c.args.self.now.flat; within = within_later c.args.self.now.system c.args.self.now.done _ c.args.self.now.within (omega arith) }

pub returns-in-Ok : goal.returns-in-Ok
returns-in-Ok g c = record {
  later = c.in-Ok.ensures.later;
  goes_on = c.in-Ok.ensures.onward;
  ok = idles_given g.T.Taker.stands g.T.Taker.cut c.args.self.now _ c.args.out.now c.turns.new.self c.args.count refl refl c.in-Ok.ensures.ok;
  err = tt;
}

pub returns-in-Err : goal.returns-in-Err
returns-in-Err g c = record {
  later = c.in-Err.ensures.later;
  goes_on = c.in-Err.ensures.onward;
  ok = tt;
  err = record {
    rose = c.in-Err.ensures.cause;
    played = c.args.count;
    few = omega arith;
    cut_in = idles_cut g.T.Taker.stands g.T.Taker.cut c.args.self.now c.args.self.now c.args.out.now c.turns.new.self c.args.count refl c.in-Err.ensures.err;
  };
}
