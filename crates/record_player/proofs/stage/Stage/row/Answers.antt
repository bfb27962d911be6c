use Rattle.std.proofs.Common.{◌+◌, sym, ap, subst, arith}
use Rattle.script_texts.proofs.Takers.{onward_nil}
use Rattle.monitor_core.specs.Systems.{IsWithin}
use Rattle.monitor_core.proofs.Systems.{within_later}
use Rattle.record_player.proofs.Runnable.{runner_fits}
use Rattle.record_player.proofs.Gone.{gives_none, units_cut, units_given}
use Rattle.record_player.proofs.stage.Stage.row.Goals as goal

pub run_fork-requires-clause-few : goal.run_fork-requires-clause-few
run_fork-requires-clause-few g c = within_later c.args.self.now.system c.args.self.now.done _ c.args.self.now.within (omega (arith, c.requires.few))

pub unreachable-requires : goal.unreachable-requires
unreachable-requires g c = (let no = c.in-Err.ensures.core c.args.self.now.flat in absurd (cc no))

pub invariant_of-self : goal.invariant_of-self
invariant_of-self g c = record {
  flat = c.args.self.now.flat;
  within = subst (λ n. IsWithin c.run_fork.new.self (c.args.self.now.done + n)) (sym c.from.ensures) (c.in-Ok.ensures.did.within c.args.self.now.done c.args.self.now.within);
}

pub give_all-requires-clause-fits : goal.give_all-requires-clause-fits
give_all-requires-clause-fits g c = runner_fits c.args.self.now.system.tree c.in-Some.who c.in-Some.ensures.0

pub returns-in-None : goal.returns-in-None
returns-in-None g c = record {
  later = omega arith;
  goes_on = onward_nil g.T.Taker.onward _;
  some = tt;
  few = tt;
  ok = tt;
  err = record {
    played = 0;
    fewer = omega (arith, c.requires.some);
    gives = gives_none g.T.Taker.stands c.args.self.now c.args.out.now;
    broken = λ d f can. c.in-None.ensures can;
  };
}

pub returns-in-Ok-give_all : goal.returns-in-Ok-give_all
returns-in-Ok-give_all g c = record {
  later = c.in-Ok-give_all.ensures.taker.later;
  goes_on = c.in-Ok-give_all.ensures.taker.goes_on;
  some = c.in-Ok.ensures.some;
  few = omega (arith, c.in-Ok.ensures.few);
  ok = units_given g.T.Taker.stands g.T.Taker.cut c.args.self.now _ c.args.out.now c.give_all.new.out c.in-Some.who.fork c.args.fork c.in-Some.ensures.1 c.in-Ok.row.count c.in-Ok.row.reply c.in-Ok.ensures.did (ap (λ n. c.args.self.now.done + n) c.from.ensures)
      (λ d f. (c.in-Ok-give_all.ensures.given d f).ok);
  err = tt;
}

pub returns-in-Err-give_all : goal.returns-in-Err-give_all
returns-in-Err-give_all g c = record {
  later = c.in-Err-give_all.ensures.taker.later;
  goes_on = c.in-Err-give_all.ensures.taker.goes_on;
  some = tt;
  few = tt;
  ok = tt;
  err = record {
    rose = c.in-Err-give_all.ensures.taker.cause;
    played = c.in-Ok.row.count;
    few = omega (arith, c.in-Ok.ensures.few);
    cut_in = units_cut g.T.Taker.stands g.T.Taker.cut c.args.self.now c.run_fork.new.self c.args.out.now c.give_all.new.out c.in-Some.who.fork c.args.fork c.in-Some.ensures.1 c.in-Ok.row.count c.in-Ok.row.reply c.in-Ok.ensures.did (λ d f. (c.in-Err-give_all.ensures.given d f).err);
  };
}

pub give_all-requires-clause-shown : goal.give_all-requires-clause-shown
give_all-requires-clause-shown g c = c.in-Ok.ensures.shown
