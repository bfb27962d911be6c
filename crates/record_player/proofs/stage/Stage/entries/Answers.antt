use Rattle.std.proofs.Common.{◌≡◌, ℕ, replicate, sym, subst, arith}
use Rattle.script_texts.specs.declared.event.Step.{Step}
use Rattle.script_texts.specs.declared.event.Step.TheVariants.{Outer}
use Rattle.script_texts.specs.Limits.{FitsStep}
use Rattle.record_reader.specs.Order.{FitsCount}
use Rattle.record_player.specs.Stages.{CutIn, Gives, PlayedSteps}
use Rattle.record_player.proofs.stage.Stage.entries.Goals as goal

pub event-requires-clause-fits : goal.event-requires-clause-fits
event-requires-clause-fits g c = subst FitsStep c.in-Outer.is c.requires.fits

pub idles-requires-clause-some : goal.idles-requires-clause-some
idles-requires-clause-some g c = (subst (λ s. FitsCount s c.args.count) c.in-Idle.is c.requires.count).0

pub returns-in-Ok : goal.returns-in-Ok
returns-in-Ok g c =
    let one : c.args.count ≡ 1 = subst (λ s. FitsCount s c.args.count) c.in-Outer.is c.requires.count in
    record {
      later = c.in-Ok.ensures.taker.later;
      goes_on = c.in-Ok.ensures.taker.goes_on;
      ok = subst (λ (s : Step). Gives g.T.Taker.stands c.args.self.now c.event.new.self c.args.out.now c.event.new.out (replicate c.args.count s)) (sym c.in-Outer.is)
          (subst (λ (n : ℕ). Gives g.T.Taker.stands c.args.self.now c.event.new.self c.args.out.now c.event.new.out (replicate n (Outer c.in-Outer.e))) (sym one) c.in-Ok.ensures.ok);
      err = tt;
    }

pub returns-in-Err : goal.returns-in-Err
returns-in-Err g c =
    let one : c.args.count ≡ 1 = subst (λ s. FitsCount s c.args.count) c.in-Outer.is c.requires.count in
    record {
      later = c.in-Err.ensures.taker.later;
      goes_on = c.in-Err.ensures.taker.goes_on;
      ok = tt;
      err = record {
        rose = c.in-Err.ensures.taker.cause;
        played = 1;
        few = omega (arith, one);
        cut_in = subst (λ (s : Step). CutIn g.T.Taker.stands g.T.Taker.cut c.args.self.now c.args.out.now c.event.new.out (replicate 1 s)) (sym c.in-Outer.is) c.in-Err.ensures.err;
      };
    }

pub returns-in-Unit : goal.returns-in-Unit
returns-in-Unit g c =
    subst (λ (s : Step). PlayedSteps g.T.Taker.fault_count g.T.Taker.onward g.T.Taker.stands g.T.Taker.cut c.args.self.now c.units.new.self c.args.out.now c.units.new.out c.units.result s c.args.count) (sym c.in-Unit.is) c.units.ensures

pub returns-in-Idle : goal.returns-in-Idle
returns-in-Idle g c =
    subst (λ (s : Step). PlayedSteps g.T.Taker.fault_count g.T.Taker.onward g.T.Taker.stands g.T.Taker.cut c.args.self.now c.idles.new.self c.args.out.now c.idles.new.out c.idles.result s c.args.count) (sym c.in-Idle.is) c.idles.ensures
