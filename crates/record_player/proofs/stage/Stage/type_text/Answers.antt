use Rattle.std.proofs.Common.{[], take, refl, ap, arith, sym, ◌∙◌, subst}
use Rattle.plain_model.specs.TypeEvents.{typed_all}
use Rattle.plain_model.specs.Unit.{Effect}
use Rattle.script_texts.specs.Taker.{GoesOn}
use Rattle.script_texts.proofs.Takers.{goes_on_append, goes_on_nil, onward_nil, onward_then}
use Rattle.step_shown.specs.Echoes.{echo_items}
use Rattle.monitor_core.specs.Systems.{state_of}
use Rattle.event_items.specs.Giving.{Takes}
use Rattle.event_items.proofs.Given.{on_err, takes_part, takes_then}
use Rattle.event_items.proofs.GivenParts.{no_ok}
use Rattle.record_player.proofs.Typed.{more_items, more_state, rest, split_items, typed_none}
use Rattle.record_player.proofs.stage.Stage.type_text.Goals as goal

pub loop-code-init : goal.loop-code-init
loop-code-init g c =
    let s = state_of c.args.self.now.system in
    record {
      later = omega arith;
      onward = onward_nil g.T.Taker.onward _;
      left = λ d f. (f, ap (λ (e : Effect). e.state) (sym (typed_none (s d) c.args.t)));
      given = λ d f. subst (λ (e : Effect). GoesOn g.T.Taker.stands c.args.out.now c.args.out.now e.items []) (sym (typed_none (s d) c.args.t)) (goes_on_nil g.T.Taker.stands c.args.out.now);
      count = refl;
    }

pub invariant_of-self : goal.invariant_of-self
invariant_of-self g c = let m = c.loop-code.self in record { flat = m.flat; within = c.type_one-shown.ensures.has.within m.done m.within }

pub loop-code-preserved : goal.loop-code-preserved
loop-code-preserved g c =
    let i = c.loop-code.invariant in
    let s = state_of c.args.self.now.system in
    let t = c.args.t in
    let text = c.args.text.now in
    let n = c.loop-code.code-index in
    let has = c.type_one-shown.ensures.has in
    let one = c.in_ok-give_echo.ensures in
    record {
      later = omega (arith, i.later, one.taker.later);
      onward = onward_then g.T.Taker.onward _ _ _ i.onward one.taker.goes_on;
      left = λ d f.
          let x = i.left d f in
          let y = has.each d x.0 in
          (y.0, more_state (s d) t text n c.loop-code-test.true (state_of c.loop-code.self.system d) (state_of c.type_one-shown.new.system d) (echo_items t c.type_one-shown.result (state_of c.type_one-shown.new.system d)) x.1 y.1 y.2);
      given = λ d f.
          let x = i.left d f in
          let y = has.each d x.0 in
          let shown = echo_items t c.type_one-shown.result (state_of c.type_one-shown.new.system d) in
          subst (λ is. GoesOn g.T.Taker.stands c.args.out.now c.give_echo.new.out is []) (more_items (s d) t text n c.loop-code-test.true (state_of c.loop-code.self.system d) (state_of c.type_one-shown.new.system d) shown x.1 y.1 y.2)
          (goes_on_append g.T.Taker.stands c.args.out.now _ c.give_echo.new.out (typed_all (s d) t (take n text)).items shown [] [] (i.given d f) (one.given d).ok);
      count = i.count;
    }

pub returns-in_err-give_echo : goal.returns-in_err-give_echo
returns-in_err-give_echo g c =
    let i = c.loop-code.invariant in
    let s = state_of c.args.self.now.system in
    let t = c.args.t in
    let text = c.args.text.now in
    let n = c.loop-code.code-index in
    let r = c.from_residual.result in
    let has = c.type_one-shown.ensures.has in
    let failed = c.in_err-give_echo.ensures in
    record {
      taker = record {
        later = omega (arith, i.later, failed.taker.later);
        cause = on_err r (omega (arith, i.later, failed.taker.cause));
        goes_on = onward_then g.T.Taker.onward _ _ _ i.onward failed.taker.goes_on;
      };
      given = λ d f.
          let x = i.left d f in
          let y = has.each d x.0 in
          let mid = state_of c.loop-code.self.system d in
          let after = state_of c.type_one-shown.new.system d in
          let shown = echo_items t c.type_one-shown.result after in
          let more = rest (s d) t text n c.loop-code-test.true mid after shown x.1 y.1 y.2 in
          subst (λ is. Takes g.T.Taker.stands g.T.Taker.cut c.args.out.now c.give_echo.new.out r is []) (sym (split_items (s d) t text n c.loop-code-test.true mid after shown x.1 y.1 y.2))
          (takes_then g.T.Taker.stands g.T.Taker.cut c.args.out.now _ c.give_echo.new.out r (typed_all (s d) t (take n text)).items _ [] [] (i.given d f)
          (takes_part g.T.Taker.stands g.T.Taker.cut _ c.give_echo.new.out r shown more [] [] c.from_residual.ensures.0 (failed.given d).err));
      left = no_ok _ r c.from_residual.ensures.0;
      count = i.count;
    }
