use Rattle.std.proofs.Common.{[], ◌∷◌, replicate, sym, subst}
use Rattle.std.proofs.lemmas.List.{append-nil}
use Rattle.event_items.specs.Giving.{Takes}
use Rattle.step_shown.specs.Replies.{reply_items}
use Rattle.monitor_core.specs.Systems.{state_of}
use Rattle.event_items.proofs.Given.{last_of, taker_failed, taker_then, takes_part, takes_then}
use Rattle.event_items.proofs.Silent.{silent_items}
use Rattle.event_items.proofs.giving.reply.give_all.Goals as goal

pub returns-then-is_silent : goal.returns-then-is_silent
returns-then-is_silent g c = record {
  taker = c.give_steps.ensures.taker;
  given = λ d f. subst (λ is. Takes g.T.Taker.stands g.T.Taker.cut c.args.out.now c.give_steps.new.out c.give_steps.result is (replicate c.args.count c.args.step.now)) (sym (silent_items (state_of c.args.system.now d) c.args.reply (sym c.if-is_silent.ensures))) (c.give_steps.ensures.given d);
}

pub returns-in_err-give_steps : goal.returns-in_err-give_steps
returns-in_err-give_steps g c =
    let step = c.args.step.now in
    let r = c.from_residual.result in
    let failed = c.in_err-give_steps.ensures in
    record {
      taker = taker_failed g.T.Taker.fault_count g.T.Taker.onward c.args.out.now c.give_steps-2.new.out _ r failed.taker;
      given = λ d f.
          subst (Takes g.T.Taker.stands g.T.Taker.cut c.args.out.now c.give_steps-2.new.out r (reply_items (state_of c.args.system.now d) c.args.reply)) (last_of c.args.count step c.requires.some)
          (takes_part g.T.Taker.stands g.T.Taker.cut _ _ r [] (reply_items (state_of c.args.system.now d) c.args.reply) _ (step ∷ []) c.from_residual.ensures.0 (failed.given d).err);
    }

pub returns-in_err-give_reply : goal.returns-in_err-give_reply
returns-in_err-give_reply g c =
    let step = c.args.step.now in
    let r = c.from_residual-in_err-give_reply.result in
    let failed = c.in_err-give_reply.ensures in
    record {
      taker = taker_then g.T.Taker.fault_count g.T.Taker.onward c.args.out.now c.give_steps-2.new.out c.give_reply.new.out c.give_steps-2.result r c.give_steps-2.ensures.taker (taker_failed g.T.Taker.fault_count g.T.Taker.onward c.give_steps-2.new.out c.give_reply.new.out _ r failed.taker);
      given = λ d f.
          let items = reply_items (state_of c.args.system.now d) c.args.reply in
          subst (Takes g.T.Taker.stands g.T.Taker.cut c.args.out.now c.give_reply.new.out r items) (last_of c.args.count step c.requires.some)
          (takes_then g.T.Taker.stands g.T.Taker.cut _ _ _ r [] items _ (step ∷ []) (c.in_ok-give_steps.ensures.given d).ok
          (subst (λ is. Takes g.T.Taker.stands g.T.Taker.cut c.give_steps-2.new.out c.give_reply.new.out r is (step ∷ [])) (append-nil items)
          (takes_part g.T.Taker.stands g.T.Taker.cut _ _ r items [] [] (step ∷ []) c.from_residual-in_err-give_reply.ensures.0 (failed.given d (f, c.requires.shown d f)).err)));
    }

pub returns : goal.returns
returns g c =
    let step = c.args.step.now in
    let r = c.step.result in
    record {
      taker = taker_then g.T.Taker.fault_count g.T.Taker.onward c.args.out.now c.give_steps-2.new.out c.step.new.self c.give_steps-2.result r c.give_steps-2.ensures.taker (taker_then g.T.Taker.fault_count g.T.Taker.onward c.give_steps-2.new.out c.give_reply.new.out c.step.new.self c.give_reply.result r c.give_reply.ensures.taker (record { later = c.step.ensures.later; cause = c.step.ensures.cause; goes_on = c.step.ensures.onward }));
      given = λ d f.
          let items = reply_items (state_of c.args.system.now d) c.args.reply in
          subst (Takes g.T.Taker.stands g.T.Taker.cut c.args.out.now c.step.new.self r items) (last_of c.args.count step c.requires.some)
          (takes_then g.T.Taker.stands g.T.Taker.cut _ _ _ r [] items _ (step ∷ []) (c.in_ok-give_steps.ensures.given d).ok
          (subst (λ is. Takes g.T.Taker.stands g.T.Taker.cut c.give_steps-2.new.out c.step.new.self r is (step ∷ [])) (append-nil items)
          (takes_then g.T.Taker.stands g.T.Taker.cut _ _ _ r items [] [] (step ∷ []) (c.in_ok-give_reply.ensures.given d (f, c.requires.shown d f)).ok (record { ok = c.step.ensures.ok; err = c.step.ensures.err }))));
    }
