use Rattle.std.proofs.Common.{◌≡◌, [], ◌++◌, ◌+◌, ◌-◌, ap, arith, sym, subst, ◌∙◌}
use Rattle.machine_names.specs.declared.names.TheConstants.{MOST_FORKS}
use Rattle.plain_model.specs.Forks.{fork_in}
use Rattle.script_texts.specs.Taker.{GoesOn}
use Rattle.script_texts.proofs.Takers.{goes_on_append, onward_then}
use Rattle.event_items.specs.Giving.{Takes}
use Rattle.step_shown.specs.Replies.{lines_of}
use Rattle.event_items.proofs.ForksShown.{lines, lines_upto, one_line_more}
use Rattle.event_items.proofs.Given.{on_err, takes_part, takes_then}
use Rattle.event_items.proofs.giving.forks.give_forks.Goals as goal

pub loop-slot-preserved : goal.loop-slot-preserved
loop-slot-preserved g c =
    let i = c.loop-slot.invariant in
    let forks = c.args.tree.now.forks in
    let slot = c.loop-slot.slot in
    let one = c.in_ok-give_fork.ensures in
    let less : slot ≡ slot + 1 - 1 = omega arith in
    record {
      first = omega (arith, i.first);
      last = omega (arith, c.loop-slot-test.true);
      later = omega (arith, i.later, one.taker.later);
      onward = onward_then g.T.Taker.onward _ _ _ i.onward one.taker.goes_on;
      given = subst (λ is. GoesOn g.T.Taker.stands c.args.out.now c.give_fork.new.out is []) (one_line_more forks c.args.t slot i.first ∙ ap (lines forks c.args.t) less)
          (goes_on_append g.T.Taker.stands c.args.out.now _ c.give_fork.new.out (lines forks c.args.t (slot - 1)) (lines_of forks (fork_in forks c.args.t slot)) [] [] i.given (one.given []).ok);
    }

pub returns-in_err-give_fork : goal.returns-in_err-give_fork
returns-in_err-give_fork g c =
    let i = c.loop-slot.invariant in
    let forks = c.args.tree.now.forks in
    let slot = c.loop-slot.slot in
    let r = c.from_residual.result in
    let failed = c.in_err-give_fork.ensures in
    let rest = lines_upto forks c.args.t slot i.first (omega (arith, c.loop-slot-test.true)) in
    record {
      taker = record {
        later = omega (arith, i.later, failed.taker.later);
        cause = on_err r (omega (arith, i.later, failed.taker.cause));
        goes_on = onward_then g.T.Taker.onward _ _ _ i.onward failed.taker.goes_on;
      };
      given = λ d.
          subst (λ is. Takes g.T.Taker.stands g.T.Taker.cut c.args.out.now c.give_fork.new.out r is []) (sym rest.1)
          (takes_then g.T.Taker.stands g.T.Taker.cut c.args.out.now _ c.give_fork.new.out r (lines forks c.args.t (slot - 1)) (lines_of forks (fork_in forks c.args.t slot) ++ rest.0) [] [] i.given
          (takes_part g.T.Taker.stands g.T.Taker.cut _ c.give_fork.new.out r (lines_of forks (fork_in forks c.args.t slot)) rest.0 [] [] c.from_residual.ensures.0 (failed.given d).err));
    }

pub returns : goal.returns
returns g c =
    let i = c.loop-slot.invariant in
    let all : c.loop-slot.slot - 1 ≡ MOST_FORKS = omega (arith, i.last, c.loop-slot-test.false) in
    record {
      taker = record { later = i.later; cause = tt; goes_on = i.onward };
      given = λ d. record { ok = subst (λ k. GoesOn g.T.Taker.stands c.args.out.now c.loop-slot.out (lines c.args.tree.now.forks c.args.t k) []) all i.given; err = tt };
    }
