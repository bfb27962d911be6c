use Rattle.std.proofs.Common.{◌≡◌, true, false, rules, ◌∙◌, ap, refl, arith}
use Rattle.std.proofs.lemmas.Result.{err_from_is_err_and}
use Rattle.plain_units.specs.Addressing.{is_indirect}
use Rattle.machine_names.specs.declared.names.Kind.TheVariants.{Read}
use Rattle.ka10_unit.specs.Taking.{most_pages}
use Rattle.ka10_unit.proofs.Lost.{stop_more}
use Rattle.ka10_unit.proofs.Leading.{leads_none, leads_on, leads_stop, leads_done, leads_out}
use Rattle.ka10_unit.proofs.addresses.address_of.Goals as goal

pub returns-then-not-is_indirect-clause-told : goal.returns-then-not-is_indirect-clause-told
returns-then-not-is_indirect-clause-told g c d f fits stands =
    let direct : is_indirect c.loop-left.word ≡ false = search rules in
    leads_done _ _ _ _ c.loop-left.taken _ c.loop-left.left c.loop-left.word _ c.loop-left-test.true direct c.step_of-step.ensures.address (c.loop-left.invariant.told d f fits stands)

pub returns-in_err-word-clause-told : goal.returns-in_err-word-clause-told
returns-in_err-word-clause-told g c d f fits stands =
    let ind : is_indirect c.loop-left.word ≡ true = search rules in
    let before = c.loop-left.invariant.told d f fits stands in
    let p = err_from_is_err_and c.from_residual.result c.from_residual.ensures.1 in
    rw (p.1, p.2) (leads_stop _ _ _ _ c.loop-left.taken _ c.loop-left.left c.loop-left.word _ _ c.loop-left-test.true ind before (rw (ap (λ a. a.e) c.step_of-step.ensures.address) at (c.in_err-word.ensures.told d f fits before.stands)))

pub loop-left-preserved : goal.loop-left-preserved
loop-left-preserved g c = record {
  fork = c.in_ok-word.ensures.fork ∙ c.loop-left.invariant.fork;
  spare = omega (arith, c.in_ok-word.ensures.spare, c.loop-left.invariant.spare);
  left = omega (arith, c.in_ok-word.ensures.left, c.loop-left.invariant.left);
  kept = c.in_ok-word.ensures.kept ∙ c.loop-left.invariant.kept;
  told = λ d f fits stands.
      let ind : is_indirect c.loop-left.word ≡ true = search rules in
      let before = c.loop-left.invariant.told d f fits stands in
      leads_on _ _ _ _ c.loop-left.taken _ c.loop-left.left c.loop-left.word _ c.in_ok-word.word c.loop-left-test.true ind before (rw (ap (λ a. a.e) c.step_of-step.ensures.address) at (c.in_ok-word.ensures.told d f fits before.stands));
}

pub returns-clause-told : goal.returns-clause-told
returns-clause-told g c d f fits stands = leads_out _ _ _ _ c.loop-left.taken _ c.loop-left.left c.loop-left.word c.loop-left-test.false (c.loop-left.invariant.told d f fits stands)

pub loop-left-init : goal.loop-left-init
loop-left-init g c = record { fork = refl; spare = omega arith; left = omega arith; kept = refl; told = λ d f fits stands. leads_none _ _ _ _ _ stands }

pub returns-in_err-word-clause-frames : goal.returns-in_err-word-clause-frames
returns-in_err-word-clause-frames g c =
    let p = err_from_is_err_and c.from_residual.result c.from_residual.ensures.1 in
    rw (p.1, p.2) (stop_more g.P.Pages.means.store c.args.pages.now _ (most_pages Read c.args.taken.now) _ c.loop-left.invariant.left c.in_err-word.ensures.frames)
