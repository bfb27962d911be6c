use Rattle.std.proofs.Common.{sym, ◌∙◌, subst, ap, arith}
use Rattle.monitor_core.proofs.BootDid.{booted, within_boot}
use Rattle.record_player.proofs.stage.Stage.over.Goals as goal

pub invariant_of-result : goal.invariant_of-result
invariant_of-result g c = record {
  flat = c.requires.flat;
  within = within_boot c.in_ok-system.system c.in_ok-system.ensures.jobs c.in_ok-system.ensures.tree c.in_ok-system.ensures.panel c.in_ok-system.ensures.files c.in_ok-system.ensures.jfns (λ t. omega (arith, ap (λ p. g.P.Pages.means.serial p t) c.in_ok-system.ensures.pages, c.requires.serials t));
}

pub returns-clause-state : goal.returns-clause-state
returns-clause-state g c d f =
    booted c.in_ok-system.system c.in_ok-system.ensures.jobs c.in_ok-system.ensures.tree c.in_ok-system.ensures.panel c.in_ok-system.ensures.files c.in_ok-system.ensures.jfns (g.P.Pages.means.most c.args.pages) d
    (subst (λ p. g.P.Pages.means.fits p d) (sym c.in_ok-system.ensures.pages) f) (ap (λ p. g.P.Pages.means.plain p d) c.in_ok-system.ensures.pages ∙ c.requires.opening d f)
