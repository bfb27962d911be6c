-- Forks with another mark, or another body.
use Rattle.std.proofs.Common.{◌≡◌, Bool, Some, refl, sym, ◌∙◌, ap, subst}
use Rattle.std.specs.FinMap as map
use Rattle.plain_model.specs.declared.call.ForkChange.TheVariants.{Become, Freeze}
use Rattle.machine_names.specs.declared.names.ForkName.{ForkName}
use Rattle.plain_model.specs.declared.fork.Fork.{Fork}
use Rattle.plain_model.specs.declared.fork.Body.{Body}
use Rattle.plain_pages.specs.PlainPages.{NumberedPages}
use Rattle.plain_model.specs.Trees.{PlainTree, with_body, with_changed_of, with_mark}
use Rattle.plain_model.specs.ForkCalls.{fork_changed}
use Rattle.plain_model.proofs.ForkMaps.{AreOwn}
use Rattle.job_forks.specs.Limits.{IsBody, IsBodyOf}
use Rattle.job_forks.specs.Holding.{parts}
use Rattle.job_forks.proofs.Places.{Keep, changed_keeps}

module _ (tree : PlainTree) (own : AreOwn tree.forks) (name : ForkName) where
  there : (k : Fork) → map.get tree.forks name ≡ Some k → map.get tree.forks k.name ≡ Some k
  there k e = ap (map.get tree.forks) (own name k e) ∙ e

  pub mark_keeps : (on : Bool) → Keep tree.forks (with_changed_of tree name (with_mark on)).forks
  mark_keeps on = changed_keeps tree.forks own (with_mark on) (map.get tree.forks name) (λ k e. (there k e, record { name = refl; slot = refl; superior = refl; units = refl; within = λ b. b }))

  pub body_keeps : (body : Body) → IsBodyOf tree.forks name body → Keep tree.forks (with_changed_of tree name (with_body body)).forks
  body_keeps body is =
      changed_keeps tree.forks own (with_body body) (map.get tree.forks name) (λ k e.
      let both : Some is.fork ≡ Some k = sym is.lives ∙ e in
      let same : is.fork ≡ k = cc both in (
        there k e,
        record {
          name = refl;
          slot = refl;
          superior = refl;
          units = is.units ∙ ap (λ (f : Fork). f.body.units) same;
          within = λ b. is.within (subst (λ (f : Fork). IsBody f.body) (sym same) b);
        },
      ))

  pub mark_changes : (on : Bool) (t : PlainTree) → t ≡ with_changed_of tree name (with_mark on) → (p : NumberedPages) → parts t p ≡ fork_changed (Freeze name on) (parts tree p)
  unfolding fork_changed
  mark_changes on t is p = ap (λ (u : PlainTree). parts u p) is

  pub body_changes : (body : Body) (t : PlainTree) → t ≡ with_changed_of tree name (with_body body) → (p : NumberedPages) → parts t p ≡ fork_changed (Become name body) (parts tree p)
  unfolding fork_changed
  body_changes body t is p = ap (λ (u : PlainTree). parts u p) is
