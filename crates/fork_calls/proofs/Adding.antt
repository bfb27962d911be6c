-- Nobody is there beside the forks that were, but the one that CFORK makes.
use Rattle.std.proofs.Common.{◌≡◌, ◌+◌, ◌-◌, ◌<◌, None, Some, sym, ◌∙◌, ap, subst, arith, inl, inr}
use Rattle.std.proofs.lemmas.Grind.{get_or-set_at}
use Rattle.std.specs.Prelude.{IsSome}
use Rattle.std.specs.FinMap as map
use Rattle.machine_names.specs.declared.names.ForkName.{ForkName}
use Rattle.machine_names.specs.declared.names.TheConstants.{TERMINALS}
use Rattle.machine_names.specs.declared.names.Tty.{Tty}
use Rattle.plain_model.specs.declared.fork.Fork.{Fork}
use Rattle.plain_model.specs.Trees.{PlainTree, next_name, next_serial, with_made}
use Rattle.plain_model.proofs.ForkMaps.{cases_name, get_put_other}
use Rattle.fork_tree.specs.Making.{AddsLast, last_name}
use Rattle.fork_tree.specs.Trees.{IsTree}
use Rattle.fork_tree.proofs.Kept.{name_unused}

module _ (t : Tty) (tree : PlainTree) where
  -- where nothing is made, nobody is
  pub adds_nobody : (new : PlainTree) → new ≡ tree → AddsLast t tree new
  adds_nobody new same = record {
    kept = λ name f is. ap (λ (x : PlainTree). map.get x.forks name) same ∙ is;
    added = λ name none some. (let no = subst IsSome (ap (λ (x : PlainTree). map.get x.forks name) same ∙ none) some in absurd (cc no));
  }

  -- the fork of the next name is made, which lived nowhere: it is the last
  pub adds_made : (f : Fork) → f.name ≡ next_name tree t → IsTree tree → t.0 < TERMINALS → AddsLast t tree (with_made tree f)
  adds_made f named is terminal = record {
    kept = λ name g there. get_put_other tree.forks f.name name f (λ same. let no : None ≡ Some g = sym (name_unused tree t is) ∙ ap (map.get tree.forks) (sym (same ∙ named)) ∙ there in cc no) ∙ there;
    added = λ name none some. elim (cases_name name f.name) [
      | inl same ↦ same ∙ named ∙ last
      | inr ne ↦ (let no = subst IsSome (get_put_other tree.forks f.name name f ne ∙ none) some in absurd (cc no))
    ];
  }
    where
      behind : next_serial (with_made tree f) t ≡ f.name.serial + 1
      behind = get_or-set_at tree.serials f.name.tty.0 t.0 (f.name.serial + 1) 0 (ap (λ (n : ForkName). n.tty.0) (sym named)) (omega (arith, is.terminals, terminal, ap (λ (n : ForkName). n.tty.0) named))

      serial : next_serial tree t ≡ next_serial (with_made tree f) t - 1
      serial = omega (arith, behind, ap (λ (n : ForkName). n.serial) named)

      last : next_name tree t ≡ last_name (with_made tree f) t
      last = λ i. record { tty = t; serial = serial i }
