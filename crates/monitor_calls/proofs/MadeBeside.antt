-- A fork has another body, before or after one is made in its job.
use Rattle.std.proofs.Common.{◌≡◌, ◌≢◌, Option, None, Some, inl, inr, refl, sym, ◌∙◌, ap, subst}
use Rattle.std.specs.Prelude.{IsSome}
use Rattle.std.specs.FinMap as map
use Rattle.machine_names.specs.declared.names.ForkName.{ForkName}
use Rattle.plain_model.specs.declared.fork.Body.{Body}
use Rattle.plain_model.specs.declared.fork.Fork.{Fork}
use Rattle.plain_model.specs.Forks.{OthersStay}
use Rattle.plain_model.specs.Trees.{PlainTree, changed, with_body}
use Rattle.plain_model.proofs.ForkMaps.{AreOwn, cases_name, get_put, get_put_other}
use Rattle.fork_tree.specs.Changes.{with_body_of}
use Rattle.fork_tree.specs.Making.{AddsBeside, AddsLast}

-- where no body changes, one is made beside
pub beside_last : (who : ForkName) (old new : PlainTree) → AddsLast who.tty old new → AddsBeside who old new
beside_last who old new adds = record { kept = λ name f ne there. adds.kept name f there; own = λ f there. (f.body, adds.kept who f there); added = adds.added }

-- none need be made
pub beside_none : (who : ForkName) (old new : PlainTree) → new ≡ old → AddsBeside who old new
beside_none who old new same = record {
  kept = λ name f ne there. still name ∙ there;
  own = λ f there. (f.body, still who ∙ there);
  added = λ name none some. (let no = subst IsSome (still name ∙ none) some in absurd (cc no));
}
  where
    still : (name : ForkName) → map.get new.forks name ≡ map.get old.forks name
    still name = ap (λ (x : PlainTree). map.get x.forks name) same

-- the one that is made is of the same job
pub beside_others : (who : ForkName) (old new : PlainTree) → AddsBeside who old new → OthersStay who.tty old.forks new.forks
beside_others who old new adds name other = by (map.get old.forks name) refl
  where
    nobody : map.get old.forks name ≡ None → (o : Option Fork) → map.get new.forks name ≡ o → o ≡ None
    nobody none None is = refl
    nobody none (Some f) is = absurd (other (ap (λ (n : ForkName). n.tty.0) (adds.added name none (subst IsSome (sym is) refl))))

    by : (o : Option Fork) → map.get old.forks name ≡ o → map.get new.forks name ≡ o
    by None none = nobody none (map.get new.forks name) refl
    by (Some f) there = adds.kept name f (λ same. other (ap (λ (n : ForkName). n.tty.0) same)) there

module _ (tree : PlainTree) (own : AreOwn tree.forks) (who : ForkName) (body : Body) where
  abbrev left : PlainTree
  left = with_body_of tree who body

  -- the other forks are as they were
  body_other : (name : ForkName) → name ≢ who → map.get left.forks name ≡ map.get tree.forks name
  body_other name ne = by (map.get tree.forks who) refl
    where
      by : (o : Option Fork) → map.get tree.forks who ≡ o → map.get (changed tree.forks (with_body body) o) name ≡ map.get tree.forks name
      by None none = refl
      by (Some f) there = get_put_other tree.forks f.name name (with_body body f) (λ same. ne (same ∙ own who f there))

  -- it has that body, where it lives
  body_own : (f : Fork) → map.get tree.forks who ≡ Some f → map.get left.forks who ≡ Some (with_body body f)
  body_own f there = ap (λ o. map.get (changed tree.forks (with_body body) o) who) there ∙ get_put tree.forks f.name who (with_body body f) (sym (own who f there))

  -- and nobody lives who did not
  body_none : (name : ForkName) → map.get tree.forks name ≡ None → map.get left.forks name ≡ None
  body_none name none = elim (cases_name name who) [
    | inl same ↦ let gone : map.get tree.forks who ≡ None = ap (map.get tree.forks) (sym same) ∙ none in
        ap (λ o. map.get (changed tree.forks (with_body body) o) name) gone ∙ none
    | inr ne ↦ body_other name ne ∙ none
  ]

  body_some : (name : ForkName) → IsSome (map.get left.forks name) → IsSome (map.get tree.forks name)
  body_some name some = by (map.get tree.forks name) refl
    where
      by : (o : Option Fork) → map.get tree.forks name ≡ o → IsSome o
      by None none = (let no = subst IsSome (body_none name none) some in absurd (cc no))
      by (Some f) there = refl

  -- its body changes, and then one is made
  pub body_then : (new : PlainTree) → AddsBeside who left new → AddsBeside who tree new
  body_then new adds = record {
    kept = λ name f ne there. adds.kept name f ne (body_other name ne ∙ there);
    own = λ f there. adds.own (with_body body f) (body_own f there);
    added = λ name none some. adds.added name (body_none name none) some;
  }

  -- one is made, and then its body changes
  pub then_body : (old : PlainTree) → AddsBeside who old tree → AddsBeside who old left
  then_body old adds = record {
    kept = λ name f ne there. body_other name ne ∙ adds.kept name f ne there;
    own = λ f there. (let b = adds.own f there in (body, body_own (with_body b.0 f) b.1));
    added = λ name none some. adds.added name none (body_some name some);
  }
