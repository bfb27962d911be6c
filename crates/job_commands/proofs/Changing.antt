-- A fork of a tree, changed by its mark and then by its body.
use Rattle.std.proofs.Common.{◌≡◌, false, None, Some, sym, ◌∙◌, ap}
use Rattle.std.specs.Prelude.{IsSome}
use Rattle.std.specs.Option.{option_map}
use Rattle.std.specs.FinMap as map
use Rattle.machine_names.specs.declared.names.ForkName.{ForkName}
use Rattle.plain_model.specs.declared.fork.Body.{Body}
use Rattle.plain_model.specs.declared.fork.Fork.{Fork}
use Rattle.plain_model.specs.Forks.{ForkMap}
use Rattle.plain_model.specs.Trees.{PlainTree, changed, with_body, with_changed_of, with_mark}
use Rattle.plain_model.proofs.ForkMaps.{get_put, put_again}
use Rattle.fork_tree.specs.Changes.{with_body_of, with_mark_of}
use Rattle.fork_tree.specs.Trees.{IsTree}
use Rattle.fork_tree.proofs.Slots.{some_of}

module _ (tree : PlainTree) (is : IsTree tree) (name : ForkName) (lives : IsSome (map.get tree.forks name)) where
  top : (k : Fork) × (map.get tree.forks name ≡ Some k)
  top = some_of (map.get tree.forks name) lives

  abbrev marked : ForkMap
  marked = map.insert tree.forks top.0.name (with_mark false top.0)

  marked_is : with_mark_of tree name false ≡ record tree { forks = marked }
  marked_is = ap (λ o. record tree { forks = changed tree.forks (with_mark false) o }) top.1

  there : map.get (with_mark_of tree name false).forks name ≡ Some (with_mark false top.0)
  there = ap (λ (x : PlainTree). map.get x.forks name) marked_is ∙ get_put tree.forks top.0.name name (with_mark false top.0) (sym (is.slotted.own name top.0 top.1))

  -- the fork is found again
  pub still_there : None ≡ option_map (λ f. f.body) (map.get (with_mark_of tree name false).forks name) → ⊥
  still_there e = let h : None ≡ Some top.0.body = e ∙ ap (option_map (λ f. f.body)) there in cc h

  -- it has another body, which comes of its own, and no mark
  pub goes_on : (left : Body → Body) (b : Body) → Some b ≡ option_map (λ f. f.body) (map.get (with_mark_of tree name false).forks name)
      → with_body_of (with_mark_of tree name false) name (left b) ≡ with_changed_of tree name (λ f. with_mark false (with_body (left f.body) f))
  goes_on left b e =
      let one : Some b ≡ Some top.0.body = e ∙ ap (option_map (λ f. f.body)) there in
      let same : b ≡ top.0.body = cc one in
      ap (λ o. record (with_mark_of tree name false) { forks = changed (with_mark_of tree name false).forks (with_body (left b)) o }) there
      ∙ ap (λ (x : PlainTree). record x { forks = map.insert x.forks top.0.name (with_body (left b) (with_mark false top.0)) }) marked_is
      ∙ ap (λ forks. record tree { forks = forks }) (put_again tree.forks top.0.name (with_mark false top.0) (with_body (left b) (with_mark false top.0)))
      ∙ (λ i. record tree { forks = map.insert tree.forks top.0.name (with_mark false (with_body (left (same i)) top.0)) })
      ∙ sym (ap (λ o. record tree { forks = changed tree.forks (λ f. with_mark false (with_body (left f.body) f)) o }) top.1)
