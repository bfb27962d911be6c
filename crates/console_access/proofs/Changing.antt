-- A fork of a tree, changed through its body.
use Rattle.std.proofs.Common.{◌≡◌, ℕ, false, Option, None, Some, refl, sym, ◌∙◌, ap, slice_set}
use Rattle.std.specs.Prelude.{IsSome}
use Rattle.std.specs.Option.{option_map}
use Rattle.std.specs.FinMap as map
use Rattle.machine_names.specs.declared.names.ForkName.{ForkName}
use Rattle.plain_model.specs.declared.fork.Body.{Body}
use Rattle.plain_model.specs.declared.fork.Fork.{Fork}
use Rattle.script_texts.specs.declared.status.ForkStatus.TheVariants.{Run}
use Rattle.plain_model.specs.Commands.{restarted}
use Rattle.console_access.specs.Writing.{with_accumulator}
use Rattle.plain_model.specs.Forks.{ForkMap}
use Rattle.machine_names.proofs.OrderLemmas.{fork_cmp_total, fork_cmp_apart}
use Rattle.plain_model.specs.Trees.{changed, with_body, with_mark, PlainTree, with_changed_of}
use Rattle.fork_tree.specs.Changes.{with_body_of, with_mark_of}
use Rattle.fork_tree.specs.Trees.{IsTree}
use Rattle.fork_tree.proofs.Slots.{get_put, some_of}
use Rattle.monitor_calls.proofs.Maps.{insert_twice}

-- the word is put where the fork lives
pub poked_tree : (tree : PlainTree) (name : ForkName) (address word : ℕ) (b : Body) → Some b ≡ option_map (λ f. f.body) (map.get tree.forks name)
    → with_body_of tree name (record b { regs = record b.regs { ac = slice_set b.regs.ac address word } }) ≡ with_changed_of tree name (with_accumulator address word)
poked_tree tree name address word b = by (map.get tree.forks name)
  where
    by : (o : Option Fork) → Some b ≡ option_map (λ f. f.body) o
        → record tree { forks = changed tree.forks (with_body (record b { regs = record b.regs { ac = slice_set b.regs.ac address word } })) o } ≡ record tree { forks = changed tree.forks (with_accumulator address word) o }
    by None e = absurd (cc e)
    by (Some k) e = let is : b ≡ k.body = cc e in λ i. record tree { forks = map.insert tree.forks k.name (record k { body = record (is i) { regs = record (is i).regs { ac = slice_set (is i).regs.ac address word } } }) }

-- and nothing is put where none does
pub unchanged_tree : (tree : PlainTree) (name : ForkName) (change : Fork → Fork) → None ≡ option_map (λ f. f.body) (map.get tree.forks name) → tree ≡ with_changed_of tree name change
unchanged_tree tree name change = by (map.get tree.forks name)
  where
    by : (o : Option Fork) → None ≡ option_map (λ f. f.body) o → tree ≡ record tree { forks = changed tree.forks change o }
    by None e = refl
    by (Some k) e = absurd (cc e)

module _ (tree : PlainTree) (is : IsTree tree) (name : ForkName) (lives : IsSome (map.get tree.forks name)) where
  top : (k : Fork) × (map.get tree.forks name ≡ Some k)
  top = some_of (map.get tree.forks name) lives

  abbrev marked : ForkMap
  marked = map.insert tree.forks top.0.name (with_mark false top.0)

  mid_is : with_mark_of tree name false ≡ record tree { forks = marked }
  mid_is = ap (λ o. record tree { forks = changed tree.forks (with_mark false) o }) top.1

  there : map.get (with_mark_of tree name false).forks name ≡ Some (with_mark false top.0)
  there = ap (λ (x : PlainTree). map.get x.forks name) mid_is ∙ get_put tree.forks top.0.name name (with_mark false top.0) (sym (is.slotted.own name top.0 top.1))

  -- the fork is found again
  pub still_there : None ≡ option_map (λ f. f.body) (map.get (with_mark_of tree name false).forks name) → ⊥
  still_there e = let h : None ≡ Some top.0.body = e ∙ ap (option_map (λ f. f.body)) there in cc h

  -- it runs at the address, with no mark
  pub started_tree : (address : ℕ) (b : Body) → Some b ≡ option_map (λ f. f.body) (map.get (with_mark_of tree name false).forks name)
      → with_body_of (with_mark_of tree name false) name (record b { status = Run; regs = record b.regs { pc = address } }) ≡ with_changed_of tree name (restarted address)
  started_tree address b e =
      let one : Some b ≡ Some top.0.body = e ∙ ap (option_map (λ f. f.body)) there in
      let same : b ≡ top.0.body = cc one in
      let left : Body = record b { status = Run; regs = record b.regs { pc = address } } in
      ap (λ o. record (with_mark_of tree name false) { forks = changed (with_mark_of tree name false).forks (with_body left) o }) there
      ∙ ap (λ (x : PlainTree). record x { forks = map.insert x.forks top.0.name (with_body left (with_mark false top.0)) }) mid_is
      ∙ ap (λ forks. record tree { forks = forks }) (insert_twice fork_cmp_total fork_cmp_apart tree.forks top.0.name (with_mark false top.0) (with_body left (with_mark false top.0)))
      ∙ (λ i. record tree { forks = map.insert tree.forks top.0.name (record top.0 { frozen = false; body = record (same i) { status = Run; regs = record (same i).regs { pc = address } } }) })
      ∙ sym (ap (λ o. record tree { forks = changed tree.forks (restarted address) o }) top.1)
