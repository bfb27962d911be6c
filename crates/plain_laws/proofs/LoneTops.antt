-- A top fork without inferiors is the only fork of its job.
use Rattle.std.proofs.Common.{◌≡◌, ◌⊎◌, inl, inr, ℕ, zero, suc, ◌+◌, ◌<◌, ◌||◌, true, false, Option, None, Some, refl, sym, ◌∙◌, ap, arith}
use Rattle.std.specs.Option.{option_and_then}
use Rattle.machine_names.specs.declared.names.TheConstants.{MOST_FORKS}
use Rattle.plain_model.specs.declared.fork.Fork.{Fork}
use Rattle.plain_model.specs.Forks.{fork_in, superior_of}
use Rattle.plain_model.specs.Inferiors.{is_inferior, is_within}
use Rattle.plain_model.specs.Trees.{PlainTree}
use Rattle.plain_model.proofs.ForkMaps.{same_itself}
use Rattle.fork_tree.specs.Inferiors.{HasNoInferior}
use Rattle.fork_tree.specs.Trees.{IsTree, Lives}
use Rattle.fork_tree.proofs.Leaves.{inferior_below, inferior_is}
use Rattle.fork_tree.proofs.Slots.{in_found}

module _ (tree : PlainTree) (is : IsTree tree) (top : Fork) (lives : Lives tree.forks top) (first : top.slot ≡ 1) where
  -- a fork of the job is that one, or an inferior of it
  pub within : (n : ℕ) (f : Fork) → Lives tree.forks f → f.name.tty.0 ≡ top.name.tty.0 → f.name.serial < n → (f ≡ top) ⊎ (is_inferior tree.forks top.name f.name ≡ true)
  within zero f there job below = absurd (omega (arith, below))
  within (suc n) f there job below = by (λ g. within n g) f.superior refl
    where
      by : ((g : Fork) → Lives tree.forks g → g.name.tty.0 ≡ top.name.tty.0 → g.name.serial < n → (g ≡ top) ⊎ (is_inferior tree.forks top.name g.name ≡ true)) → (o : Option ℕ) → f.superior ≡ o
          → (f ≡ top) ⊎ (is_inferior tree.forks top.name f.name ≡ true)
      by older None none = inl (is.slotted.once top.name.tty 1 f top (there, job, (is.tops f there).0 none) (lives, refl, first))
      by older (Some slot) some =
          let o = is.superiors f slot there some in
          let over : superior_of tree.forks f ≡ Some o.0 = ap (option_and_then (fork_in tree.forks f.name.tty)) some ∙ in_found tree.forks is.slotted f.name.tty slot o.0 o.1 in
          elim (older o.0 o.1.0 (o.1.1 ∙ job) (omega (arith, o.2, below))) [
            | inl e ↦ inr (inferior_is tree.forks top.name f.name f there ∙ ap (is_within MOST_FORKS tree.forks top.name) (over ∙ ap Some e) ∙ ap (λ b. b || is_within 29 tree.forks top.name (superior_of tree.forks top)) (same_itself top.name))
            | inr under ↦ inr (inferior_below tree is o.0 f o.1.0 top.name there over under)
          ]

  pub only_top : HasNoInferior tree.forks top.name → (f : Fork) → Lives tree.forks f → f.name.tty.0 ≡ top.name.tty.0 → f ≡ top
  only_top bare f there job = elim (within (f.name.serial + 1) f there job (omega arith)) [
    | inl e ↦ e
    | inr under ↦ absurd (let no : true ≡ false = sym under ∙ bare f.name in cc no)
  ]
