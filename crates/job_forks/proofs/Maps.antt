-- The maps of forks that are killed.
use Rattle.std.proofs.Common.{◌≡◌, ℕ, ◌+◌, ◌<◌, true, None, Some, refl, sym, ◌∙◌, ap, arith, inl, inr}
use Rattle.std.specs.FinMap as map
use Rattle.std.proofs.lemmas.Bool.{cases_lt}
use Rattle.machine_names.specs.declared.names.ForkName.{ForkName}
use Rattle.machine_names.specs.declared.names.TheConstants.{MOST_FORKS}
use Rattle.plain_model.specs.declared.fork.Fork.{Fork}
use Rattle.plain_model.specs.Forks.{ForkMap, fork_in}
use Rattle.plain_model.specs.Inferiors.{is_inferior}
use Rattle.page_contracts.specs.Pages.{Scene}
use Rattle.plain_model.specs.Trees.{PlainTree}
use Rattle.plain_model.proofs.ForkMaps.{cases_name}
use Rattle.fork_tree.specs.Inferiors.{IsLeafBelow}
use Rattle.fork_tree.specs.Trees.{IsIn, IsTree}
use Rattle.fork_tree.proofs.Branches.{inferior_stays}
use Rattle.fork_tree.proofs.Leaves.{inferior_lives, inferior_over, nobodys_superior}
use Rattle.fork_tree.proofs.Slots.{held_lives, in_found}
use Rattle.job_forks.specs.Killing.{AreMapsHere}

-- the maps of a fork's inferiors in slots below one are in frames
abbrev pub AreMapsHereBelow : Scene → ForkMap → ForkName → ℕ → Type 0
AreMapsHereBelow scene forks name slot = (f : Fork) → IsIn forks name.tty f.slot f → f.slot < slot → is_inferior forks name f.name ≡ true → scene.map_away f.name ≡ None

module _ (scene : Scene) (tree : PlainTree) (is : IsTree tree) (name : ForkName) where
  -- below the first slot there is none
  pub none_asked : AreMapsHereBelow scene tree.forks name 1
  none_asked = λ f at low below. absurd (omega (arith, low, is.slotted.first f at.0))

  -- one slot more: the map of the fork there was asked for, where that is an inferior
  pub more_asked : (slot : ℕ) → AreMapsHereBelow scene tree.forks name slot → ((f : Fork) → fork_in tree.forks name.tty slot ≡ Some f → is_inferior tree.forks name f.name ≡ true → scene.map_away f.name ≡ None)
      → AreMapsHereBelow scene tree.forks name (slot + 1)
  more_asked slot so_far asked = λ f at low below. elim (cases_lt f.slot slot) [
    | inl before ↦ so_far f at before below
    | inr last ↦
        let here : f.slot ≡ slot = omega (arith, low, last) in
        asked f (in_found tree.forks is.slotted name.tty slot f (at.0, at.1, here)) below
  ]

  -- once all slots were gone over, the maps of all that go with the fork are in frames
  pub all_asked : (slot : ℕ) → MOST_FORKS < slot → scene.map_away name ≡ None → AreMapsHereBelow scene tree.forks name slot → AreMapsHere scene tree.forks name
  all_asked slot past own so_far = λ f goes. elim goes [
    | inl same ↦ ap scene.map_away same ∙ own
    | inr below ↦
        let k = inferior_lives tree is name f below in
        let named : k.0.name ≡ f = is.slotted.own f k.0 k.1 in
        let lives = held_lives tree.forks is.slotted f k.0 k.1 in
        let below_it : is_inferior tree.forks name k.0.name ≡ true = ap (is_inferior tree.forks name) named ∙ below in
        let job = (inferior_over tree is name k.0 lives below_it).2 in
        ap scene.map_away (sym named) ∙ so_far k.0 (lives, job, refl) (omega (arith, past, is.slotted.last k.0 lives)) below_it
  ]

-- without a leaf below, no more forks go with a fork than before
pub fewer_go : (scene : Scene) (tree : PlainTree) → IsTree tree → (who : ForkName) (leaf : Fork) → IsLeafBelow tree.forks who leaf → AreMapsHere scene tree.forks who → AreMapsHere scene (map.remove tree.forks leaf.name) who
fewer_go scene tree is who leaf below here = λ f goes. elim goes [
  | inl same ↦ here f (inl same)
  | inr under ↦ elim (cases_name f leaf.name) [
    | inl same ↦ here f (inr (ap (is_inferior tree.forks who) same ∙ below.below))
    | inr ne ↦ here f (inr (sym (inferior_stays tree is leaf below.lives (nobodys_superior tree is leaf below.lives below.leaf) who f ne) ∙ under))
  ]
]
