-- A branch of a tree, killed from below.
use Rattle.std.proofs.Common.{◌≡◌, ℕ, zero, suc, Bool, true, false, cond, ◌||◌, Option, None, Some, refl, sym, ◌∙◌, ap, ◌⊎◌, inl, inr}
use Rattle.std.specs.Prelude.{MatchBool, not}
use Rattle.std.specs.Option.{option_and_then}
use Rattle.std.specs.FinMap as map
use Rattle.std.proofs.lemmas.Bool.{cases_Bool}
use Rattle.plain_model.specs.Forks.{ForkMap, fork_in, superior_of, any_upward}
use Rattle.machine_names.specs.Orders.{same_fork}
use Rattle.machine_names.proofs.OrderLemmas.{fork_cmp_apart}
use Rattle.machine_names.specs.declared.names.ForkName.{ForkName}
use Rattle.machine_names.specs.declared.names.TheConstants.{MOST_FORKS}
use Rattle.plain_model.specs.declared.fork.Fork.{Fork}
use Rattle.plain_model.specs.Inferiors.{is_in_branch, is_inferior}
use Rattle.plain_model.specs.Trees.{PlainTree}
use Rattle.fork_tree.specs.Inferiors.{HasNoInferior, without_branch}
use Rattle.fork_tree.specs.Trees.{IsTree, Lives}
use Rattle.fork_tree.proofs.Kept.{IsNobodysSuperior, killed_tree}
use Rattle.fork_tree.proofs.Leaves.{inferior_is, inferior_none}
use Rattle.fork_tree.proofs.Slots.{cases_name, get_gone, get_gone_other, held_lives, in_found, names_same, same_forks, same_itself}
use Rattle.fork_tree.proofs.Upward.{or_true, superior_in, superior_lives}

-- who is left of a branch's job
pub left_of : (forks : ForkMap) (who q : ForkName) → map.get (without_branch forks who) q ≡ cond (not (is_in_branch forks who q)) (map.get forks q) None
unfolding without_branch
left_of forks who q =
    map.get-retain_keys forks (λ name. not (is_in_branch forks who name)) q (λ x e. ap (λ n. not (is_in_branch forks who n)) (sym (fork_cmp_apart q x e)))

pub gone_or_left : (forks : ForkMap) (who q : ForkName) → MatchBool (is_in_branch forks who q) (map.get (without_branch forks who) q ≡ None) (map.get (without_branch forks who) q ≡ map.get forks q)
gone_or_left forks who q = by (is_in_branch forks who q) (left_of forks who q)
  where
    by : (b : Bool) → map.get (without_branch forks who) q ≡ cond (not b) (map.get forks q) None → MatchBool b (map.get (without_branch forks who) q ≡ None) (map.get (without_branch forks who) q ≡ map.get forks q)
    by true e = e
    by false e = e

-- a fork without inferiors is killed with all that is below it
pub last_of_branch : (forks : ForkMap) (who : ForkName) → HasNoInferior forks who → without_branch forks who ≡ map.remove forks who
last_of_branch forks who none = same_forks (without_branch forks who) (map.remove forks who) (λ q. left_of forks who q ∙ there q (cases_name q who))
  where
    there : (q : ForkName) → (q ≡ who) ⊎ (q ≡ who → ⊥) → cond (not (is_in_branch forks who q)) (map.get forks q) None ≡ map.get (map.remove forks who) q
    there q (inl same) =
        let it_is : same_fork q who ≡ true = ap (λ n. same_fork n who) same ∙ same_itself who in
        ap (λ b. cond (not (b || is_inferior forks who q)) (map.get forks q) None) it_is ∙ sym (get_gone forks who q same)
    there q (inr ne) = ap (λ b. cond (not b) (map.get forks q) None) (not_it (cases_Bool (same_fork q who)) ∙ none q) ∙ sym (get_gone_other forks who q ne)
      where
        not_it : (same_fork q who ≡ true) ⊎ (same_fork q who ≡ false) → is_in_branch forks who q ≡ is_inferior forks who q
        not_it (inl it_is) = absurd (ne (names_same q who it_is))
        not_it (inr fails) = ap (λ b. b || is_inferior forks who q) fails

-- a leaf of a tree is taken out
module _ (tree : PlainTree) (is : IsTree tree) (leaf : Fork) (lives : Lives tree.forks leaf) (alone : IsNobodysSuperior tree.forks leaf) where
  abbrev fewer : PlainTree
  fewer = record tree { forks = map.remove tree.forks leaf.name }

  is_fewer : IsTree fewer
  is_fewer = killed_tree tree leaf is lives alone

  still : (f : Fork) → Lives tree.forks f → (f.name ≡ leaf.name → ⊥) → Lives fewer.forks f
  still f there ne = get_gone_other tree.forks leaf.name f.name ne ∙ there

  superior_stays : (f g : Fork) → Lives tree.forks f → superior_of tree.forks f ≡ Some g → (g.name ≡ leaf.name → ⊥) × (superior_of fewer.forks f ≡ Some g)
  superior_stays f g there e =
      let s = superior_in tree is f g e in
      let apart : g.name ≡ leaf.name → ⊥ = λ same.
      let both : Some g ≡ Some leaf = sym s.2.0 ∙ (ap (map.get tree.forks) same ∙ lives) in alone f there (e ∙ both) in
      (apart, ap (option_and_then (fork_in fewer.forks f.name.tty)) s.1 ∙ in_found fewer.forks is_fewer.slotted f.name.tty s.0 g (still g s.2.0 apart, s.2.1, s.2.2))

  none_stays : (f : Fork) → Lives tree.forks f → superior_of tree.forks f ≡ None → superior_of fewer.forks f ≡ None
  none_stays f there e = by f.superior refl e
    where
      by : (o : Option ℕ) → f.superior ≡ o → option_and_then (fork_in tree.forks f.name.tty) o ≡ None → superior_of fewer.forks f ≡ None
      by None is_none found = ap (option_and_then (fork_in fewer.forks f.name.tty)) is_none
      by (Some slot) is_some found =
          let o = is.superiors f slot there is_some in
          let h : None ≡ Some o.0 = sym found ∙ in_found tree.forks is.slotted f.name.tty slot o.0 o.1 in
          absurd (cc h)

  module _ (p : Fork → Bool) where
    upward_stays : (n : ℕ) (f : Fork) → Lives tree.forks f → any_upward p n fewer.forks (superior_of fewer.forks f) ≡ any_upward p n tree.forks (superior_of tree.forks f)
    upward_stays zero f there = refl
    upward_stays (suc n) f there = by (upward_stays n) (superior_of tree.forks f) refl
      where
        by : ((g : Fork) → Lives tree.forks g → any_upward p n fewer.forks (superior_of fewer.forks g) ≡ any_upward p n tree.forks (superior_of tree.forks g))
            → (o : Option Fork) → superior_of tree.forks f ≡ o → any_upward p (suc n) fewer.forks (superior_of fewer.forks f) ≡ any_upward p (suc n) tree.forks o
        by rest None e = ap (any_upward p (suc n) fewer.forks) (none_stays f there e)
        by rest (Some g) e =
            ap (any_upward p (suc n) fewer.forks) (superior_stays f g there e).1 ∙ ap (λ b. p g || b) (rest g (superior_lives tree is f g there e).0)

  pub inferior_stays : (who q : ForkName) → (q ≡ leaf.name → ⊥) → is_inferior fewer.forks who q ≡ is_inferior tree.forks who q
  inferior_stays who q ne = by (map.get tree.forks q) refl
    where
      same : map.get fewer.forks q ≡ map.get tree.forks q
      same = get_gone_other tree.forks leaf.name q ne

      by : (o : Option Fork) → map.get tree.forks q ≡ o → is_inferior fewer.forks who q ≡ is_inferior tree.forks who q
      by None e = inferior_none fewer.forks who q (same ∙ e) ∙ sym (inferior_none tree.forks who q e)
      by (Some f) e =
          inferior_is fewer.forks who q f (same ∙ e) ∙ (upward_stays (λ k. same_fork k.name who) MOST_FORKS f (held_lives tree.forks is.slotted q f e)
          ∙ sym (inferior_is tree.forks who q f e))

  -- an inferior without any goes first, and the branch goes on without it
  pub branch_without_leaf : (who : ForkName) → is_inferior tree.forks who leaf.name ≡ true → without_branch fewer.forks who ≡ without_branch tree.forks who
  branch_without_leaf who below = same_forks (without_branch fewer.forks who) (without_branch tree.forks who) (λ q. left_of fewer.forks who q ∙ (there q (cases_name q leaf.name) ∙ sym (left_of tree.forks who q)))
    where
      none_either : (b : Bool) → cond b None None ≡ (let n : Option Fork = None in n)
      none_either true = refl
      none_either false = refl

      there : (q : ForkName) → (q ≡ leaf.name) ⊎ (q ≡ leaf.name → ⊥) → cond (not (is_in_branch fewer.forks who q)) (map.get fewer.forks q) None ≡ cond (not (is_in_branch tree.forks who q)) (map.get tree.forks q) None
      there q (inl same) =
          let it_goes : is_in_branch tree.forks who q ≡ true = or_true (same_fork q who) (is_inferior tree.forks who q) (ap (is_inferior tree.forks who) same ∙ below) in
          ap (λ o. cond (not (is_in_branch fewer.forks who q)) o None) (get_gone tree.forks leaf.name q same) ∙ (none_either (not (is_in_branch fewer.forks who q)) ∙ sym (ap (λ b. cond (not b) (map.get tree.forks q) None) it_goes))
      there q (inr ne) =
          ap (λ b. cond (not (same_fork q who || b)) (map.get fewer.forks q) None) (inferior_stays who q ne)
          ∙ ap (λ o. cond (not (is_in_branch tree.forks who q)) o None) (get_gone_other tree.forks leaf.name q ne)
