-- The clock has come to a moment: each sleeper of all jobs whose moment it has reached runs again, and every other fork stays.
use Rattle.std.proofs.Common.{◌≡◌, ℕ, zero, suc, ◌+◌, ◌<◌, ◌≤◌, List, [], ◌∷◌, Option, None, Some, refl, sym, ◌∙◌, ap, subst, arith, inl, inr}
use Rattle.std.specs.Prelude.{◌||◌}
use Rattle.std.specs.List.{range_with_len}
use Rattle.std.specs.Option.{option_and_then, option_map}
use Rattle.std.specs.FinMap as map
use Rattle.std.proofs.lemmas.Bool.{cases_lt}
use Rattle.machine_names.specs.declared.names.ForkName.{ForkName}
use Rattle.machine_names.specs.declared.names.Tty.{Tty}
use Rattle.machine_names.specs.declared.names.TheConstants.{MOST_FORKS, TERMINALS}
use Rattle.plain_model.specs.declared.fork.Fork.{Fork}
use Rattle.plain_model.specs.Forks.{ForkMap, fork_in, is_frozen, superior_of}
use Rattle.plain_model.specs.Trees.{PlainTree, awoken, job_changed, sleepers_awoken}
use Rattle.plain_model.proofs.ChangedForks.{get_changed}
use Rattle.fork_tree.specs.Trees.{IsTree, Lives}
use Rattle.fork_tree.proofs.Slots.{held_lives, in_found, in_tells, same_forks}
use Rattle.fork_tree.proofs.Waking.{by_slots, in_order, job_here, job_none, job_other}

module _ (clock : ℕ) where
  -- of each fork of the jobs at these terminals, in order
  abbrev pub awoken_at : ForkMap → List ℕ → ForkMap
  awoken_at forks [] = forks
  awoken_at forks (t ∷ ts) = awoken_at (job_changed (awoken clock) (record { 0 = t }) forks) ts

  abbrev of_terminal : PlainTree → Tty → PlainTree
  of_terminal tree t = record tree { forks = job_changed (awoken clock) t tree.forks }

  job_tree : (tree : PlainTree) → IsTree tree → (t : Tty) → IsTree (of_terminal tree t)
  job_tree tree is t = subst (λ m. IsTree (record tree { forks = m })) (by_slots (awoken clock) (λ f. (refl, refl, refl)) t tree is) (in_order (awoken clock) (λ f. (refl, refl, refl)) t MOST_FORKS 1 tree is)

  -- ---- of the jobs at so many terminals, from one on

  abbrev at_terminals : PlainTree → ℕ → ℕ → PlainTree
  at_terminals tree from n = record tree { forks = awoken_at tree.forks (range_with_len from n) }

  all_tree : (n from : ℕ) (tree : PlainTree) → IsTree tree → IsTree (at_terminals tree from n)
  all_tree zero from tree is = is
  all_tree (suc n) from tree is = let t : Tty = record { 0 = from } in all_tree n (from + 1) (of_terminal tree t) (job_tree tree is t)

  all_none : (n from : ℕ) (tree : PlainTree) → IsTree tree → (name : ForkName) → map.get tree.forks name ≡ None → map.get (at_terminals tree from n).forks name ≡ None
  all_none zero from tree is name none = none
  all_none (suc n) from tree is name none = let t : Tty = record { 0 = from } in all_none n (from + 1) (of_terminal tree t) (job_tree tree is t) name (job_none (awoken clock) t tree.forks name none)

  passed : (n from : ℕ) (tree : PlainTree) → IsTree tree → (f : Fork) → Lives tree.forks f → f.name.tty.0 < from → Lives (at_terminals tree from n).forks f
  passed zero from tree is f lives low = lives
  passed (suc n) from tree is f lives low =
      let t : Tty = record { 0 = from } in
      passed n (from + 1) (of_terminal tree t) (job_tree tree is t) f (job_other (awoken clock) t tree.forks f lives (λ job. omega (arith, job, low))) (omega (arith, low))

  reached : (n from : ℕ) (tree : PlainTree) → IsTree tree → (f : Fork) → Lives tree.forks f → from ≤ f.name.tty.0 → f.name.tty.0 < from + n → Lives (at_terminals tree from n).forks (awoken clock f)
  reached zero from tree is f lives low high = absurd (omega (arith, low, high))
  reached (suc n) from tree is f lives low high =
      let t : Tty = record { 0 = from } in
      elim (cases_lt from f.name.tty.0) [
        | inl later ↦ reached n (from + 1) (of_terminal tree t) (job_tree tree is t) f (job_other (awoken clock) t tree.forks f lives (λ job. omega (arith, job, later))) (omega (arith, later)) (omega (arith, high))
        | inr at ↦ passed n (from + 1) (of_terminal tree t) (job_tree tree is t) (awoken clock f) (job_here (awoken clock) t tree.forks f lives (omega (arith, low, at))) (omega (arith, at))
      ]

-- ---- of all jobs

module _ (clock : ℕ) (tree : PlainTree) (is_tree : IsTree tree) where
  -- each fork that lives is as it is once the clock has come to that moment
  pub each_awoken : (f : Fork) → Lives tree.forks f → map.get (sleepers_awoken clock tree.forks) f.name ≡ Some (awoken clock f)
  unfolding sleepers_awoken
  each_awoken f lives = get_changed (awoken clock) tree.forks f.name ∙ ap (option_map (awoken clock)) lives

  -- no other comes to live
  pub none_awoken : (name : ForkName) → map.get tree.forks name ≡ None → map.get (sleepers_awoken clock tree.forks) name ≡ None
  unfolding sleepers_awoken
  none_awoken name none = get_changed (awoken clock) tree.forks name ∙ ap (option_map (awoken clock)) none

  -- it is the same by terminal
  pub by_terminals : awoken_at clock tree.forks (range_with_len 0 TERMINALS) ≡ sleepers_awoken clock tree.forks
  by_terminals = same_forks _ _ (λ q. by q (map.get tree.forks q) refl)
    where
      all : ForkMap
      all = awoken_at clock tree.forks (range_with_len 0 TERMINALS)

      by : (q : ForkName) (o : Option Fork) → map.get tree.forks q ≡ o → map.get all q ≡ map.get (sleepers_awoken clock tree.forks) q
      by q None none = all_none clock TERMINALS 0 tree is_tree q none ∙ sym (none_awoken q none)
      by q (Some f) there =
          let own = is_tree.slotted.own q f there in
          let lives = held_lives tree.forks is_tree.slotted q f there in
          ap (map.get all) (sym own) ∙ reached clock TERMINALS 0 tree is_tree f lives (omega arith) (omega (arith, (is_tree.slotted.named f lives).0))
          ∙ sym (each_awoken f lives) ∙ ap (map.get (sleepers_awoken clock tree.forks)) own

  -- the forks stay a tree
  pub tree_awoken : IsTree (record tree { forks = sleepers_awoken clock tree.forks })
  tree_awoken = subst (λ m. IsTree (record tree { forks = m })) by_terminals (all_tree clock TERMINALS 0 tree is_tree)

  abbrev after : ForkMap
  after = sleepers_awoken clock tree.forks

  -- who is in a slot is in it then
  in_slot : (t : Tty) (slot : ℕ) → fork_in after t slot ≡ option_map (awoken clock) (fork_in tree.forks t slot)
  in_slot t slot = by (fork_in tree.forks t slot) refl
    where
      free : fork_in tree.forks t slot ≡ None → (o : Option Fork) → fork_in after t slot ≡ o → o ≡ None
      free was None is = refl
      free was (Some g) is = before (map.get tree.forks g.name) refl
        where
          before : (o : Option Fork) → map.get tree.forks g.name ≡ o → Some g ≡ None
          before None none = absurd (let at = in_tells after tree_awoken.slotted t slot g is in let no : None ≡ Some g = sym (none_awoken g.name none) ∙ at.0 in cc no)
          before (Some h) there =
              let at = in_tells after tree_awoken.slotted t slot g is in
              let lives = held_lives tree.forks is_tree.slotted g.name h there in
              let named : h.name ≡ g.name = is_tree.slotted.own g.name h there in
              let both : Some (awoken clock h) ≡ Some g = sym (each_awoken h lives) ∙ ap (map.get after) named ∙ at.0 in
              let one : awoken clock h ≡ g = cc both in
              absurd (let no : Some h ≡ None = sym (in_found tree.forks is_tree.slotted t slot h (lives, ap (λ (k : Fork). k.name.tty.0) one ∙ at.1, ap (λ (k : Fork). k.slot) one ∙ at.2)) ∙ was in cc no)

      by : (o : Option Fork) → fork_in tree.forks t slot ≡ o → fork_in after t slot ≡ option_map (awoken clock) o
      by None was = free was (fork_in after t slot) refl
      by (Some k) was =
          let at = in_tells tree.forks is_tree.slotted t slot k was in
          in_found after tree_awoken.slotted t slot (awoken clock k) (each_awoken k at.0, at.1, at.2)

  superior_same : (f : Fork) → superior_of after (awoken clock f) ≡ option_map (awoken clock) (superior_of tree.forks f)
  superior_same f = by f.superior
    where
      by : (o : Option ℕ) → option_and_then (fork_in after f.name.tty) o ≡ option_map (awoken clock) (option_and_then (fork_in tree.forks f.name.tty) o)
      by None = refl
      by (Some slot) = in_slot f.name.tty slot

  -- who is frozen, by its own mark or one above it, is so then
  pub frozen_same : (n : ℕ) (o : Option Fork) → is_frozen n after (option_map (awoken clock) o) ≡ is_frozen n tree.forks o
  frozen_same zero o = refl
  frozen_same (suc n) None = refl
  frozen_same (suc n) (Some f) = ap (λ (o : Option Fork). f.frozen || is_frozen n after o) (superior_same f) ∙ ap (λ b. f.frozen || b) (frozen_same n (superior_of tree.forks f))
