-- Which forks can run, where others have changed: forks of another job, or the body of another fork.
use Rattle.std.proofs.Common.{◌≡◌, ◌≢◌, ℕ, zero, suc, Bool, false, not, ◌&&◌, ◌||◌, Option, None, Some, refl, sym, ◌∙◌, ap}
use Rattle.std.specs.Option.{option_and_then, option_map_or}
use Rattle.std.specs.FinMap as map
use Rattle.machine_names.specs.declared.names.Tty.{Tty}
use Rattle.machine_names.specs.declared.names.ForkName.{ForkName}
use Rattle.machine_names.specs.declared.names.TheConstants.{MOST_FORKS}
use Rattle.plain_model.specs.declared.fork.Body.{Body}
use Rattle.plain_model.specs.declared.fork.Fork.{Fork}
use Rattle.plain_model.specs.Forks.{ForkMap, OthersStay, any_upward, can_run, fork_in, is_run, runs_in, superior_of}
use Rattle.plain_model.specs.Trees.{PlainTree, changed, with_body}
use Rattle.plain_model.proofs.ForkMaps.{get_put_other, superior_tells}
use Rattle.fork_tree.specs.Changes.{with_body_of}
use Rattle.fork_tree.specs.Trees.{AreSlotted, IsIn, IsTree}
use Rattle.fork_tree.proofs.Slots.{held_lives, in_found, in_none, in_tells}
use Rattle.fork_calls.proofs.Frozen.{others_frozen}

-- whether whoever is found can run
abbrev found_runs : ForkMap → Option Fork → Bool
found_runs forks o = option_map_or (can_run forks) o false

-- ---- forks of another job have changed

module _ (t : Tty) (old new : ForkMap) (was : AreSlotted old) (is : AreSlotted new) (others : OthersStay t old new) where
  pub in_other : (u : Tty) → u.0 ≢ t.0 → (slot : ℕ) → fork_in new u slot ≡ fork_in old u slot
  in_other u other slot = by (fork_in old u slot) refl
    where
      by : (o : Option Fork) → fork_in old u slot ≡ o → fork_in new u slot ≡ o
      by None none = in_none new is u slot (λ f at.
          let before : IsIn old u slot f = (sym (others f.name (λ here. other (sym at.1 ∙ here))) ∙ at.0, at.1, at.2) in
          let no : None ≡ Some f = sym none ∙ in_found old was u slot f before in
          cc no)
      by (Some f) found =
          let at = in_tells old was u slot f found in
          in_found new is u slot f (others f.name (λ here. other (sym at.1 ∙ here)) ∙ at.0, at.1, at.2)

  superior_other : (f : Fork) → f.name.tty.0 ≢ t.0 → superior_of new f ≡ superior_of old f
  superior_other f other = by f.superior
    where
      by : (o : Option ℕ) → option_and_then (fork_in new f.name.tty) o ≡ option_and_then (fork_in old f.name.tty) o
      by None = refl
      by (Some slot) = in_other f.name.tty other slot

  upward_other : (p : Fork → Bool) (n : ℕ) (o : Option Fork) → ((f : Fork) → o ≡ Some f → f.name.tty.0 ≢ t.0) → any_upward p n new o ≡ any_upward p n old o
  upward_other p zero o other = refl
  upward_other p (suc n) None other = refl
  upward_other p (suc n) (Some f) other =
      let apart = other f refl in
      ap (λ k. p f || any_upward p n new k) (superior_other f apart)
      ∙ ap (λ b. p f || b) (upward_other p n (superior_of old f) (λ g up here. apart (sym (superior_tells old was.own f g up).1 ∙ here)))

  can_other : (f : Fork) → f.name.tty.0 ≢ t.0 → can_run new f ≡ can_run old f
  can_other f apart =
      ap (λ b. is_run f.body.status && not b)
      (upward_other (λ k. k.frozen) MOST_FORKS (Some f) (λ g one here. let same : f ≡ g = cc one in apart (ap (λ (k : Fork). k.name.tty.0) same ∙ here)))

  -- each fork that isn't of that job can run where it could
  pub runs_other : (name : ForkName) → name.tty.0 ≢ t.0 → runs_in old name ≡ runs_in new name
  runs_other name other = by (map.get old name) refl
    where
      by : (o : Option Fork) → map.get old name ≡ o → runs_in old name ≡ runs_in new name
      by None none = ap (found_runs old) none ∙ sym (ap (found_runs new) (others name other ∙ none))
      by (Some f) found =
          let apart : f.name.tty.0 ≢ t.0 = λ here. other (sym (ap (λ (n : ForkName). n.tty.0) (was.own name f found)) ∙ here) in
          ap (found_runs old) found ∙ sym (can_other f apart) ∙ sym (ap (found_runs new) (others name other ∙ found))

-- ---- another fork has another body

-- each other fork can run where it could
pub body_runs : (tree : PlainTree) → IsTree tree → (name : ForkName) (body : Body) (g : ForkName) → g ≢ name → runs_in tree.forks g ≡ runs_in (with_body_of tree name body).forks g
body_runs tree trees name body g other = by (map.get tree.forks name) refl
  where
    -- whoever is found under the other name, where the fork of this one lives
    found : (f : Fork) → map.get tree.forks name ≡ Some f → (o : Option Fork) → map.get tree.forks g ≡ o → found_runs tree.forks o ≡ found_runs (map.insert tree.forks f.name (with_body body f)) o
    found f there None is = refl
    found f there (Some k) is =
        let own = trees.slotted.own name f there in
        let named = trees.slotted.own g k is in
        sym (ap (λ b. is_run k.body.status && not b)
        (others_frozen tree trees f (with_body body f) (held_lives tree.forks trees.slotted name f there) refl refl refl refl MOST_FORKS k (held_lives tree.forks trees.slotted g k is) (λ e. other (sym named ∙ e ∙ own))))

    by : (o : Option Fork) → map.get tree.forks name ≡ o → runs_in tree.forks g ≡ runs_in (with_body_of tree name body).forks g
    by None none = sym (ap (λ o. runs_in (changed tree.forks (with_body body) o) g) none)
    by (Some f) there =
        let now = map.insert tree.forks f.name (with_body body f) in
        let same : map.get now g ≡ map.get tree.forks g = get_put_other tree.forks f.name g (with_body body f) (λ e. other (e ∙ trees.slotted.own name f there)) in
        found f there (map.get tree.forks g) refl ∙ sym (ap (found_runs now) same) ∙ sym (ap (λ o. runs_in (changed tree.forks (with_body body) o) g) there)
