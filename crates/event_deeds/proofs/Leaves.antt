-- Which inferior is killed first: one that has none itself, as long as there is an inferior.
use Rattle.std.proofs.Common.{◌≡◌, ◌≢◌, ◌⊎◌, inl, inr, ℕ, zero, suc, ◌<◌, ◌≤◌, List, [], ◌∷◌, Bool, true, false, not, ◌&&◌, ◌||◌, cond, Option, None, Some, refl, sym, ◌∙◌, ap, subst, arith}
use Rattle.std.specs.List.{list_any}
use Rattle.std.specs.Option.{option_and_then, option_or}
use Rattle.std.specs.Ordering.{eq_by_cmp}
use Rattle.std.specs.FinMap as map
use Rattle.std.specs.Prelude.{◌==◌, is_some}
use Rattle.std.proofs.lemmas.Bool.Decides.{nat_tests}
use Rattle.machine_names.specs.Orders.{fork_cmp, same_fork}
use Rattle.machine_names.specs.declared.names.ForkName.{ForkName}
use Rattle.machine_names.specs.declared.names.TheConstants.{MOST_FORKS}
use Rattle.machine_names.proofs.OrderLemmas.{fork_tied}
use Rattle.plain_model.specs.declared.fork.Fork.{Fork}
use Rattle.plain_model.specs.Forks.{ForkMap, fork_in}
use Rattle.plain_model.specs.Inferiors.{is_inferior}
use Rattle.plain_model.specs.Trees.{PlainTree}
use Rattle.fork_tree.specs.Inferiors.{HasNoInferior, IsLastBelow, IsLeafBelow}
use Rattle.fork_tree.specs.Trees.{IsTree}
use Rattle.fork_tree.proofs.Leaves.{inferior_lives, inferior_over, leafless}
use Rattle.fork_tree.proofs.Slots.{in_found, in_tells, names_same}
use Rattle.event_deeds.specs.Leaves.{last_below, last_up_to, leaf_below}

-- a name among the keys passes a test
any_of : (p : ForkName → Bool) (k : ForkName) (ks : List ForkName) → p k ≡ true → list_any (eq_by_cmp fork_cmp k) ks ≡ true → list_any p ks ≡ true
any_of p k [] passes there = absurd (cc there)
any_of p k (x ∷ xs) passes there = by (eq_by_cmp fork_cmp k x) refl there (any_of p k xs passes)
  where
    by : (b : Bool) → eq_by_cmp fork_cmp k x ≡ b → (b || list_any (eq_by_cmp fork_cmp k) xs) ≡ true → (list_any (eq_by_cmp fork_cmp k) xs ≡ true → list_any p xs ≡ true) → (p x || list_any p xs) ≡ true
    by true tied some rest = ap (λ b. b || list_any p xs) (ap p (sym (names_same k x (sym (fork_tied k x) ∙ tied))) ∙ passes)
    by false tied some rest = later (p x) (list_any p xs) (rest some)
      where
        later : (a b : Bool) → b ≡ true → (a || b) ≡ true
        later true b e = refl
        later false b e = e

none_of : (p : ForkName → Bool) (ks : List ForkName) → ((k : ForkName) → p k ≡ false) → list_any p ks ≡ false
none_of p [] none = refl
none_of p (k ∷ ks) none = ap (λ b. b || list_any p ks) (none k) ∙ none_of p ks none

below_or_last : (slot n : ℕ) → slot ≤ suc n → (slot ≤ n) ⊎ (slot ≡ suc n)
below_or_last slot n few = by (slot == suc n) refl
  where
    by : (b : Bool) → (slot == suc n) ≡ b → (slot ≤ n) ⊎ (slot ≡ suc n)
    by true e = inr (grind (arith, nat_tests, e))
    by false e = let other : slot ≢ suc n = grind (arith, nat_tests, e) in inl (omega (arith, few, other))

module _ (tree : PlainTree) (is : IsTree tree) (who : ForkName) where
  -- a fork that passes the test has no inferior
  no_inferior : (f : Fork) → list_any (is_inferior tree.forks f.name) (map.keys tree.forks) ≡ false → HasNoInferior tree.forks f.name
  no_inferior f none name = by (is_inferior tree.forks f.name name) refl
    where
      by : (b : Bool) → is_inferior tree.forks f.name name ≡ b → b ≡ false
      by false below = refl
      by true below =
          let g = inferior_lives tree is f.name name below in
          let there : map.contains_key tree.forks name ≡ true = ap is_some g.1 in
          let some = any_of (is_inferior tree.forks f.name) name (map.keys tree.forks) below (sym (map.contains_key-keys tree.forks name) ∙ there) in
          absurd (cc (sym none ∙ some))

  -- the test says which forks are such
  leaf_is : (f : Fork) (slot : ℕ) (g : Fork) → fork_in tree.forks who.tty slot ≡ Some f → leaf_below tree.forks who f ≡ Some g → (f ≡ g) × IsLeafBelow tree.forks who f
  leaf_is f slot g at passes = by (is_inferior tree.forks who f.name) refl (list_any (is_inferior tree.forks f.name) (map.keys tree.forks)) refl passes
    where
      fork_of : Option Fork → Fork
      fork_of (Some h) = h
      fork_of None = f

      by : (b : Bool) → is_inferior tree.forks who f.name ≡ b → (c : Bool) → list_any (is_inferior tree.forks f.name) (map.keys tree.forks) ≡ c → cond (b && not c) (Some f) None ≡ Some g → (f ≡ g) × IsLeafBelow tree.forks who f
      by true below false none e = (ap fork_of e, record { lives = (in_tells tree.forks is.slotted who.tty slot f at).0; below = below; leaf = no_inferior f none })
      by true below true none e = absurd (cc e)
      by false below true none e = absurd (cc e)
      by false below false none e = absurd (cc e)

  leaf_passes : (f : Fork) → IsLeafBelow tree.forks who f → leaf_below tree.forks who f ≡ Some f
  leaf_passes f leaf =
      ap (λ b. cond (b && not (list_any (is_inferior tree.forks f.name) (map.keys tree.forks))) (Some f) None) leaf.below
      ∙ ap (λ b. cond (not b) (Some f) None) (none_of (is_inferior tree.forks f.name) (map.keys tree.forks) leaf.leaf)

  found : (n : ℕ) (f : Fork) → last_up_to tree.forks who n ≡ Some f → IsLeafBelow tree.forks who f
  found zero f e = absurd (cc e)
  found (suc n) f e = by (fork_in tree.forks who.tty (suc n)) refl e (found n f)
    where
      by : (o : Option Fork) → fork_in tree.forks who.tty (suc n) ≡ o → option_or (option_and_then (leaf_below tree.forks who) o) (last_up_to tree.forks who n) ≡ Some f
          → (last_up_to tree.forks who n ≡ Some f → IsLeafBelow tree.forks who f) → IsLeafBelow tree.forks who f
      by None at h rest = rest h
      by (Some g) at h rest = whether (leaf_below tree.forks who g) refl h
        where
          whether : (l : Option Fork) → leaf_below tree.forks who g ≡ l → option_or l (last_up_to tree.forks who n) ≡ Some f → IsLeafBelow tree.forks who f
          whether None passes i = rest i
          whether (Some k) passes i =
              let leaf = leaf_is g (suc n) k at passes in
              let same : k ≡ f = cc i in
              subst (IsLeafBelow tree.forks who) (leaf.0 ∙ same) leaf.1

  none_found : (n : ℕ) → last_up_to tree.forks who n ≡ None → (slot : ℕ) (f : Fork) → 1 ≤ slot → slot ≤ n → fork_in tree.forks who.tty slot ≡ Some f → IsLeafBelow tree.forks who f → ⊥
  none_found zero e slot f some few at leaf = absurd (omega (arith, some, few))
  none_found (suc n) e slot f some few at leaf = by (fork_in tree.forks who.tty (suc n)) refl e (λ h low. none_found n h slot f some low at leaf)
    where
      itself : (g : Fork) → fork_in tree.forks who.tty (suc n) ≡ Some g → slot ≡ suc n → leaf_below tree.forks who g ≡ None → ⊥
      itself g there same none =
          let one : Some g ≡ Some f = sym there ∙ ap (fork_in tree.forks who.tty) (sym same) ∙ at in
          let fork : g ≡ f = cc one in
          cc (sym none ∙ ap (leaf_below tree.forks who) fork ∙ leaf_passes f leaf)

      by : (o : Option Fork) → fork_in tree.forks who.tty (suc n) ≡ o → option_or (option_and_then (leaf_below tree.forks who) o) (last_up_to tree.forks who n) ≡ None
          → (last_up_to tree.forks who n ≡ None → slot ≤ n → ⊥) → ⊥
      by None there h rest = elim (below_or_last slot n few) [
        | inl low ↦ rest h low
        | inr same ↦ cc (sym there ∙ ap (fork_in tree.forks who.tty) (sym same) ∙ at)
      ]
      by (Some g) there h rest = whether (leaf_below tree.forks who g) refl h
        where
          whether : (l : Option Fork) → leaf_below tree.forks who g ≡ l → option_or l (last_up_to tree.forks who n) ≡ None → ⊥
          whether (Some k) passes i = cc i
          whether None passes i = elim (below_or_last slot n few) [ inl low ↦ rest i low | inr same ↦ itself g there same passes ]

  pub last_is_leaf : (f : Fork) → last_below tree.forks who ≡ Some f → IsLeafBelow tree.forks who f
  unfolding last_below
  last_is_leaf f e = found MOST_FORKS f e

  -- where none is found, there is no inferior
  pub none_below : last_below tree.forks who ≡ None → HasNoInferior tree.forks who
  unfolding last_below
  none_below e = leafless tree is who (λ g tty leaf.
      none_found MOST_FORKS e g.slot g (is.slotted.first g leaf.lives) (is.slotted.last g leaf.lives) (in_found tree.forks is.slotted who.tty g.slot g (leaf.lives, tty, refl)) leaf)

  -- the one that is found is in the highest slot of all such
  highest : (n : ℕ) (f : Fork) → last_up_to tree.forks who n ≡ Some f → (slot : ℕ) (g : Fork) → slot ≤ n → fork_in tree.forks who.tty slot ≡ Some g → IsLeafBelow tree.forks who g → slot ≤ f.slot
  highest zero f e slot g few at leaf = absurd (cc e)
  highest (suc n) f e slot g few at leaf = by (fork_in tree.forks who.tty (suc n)) refl e (λ h low. highest n f h slot g low at leaf)
    where
      by : (o : Option Fork) → fork_in tree.forks who.tty (suc n) ≡ o → option_or (option_and_then (leaf_below tree.forks who) o) (last_up_to tree.forks who n) ≡ Some f
          → (last_up_to tree.forks who n ≡ Some f → slot ≤ n → slot ≤ f.slot) → slot ≤ f.slot
      by None there h rest = elim (below_or_last slot n few) [
        | inl low ↦ rest h low
        | inr same ↦ absurd (cc (sym there ∙ ap (fork_in tree.forks who.tty) (sym same) ∙ at))
      ]
      by (Some k) there h rest = whether (leaf_below tree.forks who k) refl h
        where
          whether : (l : Option Fork) → leaf_below tree.forks who k ≡ l → option_or l (last_up_to tree.forks who n) ≡ Some f → slot ≤ f.slot
          whether (Some l) passes i =
              let own = leaf_is k (suc n) l there passes in
              let same : l ≡ f = cc i in
              let high : k.slot ≡ suc n = (in_tells tree.forks is.slotted who.tty (suc n) k there).2 in
              let up : k.slot ≡ f.slot = ap (λ (x : Fork). x.slot) (own.0 ∙ same) in
              omega (arith, few, high, up)
          whether None passes i = elim (below_or_last slot n few) [
            | inl low ↦ rest i low
            | inr same ↦
                let one : Some k ≡ Some g = sym there ∙ ap (fork_in tree.forks who.tty) (sym same) ∙ at in
                let fork : k ≡ g = cc one in
                absurd (cc (sym passes ∙ ap (leaf_below tree.forks who) fork ∙ leaf_passes g leaf))
          ]

  -- an inferior is of its superior's job
  leaf_job : (f : Fork) → IsLeafBelow tree.forks who f → f.name.tty.0 ≡ who.tty.0
  leaf_job f leaf = (inferior_over tree is who f leaf.lives leaf.below).2

  leaf_there : (f : Fork) → IsLeafBelow tree.forks who f → fork_in tree.forks who.tty f.slot ≡ Some f
  leaf_there f leaf = in_found tree.forks is.slotted who.tty f.slot f (leaf.lives, leaf_job f leaf, refl)

  -- a search that tells the same finds the same
  pub last_is : (name : ForkName) (last : IsLastBelow tree.forks who name) → last_below tree.forks who ≡ Some last.fork
  unfolding last_below
  last_is name last = by (last_up_to tree.forks who MOST_FORKS) refl
    where
      low : last.fork.slot ≤ MOST_FORKS
      low = is.slotted.last last.fork last.leaf.lives

      by : (o : Option Fork) → last_up_to tree.forks who MOST_FORKS ≡ o → o ≡ Some last.fork
      by None e = absurd (none_found MOST_FORKS e last.fork.slot last.fork (is.slotted.first last.fork last.leaf.lives) low (leaf_there last.fork last.leaf) last.leaf)
      by (Some f) e =
          let leaf = found MOST_FORKS f e in
          let up = highest MOST_FORKS f e last.fork.slot last.fork low (leaf_there last.fork last.leaf) last.leaf in
          let down = last.last f leaf in
          let slot : f.slot ≡ last.fork.slot = omega (arith, up, down) in
          ap (λ (x : Fork). Some x) (is.slotted.once who.tty last.fork.slot f last.fork (leaf.lives, leaf_job f leaf, slot) (last.leaf.lives, leaf_job last.fork last.leaf, refl))

  -- and none where there is none
  pub last_none : HasNoInferior tree.forks who → last_below tree.forks who ≡ None
  last_none none = by (last_below tree.forks who) refl
    where
      by : (o : Option Fork) → last_below tree.forks who ≡ o → o ≡ None
      by None e = refl
      by (Some f) e = let leaf = last_is_leaf f e in absurd (let no : false ≡ true = sym (none f.name) ∙ leaf.below in cc no)
