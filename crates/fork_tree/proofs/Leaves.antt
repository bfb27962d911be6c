-- Inferiors, and forks without any.
use Rattle.std.proofs.Common.{◌≡◌, ℕ, zero, suc, ◌+◌, ◌≤◌, Bool, true, false, ◌||◌, get_or, Option, None, Some, refl, sym, ◌∙◌, ap, arith, inl, inr}
use Rattle.std.specs.Prelude.{nat_eq}
use Rattle.std.specs.List.{find, range_with_len}
use Rattle.std.specs.Option.{option_and_then, option_eq, option_map_or}
use Rattle.std.proofs.lemmas.Bool.{cases_Bool, eq-eqb, eqb-true}
use Rattle.std.specs.FinMap as map
use Rattle.plain_model.specs.Forks.{ForkMap, fork_in, superior_of}
use Rattle.machine_names.specs.Orders.{same_fork}
use Rattle.machine_names.specs.declared.names.ForkName.{ForkName}
use Rattle.machine_names.specs.declared.names.TheConstants.{MOST_FORKS}
use Rattle.plain_model.specs.declared.fork.Fork.{Fork}
use Rattle.plain_model.specs.Inferiors.{is_inferior, is_within}
use Rattle.plain_model.specs.Trees.{PlainTree, next_serial}
use Rattle.fork_tree.specs.Inferiors.{HasNoInferior, IsLeafBelow}
use Rattle.fork_tree.specs.Trees.{IsTree, Lives, above}
use Rattle.fork_tree.proofs.Kept.{IsNobodysSuperior}
use Rattle.fork_tree.proofs.Ranges.{first_tells, none_tells}
use Rattle.fork_tree.proofs.Slots.{held_lives, in_found, in_tells, names_same, same_itself}
use Rattle.fork_tree.proofs.Upward.{ancestor_lives, any_ancestor, any_enough, or_true, superior_in, superior_lives}

-- whether a fork that lives is an inferior
pub inferior_is : (forks : ForkMap) (who name : ForkName) (f : Fork) → map.get forks name ≡ Some f → is_inferior forks who name ≡ is_within MOST_FORKS forks who (superior_of forks f)
unfolding is_inferior
inferior_is forks who name f e = ap (λ o. option_map_or (λ k. is_within MOST_FORKS forks who (superior_of forks k)) o false) e

pub inferior_none : (forks : ForkMap) (who name : ForkName) → map.get forks name ≡ None → is_inferior forks who name ≡ false
unfolding is_inferior
inferior_none forks who name e = ap (λ o. option_map_or (λ k. is_within MOST_FORKS forks who (superior_of forks k)) o false) e

module _ (tree : PlainTree) (is : IsTree tree) (f g : Fork) (lives : Lives tree.forks f) where
  -- a fork has another as its superior where it names the other's slot in the same job
  pub slot_superior : g.name.tty.0 ≡ f.name.tty.0 → g.superior ≡ Some f.slot → superior_of tree.forks g ≡ Some f
  slot_superior t s = ap (option_and_then (fork_in tree.forks g.name.tty)) s ∙ in_found tree.forks is.slotted g.name.tty f.slot f (lives, sym t, refl)

  pub superior_slot : superior_of tree.forks g ≡ Some f → (g.name.tty.0 ≡ f.name.tty.0) × (g.superior ≡ Some f.slot)
  superior_slot e = let s = superior_in tree is g f e in (sym s.2.1, s.1 ∙ ap Some (sym s.2.2))

  -- what stands below a fork's superior, or is the superior's inferior, is below it too
  pub inferior_below : (who : ForkName) → Lives tree.forks g → superior_of tree.forks g ≡ Some f → is_inferior tree.forks who f.name ≡ true → is_inferior tree.forks who g.name ≡ true
  inferior_below who there over below =
      let up : is_within MOST_FORKS tree.forks who (superior_of tree.forks f) ≡ true = sym (inferior_is tree.forks who f.name f lives) ∙ below in
      inferior_is tree.forks who g.name g there
      ∙ (any_enough tree is (λ k. same_fork k.name who) g f there over ∙ or_true (same_fork f.name who) (is_within MOST_FORKS tree.forks who (superior_of tree.forks f)) up)

-- whether two options of numbers are one
pub number_same : (o : Option ℕ) (n : ℕ) → option_eq nat_eq o (Some n) ≡ true → o ≡ Some n
number_same None n e = absurd (cc e)
number_same (Some k) n e = ap Some (eqb-true k n e)

pub number_alike : (o : Option ℕ) (n : ℕ) → o ≡ Some n → option_eq nat_eq o (Some n) ≡ true
number_alike o n e = ap (λ x. option_eq nat_eq x (Some n)) e ∙ eq-eqb n n refl

module _ (tree : PlainTree) (is : IsTree tree) where
  -- the fork of which one is an inferior lives, in the same job
  pub inferior_over : (who : ForkName) (f : Fork) → Lives tree.forks f → is_inferior tree.forks who f.name ≡ true → (g : Fork) × (map.get tree.forks who ≡ Some g) × (f.name.tty.0 ≡ who.tty.0)
  inferior_over who f lives below =
      let p = λ (k : Fork). same_fork k.name who in
      let a = any_ancestor tree is p MOST_FORKS f (sym (inferior_is tree.forks who f.name f lives) ∙ below) in
      let over = ancestor_lives tree is p a.1.0 f a.0 lives a.1.1 in
      let name : a.0.name ≡ who = names_same a.0.name who a.2 in
      (a.0, ap (map.get tree.forks) (sym name) ∙ over.0, sym over.1 ∙ ap (λ (n : ForkName). n.tty.0) name)

  -- a fork that is an inferior lives
  pub inferior_lives : (who name : ForkName) → is_inferior tree.forks who name ≡ true → (f : Fork) × (map.get tree.forks name ≡ Some f)
  inferior_lives who name below = by (map.get tree.forks name) refl
    where
      by : (o : Option Fork) → map.get tree.forks name ≡ o → (f : Fork) × (map.get tree.forks name ≡ Some f)
      by None e = let none = inferior_none tree.forks who name e in absurd (cc (none, below))
      by (Some f) e = (f, e)

  -- the fork below an ancestor on the way to it
  last_step : (n : ℕ) (f g : Fork) → Lives tree.forks f → above (suc n) tree.forks f ≡ Some g → (k : Fork) × Lives tree.forks k × (superior_of tree.forks k ≡ Some g)
  last_step zero f g lives e = by (superior_of tree.forks f) refl e
    where
      by : (o : Option Fork) → superior_of tree.forks f ≡ o → option_and_then (above 0 tree.forks) o ≡ Some g → (k : Fork) × Lives tree.forks k × (superior_of tree.forks k ≡ Some g)
      by None is_none found = absurd (cc found)
      by (Some h) is_some found = (f, lives, is_some ∙ found)
  last_step (suc n) f g lives e = by (λ h there found. last_step n h g there found) (superior_of tree.forks f) refl e
    where
      by : ((h : Fork) → Lives tree.forks h → above (suc n) tree.forks h ≡ Some g → (k : Fork) × Lives tree.forks k × (superior_of tree.forks k ≡ Some g))
          → (o : Option Fork) → superior_of tree.forks f ≡ o → option_and_then (above (suc n) tree.forks) o ≡ Some g → (k : Fork) × Lives tree.forks k × (superior_of tree.forks k ≡ Some g)
      by rest None is_none found = absurd (cc found)
      by rest (Some h) is_some found = rest h (superior_lives tree is f h lives is_some).0 found

  -- who is nobody's superior has no inferior, and who has none is nobody's superior
  pub nobody_below : (f : Fork) → Lives tree.forks f → IsNobodysSuperior tree.forks f → HasNoInferior tree.forks f.name
  nobody_below f lives alone = λ name. elim (cases_Bool (is_inferior tree.forks f.name name)) [
    | inr fails ↦ fails
    | inl below ↦
        let g = inferior_lives f.name name below in
        let there = held_lives tree.forks is.slotted name g.0 g.1 in
        let p = λ (k : Fork). same_fork k.name f.name in
        let a = any_ancestor tree is p MOST_FORKS g.0 (sym (inferior_is tree.forks f.name name g.0 g.1) ∙ below) in
        let last = last_step a.1.0 g.0 a.0 there a.1.1 in
        let over = ancestor_lives tree is p a.1.0 g.0 a.0 there a.1.1 in
        let both : Some a.0 ≡ Some f = sym over.0 ∙ (ap (map.get tree.forks) (names_same a.0.name f.name a.2) ∙ lives) in
        absurd (alone last.0 last.1 (last.2 ∙ both))
  ]

  pub nobodys_superior : (f : Fork) → Lives tree.forks f → HasNoInferior tree.forks f.name → IsNobodysSuperior tree.forks f
  nobodys_superior f lives none = λ g there over.
      let below : is_inferior tree.forks f.name g.name ≡ true =
      inferior_is tree.forks f.name g.name g there
      ∙ (any_enough tree is (λ k. same_fork k.name f.name) g f there over ∙ ap (λ b. b || is_within MOST_FORKS tree.forks f.name (superior_of tree.forks f)) (same_itself f.name)) in
      let fails = none g.name in
      absurd (cc (below, fails))

  -- whether the fork in a slot of a fork's job has that fork as its superior
  abbrev under_in : Fork → ℕ → Bool
  under_in f slot = option_map_or (λ g. option_eq nat_eq g.superior (Some f.slot)) (fork_in tree.forks f.name.tty slot) false

  under_is : (f : Fork) (slot : ℕ) (o : Option Fork) → fork_in tree.forks f.name.tty slot ≡ o → under_in f slot ≡ option_map_or (λ g. option_eq nat_eq g.superior (Some f.slot)) o false
  under_is f slot o e = ap (λ x. option_map_or (λ (g : Fork). option_eq nat_eq g.superior (Some f.slot)) x false) e

  pub under_none : (f : Fork) → Lives tree.forks f → find (under_in f) (range_with_len 1 MOST_FORKS) ≡ None → IsNobodysSuperior tree.forks f
  under_none f lives none = λ g there over.
      let s = superior_slot tree is f g lives over in
      let fails = none_tells (under_in f) 1 MOST_FORKS none g.slot (is.slotted.first g there) (omega (arith, is.slotted.last g there)) in
      let passes : under_in f g.slot ≡ true = under_is f g.slot (Some g) (in_found tree.forks is.slotted f.name.tty g.slot g (there, s.0, refl)) ∙ number_alike g.superior f.slot s.1 in
      absurd (cc (fails, passes))

  pub under_some : (f : Fork) (slot : ℕ) → Lives tree.forks f → under_in f slot ≡ true → (g : Fork) × Lives tree.forks g × (superior_of tree.forks g ≡ Some f)
  under_some f slot lives passes = by (fork_in tree.forks f.name.tty slot) refl
    where
      by : (o : Option Fork) → fork_in tree.forks f.name.tty slot ≡ o → (g : Fork) × Lives tree.forks g × (superior_of tree.forks g ≡ Some f)
      by None e = let none = under_is f slot None e in absurd (cc (none, passes))
      by (Some g) e =
          let is_in = in_tells tree.forks is.slotted f.name.tty slot g e in
          (g, is_in.0, slot_superior tree is f g lives is_in.1 (number_same g.superior f.slot (sym (under_is f slot (Some g) e) ∙ passes)))

  -- below whom there is an inferior, there is one without inferiors
  pub leaf_lives : (who : ForkName) (n : ℕ) (f : Fork) → Lives tree.forks f → is_inferior tree.forks who f.name ≡ true → next_serial tree f.name.tty ≤ f.name.serial + n → (g : Fork) × IsLeafBelow tree.forks who g
  leaf_lives who zero f lives below far = absurd (omega (arith, is.old f lives, far))
  leaf_lives who (suc n) f lives below far = by (leaf_lives who n) (find (under_in f) (range_with_len 1 MOST_FORKS)) refl
    where
      by : ((g : Fork) → Lives tree.forks g → is_inferior tree.forks who g.name ≡ true → next_serial tree g.name.tty ≤ g.name.serial + n → (h : Fork) × IsLeafBelow tree.forks who h)
          → (o : Option ℕ) → find (under_in f) (range_with_len 1 MOST_FORKS) ≡ o → (g : Fork) × IsLeafBelow tree.forks who g
      by rest None e = (f, record { lives = lives; below = below; leaf = nobody_below f lives (under_none f lives e) })
      by rest (Some slot) e =
          let u = under_some f slot lives (first_tells (under_in f) 1 MOST_FORKS slot e).2 in
          let s = superior_lives tree is u.0 f u.1 u.2 in
          rest u.0 u.1 (inferior_below tree is f u.0 lives who u.1 u.2 below) (omega (arith, far, s.2, ap (λ k. get_or tree.serials k 0) s.1))

  -- a fork without a leaf below it has no inferior
  pub leafless : (who : ForkName) → ((g : Fork) → g.name.tty.0 ≡ who.tty.0 → IsLeafBelow tree.forks who g → ⊥) → (name : ForkName) → is_inferior tree.forks who name ≡ false
  leafless who none name = elim (cases_Bool (is_inferior tree.forks who name)) [
    | inr fails ↦ fails
    | inl below ↦
        let f = inferior_lives who name below in
        let lives = held_lives tree.forks is.slotted name f.0 f.1 in
        let here : is_inferior tree.forks who f.0.name ≡ true = ap (is_inferior tree.forks who) (is.slotted.own name f.0 f.1) ∙ below in
        let g = leaf_lives who (next_serial tree f.0.name.tty) f.0 lives here (omega arith) in
        absurd (none g.0 (inferior_over who g.0 g.1.lives g.1.below).2 g.1)
  ]

  -- nor has one that does not live
  pub none_below : (who name : ForkName) → map.get tree.forks who ≡ None → is_inferior tree.forks who name ≡ false
  none_below who name gone = leafless who (λ g tty leaf. let over = inferior_over who g leaf.lives leaf.below in let h : None ≡ Some over.0 = sym gone ∙ over.1 in cc h) name
