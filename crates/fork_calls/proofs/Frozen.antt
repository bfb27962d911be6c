-- Which forks are frozen, where one of them has another body.
use Rattle.std.proofs.Common.{◌≡◌, ℕ, zero, suc, ◌||◌, Option, None, Some, refl, sym, ◌∙◌, ap, subst, inl, inr}
use Rattle.std.specs.Option.{option_and_then}
use Rattle.std.specs.FinMap as map
use Rattle.plain_model.specs.declared.fork.Fork.{Fork}
use Rattle.machine_names.specs.declared.names.Tty.{Tty}
use Rattle.plain_model.specs.Forks.{ForkMap, fork_in, is_frozen, superior_of}
use Rattle.plain_model.specs.Trees.{PlainTree}
use Rattle.fork_tree.specs.Trees.{AreSlotted, IsTree, Lives}
use Rattle.fork_tree.proofs.Kept.{changed_tree}
use Rattle.fork_tree.proofs.Slots.{cases_name, get_put, get_put_other, in_found, in_none, in_tells}

module _ (tree : PlainTree) (trees : IsTree tree) (f f' : Fork) (lives : Lives tree.forks f) (name : f'.name ≡ f.name) (slot : f'.slot ≡ f.slot) (superior : f'.superior ≡ f.superior) (mark : f'.frozen ≡ f.frozen) where
  abbrev others : ForkMap
  others = map.insert tree.forks f.name f'

  slotted : AreSlotted others
  slotted = (changed_tree tree f f' trees lives name slot superior).slotted

  -- a fork as it was and as it is
  record Both (k g : Fork) : Type 0 where
    pub was : Lives tree.forks k
    pub now : Lives others g
    pub names : g.name ≡ k.name
    pub slots : g.slot ≡ k.slot
    pub superiors : g.superior ≡ k.superior
    pub marks : g.frozen ≡ k.frozen

  -- what looks find, as it was and as it is
  abbrev Alike : Option Fork → Option Fork → Type 0
  Alike None None = Unit {0}
  Alike None (Some g) = ⊥
  Alike (Some k) None = ⊥
  Alike (Some k) (Some g) = Both k g

  own_now : Lives others f'
  own_now = get_put tree.forks f.name f'.name f' name

  now_of : (k : Fork) → Lives tree.forks k → (g : Fork) × Both k g
  now_of k e = elim (cases_name k.name f.name) [
    | inl same ↦
        let h : Some f ≡ Some k = sym lives ∙ (ap (map.get tree.forks) (sym same) ∙ e) in
        let is_k : f ≡ k = cc h in
        subst (λ x. (g : Fork) × Both x g) is_k (f', record { was = lives; now = own_now; names = name; slots = slot; superiors = superior; marks = mark })
    | inr ne ↦ (k, record { was = e; now = get_put_other tree.forks f.name k.name f' ne ∙ e; names = refl; slots = refl; superiors = refl; marks = refl })
  ]

  was_of : (g : Fork) → Lives others g → (k : Fork) × Both k g
  was_of g e = elim (cases_name g.name f.name) [
    | inl same ↦
        let h : Some f' ≡ Some g = sym (get_put tree.forks f.name g.name f' same) ∙ e in
        let is_g : f' ≡ g = cc h in
        subst (λ x. (k : Fork) × Both k x) is_g (f, record { was = lives; now = own_now; names = name; slots = slot; superiors = superior; marks = mark })
    | inr ne ↦ (g, record { was = sym (get_put_other tree.forks f.name g.name f' ne) ∙ e; now = e; names = refl; slots = refl; superiors = refl; marks = refl })
  ]

  in_alike : (t : Tty) (n : ℕ) → Alike (fork_in tree.forks t n) (fork_in others t n)
  in_alike t n = by (fork_in tree.forks t n) refl
    where
      by : (o : Option Fork) → fork_in tree.forks t n ≡ o → Alike o (fork_in others t n)
      by None none =
          let nobody : fork_in others t n ≡ None = in_none others slotted t n (λ g at.
          let k = was_of g at.0 in
          let there : fork_in tree.forks t n ≡ Some k.0 = in_found tree.forks trees.slotted t n k.0 (k.1.was, ap (λ x. x.tty.0) (sym k.1.names) ∙ at.1, sym k.1.slots ∙ at.2) in
          let both : None ≡ Some k.0 = sym none ∙ there in absurd (cc both)) in
          subst (Alike None) (sym nobody) tt
      by (Some k) there =
          let at = in_tells tree.forks trees.slotted t n k there in
          let g = now_of k at.0 in
          let found : fork_in others t n ≡ Some g.0 = in_found others slotted t n g.0 (g.1.now, ap (λ x. x.tty.0) g.1.names ∙ at.1, g.1.slots ∙ at.2) in
          subst (Alike (Some k)) (sym found) g.1

  superior_alike : (k g : Fork) → Both k g → Alike (superior_of tree.forks k) (superior_of others g)
  superior_alike k g both =
      subst (λ o. Alike (superior_of tree.forks k) (option_and_then (fork_in others g.name.tty) o)) (sym both.superiors)
      (subst (λ n. Alike (superior_of tree.forks k) (option_and_then (fork_in others n.tty) k.superior)) (sym both.names) (by k.superior))
    where
      by : (o : Option ℕ) → Alike (option_and_then (fork_in tree.forks k.name.tty) o) (option_and_then (fork_in others k.name.tty) o)
      by None = tt
      by (Some n) = in_alike k.name.tty n

  frozen_alike : (n : ℕ) (o p : Option Fork) → Alike o p → is_frozen n others p ≡ is_frozen n tree.forks o
  frozen_alike zero o p alike = refl
  frozen_alike (suc n) None None alike = refl
  frozen_alike (suc n) None (Some g) alike = absurd alike
  frozen_alike (suc n) (Some k) None alike = absurd alike
  frozen_alike (suc n) (Some k) (Some g) alike =
      ap (λ b. b || is_frozen n others (superior_of others g)) alike.marks
      ∙ ap (λ b. k.frozen || b) (frozen_alike n (superior_of tree.forks k) (superior_of others g) (superior_alike k g alike))

  -- the fork is frozen as it was
  pub still_frozen : (n : ℕ) → is_frozen n others (Some f') ≡ is_frozen n tree.forks (Some f)
  still_frozen n = frozen_alike n (Some f) (Some f') (record { was = lives; now = own_now; names = name; slots = slot; superiors = superior; marks = mark })

  -- and so is each other fork
  pub others_frozen : (n : ℕ) (k : Fork) → Lives tree.forks k → (k.name ≡ f.name → ⊥) → is_frozen n others (Some k) ≡ is_frozen n tree.forks (Some k)
  others_frozen n k e ne = frozen_alike n (Some k) (Some k) (record { was = e; now = get_put_other tree.forks f.name k.name f' ne ∙ e; names = refl; slots = refl; superiors = refl; marks = refl })
