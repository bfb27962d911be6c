-- Each fork that lives on is in the slot in which it was.
use Rattle.std.proofs.Common.{◌≡◌, ◌<◌, ℕ, Option, None, Some, refl, sym, ◌∙◌, ap, subst, arith, inl, inr}
use Rattle.std.specs.Option.{option_map}
use Rattle.std.specs.FinMap as map
use Rattle.machine_names.specs.declared.names.ForkName.{ForkName}
use Rattle.plain_model.proofs.ForkMaps.{AreOwn}
use Rattle.plain_model.specs.declared.fork.Fork.{Fork}
use Rattle.plain_model.specs.Forks.{ForkMap}
use Rattle.plain_model.specs.Trees.{PlainTree, next_name, next_serial}
use Rattle.fork_tree.specs.Trees.{IsTree, Lives}
use Rattle.fork_tree.proofs.Slots.{some_of}
use Rattle.job_forks.specs.Holding.{IsNew}
use Rattle.job_forks.proofs.Places.{Keep}
use Rattle.monitor_calls.specs.ForkUnit.{ComeOn}
use Rattle.turn_forms.specs.Turns.{KeepSlots}

module _ (tree : PlainTree) (trees : IsTree tree) where
  -- one that is new has a name that nobody had
  is_new : (f : ForkName) (g h : Fork) → map.get tree.forks f ≡ Some g → h.name ≡ f → IsNew tree h → h.slot ≡ g.slot
  is_new f g h was named new =
      let own : g.name ≡ f = trees.slotted.own f g was in
      let lives : Lives tree.forks g = subst (λ n. map.get tree.forks n ≡ Some g) (sym own) was in
      let same : g.name ≡ h.name = own ∙ sym named in
      let next : h.name.serial ≡ next_serial tree h.name.tty = ap (λ n. n.serial) new.name in
      absurd (omega (arith, subst (λ n. n.serial < next_serial tree n.tty) same (trees.old g lives), next))

  -- who came on, and who is new, as long as each is under its own name
  come_slots : (count : ℕ) (mid : ForkMap) → AreOwn mid → ComeOn tree count mid → KeepSlots tree.forks mid
  come_slots count mid own come f g h was is =
      let named : h.name ≡ f = own f h is in
      elim (come h (subst (λ n. map.get mid n ≡ Some h) (sym named) is)) [
        | inl c ↦ (let one : map.get tree.forks f ≡ Some c.before = subst (λ n. map.get tree.forks n ≡ Some c.before) (sym c.name ∙ named) c.lived in
            let both : Some c.before ≡ Some g = sym one ∙ was in
            let same : c.before ≡ g = cc both in c.slot ∙ ap (λ (k : Fork). k.slot) same)
        | inr new ↦ is_new f g h was named new
      ]

  -- and what keeps each in its place behind that
  pub kept_slots : (count : ℕ) (mid new : ForkMap) → AreOwn mid → ComeOn tree count mid → Keep mid new → KeepSlots tree.forks new
  kept_slots count mid new own come keep f g h was is =
      let place : option_map (λ (k : Fork). k.slot) (map.get mid f) ≡ Some h.slot = sym (keep.same f) ∙ ap (option_map (λ (k : Fork). k.slot)) is in
      by (map.get mid f) refl place
    where
      by : (o : Option Fork) → map.get mid f ≡ o → option_map (λ (k : Fork). k.slot) o ≡ Some h.slot → h.slot ≡ g.slot
      by None none there = absurd (cc there)
      by (Some k) found there = let same : k.slot ≡ h.slot = cc there in sym same ∙ come_slots count mid own come f g k was found
