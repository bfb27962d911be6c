-- Forks by name, and by slot.
use Rattle.std.proofs.Common.{◌≡◌, ℕ, true, false, Option, None, Some, refl, sym, ◌∙◌, ap}
use Rattle.std.specs.Prelude.{IsSome, is_some}
use Rattle.std.specs.FinMap as map
use Rattle.machine_names.specs.Orders.{fork_cmp, same_fork}
use Rattle.plain_model.specs.Forks.{ForkMap, fork_in}
use Rattle.machine_names.specs.declared.names.Tty.{Tty}
use Rattle.machine_names.specs.declared.names.ForkName.{ForkName}
use Rattle.plain_model.specs.declared.fork.Fork.{Fork}
use Rattle.machine_names.proofs.OrderLemmas.{fork_cmp_total}
use Rattle.plain_model.proofs.Values.{found_only}
use Rattle.plain_model.proofs.ForkMaps.{at_numbers, is_at, numbers_at, slot_tells}
pub use Rattle.plain_model.proofs.ForkMaps.{both_first, both_second, names_same, same_itself, name_numbers, tied, untied, cases_name, get_put, get_put_other, get_gone, get_gone_other, same_forks}
use Rattle.fork_tree.specs.Trees.{AreSlotted, IsIn, Lives}

-- of forks that have slots of their own, the one in a slot is found, and only that
module _ (m : ForkMap) (slotted : AreSlotted m) where
  pub held_lives : (k : ForkName) (f : Fork) → map.get m k ≡ Some f → Lives m f
  held_lives k f e = ap (map.get m) (slotted.own k f e) ∙ e

  pub in_tells : (t : Tty) (slot : ℕ) (f : Fork) → fork_in m t slot ≡ Some f → IsIn m t slot f
  in_tells t slot f e = slot_tells m slotted.own t slot f e

  pub in_found : (t : Tty) (slot : ℕ) (f : Fork) → IsIn m t slot f → fork_in m t slot ≡ Some f
  in_found t slot f is =
      found_only fork_cmp fork_cmp_total (is_at t slot) f (numbers_at t slot f is.1 is.2) m f.name is.0
      (λ k x there passes. let at = at_numbers t slot x passes in slotted.once t slot x f (held_lives k x there, at.0, at.1) is)

  pub in_none : (t : Tty) (slot : ℕ) → ((f : Fork) → IsIn m t slot f → ⊥) → fork_in m t slot ≡ None
  in_none t slot none = by (fork_in m t slot) refl
    where
      by : (o : Option Fork) → fork_in m t slot ≡ o → o ≡ None
      by None e = refl
      by (Some f) e = absurd (none f (in_tells t slot f e))

  -- the fork in the slot that the fork of a name would have is that fork, if it has the name
  pub named_in : (q : ForkName) (slot : ℕ) (o : Option Fork) → ((f : Fork) → map.get m q ≡ Some f → slot ≡ f.slot) → o ≡ fork_in m q.tty slot
      → ((f : Fork) → o ≡ Some f → same_fork f.name q ≡ false) → None ≡ map.get m q
  named_in q slot o slot_is found other = by (map.get m q) refl
    where
      by : (p : Option Fork) → map.get m q ≡ p → None ≡ p
      by None e = refl
      by (Some f) e =
          let name = slotted.own q f e in
          let there : fork_in m q.tty slot ≡ Some f = in_found q.tty slot f (held_lives q f e, ap (λ n. n.tty.0) name, sym (slot_is f e)) in
          let no : same_fork f.name q ≡ false = other f (found ∙ there) in
          let yes : same_fork f.name q ≡ true = ap (λ n. same_fork n q) name ∙ same_itself q in
          absurd (cc (no, yes))

-- the value that is there
pub some_of : {X : Type 0} (o : Option X) → IsSome o → (x : X) × (o ≡ Some x)
some_of None h = absurd (cc h)
some_of (Some x) h = (x, refl)

-- a place in which nothing is
pub empty_of : {X : Type 0} (o : Option X) → is_some o ≡ false → o ≡ None
empty_of None h = refl
empty_of (Some x) h = absurd (cc h)
