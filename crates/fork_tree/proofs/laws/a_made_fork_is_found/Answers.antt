use Rattle.std.proofs.Common.{◌≡◌, ◌∙◌, ap, sym, refl, Option, Some, None, Ok, Err, ℕ}
use Rattle.std.specs.Option.{option_map_or}
use Rattle.std.specs.FinMap as map
use Rattle.plain_model.specs.Forks.{fork_in}
use Rattle.machine_names.specs.declared.names.Tty.{Tty}
use Rattle.machine_names.specs.declared.names.ForkName.{ForkName}
use Rattle.machine_names.specs.declared.names.TheConstants.{MOST_FORKS}
use Rattle.plain_model.specs.Trees.{free_slot, new_fork, next_name, PlainTree}
use Rattle.fork_tree.specs.declared.tree.NoFork.TheVariants.{ForksFull}
use Rattle.fork_tree.specs.Making.{room_for, with_new, with_new_in}
use Rattle.fork_tree.specs.Trees.{IsTree}
use Rattle.fork_tree.proofs.Kept.{free_none, full_room, name_unused}
use Rattle.fork_tree.proofs.Ranges.{first_tells}
use Rattle.fork_tree.proofs.Slots.{get_put, get_put_other, in_found}
use Rattle.fork_tree.proofs.laws.a_made_fork_is_found.Goals as goal
use Rattle.plain_model.proofs.Shorthands.{is_free}

-- a job with room has a free slot
has_free : (tree : PlainTree) (t : Tty) → room_for tree t ≡ Ok tt → (slot : ℕ) × (free_slot tree.forks t ≡ Some slot)
has_free tree t e = by (free_slot tree.forks t) refl
  where
    by : (o : Option ℕ) → free_slot tree.forks t ≡ o → (slot : ℕ) × (free_slot tree.forks t ≡ Some slot)
    by None is = let h : Err ForksFull ≡ Ok tt = sym (full_room tree t is) ∙ e in absurd (cc h)
    by (Some slot) is = (slot, is)

free_is : (tree : PlainTree) (t : Tty) (slot : ℕ) → free_slot tree.forks t ≡ Some slot → fork_in tree.forks t slot ≡ None
unfolding free_slot
free_is tree t slot e = free_none (fork_in tree.forks t slot) (first_tells (is_free tree.forks t) 1 MOST_FORKS slot e).2

made_is : (tree : PlainTree) (t : Tty) (superior : Option ℕ) (slot : ℕ) → free_slot tree.forks t ≡ Some slot → with_new tree t superior ≡ with_new_in tree t superior slot
made_is tree t superior slot e = ap (λ o. option_map_or (with_new_in tree t superior) o tree) e

found_there : (old new : PlainTree) (t : Tty) (superior : Option ℕ) (name : ForkName) (slot : ℕ) → IsTree old → IsTree new → free_slot old.forks t ≡ Some slot → name ≡ next_name old t → new ≡ with_new old t superior
    → (map.get new.forks name ≡ Some (new_fork name slot superior)) × (fork_in new.forks t slot ≡ Some (new_fork name slot superior)) × (map.get old.forks name ≡ None) × (fork_in old.forks t slot ≡ None)
found_there old new t superior name slot is is' free named made =
    let new_is : new ≡ with_new_in old t superior slot = made ∙ made_is old t superior slot free in
    let there : map.get new.forks name ≡ Some (new_fork name slot superior) =
    ap (λ tree. map.get tree.forks name) new_is ∙ (get_put old.forks (next_name old t) name (new_fork (next_name old t) slot superior) named ∙ ap (λ n. Some (new_fork n slot superior)) (sym named)) in
    (there, in_found new.forks is'.slotted t slot (new_fork name slot superior) (there, ap (λ (n : ForkName). n.tty.0) named, refl), ap (map.get old.forks) named ∙ name_unused old t is, free_is old t slot free)

pub returns-clause-found : goal.returns-clause-found
returns-clause-found c = λ old new t superior name is is' made.
    let free = has_free old t made.0 in
    let r = found_there old new t superior name free.0 is is' free.1 made.1 made.2 in
    (free.0, r.0, r.1, r.2, r.3)

others_stay : (old : PlainTree) (t : Tty) (superior : Option ℕ) (q : ForkName) (o : Option ℕ) → (q ≡ next_name old t → ⊥) → map.get (option_map_or (with_new_in old t superior) o old).forks q ≡ map.get old.forks q
others_stay old t superior q None ne = refl
others_stay old t superior q (Some slot) ne = get_put_other old.forks (next_name old t) q (new_fork (next_name old t) slot superior) ne

pub returns-clause-others : goal.returns-clause-others
returns-clause-others c = λ old new t superior name made q ne.
    ap (λ tree. map.get tree.forks q) made.2 ∙ others_stay old t superior q (free_slot old.forks t) (λ e. ne (e ∙ sym made.1))
