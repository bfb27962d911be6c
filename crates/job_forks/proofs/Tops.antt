-- Top forks that live on, in their slots.
use Rattle.std.proofs.Common.{◌≡◌, ◌≢◌, ℕ, true, Option, None, Some, sym, ◌∙◌, ap, inl, inr}
use Rattle.std.specs.Option.{option_and_then, option_map}
use Rattle.std.specs.FinMap as map
use Rattle.machine_names.specs.declared.names.ForkName.{ForkName}
use Rattle.machine_names.specs.declared.names.TheConstants.{MOST_FORKS}
use Rattle.plain_model.specs.declared.fork.Fork.{Fork}
use Rattle.plain_model.specs.Forks.{ForkMap, fork_in}
use Rattle.machine_names.specs.Orders.{same_fork}
use Rattle.plain_model.specs.Inferiors.{is_inferior}
use Rattle.plain_model.specs.Trees.{PlainTree}
use Rattle.plain_model.proofs.ForkMaps.{cases_name, get_gone_other, get_put_other}
use Rattle.fork_tree.specs.Trees.{IsTree, above}
use Rattle.fork_tree.proofs.Leaves.{inferior_is, inferior_lives}
use Rattle.fork_tree.proofs.Slots.{held_lives}
use Rattle.fork_tree.proofs.Upward.{any_ancestor}
use Rattle.job_forks.specs.Holding.{SamePlaces, TopsStay}

abbrev slot_of : Option Fork → Option ℕ
slot_of o = option_map (λ f. f.slot) o

-- where the places are the same
pub same_tops : (old new : ForkMap) → SamePlaces old new → TopsStay old new
same_tops old new same = λ name top. same name ∙ top

pub tops_on : (a b c : ForkMap) → TopsStay a b → TopsStay b c → TopsStay a c
tops_on a b c first second = λ name top. second name (first name top)

-- where a fork is made under a name that nobody has
pub made_tops : (forks : ForkMap) (f : Fork) → map.get forks f.name ≡ None → TopsStay forks (map.insert forks f.name f)
made_tops forks f absent = λ name top. elim (cases_name name f.name) [
  | inl same ↦ absurd (let no : None ≡ Some 1 = sym (ap slot_of (ap (map.get forks) same ∙ absent)) ∙ top in cc no)
  | inr ne ↦ ap slot_of (get_put_other forks f.name name f ne) ∙ top
]

-- where one goes that is no top fork
pub gone_tops : (forks : ForkMap) (name : ForkName) → slot_of (map.get forks name) ≢ Some 1 → TopsStay forks (map.remove forks name)
gone_tops forks name low = λ q top. elim (cases_name q name) [
  | inl same ↦ absurd (low (ap (λ (n : ForkName). slot_of (map.get forks n)) (sym same) ∙ top))
  | inr ne ↦ ap slot_of (get_gone_other forks name q ne) ∙ top
]

-- an inferior is no top fork
pub below_low : (tree : PlainTree) → IsTree tree → (who name : ForkName) → is_inferior tree.forks who name ≡ true → slot_of (map.get tree.forks name) ≢ Some 1
below_low tree is who name below = λ top.
    let f = inferior_lives tree is who name below in
    let over = any_ancestor tree is (λ k. same_fork k.name who) MOST_FORKS f.0 (sym (inferior_is tree.forks who name f.0 f.1) ∙ below) in
    let slot : Some f.0.slot ≡ Some 1 = sym (ap slot_of f.1) ∙ top in
    let none : f.0.superior ≡ None = (is.tops f.0 (held_lives tree.forks is.slotted name f.0 f.1)).1 (cc slot) in
    let no : None ≡ Some over.0 = sym (ap (λ o. option_and_then (above over.1.0 tree.forks) (option_and_then (fork_in tree.forks f.0.name.tty) o)) none) ∙ over.1.1 in
    cc no
