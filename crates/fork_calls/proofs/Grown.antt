-- A tree with the fork that CFORK makes.
use Rattle.std.proofs.Common.{◌≡◌, ℕ, Bool, true, false, cond, List, Option, None, Some, Result, Ok, Err, refl, sym, ◌∙◌, ap}
use Rattle.std.specs.Prelude.{is_none, nat_lt}
use Rattle.std.specs.Option.{option_map, option_map_or}
use Rattle.std.specs.FinMap as map
use Rattle.machine_names.specs.declared.names.Tty.{Tty}
use Rattle.machine_names.specs.declared.names.ForkName.{ForkName}
use Rattle.machine_names.specs.declared.names.TheConstants.{LAST_SERIAL}
use Rattle.plain_model.specs.declared.fork.Fork.{Fork}
use Rattle.plain_units.specs.declared.registers.Regs.{Regs}
use Rattle.plain_model.specs.Forks.{first_regs}
use Rattle.plain_model.specs.Trees.{PlainTree, changed, free_slot, new_fork, next_name, next_serial, with_changed_of, with_made}
use Rattle.plain_model.specs.ForkCalls.{made_fork}
use Rattle.plain_model.proofs.ForkMaps.{get_put, put_again}
use Rattle.fork_tree.specs.declared.tree.NoFork.{NoFork}
use Rattle.fork_tree.specs.declared.tree.NoFork.TheVariants.{ForksFull, SerialsOut}
use Rattle.fork_tree.specs.Making.{slot_for, with_new, with_new_in, room_for}
use Rattle.job_forks.specs.Asking.{asked}
use Rattle.fork_calls.specs.Steps.{begun}

-- a tree has room
abbrev roomy : Result (Unit {0}) NoFork
roomy = Ok tt

module _ (tree : PlainTree) (t : Tty) where
  -- the slot for a fork is free, and there is room for it in the tree
  pub slot_told : (slot : ℕ) → slot_for tree t ≡ Ok slot → (free_slot tree.forks t ≡ Some slot) × (nat_lt LAST_SERIAL (next_serial tree t) ≡ false)
  slot_told slot is = by (free_slot tree.forks t) refl (nat_lt LAST_SERIAL (next_serial tree t)) refl is
    where
      by : (o : Option ℕ) → free_slot tree.forks t ≡ o → (b : Bool) → nat_lt LAST_SERIAL (next_serial tree t) ≡ b → option_map_or (λ s. cond b (Err SerialsOut) (Ok s)) o (Err ForksFull) ≡ Ok slot
          → (free_slot tree.forks t ≡ Some slot) × (nat_lt LAST_SERIAL (next_serial tree t) ≡ false)
      by None free b low e = absurd (cc e)
      by (Some s) free true low e = absurd (cc e)
      by (Some s) free false low e = let same : s ≡ slot = cc e in (free ∙ ap Some same, low)

  pub room_told : (slot : ℕ) → slot_for tree t ≡ Ok slot → room_for tree t ≡ Ok tt
  room_told slot is =
      let s = slot_told slot is in
      rw (s.0, s.1) refl

  -- and where there is room, there is a slot
  pub room_slot : room_for tree t ≡ Ok tt → (slot : ℕ) × (slot_for tree t ≡ Ok slot)
  room_slot is = by (free_slot tree.forks t) refl (nat_lt LAST_SERIAL (next_serial tree t)) refl is
    where
      by : (o : Option ℕ) → free_slot tree.forks t ≡ o → (b : Bool) → nat_lt LAST_SERIAL (next_serial tree t) ≡ b → cond (is_none o) (Err ForksFull) (cond b (Err SerialsOut) roomy) ≡ roomy → (slot : ℕ) × (slot_for tree t ≡ Ok slot)
      by None free b low e = absurd (cc e)
      by (Some s) free true low e = absurd (cc e)
      by (Some s) free false low e = (s, rw (free, low) refl)

module _ (tree : PlainTree) (who : ForkName) (caller : Fork) (slot : ℕ) (there : map.get tree.forks who ≡ Some caller) (is : slot_for tree who.tty ≡ Ok slot) where
  abbrev nf : Fork
  nf = new_fork (next_name tree who.tty) slot (Some caller.slot)

  made_tree : with_new tree who.tty (Some caller.slot) ≡ with_made tree nf
  made_tree = ap (λ (o : Option ℕ). option_map_or (with_new_in tree who.tty (Some caller.slot)) o tree) (slot_told tree who.tty slot is).0

  made_there : map.get (with_made tree nf).forks (next_name tree who.tty) ≡ Some nf
  made_there = get_put tree.forks (next_name tree who.tty) (next_name tree who.tty) nf refl

  -- the fork that was made begins, and is the one that CFORK makes
  grown : (regs : Regs) (words : List ℕ) → with_changed_of (with_made tree nf) (next_name tree who.tty) (begun regs words) ≡ with_made tree (made_fork (asked who regs tree) slot words)
  grown regs words =
      let name = next_name tree who.tty in
      let f = made_fork (asked who regs tree) slot words in
      let superior : option_map (λ (k : Fork). k.slot) (map.get tree.forks who) ≡ Some caller.slot = ap (option_map (λ (k : Fork). k.slot)) there in
      let same : begun regs words nf ≡ f = λ i. record (begun regs words nf) { superior = sym superior i } in
      let forks : changed (with_made tree nf).forks (begun regs words) (map.get (with_made tree nf).forks name) ≡ map.insert tree.forks name f =
      ap (changed (with_made tree nf).forks (begun regs words)) made_there ∙ put_again tree.forks name nf (begun regs words nf) ∙ ap (map.insert tree.forks name) same in
      λ i. record (with_made tree nf) { forks = forks i }

  -- a fork that stands under the new name is the new one
  pub new_stands : (t : PlainTree) (name : ForkName) → name ≡ next_name tree who.tty → t ≡ with_new tree who.tty (Some caller.slot) → map.get t.forks name ≡ Some nf
  new_stands t name same new = ap (λ (u : PlainTree). map.get u.forks name) (new ∙ made_tree) ∙ ap (map.get (with_made tree nf).forks) same ∙ made_there

  pub new_regs : (t : PlainTree) (name : ForkName) → name ≡ next_name tree who.tty → t ≡ with_new tree who.tty (Some caller.slot) → (f : Fork) → map.get t.forks name ≡ Some f → f.body.regs ≡ first_regs
  new_regs t name same new f e =
      let both : Some nf ≡ Some f = sym (new_stands t name same new) ∙ e in
      let one : nf ≡ f = cc both in
      ap (λ (k : Fork). k.body.regs) (sym one)

  pub all_grown : (t : PlainTree) (name : ForkName) → name ≡ next_name tree who.tty → t ≡ with_new tree who.tty (Some caller.slot) → (regs : Regs) (words : List ℕ) → with_changed_of t name (begun regs words) ≡ with_made tree (made_fork (asked who regs tree) slot words)
  all_grown t name same new regs words =
      ap (λ (u : PlainTree). with_changed_of u name (begun regs words)) (new ∙ made_tree) ∙ ap (λ (n : ForkName). with_changed_of (with_made tree nf) n (begun regs words)) same ∙ grown regs words
