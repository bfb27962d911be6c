-- A unit asks for few references.
use Rattle.std.proofs.Common.{◌≡◌, ◌≤◌, ◌+◌, Bool, true, false, cond, [], ◌∷◌, length, length-set, Some, refl, arith, Ordering}
use Rattle.std.specs.Prelude.{◌-◌, nat_le}
use Rattle.std.proofs.lemmas.Bool.Decides.{nat_tests}
use Rattle.std.proofs.lemmas.List.{length-append}
use Rattle.machine_names.specs.declared.names.ForkName.{ForkName}
use Rattle.machine_names.specs.declared.names.Kind.TheVariants.{Write}
use Rattle.plain_pages.specs.PlainPages.{PlainPages}
use Rattle.plain_units.specs.declared.registers.Regs.{Regs}
use Rattle.plain_units.specs.declared.unit.TheConstants.{MOST_REFERENCES}
use Rattle.plain_units.specs.Steps.{Asked, Progress, Steps, asked_at, begun, calls, ends, goes, keeps, plainly, referred, refers, stops, traps, widened, widens, word_taken}
use Rattle.plain_refusals.specs.Budgets.{asked_for, behind}

module _ {K : Type 0} {file_cmp : K → K → Ordering} (f : ForkName) where
  -- with those that were made
  abbrev Few : Steps → Progress file_cmp → Type 0
  Few steps t = length t.refs ≤ MOST_REFERENCES → length t.refs + asked_for f steps t ≤ MOST_REFERENCES

  few : (steps : Steps) (t : Progress file_cmp) → Few steps t
  unfolding asked_for
  few (refers a kind next) t room = by (λ p. few (next (word_taken f (referred t a kind p) a)) (referred t a kind p)) (nat_le MOST_REFERENCES (length t.refs)) refl
    where
      room_left : nat_le MOST_REFERENCES (length t.refs) ≡ false → length t.refs + 1 ≤ MOST_REFERENCES
      room_left left = grind (arith, nat_tests)

      one_more : (p : PlainPages file_cmp) → length (referred t a kind p).refs ≡ length t.refs + 1
      one_more p = length-append t.refs (record { address = a; kind = kind } ∷ [])

      asked : ((p : PlainPages file_cmp) → Few (next (word_taken f (referred t a kind p) a)) (referred t a kind p)) → nat_le MOST_REFERENCES (length t.refs) ≡ false → (r : Asked ⊥ (PlainPages file_cmp)) → length t.refs + (1 + behind r (λ p. asked_for f (next (word_taken f (referred t a kind p) a)) (referred t a kind p))) ≤ MOST_REFERENCES
      asked rest left (goes p) =
          let below : length t.refs + 1 ≤ MOST_REFERENCES = room_left left in
          let more = rest p (omega (arith, one_more p, below)) in
          omega (arith, more, one_more p)
      asked rest left (stops why) = let below : length t.refs + 1 ≤ MOST_REFERENCES = room_left left in omega (arith, below)

      by : ((p : PlainPages file_cmp) → Few (next (word_taken f (referred t a kind p) a)) (referred t a kind p)) → (b : Bool) → nat_le MOST_REFERENCES (length t.refs) ≡ b
          → length t.refs + cond b 0 (1 + behind (asked_at (plainly f) f t.pages a kind) (λ p. asked_for f (next (word_taken f (referred t a kind p) a)) (referred t a kind p))) ≤ MOST_REFERENCES
      by rest true none = omega (arith, room)
      by rest false left = asked rest left (asked_at (plainly f) f t.pages a kind)
  few (widens a next) t room = by (λ p. few next (widened t a p)) (asked_at (plainly f) f t.pages a Write)
    where
      same : (p : PlainPages file_cmp) → length (widened t a p).refs ≡ length t.refs
      same p = length-set t.refs (length t.refs - 1) (record { address = a; kind = Write })

      by : ((p : PlainPages file_cmp) → Few next (widened t a p)) → (r : Asked ⊥ (PlainPages file_cmp)) → length t.refs + behind r (λ p. asked_for f next (widened t a p)) ≤ MOST_REFERENCES
      by rest (goes p) = let more = rest p (omega (arith, room, same p)) in omega (arith, more, same p)
      by rest (stops why) = omega (arith, room)
  few (keeps a w next) t room = few next (record t { kept = Some (record { at = a; word = w }) }) room
  few (ends e) t room = omega (arith, room)
  few (traps channel) t room = omega (arith, room)
  few (calls number) t room = omega (arith, room)

  -- FROM A UNIT'S BEGINNING
  pub few_asked : (p : PlainPages file_cmp) (regs : Regs) (steps : Steps) → asked_for f steps (begun p regs.ac) ≤ MOST_REFERENCES
  few_asked p regs steps = let all = few steps (begun p regs.ac) (omega arith) in omega (arith, all)
