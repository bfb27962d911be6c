-- Steps that refer to a block of words, and words that are stored in one.
use Rattle.std.specs.Prelude.{ℕ, ◌+◌, ◌%◌, ◌^◌, zero, suc, List, [], ◌∷◌, ◌++◌, None, if◌then◌else◌}
use Rattle.std.specs.declared.cmp.Ordering.{Ordering}
use Rattle.machine_names.specs.declared.names.ForkName.{ForkName}
use Rattle.machine_names.specs.declared.names.Kind.{Kind}
use Rattle.plain_units.specs.declared.registers.Regs.{Regs}
use Rattle.plain_pages.specs.PlainPages.{PlainPages}
use Rattle.plain_pages.specs.References.{in_map, stored, slot_at}
use Rattle.plain_units.specs.Steps.{Steps, Planned, refers as refers_at, ends as steps_end, run, begun, plainly, is_accumulator}
use Rattle.outside.specs.declared.TheConstants.{PAGE_WORDS}

-- the address behind another
abbrev pub next_address : ℕ → ℕ
next_address a = (a + 1) % 2 ^ 18

-- so many references of a kind, from an address on; they end with the words there as accumulators
abbrev pub block_steps : ℕ → ℕ → Kind → List ℕ → Regs → Steps
block_steps zero a kind words regs = steps_end (record { regs = record regs { ac = words }; put = None; post = None })
block_steps (suc n) a kind words regs = refers_at a kind (λ w. block_steps n (next_address a) kind (words ++ w ∷ []) regs)

module _ {K : Type 0} {file_cmp : K → K → Ordering} where
  -- what steps come to on these pages
  abbrev pub steps_on : ForkName → Regs → Steps → PlainPages file_cmp → Planned file_cmp ⊥
  steps_on f regs steps p = run (plainly f) f steps (begun p regs.ac)

  -- words stored in the space of a fork, from an address on
  abbrev pub stored_from : PlainPages file_cmp → ForkName → ℕ → List ℕ → PlainPages file_cmp
  stored_from p f a [] = p
  stored_from p f a (w ∷ ws) =
      stored_from (if is_accumulator a then p else stored p (in_map (slot_at f a)) (a % PAGE_WORDS) w) f (next_address a) ws
