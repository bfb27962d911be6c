-- What instructions do in a row, in the words of their users.
use Rattle.std.specs.Prelude.{◌≡◌, ◌≢◌, ◌⊎◌, ℕ, zero, suc, ◌+◌, ◌-◌, ◌%◌, ◌^◌, ◌<◌, ◌≤◌, true, false, ◌==◌, if◌then◌else◌, Some, List}
use Rattle.word36.specs.Words.{left, right, joined, is_negative}
use Rattle.ka10_table.specs.declared.families.Family.TheVariants.{Exch, Blt, PushPop, Popj}
use Rattle.ka10_table.specs.declared.families.OpMode.TheVariants.{Basic}
use Rattle.plain_units.specs.Addressing.{is_indirect, indexed}
use Rattle.plain_units.specs.Deeds.{Operands, back, into, before, next_pc, pc_word, up, halves_up, moves_block, calls_by_push, pushes_or_pops, returns_by_pop, calls_by_word, taken_by, acts, Deed}

-- what the table of instructions has for 250, EXCH
abbrev pub exchanges : Operands → Deed
exchanges = (acts Exch Basic 0).1 0o250

-- EXCH: the accumulator gets the word at E, which gets the accumulator's
pub record ChangePlaces (o : Operands) : Type 0 where
  pub taken : taken_by Exch Basic 0 o.a o.e ≡ Some o.e
  pub accumulator : (exchanges o).ac ≡ Some o.m
  pub memory : (exchanges o).store ≡ back o.e o.a

-- POP behind PUSH: it takes the word from where PUSH stored it, and leaves the list pointer as it was
pub record ComesBack (pushed popped : Operands) : Type 0 where
  pub pointer : ℕ
  pub grows : (pushes_or_pops 0 pushed).ac ≡ Some pointer
  pub stores : (pushes_or_pops 0 pushed).store ≡ into (right pointer) pushed.m
  pub takes : taken_by PushPop Basic 1 pointer popped.e ≡ Some (right pointer)
  pub shrinks : (pushes_or_pops 1 (record popped { a = pointer; m = pushed.m })).ac ≡ Some pushed.a
  pub gives : (pushes_or_pops 1 (record popped { a = pointer; m = pushed.m })).store ≡ into popped.e pushed.m

-- POPJ behind PUSHJ: it goes on behind the PUSHJ, and leaves the list pointer as it was
pub record ReturnsByPop (calling returning : Operands) : Type 0 where
  pub pointer : ℕ
  pub goes : (calls_by_push calling).pc ≡ calling.e
  pub grows : (calls_by_push calling).ac ≡ Some pointer
  pub stores : (calls_by_push calling).store ≡ into (right pointer) (pc_word calling.regs)
  pub takes : taken_by Popj Basic 0 pointer returning.e ≡ Some (right pointer)
  pub comes : (returns_by_pop (record returning { a = pointer; m = pc_word calling.regs })).pc ≡ next_pc calling.regs
  pub shrinks : (returns_by_pop (record returning { a = pointer; m = pc_word calling.regs })).ac ≡ Some calling.a

-- the word that JSR stores at E is neither indirect nor indexed, and an indirect jump through it goes on behind the JSR
pub record ReturnsByWord (calling : Operands) (ac : List ℕ) : Type 0 where
  pub goes : (calls_by_word 0 calling).pc ≡ (calling.e + 1) % 2 ^ 18
  pub stores : (calls_by_word 0 calling).store ≡ into calling.e (pc_word calling.regs)
  pub direct : is_indirect (pc_word calling.regs) ≡ false
  pub comes : indexed ac (pc_word calling.regs) ≡ next_pc calling.regs

-- a word to both halves of which 1 was added so many times
unfoldable pub ups : ℕ → ℕ → ℕ
ups zero a = a
ups (suc n) a = up (ups n a)

-- a vector of so many words from an address on: the count, negated, and the address
abbrev pub vector : ℕ → ℕ → ℕ
vector n first = joined (2 ^ 18 - n) first

-- AOBJN over a vector: while words are left the result is negative, and its right half is the next one's address
pub record GoesOver (n first : ℕ) : Type 0 where
  pub each : (k : ℕ) → k < n → ups k (vector n first) ≡ joined (2 ^ 18 - n + k) (first + k)
  pub negative : (k : ℕ) → k < n → is_negative (ups k (vector n first)) ≡ true
  pub last : ups n (vector n first) ≡ first + n
  pub ends : is_negative (ups n (vector n first)) ≡ false

-- words by address, and the accumulator of a BLT over them
pub record Moving : Type 0 where
  pub pointer : ℕ
  pub words : ℕ → ℕ

-- a unit of a BLT whose words are none of the accumulators
abbrev pub moved_one : Moving → Moving
moved_one t = record { pointer = halves_up t.pointer; words = λ x. if x == right t.pointer then t.words (left t.pointer) else t.words x }

unfoldable pub moved : ℕ → Moving → Moving
moved zero t = t
moved (suc n) t = moved_one (moved n t)

-- a unit of BLT is one of these: it takes, stores and counts so, and is done again while it stores below E
pub record MovesOne (o : Operands) : Type 0 where
  pub takes : taken_by Blt Basic 0 o.a o.e ≡ Some (left o.a)
  pub stores : (moves_block o).store ≡ before (right o.a) o.m
  pub counts : right o.a ≢ o.ac → (moves_block o).ac ≡ Some (halves_up o.a)
  pub again : right o.a < o.e → (moves_block o).pc ≡ o.regs.pc
  pub over : o.e ≤ right o.a → (moves_block o).pc ≡ next_pc o.regs

-- so many units of it copy as many words, where no word copied is one of those stored before
pub record CopiesBlock (n from to : ℕ) (words : ℕ → ℕ) : Type 0 where
  pub copied : (i : ℕ) → i < n → (moved n (record { pointer = joined from to; words = words })).words (to + i) ≡ words (from + i)
  pub others : (x : ℕ) → (x < to) ⊎ (to + n ≤ x) → (moved n (record { pointer = joined from to; words = words })).words x ≡ words x
