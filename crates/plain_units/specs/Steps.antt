-- A unit as data: what it refers to, step by step, and how it ends.
use Rattle.std.specs.Prelude.{ℕ, ◌-◌, ◌%◌, Bool, ◌&&◌, List, [], ◌∷◌, ◌++◌, length, nat_lt, nat_le, ◌==◌, if◌then◌else◌, Option, None, Some, slice_index, slice_set}
use Rattle.std.specs.Option.{option_map_or}
use Rattle.std.specs.declared.cmp.Ordering.{Ordering}
use Rattle.outside.specs.declared.TheConstants.{PAGE_WORDS}
use Rattle.plain_units.specs.declared.channel.TheConstants.{ILLEGAL_INSTRUCTION, DENIED_READ, DENIED_WRITE, DENIED_EXECUTE, DRUM_FULL}
use Rattle.machine_names.specs.declared.names.TheConstants.{ACCUMULATORS}
use Rattle.machine_names.specs.declared.names.ForkName.{ForkName}
use Rattle.machine_names.specs.declared.names.PageName.{PageName}
use Rattle.machine_names.specs.declared.names.Slot.{Slot}
use Rattle.machine_names.specs.declared.names.Kind.{Kind}
use Rattle.machine_names.specs.declared.names.Kind.TheVariants.{Read, Write, Execute}
use Rattle.plain_units.specs.declared.registers.Regs.{Regs}
use Rattle.plain_units.specs.declared.unit.Put.{Put}
use Rattle.plain_units.specs.declared.unit.Reference.{Reference}
use Rattle.plain_units.specs.declared.unit.TheConstants.{MOST_REFERENCES}
use Rattle.plain_pages.specs.PlainPages.{PlainPages}
use Rattle.plain_pages.specs.Room.{same_page}
use Rattle.plain_pages.specs.References.{Referred, granted, denied, full, in_map, page_at, words_of, reference, stored, slot_at}

-- how a unit ends that goes through: its registers, a word that it stores last, and a channel that it posts
pub record Ending : Type 0 where
  pub regs : Regs
  pub put : Option Put
  pub post : Option ℕ

-- what is left of a unit
pub data Steps : Type 0 where
  -- it refers to an address, and goes on with the word there
  refers : ℕ → Kind → (ℕ → Steps) → Steps
  -- it asks for its last reference again, to write there
  widens : ℕ → Steps → Steps
  -- it stores a word that its later references see
  keeps : ℕ → ℕ → Steps → Steps
  ends : Ending → Steps
  -- it traps, with a channel
  traps : ℕ → Steps
  -- it is a monitor call, of this number
  calls : ℕ → Steps

-- why a unit stops before its end: a trap with a channel, or what it needs first
pub data Stop (N : Type 0) : Type 0 where
  trap : ℕ → Stop N
  need : N → Stop N

-- what a reference to a page comes to: the pages that it leaves, or why the unit stops
pub data Asked (N P : Type 0) : Type 0 where
  goes : P → Asked N P
  stops : Stop N → Asked N P

-- the channel of a denied reference
abbrev pub denied_channel : Kind → ℕ
denied_channel Read = DENIED_READ
denied_channel Write = DENIED_WRITE
denied_channel Execute = DENIED_EXECUTE

-- addresses below 20 octal are the accumulators, which touch no page
abbrev pub is_accumulator : ℕ → Bool
is_accumulator a = nat_lt a ACCUMULATORS

-- how far a unit has come: the pages with those that its references made, its accumulators as they were, its
-- references in order, and the word that it has stored
pub record Progress {K : Type 0} (file_cmp : K → K → Ordering) : Type 0 where
  pub pages : PlainPages file_cmp
  pub ac : List ℕ
  pub refs : List Reference
  pub kept : Option Put

-- what a unit comes to: its end, why it stops, or a monitor call
pub data Planned {K : Type 0} (file_cmp : K → K → Ordering) (N : Type 0) : Type 0 where
  done : Progress file_cmp → Ending → Planned file_cmp N
  stopped : Stop N → Planned file_cmp N
  call : ℕ → Planned file_cmp N

module _ {K : Type 0} {file_cmp : K → K → Ordering} where
  -- the word at an address of a page, or a word stored before in the same place of the same page
  abbrev pub seen : PlainPages file_cmp → ForkName → Option Put → ℕ → Option PageName → ℕ
  seen p f kept a None = 0
  seen p f None a (Some n) = slice_index (words_of p n) (a % PAGE_WORDS)
  seen p f (Some put) a (Some n) =
      if option_map_or (same_page n) (page_at p (in_map (slot_at f put.at))) (nat_lt 1 0) && (put.at % PAGE_WORDS == a % PAGE_WORDS) then put.word
      else slice_index (words_of p n) (a % PAGE_WORDS)

  -- the word that a reference takes
  abbrev pub word_taken : ForkName → Progress file_cmp → ℕ → ℕ
  word_taken f t a = if is_accumulator a then slice_index t.ac a else seen t.pages f t.kept a (page_at t.pages (in_map (slot_at f a)))

  -- one reference more, and the pages that it leaves
  abbrev pub referred : Progress file_cmp → ℕ → Kind → PlainPages file_cmp → Progress file_cmp
  referred t a kind p = record t { pages = p; refs = t.refs ++ record { address = a; kind = kind } ∷ [] }

  -- the last reference is one to write, and the pages that this leaves
  abbrev pub widened : Progress file_cmp → ℕ → PlainPages file_cmp → Progress file_cmp
  widened t a p = record t { pages = p; refs = slice_set t.refs (length t.refs - 1) (record { address = a; kind = Write }) }

  module _ {N : Type 0} where
    -- a unit goes on with the pages that a reference leaves, or stops
    abbrev pub goes_on : Asked N (PlainPages file_cmp) → (PlainPages file_cmp → Planned file_cmp N) → Planned file_cmp N
    goes_on (goes p) next = next p
    goes_on (stops why) next = stopped why

    module _ (ask : PlainPages file_cmp → Slot → Kind → Asked N (PlainPages file_cmp)) (f : ForkName) where
      -- a reference to an address; the accumulators grant each
      abbrev pub asked_at : PlainPages file_cmp → ℕ → Kind → Asked N (PlainPages file_cmp)
      asked_at p a kind = if is_accumulator a then goes p else ask p (slot_at f a) kind

      -- the steps in order, each reference on the pages that those before it leave; the 17th traps before it is asked
      unfoldable pub run : Steps → Progress file_cmp → Planned file_cmp N
      run (refers a kind next) t =
          if nat_le MOST_REFERENCES (length t.refs) then stopped (trap ILLEGAL_INSTRUCTION)
          else goes_on (asked_at t.pages a kind) (λ p. run (next (word_taken f (referred t a kind p) a)) (referred t a kind p))
      run (widens a next) t = goes_on (asked_at t.pages a Write) (λ p. run next (widened t a p))
      run (keeps a w next) t = run next (record t { kept = Some (record { at = a; word = w }) })
      run (ends e) t = done t e
      run (traps channel) t = stopped (trap channel)
      run (calls number) t = call number

  -- a unit at its beginning
  abbrev pub begun : PlainPages file_cmp → List ℕ → Progress file_cmp
  begun p ac = record { pages = p; ac = ac; refs = []; kept = None }

  -- a reference of the plain machine, which needs nothing first
  abbrev pub plain_asked : Referred file_cmp → Asked ⊥ (PlainPages file_cmp)
  plain_asked (granted p) = goes p
  plain_asked (denied kind) = stops (trap (denied_channel kind))
  plain_asked full = stops (trap DRUM_FULL)

  abbrev pub plainly : ForkName → PlainPages file_cmp → Slot → Kind → Asked ⊥ (PlainPages file_cmp)
  plainly f p at kind = plain_asked (reference p (in_map at) kind f.tty)

  -- a word stored through a fork's map
  abbrev pub put_into : ForkName → PlainPages file_cmp → Option Put → PlainPages file_cmp
  put_into f p None = p
  put_into f p (Some put) = stored p (in_map (slot_at f put.at)) (put.at % PAGE_WORDS) put.word

  -- the pages that a unit leaves: with those that its references made, the word that it kept, and then its last word
  abbrev pub pages_left : ForkName → Progress file_cmp → Ending → PlainPages file_cmp
  pages_left f t e = put_into f (put_into f t.pages t.kept) e.put
