-- What laws say of pseudo-interrupts.
use Rattle.std.specs.Prelude.{◌≡◌, ◌⊎◌, ◌<◌, ◌≤◌, ◌%◌, ℕ, List, [], ◌∷◌, true, false, length, map as list_map, Some, slice_index}
use Rattle.word36.specs.Words.{left, right}
use Rattle.outside.specs.declared.TheConstants.{PAGE_WORDS}
use Rattle.machine_names.specs.declared.names.ForkName.{ForkName}
use Rattle.machine_names.specs.declared.names.Kind.{Kind}
use Rattle.machine_names.specs.declared.names.Kind.TheVariants.{Read, Write}
use Rattle.plain_pages.specs.PlainPages.{NamedPages}
use Rattle.plain_pages.specs.References.{granted, in_map, reference, slot_at, word_at}
use Rattle.plain_units.specs.declared.registers.Regs.{Regs}
use Rattle.plain_units.specs.Steps.{is_accumulator}
use Rattle.plain_model.specs.declared.fork.Fork.{Fork}
use Rattle.plain_model.specs.declared.fork.Psi.{Psi}
use Rattle.plain_model.specs.declared.interrupt.Delivery.{Delivery}
use Rattle.plain_model.specs.declared.interrupt.Found.{Found}
use Rattle.plain_model.specs.declared.interrupt.Inspected.{Inspected}
use Rattle.plain_model.specs.declared.interrupt.TheConstants.{CHANNELS, LEVELS}
use Rattle.plain_model.specs.Forks.{no_levels}
use Rattle.plain_model.specs.Inspections.{channel_at, goes_before, inspected, inspected_by, is_wanted, level_at, wanted}
use Rattle.plain_model.specs.State.{PlainState}

-- a channel is active and pending
abbrev pub Wants : Psi → Type 0
Wants psi = (channel : ℕ) × (channel < CHANNELS) × (is_wanted psi channel ≡ true)

-- what a fork finds that looks at its channels; and the pages then, with those that this has made
abbrev pub Finds : PlainState → Fork → Inspected → Type 0
Finds s f what = inspected_by (inspected f s.pages).end ≡ what

abbrev pub pages_then : PlainState → Fork → NamedPages
pages_then s f = (inspected f s.pages).pages

-- no channel that a fork takes is pending, and no level is in progress
abbrev pub IsAtEase : Psi → Type 0
IsAtEase psi = (Wants psi → ⊥) × (psi.levels ≡ no_levels)

-- a fork refers to an address, and takes the word there; these are the pages then
abbrev pub TakesAt : ForkName → Regs → Kind → ℕ → NamedPages → ℕ → NamedPages → Type 0
TakesAt f regs kind a p w q =
    ((is_accumulator a ≡ true) × (q ≡ p) × (w ≡ slice_index regs.ac a))
    ⊎ ((is_accumulator a ≡ false) × (reference p (in_map (slot_at f a)) kind f.tty ≡ granted q) × (w ≡ word_at q (in_map (slot_at f a)) (a % PAGE_WORDS)))

-- a number is that of a level
abbrev pub IsLevel : ℕ → Type 0
IsLevel level = (1 ≤ level) × (level ≤ LEVELS)

-- the word of a channel names a level and the address to which the fork goes, and the word of that level the address at which the PC word
-- is stored, where the fork may write
pub record FindsWords (p : NamedPages) (f : Fork) (channel : ℕ) (d : Delivery) (q : NamedPages) : Type 0 where
  pub table : ℕ
  pub has_table : f.body.psi.table ≡ Some table
  pub one : NamedPages
  pub two : NamedPages
  pub word : ℕ
  pub level_word : ℕ
  pub old : ℕ
  pub at_channel : TakesAt f.name f.body.regs Read (channel_at table channel) p word one
  pub is_level : IsLevel (left word)
  pub at_level : TakesAt f.name f.body.regs Read (level_at table (left word)) one level_word two
  pub at_place : TakesAt f.name f.body.regs Write (right level_word) two old q
  pub delivery : d ≡ record { found = record { channel = channel; level = left word; to = right word }; at = right level_word }

-- a fork has three levels, as each has
abbrev pub HasLevels : Psi → Type 0
HasLevels psi = length psi.levels ≡ LEVELS

-- a channel is delivered at a level that goes before each in progress
abbrev pub GoesBefore : Psi → Found → Type 0
GoesBefore psi found = IsLevel found.level × (goes_before found.level psi ≡ true)

-- a fork reads the word that a delivery at a level has stored
pub record FindsStored (p : NamedPages) (f : ForkName) (regs : Regs) (table level w : ℕ) (q : NamedPages) : Type 0 where
  pub place : ℕ
  pub between : NamedPages
  pub at_level : TakesAt f regs Read (level_at table level) p place between
  pub stored : TakesAt f regs Read (right place) between w q

-- a fork reads the words of channels, one after another; these are the pages then
abbrev pub ReadsWords : Fork → ℕ → NamedPages → List (ℕ × ℕ) → NamedPages → Type 0
ReadsWords f table p [] q = q ≡ p
ReadsWords f table p (c ∷ cs) q = (r : NamedPages) × TakesAt f.name f.body.regs Read (channel_at table c.0) p c.1 r × ReadsWords f table r cs q

-- it reads the word of each channel that is active and pending
pub record ReadsChannels (p : NamedPages) (f : Fork) (words : List (ℕ × ℕ)) (q : NamedPages) : Type 0 where
  pub table : ℕ
  pub has_table : f.body.psi.table ≡ Some table
  pub channels : list_map (λ c. c.0) words ≡ wanted f.body.psi
  pub reads : ReadsWords f table p words q

-- a channel can be taken now, by its word
abbrev pub CanBeTaken : Psi → ℕ × ℕ → Type 0
CanBeTaken psi c = IsLevel (left c.1) × (goes_before (left c.1) psi ≡ true)

-- it is the one that was found
abbrev pub IsFound : Found → ℕ × ℕ → Type 0
IsFound found c = found ≡ record { channel = c.0; level = left c.1; to = right c.1 }

-- what was found is of less level than a channel, or of the same level and of no greater number
abbrev pub IsFirst : Found → ℕ × ℕ → Type 0
IsFirst found c = (found.level < left c.1) ⊎ ((found.level ≡ left c.1) × (found.channel ≤ c.0))
