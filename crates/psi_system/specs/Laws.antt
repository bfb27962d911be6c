-- What is so of interrupts, in the words of who uses them.
use Rattle.std.specs.Prelude.{◌≡◌, ◌≢◌, ◌⊎◌, ℕ, ◌-◌, ◌<◌, ◌≤◌, true, false, Some, slice_set, Bool, slice_index_or}
use Rattle.std.specs.declared.cmp.Ordering.{Ordering}
use Rattle.word36.specs.Words.{left, right}
use Rattle.machine_names.specs.declared.names.ForkName.{ForkName}
use Rattle.machine_names.specs.declared.names.Kind.TheVariants.{Read}
use Rattle.plain_pages.specs.PlainPages.{PlainPages}
use Rattle.plain_units.specs.declared.registers.Regs.{Regs}
use Rattle.plain_units.specs.Steps.{asked_at, begun, goes, plainly, referred, word_taken}
use Rattle.plain_model.specs.declared.fork.Fork.{Fork}
use Rattle.plain_model.specs.declared.fork.Psi.{Psi}
use Rattle.plain_model.specs.declared.interrupt.Delivery.{Delivery}
use Rattle.plain_model.specs.declared.interrupt.Found.{Found}
use Rattle.plain_model.specs.declared.interrupt.Inspected.TheVariants as inspected
use Rattle.plain_model.specs.declared.interrupt.TheConstants.{CHANNELS, LEVELS}
use Rattle.plain_model.specs.Inspections.{channel_at, goes_before, inspected as inspected_on, inspected_by, is_wanted, least_level}
use Rattle.plain_model.specs.Interrupts.{has_channel}

-- whether a level, 1 to 3, is in progress
abbrev pub in_progress : Psi → ℕ → Bool
in_progress psi level = slice_index_or psi.levels (level - 1) false

-- A CHANNEL IS TAKEN UP: it is no more pending, its level is in progress, and so is what was, and no other
pub record IsTakenUp (old new : Psi) (taken : Found) : Type 0 where
  pub channel : has_channel new.pending taken.channel ≡ false
  pub channels : (c : ℕ) → c < CHANNELS → c ≢ taken.channel → has_channel new.pending c ≡ has_channel old.pending c
  pub level : in_progress new taken.level ≡ true
  pub levels : (l : ℕ) → 1 ≤ l → l ≢ taken.level → in_progress new l ≡ in_progress old l

-- A LEVEL IS WITHIN those in progress: it is less than each, and once it is in progress it is the one that ends first, which leaves them
-- as they were
pub record IsWithin (old new : Psi) (level : ℕ) : Type 0 where
  pub before : (l : ℕ) → 1 ≤ l → in_progress old l ≡ true → level < l
  pub least : least_level new ≡ Some level
  pub back : slice_set new.levels (level - 1) false ≡ old.levels

-- a channel can be taken whose word this is: its level is one, and less than each in progress
pub record CanTake (psi : Psi) (word : ℕ) : Type 0 where
  pub low : 1 ≤ left word
  pub high : left word ≤ LEVELS
  pub before : goes_before (left word) psi ≡ true

-- a channel is another, or comes before it: its level is less, or as great, and its number isn't greater
abbrev pub ComesFirst : ℕ → ℕ → ℕ → ℕ → Type 0
ComesFirst level channel other_level other = (level < other_level) ⊎ ((level ≡ other_level) × (channel ≤ other))

-- THE CHANNEL IS THE FIRST of those that are active and pending and can be taken by their words
pub record IsFirst (psi : Psi) (word : ℕ → ℕ) (found : Found) : Type 0 where
  pub wanted : is_wanted psi found.channel ≡ true
  pub level : found.level ≡ left (word found.channel)
  pub to : found.to ≡ right (word found.channel)
  pub takes : CanTake psi (word found.channel)
  pub first : (c : ℕ) → c < CHANNELS → is_wanted psi c ≡ true → CanTake psi (word c) → ComesFirst found.level found.channel (left (word c)) c

module _ {K : Type 0} {file_cmp : K → K → Ordering} where
  -- the inspection of a fork delivers this
  abbrev pub IsDelivered : Fork → PlainPages file_cmp → Delivery → Type 0
  IsDelivered f p d = inspected_by (inspected_on f p).end ≡ inspected.Delivers d

  -- the word of a channel
  abbrev pub word_of_channel : ForkName → Regs → PlainPages file_cmp → ℕ → ℕ → ℕ
  word_of_channel f regs p table c = word_taken f (referred (begun p regs.ac) (channel_at table c) Read p) (channel_at table c)

  -- the words of channels can be read, and that makes no page
  abbrev pub AreReady : ForkName → PlainPages file_cmp → ℕ → Type 0
  AreReady f p table = (c : ℕ) → c < CHANNELS → asked_at (plainly f) f p (channel_at table c) Read ≡ goes p
