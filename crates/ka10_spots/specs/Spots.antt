-- Where a word of a space is.
use Rattle.std.specs.Prelude.{◌≡◌, ℕ, zero, suc, ◌+◌, ◌/◌, ◌%◌, ◌^◌, ◌<◌, ◌≤◌, true, List, Option, None, Some, IfSome, length, slice_set}
use Rattle.outside.specs.declared.TheConstants.{PAGE_WORDS}
use Rattle.machine_names.specs.declared.names.TheConstants.{ACCUMULATORS}
use Rattle.machine_names.specs.declared.names.ForkName.{ForkName}
use Rattle.machine_names.specs.declared.names.Kind.{Kind}
use Rattle.machine_names.specs.declared.names.Kind.TheVariants.{Read}
use Rattle.page_contracts.specs.declared.answers.Found.{Found}
use Rattle.page_contracts.specs.declared.answers.SpaceHandle.{SpaceHandle}
use Rattle.page_contracts.specs.Stores.{IsUsed}
use Rattle.plain_units.specs.declared.registers.Regs.{Regs}
use Rattle.plain_units.specs.Addressing.{indexed, is_indirect}
use Rattle.page_contracts.specs.DrumWords.{DrumWords}
use Rattle.page_contracts.specs.Pages.{PagesMeaning, HasSpace, MayLose, OnlyUses, StaysPut, IsTouched}
use Rattle.plain_pages.specs.References.{in_map, slot_at, stored}
use Rattle.plain_pages.specs.PlainPages.{NumberedPages}
use Rattle.ka10_deeds.specs.declared.word_fields.Address.{Address}
use Rattle.ka10_spots.specs.declared.spots.Spot.{Spot}
use Rattle.ka10_spots.specs.declared.spots.Spot.TheVariants.{Accumulator, Page}
use Rattle.ka10_spots.specs.Glide.{Addressed, word_of}

-- fewer indirect words than these lead from a word to an address
abbrev pub LeadsTo : {P : Type 0} → PagesMeaning P → P → SpaceHandle → List ℕ → ℕ → ℕ → Option Address → Type 0
LeadsTo means p space ac most word found = (d : DrumWords) (f : ForkName) (before : ℕ) → means.fits p d → means.space p f ≡ Some space → before + most ≤ 16
    → IfSome found (λ address. Addressed f (means.plain p d) ac before most word address.e address.last)

-- a reference to an address finds an accumulator, or its page ready
abbrev pub IsReached : {P : Type 0} → PagesMeaning P → P → ForkName → ℕ → Kind → Type 0
IsReached means p f at kind = ACCUMULATORS ≤ at → IsTouched means p f (at / PAGE_WORDS) kind

-- fewer indirect words than these lead on from a word, and each of them is reached
abbrev pub IsLed : {P : Type 0} → PagesMeaning P → P → ForkName → NumberedPages → List ℕ → ℕ → ℕ → Type 0
IsLed means p f q ac zero word = ⊥
IsLed means p f q ac (suc most) word = is_indirect word ≡ true → IsReached means p f (indexed ac word) Read × IsLed means p f q ac most (word_of f q ac (indexed ac word))

module _ {P : Type 0} (means : PagesMeaning P) (space : SpaceHandle) (at : ℕ) where
  -- the word at an address is there
  abbrev pub IsSpot : P → Spot → Type 0
  IsSpot p Accumulator = at < ACCUMULATORS
  IsSpot p (Page found) = (ACCUMULATORS ≤ at) × (means.place p space (at / PAGE_WORDS) ≡ Some found)

  -- its page was used, unless it is an accumulator
  abbrev pub UsesPage : P → P → Type 0
  UsesPage old new = (found : Found) (home : ℕ) → ACCUMULATORS ≤ at → means.place old space (at / PAGE_WORDS) ≡ Some found → means.store.found old home ≡ Some found → IsUsed means.store home old new

  -- the word at an address is this one now, which is a use of its page, and nothing else has changed
  pub record Stored (word : ℕ) (old new : P) (regs after : Regs) : Type 0 where
    -- in an accumulator, or else in a page
    pub low : at < ACCUMULATORS → (new ≡ old) × (after ≡ record regs { ac = slice_set regs.ac at word })
    pub high : ACCUMULATORS ≤ at → after ≡ regs
    pub told : (d : DrumWords) (f : ForkName) → ACCUMULATORS ≤ at → means.fits old d → means.space old f ≡ Some space → means.plain new d ≡ stored (means.plain old d) (in_map (slot_at f at)) (at % PAGE_WORDS) word
    pub fits : (d : DrumWords) → means.fits old d → means.fits new d
    pub stays : StaysPut means old new
    pub loses : MayLose means old new
    pub uses : UsesPage old new
    pub pc : after.pc ≡ regs.pc
    pub accumulators : length after.ac ≡ length regs.ac

  -- the same, where there is a word
  abbrev pub StoredIf : Option ℕ → P → P → Regs → Regs → Type 0
  StoredIf None old new regs after = (new ≡ old) × (after ≡ regs)
  StoredIf (Some word) old new regs after = Stored word old new regs after

module _ {P : Type 0} (means : PagesMeaning P) (space : SpaceHandle) (pc : ℕ) where
  -- the page of a fetch was used, and pages at most behind it
  pub record UsesFetch (old new : P) : Type 0 where
    pub behind : P
    pub fetch : UsesPage means space pc old behind
    pub rest : OnlyUses means behind new

  -- the same, and last of all that of an operand
  pub record UsesOperand (at : ℕ) (old new : P) : Type 0 where
    pub before : P
    pub lead : UsesFetch old before
    pub operand : UsesPage means space at before new

-- the word at the program counter of registers is there
pub record IsFetched {P : Type 0} (means : PagesMeaning P) (space : SpaceHandle) (p : P) (regs : Regs) (fetched : Spot) : Type 0 where
  pub handle : HasSpace means p space
  pub pc : regs.pc < 2 ^ 18
  pub spot : IsSpot means space regs.pc p fetched
