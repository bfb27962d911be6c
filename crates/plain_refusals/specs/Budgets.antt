-- How much one unit may do.
use Rattle.std.specs.Prelude.{◌≡◌, ◌≢◌, ◌⊎◌, ℕ, ◌+◌, List, [], ◌∷◌, length, nat_le, if◌then◌else◌, Some}
use Rattle.std.specs.declared.cmp.Ordering.{Ordering}
use Rattle.std.specs.FinMap as map
use Rattle.machine_names.specs.declared.names.ForkName.{ForkName}
use Rattle.machine_names.specs.declared.names.Kind.TheVariants.{Write}
use Rattle.plain_pages.specs.PlainPages.{NamedPages, PlainPages}
use Rattle.plain_units.specs.declared.unit.TheConstants.{MOST_REFERENCES}
use Rattle.plain_units.specs.Steps.{Asked, Progress, Steps, asked_at, goes, keeps, plainly, referred, refers, stops, widened, widens, word_taken}
use Rattle.machine_names.specs.declared.names.Tty.{Tty}
use Rattle.machine_names.specs.declared.names.Slot.{Slot}
use Rattle.machine_names.specs.Orders.{FilePage, name_cmp}
use Rattle.plain_pages.specs.Maps.{entry_at}
use Rattle.plain_files.specs.OpenFiles.{OpenFile}
use Rattle.plain_model.specs.declared.call.TheConstants.{BIN, BOUT, PBIN, PSOUT, SIN, SOUT}
use Rattle.plain_model.specs.ByteCalls.{behind_first, input_at}
use Rattle.plain_model.specs.Families.{Turned}
use Rattle.plain_model.specs.FileCalls.{held_at}
use Rattle.plain_model.specs.State.{PlainState}

module _ {K : Type 0} {file_cmp : K → K → Ordering} where
  -- how many references follow on one that was asked for: none where it stops the unit
  abbrev pub behind : Asked ⊥ (PlainPages file_cmp) → (PlainPages file_cmp → ℕ) → ℕ
  behind (goes p) more = more p
  behind (stops why) more = 0

  -- how many references steps of a fork ask for behind those that were made, with one that is denied or finds no room
  unfoldable pub asked_for : ForkName → Steps → Progress file_cmp → ℕ
  asked_for f (refers a kind next) t =
      if nat_le MOST_REFERENCES (length t.refs) then 0
      else 1 + behind (asked_at (plainly f) f t.pages a kind) (λ p. asked_for f (next (word_taken f (referred t a kind p) a)) (referred t a kind p))
  asked_for f (widens a next) t = behind (asked_at (plainly f) f t.pages a Write) (λ p. asked_for f next (widened t a p))
  asked_for f (keeps a w next) t = asked_for f next (record t { kept = Some (record { at = a; word = w }) })
  asked_for f step t = 0

-- the calls that take or give one byte a unit
abbrev pub byte_numbers : List ℕ
byte_numbers = BIN ∷ BOUT ∷ PBIN ∷ SIN ∷ SOUT ∷ PSOUT ∷ []

-- A turn takes or gives one byte at most: each JFN of each job stands where it stood or at the next byte, and of the characters that are
-- stored for a job the oldest may be gone.
pub record TakesOneByte (s : PlainState) (r : Turned name_cmp) : Type 0 where
  pub positions : (t : Tty) (n : ℕ) (j : OpenFile) → map.get (held_at s.jobs t) n ≡ Some j → (k : OpenFile) × (map.get (held_at r.parts.jobs t) n ≡ Some k) × ((k.at ≡ j.at) ⊎ (k.at ≡ j.at + 1))
  pub input : (t : Tty) → (input_at r.parts.jobs t ≡ input_at s.jobs t) ⊎ (input_at r.parts.jobs t ≡ behind_first (input_at s.jobs t))

-- pages are others by one page at most: each entry of a map but one is as it was, and each page of a file but one is the page that it was
pub record GoesOverOnePage (old new : NamedPages) : Type 0 where
  pub slot : Slot
  pub file : FilePage (List ℕ)
  pub entries : (at : Slot) → at ≢ slot → entry_at new.maps at ≡ entry_at old.maps at
  pub files : (at : FilePage (List ℕ)) → at ≢ file → map.get new.files at ≡ map.get old.files at
