-- The page from which words are fetched.
use Rattle.std.specs.Prelude.{◌≡◌, ℕ, ◌+◌, ◌/◌, ◌<◌, ◌≤◌, Bool, true, false, Some}
use Rattle.std.specs.Ordering.{nat_cmp}
use Rattle.outside.specs.declared.TheConstants.{PAGE_WORDS}
use Rattle.machine_names.specs.declared.names.ForkName.{ForkName}
use Rattle.machine_names.specs.declared.names.Kind.TheVariants.{Execute}
use Rattle.machine_names.specs.declared.names.TheConstants.{ACCUMULATORS}
use Rattle.plain_units.specs.declared.registers.Regs.{Regs}
use Rattle.page_contracts.specs.declared.answers.Found.{Found}
use Rattle.page_contracts.specs.declared.answers.SpaceHandle.{SpaceHandle}
use Rattle.page_contracts.specs.DrumWords.{DrumWords}
use Rattle.page_contracts.specs.Pages.{PagesMeaning, IsTouched}
use Rattle.plain_pages.specs.PlainPages.{NumberedPages}
use Rattle.ka10_in_place.specs.declared.fetch_page.FetchPage.{FetchPage}
use Rattle.plain_units.specs.Addressing.{ac_field, opcode}
use Rattle.ka10_spots.specs.Glide.{Addressed, is_ready}
use Rattle.ka10_spots.specs.Once.{After, once}
use Rattle.ka10_in_place.specs.InPlace.{Addressee, Does}

-- an address is one of its
pub record Has (page : FetchPage) (at : ℕ) : Type 0 where
  pub from : page.from ≤ at
  pub below : at < page.from + page.length

-- its addresses are those of a page of a space that are no accumulators
pub record IsPage (number : ℕ) (found : Found) (page : FetchPage) : Type 0 where
  pub high : (at : ℕ) → Has page at → ACCUMULATORS ≤ at
  pub of : (at : ℕ) → Has page at → at / PAGE_WORDS ≡ number
  pub has : (at : ℕ) → ACCUMULATORS ≤ at → at / PAGE_WORDS ≡ number → Has page at
  pub place : page.found ≡ found

-- an address of its is no accumulator, and its word is where the page was found
pub record StandsThere {P : Type 0} (means : PagesMeaning P) (space : SpaceHandle) (p : P) (page : FetchPage) (at : ℕ) : Type 0 where
  pub high : ACCUMULATORS ≤ at
  pub place : means.place p space (at / PAGE_WORDS) ≡ Some page.found

-- each is
abbrev pub IsThere : {P : Type 0} → PagesMeaning P → SpaceHandle → P → FetchPage → Type 0
IsThere means space p page = (at : ℕ) → Has page at → StandsThere means space p page at

-- the word at each can be executed, as the plain pages are
abbrev pub CanExecute : ForkName → NumberedPages → FetchPage → Type 0
CanExecute f p page = (at : ℕ) → Has page at → is_ready f p at Execute ≡ true

-- a page is kept for an address, where it is to be had, in place of another: what could be executed can be
pub record KeepsPage {P : Type 0} (means : PagesMeaning P) (space : SpaceHandle) (p : P)
    (at : ℕ) (old new : FetchPage) (is_kept : Bool) : Type 0 where
  pub has : is_kept ≡ true → Has new at
  pub missing : is_kept ≡ false → ACCUMULATORS ≤ at → (f : ForkName) → means.space p f ≡ Some space
      → IsTouched means p f (at / PAGE_WORDS) Execute → ⊥
  pub there : IsThere means space p new
  pub told : (d : DrumWords) (f : ForkName) → means.fits p d → means.space p f ≡ Some space
      → CanExecute f (means.plain p d) old → CanExecute f (means.plain p d) new

-- the unit of an instruction word behind its fetch: its address, and the rest
pub record Executes (regs : Regs) (word : ℕ) (f : ForkName) (p : NumberedPages) (a : After nat_cmp) : Type 0 where
  pub e : ℕ
  pub last : ℕ
  pub address : Addressed f p regs.ac 1 13 word e last
  pub rest : Addressee (opcode word) regs (ac_field word) e last f p a

-- the unit of the instruction at the program counter, where the words of one page could be executed: those of the page that it keeps can be
abbrev pub FetchedUnit : Regs → FetchPage → FetchPage → Does
FetchedUnit regs old new f p a = CanExecute f p old → CanExecute f a.pages new × (once f p regs ≡ Some a)
