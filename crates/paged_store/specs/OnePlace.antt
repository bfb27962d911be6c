-- Where a page stands, and transfers that end one after another.
use Rattle.std.specs.Prelude.{◌≡◌, ◌⊎◌, ℕ, zero, suc, List, Option, Some, true, false}
use Rattle.outside.specs.Drums.{page_at}
use Rattle.page_contracts.specs.DrumWords.{DrumWords}
use Rattle.page_contracts.specs.declared.answers.Need.{Need}
use Rattle.page_contracts.specs.Stores.{Ends, content}
use Rattle.drum_queue.specs.Transfers.{transfer_of}
use Rattle.page_residence.specs.Resident.{home_at, page_in, reads}
use Rattle.paged_store.specs.declared.store.PagedStore.{PagedStore}
use Rattle.paged_store.specs.StoreMeaning.{paged_meaning}

-- the words of a home's page, over the words of a drum
abbrev pub words_over : PagedStore → DrumWords → ℕ → Option (List ℕ)
words_over s d home = content (paged_meaning.homes s) d home

-- one frame is given to the page of a home, no read of that frame is queued, and it has the words, whatever the drum has
pub record IsInOneFrame (s : PagedStore) (home : ℕ) : Type 0 where
  pub frame : ℕ
  pub given : home_at s.core.frames.seats frame ≡ Some home
  pub only : (other : ℕ) → home_at s.core.frames.seats other ≡ Some home → other ≡ frame
  pub read : reads (transfer_of frame s.core.queue.queued) ≡ false
  pub has : paged_meaning.tenant s frame ≡ Some home
  pub words : (d : DrumWords) → words_over s d home ≡ Some (page_in s.core.frames.words frame)

-- the drum has the words at the home, and no frame is given to it but one whose read is queued
pub record IsOnDrum (s : PagedStore) (home : ℕ) : Type 0 where
  pub reading : (frame : ℕ) → home_at s.core.frames.seats frame ≡ Some home → reads (transfer_of frame s.core.queue.queued) ≡ true
  pub none : (frame : ℕ) → paged_meaning.tenant s frame ≡ Some home → ⊥
  pub words : (d : DrumWords) → words_over s d home ≡ Some (page_at d home)

abbrev pub HasOnePlace : PagedStore → ℕ → Type 0
HasOnePlace s home = IsInOneFrame s home ⊎ IsOnDrum s home

-- so many transfers have ended, one after another, and nothing else was done
abbrev pub HaveEnded : ℕ → PagedStore → PagedStore → Type 0
HaveEnded zero s n = s ≡ n
HaveEnded (suc k) s n = (m : PagedStore) × (need : Need) × (Ends paged_meaning need s m) × HaveEnded k m n
