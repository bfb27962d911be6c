-- What the making of pages leaves.
use Rattle.std.specs.Prelude.{◌≡◌, ◌≢◌, ℕ, ◌+◌, ◌≤◌, List, true}
use Rattle.machine_names.specs.declared.names.Tty.{Tty}
use Rattle.page_contracts.specs.DrumWords.{DrumWords}
use Rattle.plain_pages.specs.PlainPages.{NumberedPages}
use Rattle.plain_pages.specs.Room.{live}
use Rattle.plain_pages.specs.References.{granted}
use Rattle.page_contracts.specs.Pages.{PagesMeaning, MayLose, Scene}
use Rattle.page_gather.specs.declared.reference.PageReference.{PageReference}
use Rattle.page_gather.specs.declared.change.Change.{Change}
use Rattle.page_gather.specs.declared.walk.Walked.{Walked}
use Rattle.page_gather.specs.declared.makings.Makings.{Makings}
use Rattle.page_gather.specs.declared.judging.Judged.{Judged}
use Rattle.page_gather.specs.Walks.{permits_walked}
use Rattle.page_gather.specs.Gathering.{AreGathered, AreSound, GoesOn, HasWalked, IsNear, Judges, changes_with, homes_of, referred_to}

-- so many pages of an owner were made at most, each in a frame; no other page came into a frame or left it; transfers may have been taken from the
-- queue; and nothing else changed that is told without a drum
pub record Grows {P : Type 0} (means : PagesMeaning P) (owner : Tty) (pages : ℕ) (old new : P) : Type 0 where
  pub lives : means.lives new ≡ means.lives old
  pub forks : means.forks_of new ≡ means.forks_of old
  pub filed : means.filed new ≡ means.filed old
  pub most : means.most new ≡ means.most old
  pub serial : means.serial new owner ≤ means.serial old owner + pages
  pub serials : (t : Tty) → t ≢ owner → means.serial new t ≡ means.serial old t
  pub maps_away : (means.scene new).map_away ≡ (means.scene old).map_away
  pub pages_away : (means.scene new).page_away ≡ (means.scene old).page_away
  pub framed : means.count new + (means.scene new).free_frames ≡ means.count old + (means.scene old).free_frames
  pub loses : MayLose means old new

-- a reference goes through to these pages, what it refers to is in frames, and so many frames are free as it wants
pub record CanMake (p : NumberedPages) (scene : Scene) (owner : Tty) (r : PageReference) (left : NumberedPages) : Type 0 where
  pub sound : AreSound p scene
  pub goes : referred_to p owner r ≡ granted left
  pub near : IsNear p scene r.slot
  pub frames : live left ≤ live p + scene.free_frames

-- WHAT PAGES SAY OF A REFERENCE whose chain was walked, over each drum that fits: with these makings it goes on, where the chain permits it
abbrev pub MakesAlong : {P : Type 0} → PagesMeaning P → P → List Change → PageReference → Walked → Makings → Type 0
MakesAlong means pages cs r w makings =
    (d : DrumWords) (q : NumberedPages) (owner : Tty) (homes : ℕ) → means.fits pages d → HasWalked (means.plain pages d) q (means.scene pages) owner cs homes r.slot w → permits_walked r.kind w ≡ true
    → GoesOn (means.plain pages d) q (means.scene pages) owner r cs (changes_with cs makings) (homes + homes_of makings)

-- and of one that is judged
abbrev pub JudgesOver : {P : Type 0} → PagesMeaning P → P → List Change → ℕ → PageReference → Judged → Type 0
JudgesOver means pages cs homes r judged =
    (d : DrumWords) (owner : Tty) (rs : List PageReference) → means.fits pages d → AreGathered (means.plain pages d) (means.scene pages) owner rs cs homes
    → Judges (means.plain pages d) (means.scene pages) owner rs cs r judged.answer judged.makings judged.homes
