-- New pages in frames and on a drum, over which a machine is booted.
use Rattle.std.specs.Prelude.{◌≡◌, ℕ, ◌≤◌, [], replicate}
use Rattle.std.specs.Ordering.{nat_cmp}
use Rattle.machine_names.specs.declared.names.Tty.{Tty}
use Rattle.page_contracts.specs.DrumWords.{DrumWords}
use Rattle.page_contracts.specs.Pages.{PagesMeaning}
use Rattle.page_contracts.specs.Stores.{FitsHomes, free, members_of}
use Rattle.plain_pages.specs.PlainPages.{opening_pages}

-- no fork and no page, over a store of so many frames and homes in which all homes are free, no transfer is queued and nothing is held
pub record AreNewPages {P : Type 0} (means : PagesMeaning P) (core room : ℕ) (p : P) : Type 0 where
  pub fits : (d : DrumWords) → FitsHomes (replicate room free) d → means.fits p d
  pub plain : (d : DrumWords) → means.plain p d ≡ opening_pages nat_cmp room
  pub most : means.most p ≡ room
  pub forks : (t : Tty) → means.forks_of p t ≡ 0
  pub serials : (t : Tty) → means.serial p t ≤ 1
  pub homes : means.store.homes p ≡ replicate room free
  pub frames : means.store.frames p ≡ core
  pub members : means.store.members p ≡ members_of core
  pub queue : means.store.queue p ≡ []
  pub untold : means.store.untold p ≡ []
  pub holds : (holder : ℕ) → means.store.holds p holder ≡ []
