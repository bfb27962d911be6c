-- What the layers above see of a machine.
use Rattle.std.specs.Prelude.{◌≡◌, ℕ, [], Bool}
use Rattle.plain_model.specs.State.{PlainState}
use Rattle.page_contracts.specs.DrumWords.{DrumWords}
use Rattle.page_contracts.specs.declared.store.TheConstants.{CONSOLE_HOLDER}
use Rattle.page_waits.specs.declared.machine.Machine.{Machine}

module _ {S : Type 0} {b : _} where
  -- whether the words of a drum fit
  abbrev pub Fits : Machine S b → DrumWords → Type 0
  Fits m d = b.means.fits m.system d

  -- the plain state over the words of a drum
  abbrev pub plain : Machine S b → DrumWords → PlainState
  plain m d = b.means.plain m.system d

  -- how many pages and forks there may be
  abbrev pub limit : Machine S b → ℕ
  limit m = b.means.limit m.system

  -- how many frames there are
  abbrev pub frames : Machine S b → ℕ
  frames m = b.means.store.frames m.system

  -- the AUTO mark
  abbrev pub auto : Machine S b → Bool
  auto m = m.auto

  -- nothing is held for the console
  abbrev pub IsBare : Machine S b → Type 0
  IsBare m = b.means.store.holds m.system CONSOLE_HOLDER ≡ []

  -- as many pages may live, as many frames are there, and the AUTO mark is the same
  pub record KeepsMarks (old new : Machine S b) : Type 0 where
    pub limit : limit new ≡ limit old
    pub frames : frames new ≡ frames old
    pub auto : auto new ≡ auto old
