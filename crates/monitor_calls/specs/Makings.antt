-- How many pages are made for whom.
use Rattle.std.specs.Prelude.{◌≡◌, ◌≢◌, ℕ, ◌+◌, ◌≤◌}
use Rattle.machine_names.specs.declared.names.Tty.{Tty}
use Rattle.page_contracts.specs.Pages.{PagesMeaning}

-- so many pages at most are made in one entry: two for each reference that a unit has room for
abbrev pub most_makings : ℕ
most_makings = 129

-- pages were made for an owner, so many at most: the forks that live are the same, and so are the next serials of other owners
pub record Makes {P : Type 0} (means : PagesMeaning P) (old new : P) (owner : Tty) (count : ℕ) : Type 0 where
  pub lives : means.lives new ≡ means.lives old
  pub forks : means.forks_of new ≡ means.forks_of old
  pub most : means.most new ≡ means.most old
  pub own : means.serial new owner ≤ means.serial old owner + count
  pub others : (t : Tty) → t ≢ owner → means.serial new t ≡ means.serial old t

-- no page was made: the same, for whatever owner
pub record MakesNone {P : Type 0} (means : PagesMeaning P) (old new : P) : Type 0 where
  pub lives : means.lives new ≡ means.lives old
  pub forks : means.forks_of new ≡ means.forks_of old
  pub most : means.most new ≡ means.most old
  pub serials : means.serial new ≡ means.serial old
