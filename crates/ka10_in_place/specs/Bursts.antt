-- Units in a row, done in place.
use Rattle.std.specs.Prelude.{◌≡◌, ℕ, ◌<◌, ◌^◌, Option, None, Some, length}
use Rattle.std.specs.Option.{option_and_then}
use Rattle.std.specs.Ordering.{nat_cmp}
use Rattle.plain_units.specs.declared.channel.TheConstants.{OVERFLOW, PUSHDOWN_OVERFLOW}
use Rattle.plain_units.specs.declared.registers.Regs.{Regs}
use Rattle.page_contracts.specs.declared.answers.SpaceHandle.{SpaceHandle}
use Rattle.machine_names.specs.declared.names.ForkName.{ForkName}
use Rattle.page_contracts.specs.DrumWords.{DrumWords}
use Rattle.page_contracts.specs.Pages.{PagesMeaning, MayLose, StaysPut}
use Rattle.plain_pages.specs.PlainPages.{NumberedPages}
use Rattle.ka10_in_place.specs.declared.ending.Burst.{Burst}
use Rattle.ka10_in_place.specs.declared.ending.BurstEnd.{BurstEnd}
use Rattle.ka10_in_place.specs.declared.ending.BurstEnd.TheVariants as end
use Rattle.ka10_in_place.specs.declared.fetch_page.FetchPage.{FetchPage}
use Rattle.ka10_spots.specs.Once.{After, once, in_a_row}
use Rattle.ka10_in_place.specs.Fetches.{CanExecute, IsThere}

-- so many units in a row, and then one more
abbrev pub and_one_more : ForkName → ℕ → NumberedPages → Regs → Option (After nat_cmp)
and_one_more f n p regs = option_and_then (λ a. once f a.pages a.regs) (in_a_row f n p regs)

-- what a burst of so many units leaves, by its end: the last unit may post
abbrev pub Came : BurstEnd → ℕ → ForkName → NumberedPages → Regs → NumberedPages → Regs → Type 0
Came end.Most n f p regs q after = in_a_row f n p regs ≡ Some (record { pages = q; regs = after; post = None })
Came end.Slow n f p regs q after = in_a_row f n p regs ≡ Some (record { pages = q; regs = after; post = None })
Came end.Overflow n f p regs q after = and_one_more f n p regs ≡ Some (record { pages = q; regs = after; post = Some OVERFLOW })
Came end.Pushdown n f p regs q after = and_one_more f n p regs ≡ Some (record { pages = q; regs = after; post = Some PUSHDOWN_OVERFLOW })

-- how many units are done: as many as were asked for, or fewer
abbrev pub AreCounted : BurstEnd → ℕ → ℕ → Type 0
AreCounted end.Most n most = n ≡ most
AreCounted end n most = n < most

-- A burst in a space, of so many units at most: the pages and the registers are what its units leave, for each fork whose
-- space this is and over each drum that fits. Only words of pages change; where not even the first is done in place, nothing does, and no page was used.
pub record InRow {P : Type 0} (means : PagesMeaning P) (space : SpaceHandle) (most : ℕ) (old new : P) (regs after : Regs) (result : Burst) : Type 0 where
  pub count : AreCounted result.end result.units most
  pub told : (d : DrumWords) (f : ForkName) → means.fits old d → means.space old f ≡ Some space → Came result.end result.units f (means.plain old d) regs (means.plain new d) after
  pub fits : (d : DrumWords) → means.fits old d → means.fits new d
  pub stays : StaysPut means old new
  pub loses : MayLose means old new
  pub pc : after.pc < 2 ^ 18
  pub accumulators : length after.ac ≡ length regs.ac
  pub undone : result.end ≡ end.Slow → result.units ≡ 0 → (after ≡ regs) × (new ≡ old)

-- so far a burst has done so many units, and none has posted; the page that it keeps can be fetched from
pub record SoFar {P : Type 0} (means : PagesMeaning P) (space : SpaceHandle) (old new : P) (regs after : Regs) (page : FetchPage) (units : ℕ) : Type 0 where
  pub told : (d : DrumWords) (f : ForkName) → means.fits old d → means.space old f ≡ Some space → in_a_row f units (means.plain old d) regs ≡ Some (record { pages = means.plain new d; regs = after; post = None })
  pub fetches : (d : DrumWords) (f : ForkName) → means.fits old d → means.space old f ≡ Some space → CanExecute f (means.plain new d) page
  pub there : IsThere means space new page
  pub fits : (d : DrumWords) → means.fits old d → means.fits new d
  pub stays : StaysPut means old new
  pub loses : MayLose means old new
  pub pc : after.pc < 2 ^ 18
  pub accumulators : length after.ac ≡ length regs.ac
  pub none : units ≡ 0 → (after ≡ regs) × (new ≡ old)
