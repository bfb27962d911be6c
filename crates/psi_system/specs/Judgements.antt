-- What a look at channels comes to, and its limits.
use Rattle.std.specs.Prelude.{◌<◌, ◌≤◌, ◌^◌, Option, None, Some}
use Rattle.plain_model.specs.declared.interrupt.Delivery.{Delivery}
use Rattle.plain_model.specs.declared.interrupt.Found.{Found}
use Rattle.plain_model.specs.declared.interrupt.Inspected.{Inspected}
use Rattle.plain_model.specs.declared.interrupt.Inspected.TheVariants as inspected
use Rattle.plain_model.specs.declared.interrupt.TheConstants.{CHANNELS, LEVELS}
use Rattle.plain_model.specs.Readings.{Reading, read}
use Rattle.psi_system.specs.declared.judging.Judged.{Judged}
use Rattle.psi_system.specs.declared.judging.Judged.TheVariants.{Best, Forces}

-- a reading goes on with the best channel so far, or the fork is forced
abbrev pub behind : (Option Found → Reading Inspected) → Judged → Reading Inspected
behind next (Best best) = next best
behind next (Forces channel) = read (inspected.Forces channel)

-- the numbers of a channel that can be taken
pub record FitsFound (found : Found) : Type 0 where
  pub channel : found.channel < CHANNELS
  pub low : 1 ≤ found.level
  pub high : found.level ≤ LEVELS
  pub to : found.to < 2 ^ 18

abbrev pub FitsBest : Option Found → Type 0
FitsBest None = Unit {0}
FitsBest (Some found) = FitsFound found

abbrev pub FitsJudged : Judged → Type 0
FitsJudged (Best best) = FitsBest best
FitsJudged (Forces channel) = channel < CHANNELS

-- the numbers of one that is taken
pub record FitsDelivery (delivery : Delivery) : Type 0 where
  pub found : FitsFound delivery.found
  pub at : delivery.at < 2 ^ 18

-- THE NUMBERS OF WHAT AN INSPECTION COMES TO are within their limits
abbrev pub FitsInspected : Inspected → Type 0
FitsInspected inspected.Nothing = Unit {0}
FitsInspected (inspected.Delivers delivery) = FitsDelivery delivery
FitsInspected (inspected.Forces channel) = channel < CHANNELS
