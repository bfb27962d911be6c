-- How many forks and pages are counted, once a call was made.
use Rattle.std.proofs.Common.{◌≡◌, ℕ, ◌+◌, ◌-◌, ◌≤◌, ap, arith}
use Rattle.machine_names.specs.declared.names.Tty.{Tty}
use Rattle.page_contracts.specs.Pages.{PagesMeaning}
use Rattle.map_tests.specs.Counted.{AreCounted, first}

module _ {P : Type 0} {means : PagesMeaning P} {old new : P} {forks made : ℕ} where
  -- as many as before
  pub counted_same : means.forks_of new ≡ means.forks_of old → means.serial new ≡ means.serial old → AreCounted means old forks made → AreCounted means new forks made
  counted_same forks serials a = record { few = omega (arith, a.few, ap (λ (f : Tty → ℕ). f first) forks); low = omega (arith, a.low, ap (λ (f : Tty → ℕ). f first) serials); roomy = a.roomy }

  -- a fork more, or one fewer
  pub counted_more : means.forks_of new first ≡ means.forks_of old first + 1 → means.serial new ≡ means.serial old → AreCounted means old forks made → AreCounted means new (forks + 1) made
  counted_more more serials a = record { few = omega (arith, a.few, more); low = omega (arith, a.low, ap (λ (f : Tty → ℕ). f first) serials); roomy = a.roomy }

  pub counted_fewer : means.forks_of new first + 1 ≡ means.forks_of old first → means.serial new ≡ means.serial old → AreCounted means old forks made → AreCounted means new (forks - 1) made
  counted_fewer fewer serials a = record { few = omega (arith, a.few, fewer); low = omega (arith, a.low, ap (λ (f : Tty → ℕ). f first) serials); roomy = a.roomy }

  -- a page more
  pub counted_made : means.forks_of new ≡ means.forks_of old → means.serial new first ≤ means.serial old first + 1 → AreCounted means old forks made → AreCounted means new forks (made + 1)
  counted_made forks more a = record { few = omega (arith, a.few, ap (λ (f : Tty → ℕ). f first) forks); low = omega (arith, a.low, more); roomy = a.roomy }
