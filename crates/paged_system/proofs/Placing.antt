-- What a transfer leaves of a system over pages: nothing but places of pages has changed.
use Rattle.std.proofs.Common.{◌≡◌, ℕ, ◌≤◌, ◌+◌, ◌*◌, Option, sym, subst}
use Rattle.page_contracts.specs.DrumWords.{DrumWords, Stands}
use Rattle.page_contracts.specs.Pages.{AreHoused, StaysPlain}
use Rattle.job_forks.specs.Holding.{StaysHomed}
use Rattle.monitor_calls.specs.Makings.{most_makings}
use Rattle.monitor_core.specs.Systems.{IsWithin}
use Rattle.monitor_core.specs.Transfers.{StaysPlaced}
use Rattle.page_waits.specs.Systems.{StaysOver, StaysState, StaysTold}
use Rattle.paged_system.specs.declared.paged.Paged.{Paged}
use Rattle.paged_system.specs.Paging.{paged}
use Rattle.paged_system.proofs.Staying.{same_over, state_stays, told_stays, within_same}

module _ {P : Type 0} {b : _} (old new : Paged P b) (placed : StaysPlaced old.system new.system) where
  homed : StaysHomed b.means old.system.pages new.system.pages
  homed = record { maps = λ f i. placed.mapped.map_homes i f; pages = λ n i. placed.mapped.page_homes i n; filed = placed.mapped.filed }

  within : (n : ℕ) → IsWithin old.system n → IsWithin new.system n
  within n w =
      within_same old.system new.system placed.beside homed n
      (λ t. (let same : b.means.serial new.system.pages t ≡ b.means.serial old.system.pages t = (λ i. placed.mapped.serials i t) in subst (λ (k : ℕ). k ≤ most_makings * n + 1) (sym same) (w.serials t))) w

  module _ (housed : AreHoused b.means old.system.pages) (housed' : AreHoused b.means new.system.pages) where
    pub told_placed : StaysTold paged old new
    told_placed = told_stays old new placed.beside homed housed housed' placed.mapped.most within

    pub state_placed : b.means.store.homes new.system.pages ≡ b.means.store.homes old.system.pages → StaysPlain b.means old.system.pages new.system.pages → StaysState paged old new
    state_placed homes plain = state_stays old new placed.beside homed housed housed' placed.mapped.most within homes plain

  -- over what a drum told and tells, where the plain pages stay
  module _ (housed : AreHoused b.means old.system.pages) {D : Type 0} (held : D → Option DrumWords) (drum drum' : D) where
    pub over_placed : ((d : DrumWords) → Stands b.means.flat (held drum) d → b.means.fits old.system.pages d
        → (e : DrumWords) × Stands b.means.flat (held drum') e × b.means.fits new.system.pages e × (b.means.plain new.system.pages e ≡ b.means.plain old.system.pages d))
        → StaysOver paged held old new drum drum'
    over_placed told = record {
      each = λ d stands fits. (
          let t = told d (subst (λ flat. Stands flat (held drum) d) housed.flat stands) fits.pages in
          (t.0, subst (λ flat. Stands flat (held drum') t.0) (sym housed.flat) t.1, same_over old new placed.beside homed d t.0 t.3 t.2 fits)
          );
    }
