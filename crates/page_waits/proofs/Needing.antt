-- What a task needs first is few frames, so that who waits for one has a victim.
use Rattle.std.proofs.Common.{◌≡◌, ℕ, ◌+◌, ◌<◌, List, [], length, ◌∙◌, ap, subst, arith}
use Rattle.machine_names.specs.declared.names.ForkName.{ForkName}
use Rattle.event_deeds.specs.Deeds.{deed_of, unit_of}
use Rattle.event_deeds.specs.declared.deed.Deed.{Deed}
use Rattle.page_contracts.specs.declared.answers.Need.{Need}
use Rattle.page_contracts.specs.declared.answers.Need.TheVariants.{Frame}
use Rattle.page_contracts.specs.declared.store.TheConstants.{CONSOLE_HOLDER}
use Rattle.page_contracts.specs.Stores.{IsNeeded}
use Rattle.page_waits.specs.Systems.{IsHoused, Needs, SystemMeaning}

module _ {S : Type 0} (means : SystemMeaning S) where
  frames_few : (most : ℕ) (s1 : S) (need : Need) → IsNeeded means.store most s1 need → need ≡ Frame → means.store.spare s1 < most
  frames_few most s1 need needed is = subst (IsNeeded means.store most s1) is needed

  -- where nothing is held for the console, a unit that needs frames finds few free
  pub few_free : (f : ForkName) (s s1 : S) (need : Need) → Needs means (unit_of f) s s1 need → means.store.holds s CONSOLE_HOLDER ≡ [] → need ≡ Frame → means.store.spare s1 + length (means.store.holds s1 CONSOLE_HOLDER) < 32
  few_free f s s1 need needs bare is =
      let low = frames_few 32 s1 need needs.needed is in
      let none : length (means.store.holds s1 CONSOLE_HOLDER) ≡ 0 = ap (λ (h : ℕ → List ℕ). length (h CONSOLE_HOLDER)) needs.stored.holds ∙ ap length bare in
      omega (arith, low, none)

  -- so does a deed, for which few are held
  pub few_asked : (d : Deed) (s s1 : S) (need : Need) → Needs means (deed_of d) s s1 need → IsHoused means.store s1 → need ≡ Frame → means.store.spare s1 + length (means.store.holds s1 CONSOLE_HOLDER) < 32
  few_asked d s s1 need needs housed is =
      let low = frames_few 16 s1 need needs.needed is in
      let held = housed.sound.few_held CONSOLE_HOLDER in
      omega (arith, low, held)
