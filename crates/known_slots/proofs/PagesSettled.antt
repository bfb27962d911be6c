-- What is left once the page of a place was settled.
use Rattle.std.proofs.Common.{◌≡◌, ℕ, Bool, sym, subst}
use Rattle.machine_names.specs.declared.names.ForkName.{ForkName}
use Rattle.machine_names.specs.declared.names.Kind.{Kind}
use Rattle.machine_names.specs.declared.names.Place.{Place}
use Rattle.machine_names.specs.declared.names.Place.TheVariants.{Fork, File}
use Rattle.machine_names.specs.declared.names.Tty.{Tty}
use Rattle.page_contracts.specs.declared.answers.Touch.{Touch}
use Rattle.page_contracts.specs.declared.answers.Touch.TheVariants.{Ready, Zero, Copy, Absent, NeedFrame, Denied, Full}
use Rattle.page_contracts.specs.Changes.{PageSettled}
use Rattle.page_contracts.specs.Pages.{FilesMade, IsPlace, SettlesHome, StandsAt}
use Rattle.page_contracts.specs.Stores.{IsSound, IsUsed, StoreMeaning}
use Rattle.flat_pages.specs.SlotMeaning.{within}
use Rattle.flat_pages.proofs.HandedOn.{used_within}
use Rattle.paged_tables.specs.PagedMeaning.{lives_in}
use Rattle.paged_tables.specs.PagedSlots.{paged_slots}
use Rattle.paged_tables.specs.PagedTables.{Beside, AreKept}
use Rattle.paged_tables.specs.PagedTouches.{touched_over}
use Rattle.paged_tables.specs.PlacesSettled.{FilesSettled, SettlesPlace}
use Rattle.paged_tables.proofs.Homed.{homed_named, place_stands}
use Rattle.known_slots.proofs.PlacesKept.{settles_home}
use Rattle.known_slots.proofs.PlacesUsed.{home_at, uses_place}

module _ {P S : Type 0} (store : StoreMeaning S) (part : P → S) (beside : P → Beside) (old new : P) (kept : AreKept (beside old) (store.homes (part old))) (kept' : AreKept (beside new) (store.homes (part new))) (sound : (s : S) → IsSound store s)
    (at : Place) (kind : Kind) (owner : Tty) (there : IsPlace (lives_in (beside old)) at) (z : SettlesPlace store (part old) (part new) (beside old) (beside new) at kind owner) where
  abbrev b : Beside
  b = beside old

  abbrev b' : Beside
  b' = beside new

  there' : IsPlace (lives_in b') at
  there' = subst (λ (lives : ForkName → Bool). IsPlace lives at) (sym z.lives) there

  files_made : (at : Place) (t : Touch) → FilesSettled b b' at t → FilesMade (paged_slots store part beside) at t old new
  files_made (Fork s) t same = same
  files_made (File f page) Ready same = same
  files_made (File f page) Zero one = record { set = one.set; others = one.others }
  files_made (File f page) (Copy sole) same = same
  files_made (File f page) (Absent home) same = same
  files_made (File f page) NeedFrame same = same
  files_made (File f page) (Denied kind) same = same
  files_made (File f page) Full same = same

  homes : SettlesHome (paged_slots store part beside) at old new
  homes =
      let u = z.uses in
      settles_home store part beside old new kept kept' z.maps at u.home (sound (part new)) there' u.stands u.here
      (homed_named b' (store.homes (part new)) kept' at u.home (place_stands b' (store.homes (part new)) kept' at there') u.stands) z.pages (z.names u.home u.stands) (z.fresh u.home u.stands)

  ready : (home : ℕ) → touched_over b (store.homes (part old)) (store.spare (part old)) at kind ≡ Ready → StandsAt (paged_slots store part beside) old at home → IsUsed (within store part) home old new
  ready home is stands =
      let h = home_at store part beside old kept (sound (part old)) at home there stands in
      used_within store part home old new (subst (λ (k : ℕ). IsUsed store k (part old) (part new)) h.2 (z.ready h.0 is h.1))

  pub page_settled : PageSettled (paged_slots store part beside) at kind owner old new
  page_settled = record {
    told = z.told;
    settles = z.settles;
    scene = z.scene;
    count = z.count;
    loses = z.loses;
    uses = uses_place store part beside old new kept' (sound (part new)) at kind there' z.uses;
    homes = homes;
    filed = files_made at (touched_over b (store.homes (part old)) (store.spare (part old)) at kind) z.filed;
    ready = ready;
    lives = z.lives;
    forks = z.forks;
    serial = z.serial;
    serials = z.serials;
    most = z.most;
  }
