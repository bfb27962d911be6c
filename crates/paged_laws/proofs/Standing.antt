-- Where pages and maps stand that are pages of a store on frames and a drum.
use Rattle.std.proofs.Common.{◌≡◌, ℕ, ◌<◌, Some, subst}
use Rattle.page_contracts.specs.Pages.{AreHoused, Housed, home_for}
use Rattle.pager_walk.proofs.Looking.{taken_within}
use Rattle.paged_tables.specs.PagedSlots.{paged_slots}
use Rattle.paged_tables.specs.PagedTables.{Beside}
use Rattle.slot_paged.proofs.HousedPages.{paged_housed}
use Rattle.paged_tables.specs.PagedTables.{AreKept}
use Rattle.paged_store.specs.declared.store.PagedStore.{PagedStore}
use Rattle.paged_store.specs.OnePlace.{HasOnePlace}
use Rattle.paged_store.specs.StoreMeaning.{homes_of, paged_meaning}
use Rattle.paged_store.specs.StoreSound.{paged_sound}
use Rattle.paged_store.proofs.Lasting.{one_place}

module _ {P : Type 0} (part : P → PagedStore) (beside : P → Beside) (p : P) (kept : AreKept (beside p) (homes_of (part p))) where
  housed : AreHoused (paged_slots paged_meaning part beside) p
  housed = paged_housed paged_meaning part beside p kept (paged_sound (part p))

  pub stands : (x : Housed) (home : ℕ) → home_for (paged_slots paged_meaning part beside) p x ≡ Some home → HasOnePlace (part p) home
  stands x home is = one_place (part p) home (housed.taken x home is)

  pub stands_below : (x : Housed) (home : ℕ) → home_for (paged_slots paged_meaning part beside) p x ≡ Some home → home < (paged_slots paged_meaning part beside).most p
  stands_below x home is = subst (λ (n : ℕ). home < n) housed.homes (taken_within (homes_of (part p)) home (housed.taken x home is))

  pub stands_apart : (x y : Housed) (home : ℕ) → home_for (paged_slots paged_meaning part beside) p x ≡ Some home → home_for (paged_slots paged_meaning part beside) p y ≡ Some home → x ≡ y
  stands_apart = housed.apart
