-- A fork's map is emptied, entry by entry.
use Rattle.std.proofs.Common.{◌≡◌, inl, inr, ℕ, ◌+◌, ◌<◌, List, true, Option, None, Some, is_some, refl, sym, ◌∙◌, ap, subst, arith}
use Rattle.std.specs.Option.{option_and_then}
use Rattle.std.proofs.lemmas.Bool.{cases_eq}
use Rattle.machine_names.specs.declared.names.ForkName.{ForkName}
use Rattle.machine_names.specs.declared.names.Slot.{Slot}
use Rattle.machine_names.specs.declared.names.TheConstants.{SPACE_PAGES}
use Rattle.page_contracts.specs.DrumWords.{DrumWords}
use Rattle.page_contracts.specs.Stores.{HomePlace, StoreMeaning, away_at, traffic, word_in}
use Rattle.page_contracts.proofs.Losing.{loses_nothing, loses_on}
use Rattle.plain_pages.specs.declared.map.MapEntry.TheVariants as map_entry
use Rattle.plain_pages.specs.PlainPages.{Maps, NumberedPages}
use Rattle.plain_pages.specs.Maps.{entry_at, set_entry}
use Rattle.plain_pages.specs.WholePages.{AreWhole}
use Rattle.plain_pages.proofs.Kept.{entry_maps}
use Rattle.plain_pages.proofs.Chains.{entry_other, entry_set}
use Rattle.pager_walk.specs.declared.paged_entry.PagedEntry.TheVariants as paged
use Rattle.pager_walk.specs.MapPages.{index_of, root_at}
use Rattle.pager_walk.specs.PagedMaps.{is_near, look_at, look_map, look_word, map_away, plain_entry}
use Rattle.pager_walk.proofs.Looking.{ArePages, root_taken}
use Rattle.flat_pages.specs.Emptying.{AreFewer}
use Rattle.flat_pages.proofs.Agreement.{tables_whole}
use Rattle.flat_pages.proofs.EmptyMaps.{core_on, fewer_emptied, fewer_itself, fewer_on}
use Rattle.flat_pages.proofs.EntrySetting.{same_core}
use Rattle.paged_tables.specs.EndedForks.{EmptiesFork}
use Rattle.paged_tables.specs.PagedTables.{Beside, AreKept, FitsPages, in_memory_over, plain_over}
use Rattle.paged_tables.specs.SetEntries.{SetsSlot}
use Rattle.paged_tables.proofs.EntryChanged.{entry_seen}
use Rattle.paged_tables.proofs.UsedPlaces.{others_again}
use Rattle.paged_tables.proofs.EntryPut.{held_at}
use Rattle.paged_tables.proofs.NearEntries.{word_near}
use Rattle.paged_tables.proofs.Homed.{sized}
use Rattle.paged_tables.proofs.ReadyHomes.{words_here}
use Rattle.paged_tables.proofs.WalksTold.{slot_is}

-- an entry can be looked at whose map is in a frame
pub near_core : (b : Beside) (places : List HomePlace) → AreKept b places → (at : Slot) → is_some (index_of b.tables.maps at.fork) ≡ true → map_away b.tables places at.fork ≡ None → is_near (look_at b.tables places at) ≡ true
near_core b places kept at lives near = by (index_of b.tables.maps at.fork) refl lives near
  where
    by : (o : Option ℕ) → index_of b.tables.maps at.fork ≡ o → is_some o ≡ true → option_and_then (λ k. away_at places (root_at b.tables.maps k).0) o ≡ None → is_near (look_map b.tables places at.page o) ≡ true
    by None is l n = absurd (cc l)
    by (Some k) is l n =
        let x = words_here places (root_at b.tables.maps k).0 (root_taken b.tables places kept.rooted at.fork k is) n in
        ap (λ p. is_near (look_word b.tables (root_at b.tables.maps k) (word_in p at.page))) x.1 ∙ word_near b.tables (root_at b.tables.maps k) x.0 at.page

-- a fork that lives has a map with a number
pub numbered_lives : (b : Beside) (fork : ForkName) → is_some (index_of b.tables.maps fork) ≡ true → (k : ℕ) × (index_of b.tables.maps fork ≡ Some k)
numbered_lives b fork lives = by (index_of b.tables.maps fork) lives
  where
    by : (o : Option ℕ) → is_some o ≡ true → (k : ℕ) × (o ≡ Some k)
    by None h = absurd (cc h)
    by (Some k) h = (k, refl)

-- none of its entries
pub empties_none : {S : Type 0} (store : StoreMeaning S) (old : S) (b : Beside) (fork : ForkName) → AreKept b (store.homes old) → ArePages (store.homes old) → EmptiesFork store old old b b fork 0
empties_none store old b fork kept pages = record {
  told = λ d fits. (fits, fewer_itself (plain_over b (store.homes old) d) fork (tables_whole (in_memory_over b (store.homes old) d) fits.agree d (sized b (store.homes old) kept pages d fits)), λ page l. absurd (omega (arith, l)));
  maps = refl;
  files = refl;
  filed = refl;
  serials = refl;
  living = refl;
  limit = refl;
  core = same_core _;
  lost = loses_nothing (traffic store old);
  uses = λ frame some none. record { tenant = refl; age = refl };
}

-- one more
module _ {S : Type 0} (store : StoreMeaning S) (old mid new : S) (b b1 b' : Beside) (fork : ForkName) (page : ℕ) (kept1 : AreKept b1 (store.homes mid)) (pages1 : ArePages (store.homes mid)) (below : page < SPACE_PAGES) (number : ℕ) (numbered : index_of b1.tables.maps fork ≡ Some number)
    (near : is_near (look_at b1.tables (store.homes mid) (record { fork = fork; page = page })) ≡ true) (so_far : EmptiesFork store old mid b b1 fork page) (sets : SetsSlot store mid new b1 b' (record { fork = fork; page = page }) paged.Empty) where
  abbrev at : Slot
  at = record { fork = fork; page = page }

  told_more : (d : DrumWords) → FitsPages b (store.homes old) d → FitsPages b' (store.homes new) d × AreFewer (plain_over b (store.homes old) d) (plain_over b' (store.homes new) d) fork
      × ((j : ℕ) → j < page + 1 → entry_at (plain_over b' (store.homes new) d).maps (record { fork = fork; page = j }) ≡ Some map_entry.Empty)
  told_more d fits =
      let before = so_far.told d fits in
      let step = sets.told d before.0 in
      let p : NumberedPages = plain_over b1 (store.homes mid) d in
      let whole : AreWhole p = tables_whole (in_memory_over b1 (store.homes mid) d) before.0.agree d (sized b1 (store.homes mid) kept1 pages1 d before.0) in
      let held = held_at b1 (store.homes mid) kept1 pages1 d before.0 at (record { page = below; near = near }) (record { map = number; page = page }) (slot_is b1.tables (store.homes mid) d at number numbered) in
      let there : entry_at p.maps at ≡ Some (plain_entry b1.tables.names held.entry) = entry_seen b1 (store.homes mid) kept1 pages1 d before.0 at below held.entry held.look in
      let maps_are = ap (λ (r : NumberedPages). r.maps) step.1 ∙ entry_maps p whole at (plain_entry b1.tables.names held.entry) map_entry.Empty there in (
        step.0,
        fewer_on (plain_over b (store.homes old) d) p (plain_over b' (store.homes new) d) fork before.1 (subst (λ (q : NumberedPages). AreFewer p q fork) (sym step.1) (fewer_emptied p whole at (plain_entry b1.tables.names held.entry) there)),
        λ j l. elim (cases_eq j page) [
          | inl same ↦ ap (λ (m : Maps). entry_at m (record { fork = fork; page = j })) maps_are ∙ ap (λ (k : ℕ). entry_at (set_entry p.maps at map_entry.Empty) (record { fork = fork; page = k })) same ∙ entry_set p.maps at (plain_entry b1.tables.names held.entry) map_entry.Empty there
          | inr ne ↦ ap (λ (m : Maps). entry_at m (record { fork = fork; page = j })) maps_are ∙ entry_other p.maps at (plain_entry b1.tables.names held.entry) map_entry.Empty there (record { fork = fork; page = j }) (λ e. ne (ap (λ (x : Slot). x.page) e)) ∙ before.2 j (omega (arith, l, ne))
        ],
      )

  pub empties_more : EmptiesFork store old new b b' fork (page + 1)
  empties_more = record {
    told = told_more;
    maps = sets.maps ∙ so_far.maps;
    files = sets.files ∙ so_far.files;
    filed = sets.filed ∙ so_far.filed;
    serials = sets.serials ∙ so_far.serials;
    living = sets.living ∙ so_far.living;
    limit = sets.limit ∙ so_far.limit;
    core = core_on so_far.core sets.core;
    lost = loses_on (traffic store old) (traffic store mid) (traffic store new) so_far.lost sets.lost;
    uses = others_again store old mid new b1 b' fork sets.maps so_far.uses sets.uses;
  }

-- the fork's map is in a frame still
pub near_later : {S : Type 0} (store : StoreMeaning S) (old mid : S) (b b1 : Beside) (fork : ForkName) (page : ℕ) → AreKept b1 (store.homes mid) → EmptiesFork store old mid b b1 fork page → is_some (index_of b.tables.maps fork) ≡ true → map_away b.tables (store.homes old) fork ≡ None
    → ((number : ℕ) × (index_of b1.tables.maps fork ≡ Some number)) × (is_near (look_at b1.tables (store.homes mid) (record { fork = fork; page = page })) ≡ true)
near_later store old mid b b1 fork page kept so_far lives near =
    let same : index_of b1.tables.maps fork ≡ index_of b.tables.maps fork = ap (λ ms. index_of ms fork) so_far.maps in
    let now : is_some (index_of b1.tables.maps fork) ≡ true = ap (λ (o : Option ℕ). is_some o) same ∙ lives in
    (numbered_lives b1 fork now, near_core b1 (store.homes mid) kept (record { fork = fork; page = page }) now (so_far.core.maps fork near))
