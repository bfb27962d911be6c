-- An entry that is empty is left as it is where a fork's map is emptied.
use Rattle.std.proofs.Common.{◌≡◌, inl, inr, ℕ, ◌+◌, ◌<◌, true, Some, sym, ◌∙◌, ap, arith}
use Rattle.std.proofs.lemmas.Bool.{cases_eq}
use Rattle.machine_names.specs.declared.names.ForkName.{ForkName}
use Rattle.machine_names.specs.declared.names.Slot.{Slot}
use Rattle.machine_names.specs.declared.names.TheConstants.{SPACE_PAGES}
use Rattle.page_contracts.specs.DrumWords.{DrumWords}
use Rattle.page_contracts.specs.Stores.{StoreMeaning}
use Rattle.plain_pages.specs.declared.map.MapEntry.TheVariants as map_entry
use Rattle.plain_pages.specs.Maps.{entry_at}
use Rattle.pager_walk.specs.declared.paged_entry.Looked.TheVariants.{Is}
use Rattle.pager_walk.specs.declared.paged_entry.PagedEntry.TheVariants as paged
use Rattle.pager_walk.specs.MapPages.{index_of}
use Rattle.pager_walk.specs.PagedMaps.{is_near, look_at, plain_entry}
use Rattle.pager_walk.proofs.Looking.{ArePages}
use Rattle.flat_pages.specs.Emptying.{AreFewer}
use Rattle.paged_tables.specs.EndedForks.{EmptiesFork}
use Rattle.paged_tables.specs.FreedEntries.{FreesEntries}
use Rattle.paged_tables.specs.PagedTables.{Beside, AreKept, FitsPages, plain_over}
use Rattle.paged_tables.proofs.EntryChanged.{entry_seen}
use Rattle.paged_tables.proofs.EntryPut.{held_at}
use Rattle.paged_tables.proofs.WalksTold.{slot_is}

module _ {S : Type 0} (store : StoreMeaning S) (old mid : S) (b b1 : Beside) (fork : ForkName) (page : ℕ) where
  abbrev at : Slot
  at = record { fork = fork; page = page }

  module _ (kept : AreKept b1 (store.homes mid)) (pages : ArePages (store.homes mid)) (below : page < SPACE_PAGES) (number : ℕ) (numbered : index_of b1.tables.maps fork ≡ Some number)
      (near : is_near (look_at b1.tables (store.homes mid) at) ≡ true) (so_far : EmptiesFork store old mid b b1 fork page) (empty : look_at b1.tables (store.homes mid) at ≡ Is paged.Empty) where
    told_empty : (d : DrumWords) → FitsPages b (store.homes old) d → FitsPages b1 (store.homes mid) d × AreFewer (plain_over b (store.homes old) d) (plain_over b1 (store.homes mid) d) fork
        × ((j : ℕ) → j < page + 1 → entry_at (plain_over b1 (store.homes mid) d).maps (record { fork = fork; page = j }) ≡ Some map_entry.Empty)
    told_empty d fits =
        let before = so_far.told d fits in
        let held = held_at b1 (store.homes mid) kept pages d before.0 at (record { page = below; near = near }) (record { map = number; page = page }) (slot_is b1.tables (store.homes mid) d at number numbered) in
        let there : entry_at (plain_over b1 (store.homes mid) d).maps at ≡ Some (plain_entry b1.tables.names held.entry) = entry_seen b1 (store.homes mid) kept pages d before.0 at below held.entry held.look in
        let same : held.entry ≡ paged.Empty = cc (held.look, empty) in (
          before.0,
          before.1,
          λ j l. elim (cases_eq j page) [
            | inl is ↦ ap (λ (k : ℕ). entry_at (plain_over b1 (store.homes mid) d).maps (record { fork = fork; page = k })) is ∙ (there ∙ ap (λ e. Some (plain_entry b1.tables.names e)) same)
            | inr ne ↦ before.2 j (omega (arith, l, ne))
          ],
        )

    pub empties_empty : EmptiesFork store old mid b b1 fork (page + 1)
    empties_empty = record {
      told = told_empty;
      maps = so_far.maps;
      files = so_far.files;
      filed = so_far.filed;
      serials = so_far.serials;
      living = so_far.living;
      limit = so_far.limit;
      core = so_far.core;
      lost = so_far.lost;
      uses = so_far.uses;
    }

  pub frees_empty : FreesEntries store old mid b b1 fork page → FreesEntries store old mid b b1 fork (page + 1)
  frees_empty so_far = record {
    number = so_far.number;
    numbered = so_far.numbered;
    homes = so_far.homes;
    frames = so_far.frames;
    still = so_far.still;
    holds = so_far.holds;
    away = so_far.away;
    rest = λ j k l. so_far.rest j k (omega (arith, l));
  }
