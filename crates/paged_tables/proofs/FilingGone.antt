-- What is told once a file names a page no more that had no other name.
use Rattle.std.proofs.Common.{◌≡◌, ◌≢◌, inl, inr, ℕ, ◌<◌, List, Option, None, Some, length, map, refl, sym, ◌∙◌, ap, subst, arith}
use Rattle.std.specs.Prelude.{IsSome, slice_index, slice_set}
use Rattle.std.specs.FinMap as fin
use Rattle.std.specs.Option.{option_map_or}
use Rattle.std.proofs.lemmas.Bool.{cases_eq, cases_lt}
use Rattle.std.proofs.lemmas.List.{get_or-set_same, get_or-set_other, get_or_past, length-set}
use Rattle.outside.specs.Drums.{IsPage}
use Rattle.outside.specs.declared.TheConstants.{PAGE_WORDS}
use Rattle.machine_names.specs.declared.names.Access.{Access}
use Rattle.machine_names.specs.declared.names.ForkName.{ForkName}
use Rattle.machine_names.specs.declared.names.TheConstants.{SPACE_PAGES}
use Rattle.machine_names.specs.Orders.{FilePage}
use Rattle.page_homes.specs.declared.homes.Home.{Home}
use Rattle.page_contracts.specs.DrumWords.{DrumWords}
use Rattle.page_contracts.specs.Stores.{HomePlace, content, free, here, place}
use Rattle.plain_pages.specs.FilePages.{with_file}
use Rattle.flat_tables.specs.declared.held_entry.HeldEntry.TheVariants as held
use Rattle.flat_tables.specs.HeldMaps as flat
use Rattle.flat_tables.specs.SlotTables.{Tables as FlatTables, AreSized, AreTables, filed_total, plain_of, share_of}
use Rattle.flat_tables.specs.TableSteps.{file_freed}
use Rattle.flat_tables.proofs.FiledHomes.{at_itself, filed_less, filed_some, files_still}
use Rattle.flat_pages.proofs.GivenUp.{gone_not}
use Rattle.flat_tables.proofs.HeldEntries.{points_self, total_le}
use Rattle.flat_pages.proofs.Leaving.{file_freed_tables, name_kept, named_of}
use Rattle.flat_pages.proofs.Settling.{content_other as content_kept, fits_set, sized_of}
use Rattle.flat_pages.proofs.Told.{entry_still, map_same}
use Rattle.pager_walk.specs.declared.paged_entry.PagedEntry.{PagedEntry}
use Rattle.pager_walk.specs.declared.paged_entry.PagedEntry.TheVariants.{Page}
use Rattle.pager_walk.specs.MapPages.{fork_at, root_at}
use Rattle.pager_walk.specs.PagedMaps.{Tables, entry_in, words_in}
use Rattle.pager_walk.proofs.Changing.{content_other, fits_still}
use Rattle.pager_walk.proofs.Looking.{ArePages, taken_map, words_whole}
use Rattle.paged_tables.specs.FiledTables.{filed_freed}
use Rattle.paged_tables.specs.MapsInMemory.{entry_held, in_memory, maps_in_memory}
use Rattle.paged_tables.specs.PagedTables.{Beside, AreKept, FitsPages, in_memory_over, plain_over}
use Rattle.paged_tables.specs.PagedTouches.{names_at}
use Rattle.paged_tables.proofs.Counted.{counts_at}
use Rattle.paged_tables.proofs.EntrySet.{all_same, there_at}
use Rattle.paged_tables.proofs.FiledShares.{gone_counts}
use Rattle.paged_tables.proofs.FilingEntries.{entry_gone}
use Rattle.paged_tables.proofs.FilingTold.{filed_plain}
use Rattle.paged_tables.proofs.Homed.{flat_pages, sized}
use Rattle.paged_tables.proofs.MapsTold.{entry_told}
use Rattle.paged_tables.proofs.Places.{IsNoRoot, fits_places, places_set}
use Rattle.paged_tables.proofs.Touched.{named_apart}

module _ (b : Beside) (places : List HomePlace) (kept : AreKept b places) (pages : ArePages places) (d : DrumWords) (fits : FitsPages b places d) (f : FilePage ℕ) (h : Home) (there : fin.get b.files f ≡ Some h) (one : names_at b h.0 ≡ 1) where
  abbrev u : FlatTables
  u = in_memory_over b places d

  abbrev t' : Tables
  t' = (filed_freed b f h).tables

  abbrev places' : List HomePlace
  places' = slice_set places h.0 free

  apart : IsNoRoot b.tables.maps h.0
  apart = named_apart b places kept.rooted h.0 (kept.filed f h there)

  share_one : share_of u.shares h.0 ≡ 1
  share_one = counts_at b.tables.shares b.tables.names b.shared h.0 ∙ one

  -- no entry names the page
  no_entry : flat.entries_total (flat.points_at h.0) u.maps ≡ 0
  no_entry = omega (arith, fits.agree.shares h.0, share_one, filed_some b.files f h there)

  none_left : filed_total h.0 (fin.remove b.files f) ≡ 0
  none_left = omega (arith, fits.agree.shares h.0, share_one, filed_less b.files f h h.0 there, at_itself h)

  abbrev words : ℕ → List ℕ
  words j = words_in (content places d (root_at b.tables.maps j).0)

  whole : (j : ℕ) (g : ForkName) → fork_at b.tables.maps j ≡ Some g → length (words j) ≡ PAGE_WORDS
  whole j g is = words_whole places d fits.maps.drum pages (root_at b.tables.maps j).0 (sym (taken_map places (root_at b.tables.maps j).0) ∙ kept.rooted.there j g is)

  held_there : (j page : ℕ) (g : ForkName) → fork_at b.tables.maps j ≡ Some g → page < SPACE_PAGES → flat.held_entry u.maps (record { map = j; page = page }) ≡ Some (entry_held b.tables (slice_index (words j) page))
  unfolding maps_in_memory
  held_there j page g is below = entry_told b.tables (content places d) b.tables.maps j page g is (omega (arith, below, whole j g is))

  names_other : (j page : ℕ) (g : ForkName) → fork_at b.tables.maps j ≡ Some g → page < SPACE_PAGES → (home : Home) (a : Access) → entry_in b.tables (slice_index (words j) page) ≡ Some (Page home a) → home.0 ≢ h.0
  names_other j page g is below home a e same =
      let entry : flat.held_entry u.maps (record { map = j; page = page }) ≡ Some (held.Page home a) = held_there j page g is below ∙ ap (λ (o : Option PagedEntry). Some (option_map_or in_memory o held.Empty)) e in
      let le = total_le (flat.points_at h.0) u.maps (record { map = j; page = page }) (held.Page home a) refl entry in
      let counts : flat.points_at h.0 (held.Page home a) ≡ 1 = ap (λ k. flat.points_at k (held.Page home a)) (sym same) ∙ points_self home a in
      omega (arith, le, counts, no_entry)

  -- so each entry stays
  entry_same : (j page : ℕ) (g : ForkName) → fork_at b.tables.maps j ≡ Some g → page < SPACE_PAGES → entry_in t' (slice_index (words j) page) ≡ entry_in b.tables (slice_index (words j) page)
  entry_same j page g is below = entry_gone b.tables h.0 b.shared kept.shared one (slice_index (words j) page) (fits.maps.entries j page g is below) (names_other j page g is below)

  words_same : (j : ℕ) (g : ForkName) → fork_at b.tables.maps j ≡ Some g → content places' d (root_at b.tables.maps j).0 ≡ content places d (root_at b.tables.maps j).0
  words_same j g is = content_other places d h.0 (root_at b.tables.maps j).0 free (apart j g is)

  row_same : (j : ℕ) (g : ForkName) → fork_at b.tables.maps j ≡ Some g → map (entry_held t') (words_in (content places' d (root_at b.tables.maps j).0)) ≡ map (entry_held b.tables) (words j)
  row_same j g is =
      ap (λ (c : Option (List ℕ)). map (entry_held t') (words_in c)) (words_same j g is)
      ∙ map_same (entry_held t') (entry_held b.tables) (words j) (λ i x e.
      let r = there_at (words j) i x e in
      let same = entry_same j i g is (omega (arith, r.0, whole j g is)) in
      ap (λ (o : Option PagedEntry). option_map_or in_memory o held.Empty) (subst (λ v. entry_in t' v ≡ entry_in b.tables v) r.1 same))

  maps_are : maps_in_memory t' (content places' d) ≡ u.maps
  unfolding maps_in_memory
  maps_are = all_same b.tables t' (content places d) (content places' d) b.tables.maps row_same

  gone_over : in_memory_over (filed_freed b f h) places' d ≡ file_freed u f h
  gone_over =
      let pages_are = places_set b.tables.maps places h.0 free apart in
      let counts_are = gone_counts b.tables.shares b.tables.names b.shared kept.shared h.0 one in
      λ i. record (file_freed u f h) { places = pages_are i; shares = counts_are i; maps = maps_are i }

  agree : AreTables (file_freed u f h)
  agree = file_freed_tables u fits.agree h share_one f there

  free_there : place (slice_set u.places h.0 free) h.0 ≡ free
  free_there = elim (cases_lt h.0 (length u.places)) [
    | inl l ↦ get_or-set_same u.places h.0 free free l
    | inr past ↦ get_or_past (slice_set u.places h.0 free) h.0 free (omega (arith, past, length-set u.places h.0 free))
  ]

  pages_after : (k : ℕ) (ws : List ℕ) → place (slice_set u.places h.0 free) k ≡ here ws → IsPage ws
  pages_after k ws e = elim (cases_eq k h.0) [
    | inl own ↦ absurd (let z : free ≡ here ws = sym free_there ∙ ap (place (slice_set u.places h.0 free)) (sym own) ∙ e in cc z)
    | inr ne ↦ flat_pages b places kept pages d fits k ws (sym (get_or-set_other u.places h.0 k free free ne) ∙ e)
  ]

  sized_after : AreSized (slice_set u.places h.0 free) d
  sized_after = sized_of (slice_set u.places h.0 free) d (fits_set u.places d h.0 free (fits_places b.tables.maps places d fits.maps.drum)) pages_after

  plain_gone : plain_of (file_freed u f h) d ≡ with_file (plain_of u d) f None
  plain_gone =
      filed_plain u (file_freed u f h) fits.agree agree f None d (sized b places kept pages d fits) sized_after refl refl refl
      (named_of u fits.agree h share_one)
      (λ k n e. content_kept u.places d h.0 k free (gone_not u fits.agree h share_one k n e))
      (λ e x held. entry_still u.names (slice_set u.names h.0 None) h.0 x (name_kept u fits.agree h share_one) (omega (arith, total_le (flat.points_at h.0) u.maps e x refl held, no_entry)))
      refl
      (files_still u.names (slice_set u.names h.0 None) (fin.remove u.files f) h.0 none_left (name_kept u fits.agree h share_one))

  pub gone_told : FitsPages (filed_freed b f h) places' d × (plain_over (filed_freed b f h) places' d ≡ with_file (plain_over b places d) f None)
  gone_told = (
    record {
      maps = record {
        drum = fits_still places d h.0 free fits.maps.drum;
        entries = λ k page g is below.
            subst (λ (c : Option (List ℕ)). IsSome (entry_in t' (slice_index (words_in c) page))) (sym (words_same k g is))
            (subst (λ (o : Option PagedEntry). IsSome o) (sym (entry_same k page g is below)) (fits.maps.entries k page g is below));
      };
      agree = subst AreTables (sym gone_over) agree;
    },
    ap (λ (t : FlatTables). plain_of t d) gone_over ∙ plain_gone,
  )
