-- The maps in memory once a page went that no entry names any more.
use Rattle.std.proofs.Common.{◌≡◌, ◌≢◌, ℕ, ◌<◌, List, Bool, true, false, cond, Option, None, Some, is_some, length, map, refl, sym, ◌∙◌, ap, subst, arith}
use Rattle.std.specs.Prelude.{IsSome, slice_index}
use Rattle.std.specs.Option.{option_map_or, option_and_then}
use Rattle.outside.specs.declared.TheConstants.{PAGE_WORDS}
use Rattle.machine_names.specs.declared.names.Access.{Access}
use Rattle.machine_names.specs.declared.names.ForkName.{ForkName}
use Rattle.page_homes.specs.declared.homes.Home.{Home}
use Rattle.page_contracts.specs.DrumWords.{DrumWords}
use Rattle.page_contracts.specs.Stores.{HomePlace, content, is_taken, place}
use Rattle.share_table.specs.declared.pointer.Pointer.{Pointer}
use Rattle.share_table.specs.declared.pointer.Pointer.TheVariants as pointer
use Rattle.share_table.specs.declared.shares.Share.{Share}
use Rattle.share_table.specs.declared.shares.SharedPage.{SharedPage}
use Rattle.share_table.specs.Shares.{Shares, page_at}
use Rattle.pager_walk.specs.declared.paged_entry.PagedEntry.{PagedEntry}
use Rattle.pager_walk.specs.declared.paged_entry.PagedEntry.TheVariants.{Page}
use Rattle.pager_walk.specs.Decoding.{pointer_in}
use Rattle.pager_walk.specs.MapPages.{fork_at, root_at}
use Rattle.pager_walk.specs.PagedMaps.{FitsMaps, Tables, entry_for, entry_in, name_at, page_entry, words_in}
use Rattle.pager_walk.proofs.Looking.{ArePages, words_whole}
use Rattle.flat_tables.specs.declared.held_entry.EntryAt.{EntryAt}
use Rattle.flat_tables.specs.declared.held_entry.HeldEntry.{HeldEntry}
use Rattle.flat_tables.specs.declared.held_entry.HeldEntry.TheVariants as entry
use Rattle.flat_tables.specs.HeldMaps as flat
use Rattle.flat_tables.proofs.HeldEntries.{points_self}
use Rattle.flat_pages.proofs.Told.{map_same}
use Rattle.paged_tables.specs.MapsInMemory.{entry_held, in_memory, maps_in_memory}
use Rattle.paged_tables.specs.LeftShares.{left_by_one}
use Rattle.paged_tables.specs.NameCounts.{share_at}
use Rattle.paged_tables.specs.PagedTables.{AreKept, Beside}
use Rattle.paged_tables.specs.PagedTouches.{has_one_name}
use Rattle.paged_tables.specs.SetEntries.{page_freed}
use Rattle.paged_tables.proofs.EntrySet.{all_same, there_at}
use Rattle.paged_tables.proofs.FreedPages.{freed_share, kept_page, within_shared}
use Rattle.paged_tables.proofs.MapsTold.{entry_told}
use Rattle.paged_tables.proofs.Sharing.{shares_home}
use Rattle.std.proofs.lemmas.List.{get_or-set_other}

module _ (b : Beside) (places : List HomePlace) (kept : AreKept b places) (home : Home) (one : has_one_name b home.0 ≡ true) where
  abbrev t : Tables
  t = b.tables

  abbrev t' : Tables
  t' = (page_freed b home).tables

  -- the entry of a pointer that doesn't name the page is the same
  page_still : (h : Home) (a : Access) → flat.points_at home.0 (option_map_or in_memory (page_entry t.names h a) entry.Empty) ≡ 0 → IsSome (page_entry t.names h a) → page_entry t'.names h a ≡ page_entry t.names h a
  page_still h a none some = by (is_some (name_at t.names h.0)) refl none some
    where
      by : (c : Bool) → is_some (name_at t.names h.0) ≡ c → flat.points_at home.0 (option_map_or in_memory (cond c (Some (Page h a)) None) entry.Empty) ≡ 0 → is_some (cond c (Some (Page h a)) None) ≡ true → page_entry t'.names h a ≡ page_entry t.names h a
      by false is n s = absurd (cc s)
      by true is n s =
          let apart : h.0 ≢ home.0 = λ same. (let z = points_self h a in let y = subst (λ (k : ℕ). flat.points_at k (entry.Page h a) ≡ 0) (sym same) n in omega (arith, z, y)) in
          ap (λ o. cond (is_some o) (Some (Page h a)) None) (get_or-set_other t.names home.0 h.0 None None apart)

  -- the share of another home is there
  share_still : (s : ℕ) (p : SharedPage) → page_at t.shares s ≡ Some p → p.home.0 ≢ home.0 → page_at t'.shares s ≡ Some p
  share_still s p is ne = by (share_at b.shared home.0) refl
    where
      by : (o : Option Share) → share_at b.shared home.0 ≡ o → page_at t'.shares s ≡ Some p
      by None e = ap (λ (x : Option Share). page_at (left_by_one t.shares x) s) e ∙ is
      by (Some r) e =
          let x = shares_home t.shares t.names b.shared kept.shared home.0 r e in
          let other : s ≢ r.0 = λ same. ne (ap (λ (y : SharedPage). y.home.0) (let z : Some p ≡ Some x.page = sym is ∙ ap (page_at t.shares) same ∙ x.is in let w : p ≡ x.page = cc z in w) ∙ x.home) in
          ap (λ (y : Shares). page_at y s) (freed_share b places kept home one r e) ∙ kept_page t.shares t.names b.shared kept.shared home.0 r e (within_shared b places kept home one) s other ∙ is

  word_still : (w : ℕ) → flat.points_at home.0 (entry_held t w) ≡ 0 → IsSome (entry_in t w) → entry_in t' w ≡ entry_in t w
  word_still w = by (pointer_in w)
    where
      shared : (s : Share) (a : Access) (o : Option SharedPage) → page_at t.shares s.0 ≡ o → flat.points_at home.0 (option_map_or in_memory (option_and_then (λ (p : SharedPage). page_entry t.names p.home a) o) entry.Empty) ≡ 0
          → IsSome (option_and_then (λ (p : SharedPage). page_entry t.names p.home a) o) → entry_for t' (pointer.Shared s a) ≡ option_and_then (λ (p : SharedPage). page_entry t.names p.home a) o
      shared s a None is none some = absurd (cc some)
      shared s a (Some p) is none some = named (is_some (name_at t.names p.home.0)) refl none some
        where
          named : (c : Bool) → is_some (name_at t.names p.home.0) ≡ c → flat.points_at home.0 (option_map_or in_memory (cond c (Some (Page p.home a)) None) entry.Empty) ≡ 0 → is_some (cond c (Some (Page p.home a)) None) ≡ true → entry_for t' (pointer.Shared s a) ≡ page_entry t.names p.home a
          named false has n g = absurd (cc g)
          named true has n g =
              let apart : p.home.0 ≢ home.0 = λ same. (let z = points_self p.home a in let y = subst (λ (k : ℕ). flat.points_at k (entry.Page p.home a) ≡ 0) (sym same) n in omega (arith, z, y)) in
              ap (option_and_then (λ (q : SharedPage). page_entry t'.names q.home a)) (share_still s.0 p is apart) ∙ page_still p.home a none some

      of : (p : Pointer) → flat.points_at home.0 (option_map_or in_memory (entry_for t p) entry.Empty) ≡ 0 → IsSome (entry_for t p) → entry_for t' p ≡ entry_for t p
      of pointer.Empty none some = refl
      of (pointer.Private h a) none some = page_still h a none some
      of (pointer.Shared s a) none some = shared s a (page_at t.shares s.0) refl none some
      of (pointer.Indirect serial page a) none some = refl

      by : (o : Option Pointer) → flat.points_at home.0 (option_map_or in_memory (option_and_then (entry_for t) o) entry.Empty) ≡ 0 → IsSome (option_and_then (entry_for t) o) → option_and_then (entry_for t') o ≡ option_and_then (entry_for t) o
      by None none some = absurd (cc some)
      by (Some p) none some = of p none some

  -- where no entry names it
  module _ (ps : List HomePlace) (d : DrumWords) (fits : FitsMaps t ps d) (pages : ArePages ps) (taken : (k : ℕ) (f : ForkName) → fork_at t.maps k ≡ Some f → is_taken (place ps (root_at t.maps k).0) ≡ true)
      (none : (c : EntryAt) (x : HeldEntry) → flat.held_entry (maps_in_memory t (content ps d)) c ≡ Some x → flat.points_at home.0 x ≡ 0) where
    entry_there : (k page : ℕ) (f : ForkName) → fork_at t.maps k ≡ Some f → page < length (words_in (content ps d (root_at t.maps k).0))
        → flat.held_entry (maps_in_memory t (content ps d)) (record { map = k; page = page }) ≡ Some (entry_held t (slice_index (words_in (content ps d (root_at t.maps k).0)) page))
    unfolding maps_in_memory
    entry_there k page f is below = entry_told t (content ps d) t.maps k page f is below

    whole : (k : ℕ) (f : ForkName) → fork_at t.maps k ≡ Some f → length (words_in (content ps d (root_at t.maps k).0)) ≡ PAGE_WORDS
    whole k f is = words_whole ps d fits.drum pages (root_at t.maps k).0 (taken k f is)

    one_still : (k page : ℕ) (f : ForkName) → fork_at t.maps k ≡ Some f → page < PAGE_WORDS → entry_in t' (slice_index (words_in (content ps d (root_at t.maps k).0)) page) ≡ entry_in t (slice_index (words_in (content ps d (root_at t.maps k).0)) page)
    one_still k page f is below =
        word_still (slice_index (words_in (content ps d (root_at t.maps k).0)) page) (none (record { map = k; page = page }) _ (entry_there k page f is (omega (arith, below, whole k f is)))) (fits.entries k page f is (omega (arith, below)))

    pub fits_without : FitsMaps t' ps d
    fits_without = record { drum = fits.drum; entries = λ k page f is below. subst (λ (o : Option PagedEntry). IsSome o) (sym (one_still k page f is (omega (arith, below)))) (fits.entries k page f is below) }

    row_still : (k : ℕ) (f : ForkName) → fork_at t.maps k ≡ Some f → map (entry_held t') (words_in (content ps d (root_at t.maps k).0)) ≡ map (entry_held t) (words_in (content ps d (root_at t.maps k).0))
    row_still k f is = map_same (entry_held t') (entry_held t) (words_in (content ps d (root_at t.maps k).0)) (λ i x e.
        let r = there_at (words_in (content ps d (root_at t.maps k).0)) i x e in
        let same = one_still k i f is (omega (arith, r.0, whole k f is)) in
        ap (λ (o : Option PagedEntry). option_map_or in_memory o entry.Empty) (ap (entry_in t') (sym r.1) ∙ same ∙ ap (entry_in t) r.1))

    pub memory_without : maps_in_memory t' (content ps d) ≡ maps_in_memory t (content ps d)
    unfolding maps_in_memory
    memory_without = all_same t t' (content ps d) (content ps d) t.maps row_still
