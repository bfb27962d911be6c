-- The page of a home becomes that of another owner, in its place.
use Rattle.std.proofs.Common.{◌≡◌, ◌≢◌, inl, inr, ℕ, ◌<◌, List, Bool, true, false, cond, Option, None, Some, is_some, length, map, refl, sym, ◌∙◌, ap, subst, arith}
use Rattle.std.specs.Prelude.{IsSome, slice_index, slice_set, ◌&&◌, ◌==◌}
use Rattle.std.specs.Option.{option_and_then}
use Rattle.std.proofs.lemmas.Bool.{cases_eq, cases_lt}
use Rattle.std.proofs.lemmas.List.{get_or-set_same, get_or-set_other, get_or_past, length-set}
use Rattle.machine_names.specs.declared.names.Access.{Access}
use Rattle.machine_names.specs.declared.names.PageName.{PageName}
use Rattle.machine_names.specs.declared.names.Tty.{Tty}
use Rattle.machine_names.specs.Bounds.{IsOwner}
use Rattle.page_homes.specs.declared.homes.Home.{Home}
use Rattle.page_contracts.specs.DrumWords.{DrumWords}
use Rattle.page_contracts.specs.Stores.{HomePlace, content, is_taken}
use Rattle.share_table.specs.declared.pointer.Pointer.{Pointer}
use Rattle.share_table.specs.declared.pointer.Pointer.TheVariants as pointer
use Rattle.share_table.specs.declared.shares.Share.{Share}
use Rattle.share_table.specs.declared.shares.SharedPage.{SharedPage}
use Rattle.share_table.specs.Pointers.{IsPointer}
use Rattle.share_table.specs.Shares.{Shares, page_at}
use Rattle.flat_tables.specs.SlotTables.{share_of}
use Rattle.flat_tables.specs.TableSteps.{next_name}
use Rattle.pager_walk.specs.declared.paged_entry.PagedEntry.{PagedEntry}
use Rattle.pager_walk.specs.declared.paged_entry.PagedEntry.TheVariants.{Page}
use Rattle.pager_walk.specs.Decoding.{pointer_in}
use Rattle.pager_walk.specs.MapPages.{root_at}
use Rattle.pager_walk.specs.PagedMaps.{AreRooted, FitsMaps, Tables, entry_for, entry_in, name_at, page_entry, with_name, words_in}
use Rattle.paged_tables.specs.MadePages.{page_renamed, pointer_by, pointer_to}
use Rattle.paged_tables.specs.NameCounts.{count_of, counts, share_at}
use Rattle.paged_tables.specs.PagedTables.{AreFiled, AreKept, Beside}
use Rattle.paged_tables.specs.PagedTouches.{has_one_name, names_at}
use Rattle.paged_tables.proofs.Counted.{counts_at, counts_length}
use Rattle.paged_tables.proofs.Naming.{named_again}
use Rattle.paged_tables.proofs.Sharing.{same_numbers, shared_named, shares_home}

-- a count speaks of no name
count_same : (shares : Shares) (n m : Option PageName) (s : Option Share) → is_some n ≡ true → is_some m ≡ true → count_of shares n s ≡ count_of shares m s
count_same shares None m s e f = absurd (cc e)
count_same shares (Some n) None s e f = absurd (cc f)
count_same shares (Some n) (Some m) None e f = refl
count_same shares (Some n) (Some m) (Some s) e f = refl

pub named_within : (names : List (Option PageName)) (h : ℕ) → is_some (name_at names h) ≡ true → h < length names
named_within names h e = elim (cases_lt h (length names)) [ inl l ↦ l | inr past ↦ absurd (let z : false ≡ true = sym (ap is_some (get_or_past names h None past)) ∙ e in cc z) ]

-- a page that has one name has a name
pub one_named : (b : Beside) (h : ℕ) → has_one_name b h ≡ true → is_some (name_at b.tables.names h) ≡ true
one_named b h one = by (name_at b.tables.names h) (first (names_at b h == 1) one)
  where
    first : (c : Bool) → (c && (share_of b.filed h == 0)) ≡ true → c ≡ true
    first true e = refl
    first false e = absurd (cc e)

    by : (o : Option PageName) → (count_of b.tables.shares o (share_at b.shared h) == 1) ≡ true → is_some o ≡ true
    by None e = absurd (cc e)
    by (Some n) e = refl

module _ (b : Beside) (places : List HomePlace) (kept : AreKept b places) (home : Home) (owner : Tty) (own : IsOwner owner) (some : is_some (name_at b.tables.names home.0) ≡ true) where
  abbrev pub title : PageName
  title = next_name b.serials owner

  abbrev pub names' : List (Option PageName)
  names' = slice_set b.tables.names home.0 (Some title)

  abbrev pub tables' : Tables
  tables' = with_name b.tables home title

  pub below : home.0 < length b.tables.names
  below = named_within b.tables.names home.0 some

  name_here : name_at names' home.0 ≡ Some title
  name_here = get_or-set_same b.tables.names home.0 (Some title) None below

  name_other : (k : ℕ) → k ≢ home.0 → name_at names' k ≡ name_at b.tables.names k
  name_other k ne = get_or-set_other b.tables.names home.0 k (Some title) None ne

  -- a home has a name where it had one
  pub some_still : (k : ℕ) → is_some (name_at names' k) ≡ is_some (name_at b.tables.names k)
  some_still k = elim (cases_eq k home.0) [
    | inl same ↦ ap (λ j. is_some (name_at names' j)) same ∙ ap is_some name_here ∙ sym (ap (λ j. is_some (name_at b.tables.names j)) same ∙ some)
    | inr other ↦ ap is_some (name_other k other)
  ]

  counts_still : (k : ℕ) → count_of b.tables.shares (name_at names' k) (share_at b.shared k) ≡ count_of b.tables.shares (name_at b.tables.names k) (share_at b.shared k)
  counts_still k = elim (cases_eq k home.0) [
    | inl same ↦ ap (λ j. count_of b.tables.shares (name_at names' j) (share_at b.shared j)) same ∙ count_same b.tables.shares (name_at names' home.0) (name_at b.tables.names home.0) (share_at b.shared home.0) (ap is_some name_here) some
        ∙ sym (ap (λ j. count_of b.tables.shares (name_at b.tables.names j) (share_at b.shared j)) same)
    | inr other ↦ ap (λ n. count_of b.tables.shares n (share_at b.shared k)) (name_other k other)
  ]

  pub counts_renamed : counts b.tables.shares names' b.shared ≡ counts b.tables.shares b.tables.names b.shared
  counts_renamed =
      same_numbers (counts b.tables.shares names' b.shared) (counts b.tables.shares b.tables.names b.shared)
      (counts_length b.tables.shares names' b.shared ∙ length-set b.tables.names home.0 (Some title) ∙ sym (counts_length b.tables.shares b.tables.names b.shared))
      (λ k. counts_at b.tables.shares names' b.shared k ∙ counts_still k ∙ sym (counts_at b.tables.shares b.tables.names b.shared k))

  root_apart : (k : ℕ) → name_at b.tables.names k ≡ None → k ≢ home.0
  root_apart k none same = let z : false ≡ true = sym (ap is_some none) ∙ ap (λ j. is_some (name_at b.tables.names j)) same ∙ some in cc z

  pub rooted_renamed : AreRooted tables' (map is_taken places)
  rooted_renamed = record {
    numbered = kept.rooted.numbered;
    there = kept.rooted.there;
    apart = kept.rooted.apart;
    unnamed = λ k f e. let none = kept.rooted.unnamed k f e in name_other (root_at b.tables.maps k).0 (root_apart (root_at b.tables.maps k).0 none) ∙ none;
    named = λ h e. kept.rooted.named h (sym (some_still h) ∙ e);
    few = omega (arith, kept.rooted.few, length-set b.tables.names home.0 (Some title));
  }

  page_same : (h : Home) (a : Access) → page_entry names' h a ≡ page_entry b.tables.names h a
  page_same h a = ap (λ c. cond c (Some (Page h a)) None) (some_still h.0)

  pub entries_renamed : (w : ℕ) → entry_in tables' w ≡ entry_in b.tables w
  entries_renamed w = by (pointer_in w)
    where
      shared : (o : Option SharedPage) (a : Access) → option_and_then (λ (p : SharedPage). page_entry names' p.home a) o ≡ option_and_then (λ (p : SharedPage). page_entry b.tables.names p.home a) o
      shared None a = refl
      shared (Some p) a = page_same p.home a

      of : (p : Pointer) → entry_for tables' p ≡ entry_for b.tables p
      of pointer.Empty = refl
      of (pointer.Private h a) = page_same h a
      of (pointer.Shared s a) = shared (page_at b.tables.shares s.0) a
      of (pointer.Indirect serial page a) = refl

      by : (o : Option Pointer) → option_and_then (entry_for tables') o ≡ option_and_then (entry_for b.tables) o
      by None = refl
      by (Some p) = of p

  pub fits_renamed : (d : DrumWords) → FitsMaps b.tables places d → FitsMaps tables' places d
  fits_renamed d fits = record { drum = fits.drum; entries = λ k page f is l. subst (λ (o : Option PagedEntry). IsSome o) (sym (entries_renamed (slice_index (words_in (content places d (root_at b.tables.maps k).0)) page))) (fits.entries k page f is l) }

  renamed_files : AreFiled (page_renamed b home owner)
  renamed_files = record {
    within = kept.files.within;
    homes = kept.files.homes ∙ sym (length-set b.tables.names home.0 (Some title));
    count = kept.files.count;
    few = λ k. omega (arith, kept.files.few k, counts_still k);
  }

  pub renamed_kept : AreKept (page_renamed b home owner) places
  renamed_kept = record {
    rooted = rooted_renamed;
    filed = λ f h is. some_still h.0 ∙ kept.filed f h is;
    named = named_again b.tables.names b.serials b.taken kept.named home.0 below owner own some;
    shared = shared_named b.tables.shares b.tables.names b.shared kept.shared home.0 title below;
    files = renamed_files;
    sized = length-set b.tables.names home.0 (Some title) ∙ kept.sized;
    living = kept.living;
    homes = kept.homes;
    free = kept.free;
    few = kept.few;
  }

-- the pointer that names the page of a home stands for that
module _ (b : Beside) (places : List HomePlace) (kept : AreKept b places) (home : Home) (access : Access) (some : is_some (name_at b.tables.names home.0) ≡ true) where
  pub pointer_fits : IsPointer (pointer_to b home access)
  pointer_fits = by (share_at b.shared home.0) refl
    where
      by : (o : Option Share) → share_at b.shared home.0 ≡ o → IsPointer (pointer_by o home access)
      by None e = omega (arith, named_within b.tables.names home.0 some, kept.sized, kept.few)
      by (Some s) e = let x = shares_home b.tables.shares b.tables.names b.shared kept.shared home.0 s e in omega (arith, kept.shared.below s.0 x.page x.is, kept.shared.room, kept.sized, kept.few)

  pub pointer_names : (names : List (Option PageName)) → is_some (name_at names home.0) ≡ true → entry_for (record b.tables { names = names }) (pointer_to b home access) ≡ Some (Page home access)
  pointer_names names named = by (share_at b.shared home.0) refl
    where
      one : page_entry names home access ≡ Some (Page home access)
      one = ap (λ c. cond c (Some (Page home access)) None) named

      by : (o : Option Share) → share_at b.shared home.0 ≡ o → entry_for (record b.tables { names = names }) (pointer_by o home access) ≡ Some (Page home access)
      by None e = one
      by (Some s) e =
          let x = shares_home b.tables.shares b.tables.names b.shared kept.shared home.0 s e in
          ap (option_and_then (λ (p : SharedPage). page_entry names p.home access)) x.is ∙ (λ i. page_entry names (record { 0 = x.home i }) access) ∙ one
