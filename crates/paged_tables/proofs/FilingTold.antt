-- What is told of a page of a file that is set, over a drum that fits.
use Rattle.std.proofs.Common.{◌≡◌, ℕ, ◌+◌, ◌-◌, ◌^◌, ◌<◌, ◌≤◌, List, true, Option, None, Some, is_some, refl, sym, ◌∙◌, ap, subst, arith}
use Rattle.std.specs.Prelude.{IsSome, slice_index, slice_set}
use Rattle.std.specs.Cmp.{nat_cmp_total}
use Rattle.std.specs.FinMap as fin
use Rattle.std.specs.Option.{option_map}
use Rattle.std.proofs.lemmas.Bool.Decides.{nat_tests}
use Rattle.machine_names.specs.declared.names.PageName.{PageName}
use Rattle.machine_names.specs.Orders.{FilePage}
use Rattle.page_homes.specs.declared.homes.Home.{Home}
use Rattle.page_contracts.specs.DrumWords.{DrumWords}
use Rattle.page_contracts.specs.Stores.{HomePlace, content}
use Rattle.plain_pages.specs.FilePages.{files_with, with_file}
use Rattle.plain_pages.proofs.FilesKept.{filed_files, filed_maps, filed_still}
use Rattle.plain_pages.proofs.Kept.{still_same}
use Rattle.share_table.specs.declared.shares.Share.{Share}
use Rattle.share_table.specs.Shares.{Shares, one_fewer, one_more, page_at}
use Rattle.flat_tables.specs.declared.held_entry.EntryAt.{EntryAt}
use Rattle.flat_tables.specs.declared.held_entry.HeldEntry.{HeldEntry}
use Rattle.flat_tables.specs.HeldMaps as flat
use Rattle.flat_tables.specs.SlotTables.{Tables as FlatTables, AreSized, AreTables, files_held, plain_of, share_of}
use Rattle.flat_tables.specs.TableSteps.{file_joined, file_left}
use Rattle.flat_pages.proofs.Agreement.{tables_whole}
use Rattle.flat_pages.proofs.FileCounts.{share_few}
use Rattle.flat_tables.proofs.FiledHomes.{held_insert, held_remove, homes_with}
use Rattle.flat_pages.proofs.FileSetting.{file_joined_tables, file_left_tables, maps_alike}
use Rattle.flat_pages.proofs.Leaving.{pages_still}
use Rattle.pager_walk.specs.declared.paged_entry.PagedEntry.{PagedEntry}
use Rattle.pager_walk.specs.MapPages.{root_at}
use Rattle.pager_walk.specs.PagedMaps.{Tables, FitsMaps, entry_in, name_at, name_of, words_in}
use Rattle.pager_walk.proofs.Looking.{ArePages}
use Rattle.paged_tables.specs.FiledTables.{filed_joined, filed_left, with_share}
use Rattle.paged_tables.specs.MapsInMemory.{maps_in_memory}
use Rattle.paged_tables.specs.NameCounts.{counts, share_at}
use Rattle.paged_tables.specs.PagedTables.{Beside, AreKept, FitsPages, in_memory_over, plain_over}
use Rattle.paged_tables.specs.PagedTouches.{names_at}
use Rattle.paged_tables.proofs.Counted.{counts_at}
use Rattle.paged_tables.proofs.EntrySet.{memory_still}
use Rattle.flat_pages.proofs.FileCounts.{InRange}
use Rattle.paged_tables.proofs.FiledShares.{TwoNames, joined_one, left_two, more_counts}
use Rattle.paged_tables.proofs.FilingEntries.{entry_more}
use Rattle.paged_tables.proofs.Homed.{sized}
use Rattle.paged_tables.proofs.LeftOnce.{entries_same}
use Rattle.paged_tables.proofs.Sharing.{counts_recounted, homes_still, recounted}

-- where names and words go, and none come, and a file names this at a page, the plain pages are those with it there
module _ (t t' : FlatTables) (a : AreTables t) (a' : AreTables t') (f : FilePage ℕ) (o : Option Home) (d : DrumWords) (s : AreSized t.places d) (s' : AreSized t'.places d)
    (maps : t'.maps ≡ t.maps) (serials : t'.serials ≡ t.serials) (limit : t'.limit ≡ t.limit)
    (names : (k : ℕ) (n : PageName) → flat.name_at t'.names k ≡ Some n → flat.name_at t.names k ≡ Some n)
    (words : (k : ℕ) (n : PageName) → flat.name_at t'.names k ≡ Some n → content t'.places d k ≡ content t.places d k)
    (entries : (e : EntryAt) (x : HeldEntry) → flat.held_entry t.maps e ≡ Some x → flat.entry_of t'.names x ≡ flat.entry_of t.names x)
    (files : t'.files ≡ homes_with t.files f o) (alike : files_held t'.names t'.files ≡ files_held t.names t'.files) where
  held_with : (o : Option Home) → files_held t.names (homes_with t.files f o) ≡ files_with (plain_of t d) f (option_map (flat.name_of t.names) o)
  held_with None = held_remove t.names t.files f
  held_with (Some h) = held_insert t.names t.files f h

  pub filed_plain : plain_of t' d ≡ with_file (plain_of t d) f (option_map (flat.name_of t.names) o)
  filed_plain =
      let named = option_map (flat.name_of t.names) o in
      still_same (plain_of t d) (plain_of t' d) (with_file (plain_of t d) f named)
      (pages_still t t' a a' d s s' names words serials limit)
      (filed_still nat_cmp_total fin.nat_cmp-IsAntisymmetric (plain_of t d) f named (tables_whole t a d s))
      (ap (flat.maps_held t'.names) maps ∙ maps_alike t.names t'.names t.maps entries ∙ sym (filed_maps nat_cmp_total fin.nat_cmp-IsAntisymmetric (plain_of t d) f named))
      (alike ∙ ap (files_held t.names) files ∙ held_with o ∙ sym (filed_files nat_cmp_total fin.nat_cmp-IsAntisymmetric (plain_of t d) f named))

fewer_is : (n : ℕ) → n < 2 ^ 31 → one_fewer n ≡ n - 1
fewer_is n l = grind (arith, nat_tests, l)

more_is : (n : ℕ) → n < 2 ^ 31 → one_more n ≡ n + 1
more_is n l = grind (arith, nat_tests, l)

module _ (b : Beside) (places : List HomePlace) (kept : AreKept b places) (pages : ArePages places) (d : DrumWords) (fits : FitsPages b places d) where
  abbrev u : FlatTables
  u = in_memory_over b places d

  su : AreSized u.places d
  su = sized b places kept pages d fits

  abbrev with_counts : Shares → Tables
  with_counts shares = record b.tables { shares = shares }

  counted : (h : Home) → share_of u.shares h.0 ≡ names_at b h.0
  counted h = counts_at b.tables.shares b.tables.names b.shared h.0

  small : (h : Home) → names_at b h.0 < 2 ^ 31
  small h = omega (arith, share_few u fits.agree h.0, counted h)

  -- words of maps that stand for what they stood for still fit
  fits_same : (shares : Shares) → ((w : ℕ) → IsSome (entry_in b.tables w) → entry_in (with_counts shares) w ≡ entry_in b.tables w) → FitsMaps (with_counts shares) places d
  fits_same shares same = record { drum = fits.maps.drum; entries = λ k page f is below. (let some = fits.maps.entries k page f is below in subst (λ (x : Option PagedEntry). IsSome x) (sym (same (slice_index (words_in (content places d (root_at b.tables.maps k).0)) page) some)) some) }

  maps_same : (shares : Shares) → ((w : ℕ) → IsSome (entry_in b.tables w) → entry_in (with_counts shares) w ≡ entry_in b.tables w) → maps_in_memory (with_counts shares) (content places d) ≡ u.maps
  maps_same shares same = memory_still b.tables (with_counts shares) places places d kept.rooted pages fits.maps same refl (λ j g e. refl)

  -- the page of a home gets a share, and nothing that is told changes
  module _ (h : Home) (s : Share) (none : share_at b.shared h.0 ≡ None) (fresh : page_at b.tables.shares s.0 ≡ None) (inside : s.0 < b.tables.shares.room) (named : is_some (name_at b.tables.names h.0) ≡ true) where
    share_over : in_memory_over (with_share b h s) places d ≡ u
    share_over =
        let same = entry_more b.tables h.0 s fresh (record { home = h; count = 1 }) in
        let counts_are = more_counts b.tables.shares b.tables.names b.shared kept.shared h.0 s none fresh inside named in
        let maps_are = maps_same (with_share b h s).tables.shares same in
        λ i. record u { shares = counts_are i; maps = maps_are i }

    pub share_told : FitsPages (with_share b h s) places d × (plain_over (with_share b h s) places d ≡ plain_over b places d)
    share_told = (
      record { maps = fits_same (with_share b h s).tables.shares (entry_more b.tables h.0 s fresh (record { home = h; count = 1 })); agree = subst AreTables (sym share_over) fits.agree },
      ap (λ (t : FlatTables). plain_of t d) share_over,
    )

  module _ (f : FilePage ℕ) (h : Home) where
    -- the count of a page becomes another
    module _ (s : Share) (is : share_at b.shared h.0 ≡ Some s) (n : ℕ) (shares : Shares) (same : shares ≡ recounted b.tables.shares b.tables.names b.shared kept.shared h.0 s is n) where
      still : (w : ℕ) → entry_in (with_counts shares) w ≡ entry_in b.tables w
      still = subst (λ (x : Shares). (w : ℕ) → entry_in (with_counts x) w ≡ entry_in b.tables w) (sym same)
          (entries_same b.tables (recounted b.tables.shares b.tables.names b.shared kept.shared h.0 s is n) (homes_still b.tables.shares b.tables.names b.shared kept.shared h.0 s is n))

      recounted_shares : counts shares b.tables.names b.shared ≡ slice_set u.shares h.0 n
      recounted_shares = ap (λ x. counts x b.tables.names b.shared) same ∙ counts_recounted b.tables.shares b.tables.names b.shared kept.shared h.0 s is n

    -- no page comes or goes
    same_names : (t' : FlatTables) → AreTables t' → (o : Option Home) → t' ≡ record u { shares = t'.shares; files = homes_with u.files f o } → plain_of t' d ≡ with_file (plain_of u d) f (option_map (flat.name_of u.names) o)
    same_names t' a' o is =
        let names : t'.names ≡ u.names = ap (λ (x : FlatTables). x.names) is in
        let places_are : t'.places ≡ u.places = ap (λ (x : FlatTables). x.places) is in
        filed_plain u t' fits.agree a' f o d su (subst (λ (ps : List HomePlace). AreSized ps d) (sym places_are) su)
        (ap (λ (x : FlatTables). x.maps) is) (ap (λ (x : FlatTables). x.serials) is) (ap (λ (x : FlatTables). x.limit) is)
        (λ k n e. ap (λ ns. flat.name_at ns k) (sym names) ∙ e) (λ k n e. ap (λ ps. content ps d k) places_are) (λ e x there. ap (λ ns. flat.entry_of ns x) names)
        (ap (λ (x : FlatTables). x.files) is) (ap (λ ns. files_held ns t'.files) names)

    module _ (there : fin.get b.files f ≡ Some h) (two : 2 ≤ names_at b h.0) where
      t2 : TwoNames b.tables.shares b.tables.names b.shared kept.shared h.0
      t2 = left_two b.tables.shares b.tables.names b.shared kept.shared h.0 two

      left_over : in_memory_over (filed_left b f h) places d ≡ file_left u f h
      left_over =
          let shares = (filed_left b f h).tables.shares in
          let counts_are = recounted_shares t2.share t2.is (one_fewer (names_at b h.0)) shares t2.left ∙ ap (slice_set u.shares h.0) (fewer_is (names_at b h.0) (small h) ∙ ap (λ n. n - 1) (sym (counted h))) in
          let maps_are = maps_same shares (λ w some. still t2.share t2.is (one_fewer (names_at b h.0)) shares t2.left w) in
          λ i. record (file_left u f h) { shares = counts_are i; maps = maps_are i }

      left_agree : AreTables (file_left u f h)
      left_agree = file_left_tables u fits.agree f h there (λ one. omega (arith, one, counted h, two))

      pub left_told : FitsPages (filed_left b f h) places d × (plain_over (filed_left b f h) places d ≡ with_file (plain_over b places d) f None)
      left_told = (
        record { maps = fits_same (filed_left b f h).tables.shares (λ w some. still t2.share t2.is (one_fewer (names_at b h.0)) (filed_left b f h).tables.shares t2.left w); agree = subst AreTables (sym left_over) left_agree },
        ap (λ (t : FlatTables). plain_of t d) left_over ∙ same_names (file_left u f h) left_agree None refl,
      )

    module _ (s : Share) (is : share_at b.shared h.0 ≡ Some s) (none : fin.get b.files f ≡ None) (bounds : InRange f) where
      joined_over : in_memory_over (filed_joined b f h) places d ≡ file_joined u f h
      joined_over =
          let shares = (filed_joined b f h).tables.shares in
          let one = joined_one b.tables.shares b.tables.names b.shared kept.shared h.0 s is in
          let counts_are = recounted_shares s is (one_more (names_at b h.0)) shares one ∙ ap (slice_set u.shares h.0) (more_is (names_at b h.0) (small h) ∙ ap (λ n. n + 1) (sym (counted h))) in
          let maps_are = maps_same shares (λ w some. still s is (one_more (names_at b h.0)) shares one w) in
          λ i. record (file_joined u f h) { shares = counts_are i; maps = maps_are i }

      joined_agree : AreTables (file_joined u f h)
      joined_agree = file_joined_tables u fits.agree h (kept.shared.named h.0 s is) f bounds none

      pub joined_told : FitsPages (filed_joined b f h) places d × (plain_over (filed_joined b f h) places d ≡ with_file (plain_over b places d) f (Some (name_of b.tables.names h)))
      joined_told = (
        record { maps = fits_same (filed_joined b f h).tables.shares (λ w some. still s is (one_more (names_at b h.0)) (filed_joined b f h).tables.shares (joined_one b.tables.shares b.tables.names b.shared kept.shared h.0 s is) w); agree = subst AreTables (sym joined_over) joined_agree },
        ap (λ (t : FlatTables). plain_of t d) joined_over ∙ same_names (file_joined u f h) joined_agree (Some h) refl,
      )
