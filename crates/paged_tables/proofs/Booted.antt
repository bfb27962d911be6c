-- Where no fork lives and no page is.
use Rattle.std.proofs.Common.{◌≡◌, ℕ, zero, suc, ◌≤◌, List, ◌∷◌, false, cond, Option, None, Some, is_some, length, map, replicate, refl, sym, ◌∙◌, ap, subst, arith}
use Rattle.std.specs.FinMap as fin
use Rattle.std.specs.Ordering.{nat_cmp}
use Rattle.std.proofs.lemmas.List.{length-replicate}
use Rattle.std.proofs.lemmas.List.Folds.{sum_by-replicate}
use Rattle.machine_names.specs.declared.names.ForkName.{ForkName}
use Rattle.machine_names.specs.declared.names.PageName.{PageName}
use Rattle.machine_names.specs.declared.names.TheConstants.{TERMINALS}
use Rattle.machine_names.specs.Orders.{FilePage, file_page_cmp}
use Rattle.page_homes.specs.declared.homes.TheConstants.{MOST_HOMES}
use Rattle.page_contracts.specs.DrumWords.{DrumWords}
use Rattle.page_contracts.specs.Stores.{HomePlace, content, free, free_homes, is_free, is_taken}
use Rattle.plain_pages.specs.PlainPages.{first_serials, opening_pages}
use Rattle.share_table.specs.declared.shares.Share.{Share}
use Rattle.share_table.specs.declared.shares.SharedPage.{SharedPage}
use Rattle.plain_pages.proofs.Whole.{no_values}
use Rattle.share_table.specs.Shares.{Shares, page_at}
use Rattle.flat_tables.specs.HeldMaps.{free_map}
use Rattle.flat_tables.specs.SlotTables.{Tables as FlatTables, AreTables, filed_total, is_at, plain_of, share_of}
use Rattle.flat_tables.specs.Serials.{serial_of}
use Rattle.flat_tables.proofs.Opening.{low_serial, opened, opened_plain, opened_tables}
use Rattle.fork_maps.specs.declared.map_numbers.TheConstants.{MOST_MAPS}
use Rattle.pager_walk.specs.MapPages.{index_of, no_map, one_later}
use Rattle.pager_walk.specs.PagedMaps.{Tables, AreRooted, FitsMaps, name_at}
use Rattle.paged_tables.specs.MapsInMemory.{map_held, maps_in_memory}
use Rattle.paged_tables.specs.NameCounts.{counts, share_at}
use Rattle.paged_tables.specs.PagedPlaces.{page_places}
use Rattle.std.specs.Prelude.{count_by, nat_eq, slice_index, slice_index_or}
use Rattle.std.specs.Option.{option_map_or}
use Rattle.machine_names.specs.declared.names.Tty.{Tty}
use Rattle.pager_walk.specs.declared.map_pages.MapPage.{MapPage}
use Rattle.paged_tables.specs.PagedMeaning.{forks_in}
use Rattle.paged_tables.specs.PagedTables.{Beside, AreFiled, AreKept, AreNamed, AreShared, FitsPages, in_memory_over, plain_over}

places_free : (n : ℕ) (places : List HomePlace) → page_places (replicate n no_map) places ≡ places
unfolding page_places
places_free zero places = refl
places_free (suc n) places = places_free n places

counts_free : (shares : Shares) (n : ℕ) → counts shares (replicate n None) (replicate n None) ≡ replicate n 0
unfolding counts
counts_free shares zero = refl
counts_free shares (suc n) = ap (λ xs. 0 ∷ xs) (counts_free shares n)

maps_free : (t : Tables) (words : ℕ → Option (List ℕ)) (n : ℕ) → map (map_held t words) (replicate n no_map) ≡ replicate n free_map
maps_free t words zero = refl
maps_free t words (suc n) = ap (λ ms. free_map ∷ ms) (maps_free t words n)

held_free : (t : Tables) (words : ℕ → Option (List ℕ)) → t.maps ≡ replicate MOST_MAPS no_map → maps_in_memory t words ≡ replicate MOST_MAPS free_map
unfolding maps_in_memory
held_free t words is = ap (map (map_held t words)) is ∙ maps_free t words MOST_MAPS

index_free : (n : ℕ) (f : ForkName) → index_of (replicate n no_map) f ≡ None
index_free zero f = refl
index_free (suc n) f = ap one_later (index_free n f)

none_at : {A : Type 0} (n h : ℕ) → slice_index_or {A = Option A} (replicate n None) h None ≡ None
none_at zero h = refl
none_at (suc n) zero = refl
none_at (suc n) (suc h) = none_at n h

zero_at : (n h : ℕ) → slice_index (replicate n 0) h ≡ 0
zero_at zero h = refl
zero_at (suc n) zero = refl
zero_at (suc n) (suc h) = zero_at n h

first_length : length first_serials ≡ TERMINALS
unfolding first_serials
first_length = length-replicate {A = ℕ} TERMINALS 1

homes_free : (n : ℕ) → free_homes (replicate n free) ≡ n
homes_free n = omega (arith, sum_by-replicate (λ (p : HomePlace). cond (is_free p) 1 0) n free)

-- what is kept beside a store where nothing is
pub record IsFresh (b : Beside) (places : List HomePlace) (limit : ℕ) : Type 0 where
  pub homes : places ≡ replicate limit free
  pub maps : b.tables.maps ≡ replicate MOST_MAPS no_map
  pub names : b.tables.names ≡ replicate limit None
  pub shared : b.shared ≡ replicate limit None
  pub filed : b.filed ≡ replicate limit 0
  pub shares : b.tables.shares ≡ record { room = limit; pages = fin.empty }
  pub files : b.files ≡ fin.empty
  pub terminals : b.serials.terminals ≡ first_serials
  pub console : b.serials.console ≡ 1
  pub taken : b.taken ≡ 0
  pub living : b.living ≡ 0
  pub limited : b.limit ≡ limit
  pub few : limit ≤ MOST_HOMES

module _ (b : Beside) (places : List HomePlace) (limit : ℕ) (f : IsFresh b places limit) where
  fresh_is : (d : DrumWords) → in_memory_over b places d ≡ opened limit b.serials f.terminals f.console
  fresh_is d =
      let no_pages : page_places b.tables.maps places ≡ replicate limit free = ap (λ ms. page_places ms places) f.maps ∙ places_free MOST_MAPS places ∙ f.homes in
      let no_names : counts b.tables.shares b.tables.names b.shared ≡ replicate limit 0 = (λ i. counts b.tables.shares (f.names i) (f.shared i)) ∙ counts_free b.tables.shares limit in
      let none = held_free b.tables (content places d) f.maps in
      λ i. record { places = no_pages i; names = f.names i; shares = no_names i; maps = none i; files = f.files i; serials = b.serials; taken = f.taken i; living = f.living i; limit = f.limited i }

  pub fresh_plain : (d : DrumWords) → plain_over b places d ≡ opening_pages nat_cmp limit
  fresh_plain d = ap (λ (t : FlatTables). plain_of t d) (fresh_is d) ∙ opened_plain limit b.serials f.terminals f.console d

  pub fresh_fits : (d : DrumWords) → FitsMaps b.tables places d → FitsPages b places d
  fresh_fits d maps = record { maps = maps; agree = subst AreTables (sym (fresh_is d)) (opened_tables limit b.serials f.terminals f.console f.few) }

  pub fresh_lives : (x : ForkName) → is_some (index_of b.tables.maps x) ≡ false
  fresh_lives x = ap (λ ms. is_some (index_of ms x)) f.maps ∙ ap is_some (index_free MOST_MAPS x)

  pub fresh_forks : (t : Tty) → forks_in b t ≡ 0
  fresh_forks t = ap (count_by (λ (m : MapPage). option_map_or (λ f. nat_eq f.tty.0 t.0) m.fork false)) f.maps ∙ sum_by-replicate (λ (m : MapPage). cond (option_map_or (λ f. nat_eq f.tty.0 t.0) m.fork false) 1 0) MOST_MAPS no_map ∙ omega arith

  fresh_length : length places ≡ limit
  fresh_length = ap length f.homes ∙ length-replicate limit free

  pub fresh_few : length places ≤ limit
  fresh_few = omega (arith, fresh_length)

  pub fresh_serials : (t : Tty) → serial_of b.serials t ≤ 1
  fresh_serials t = low_serial limit b.serials f.terminals f.console t

  no_name : (h : ℕ) → name_at b.tables.names h ≡ None
  no_name h = ap (λ ns. name_at ns h) f.names ∙ none_at limit h

  no_share : (h : ℕ) → share_at b.shared h ≡ None
  no_share h = ap (λ ss. share_at ss h) f.shared ∙ none_at limit h

  no_file : (x : FilePage ℕ) → fin.get b.files x ≡ None
  no_file x = ap (λ m. fin.get m x) f.files ∙ fin.get-empty (file_page_cmp nat_cmp) x

  names_many : length b.tables.names ≡ limit
  names_many = ap length f.names ∙ length-replicate limit None

  fresh_named : AreNamed b.tables.names b.serials b.taken
  fresh_named = record {
    once = λ h k n e. absurd (let z : None ≡ Some n = sym (no_name h) ∙ e in cc z);
    old = λ h n e. absurd (let z : None ≡ Some n = sym (no_name h) ∙ e in cc z);
    owners = ap length f.terminals ∙ first_length;
    count = (let none = ap (count_by is_some) f.names ∙ sum_by-replicate (λ (o : Option PageName). cond (is_some o) 1 0) limit None in omega (arith, none, f.taken));
  }

  fresh_shared : AreShared b.tables.shares b.tables.names b.shared
  fresh_shared = record {
    stands = λ h s e. absurd (let z : None ≡ Some s = sym (no_share h) ∙ e in cc z);
    back = λ s p e. absurd (let z : None ≡ Some p = sym (fin.get-empty nat_cmp s) ∙ sym (ap (λ (x : Shares). page_at x s) f.shares) ∙ e in cc z);
    named = λ h s e. absurd (let z : None ≡ Some s = sym (no_share h) ∙ e in cc z);
    homes = (let many : length b.shared ≡ limit = ap length f.shared ∙ length-replicate limit None in omega (arith, many, names_many));
    room = ap (λ (x : Shares). x.room) f.shares ∙ sym names_many;
    below = λ s p e. absurd (let z : None ≡ Some p = sym (fin.get-empty nat_cmp s) ∙ sym (ap (λ (x : Shares). page_at x s) f.shares) ∙ e in cc z);
    count = (let none = ap (count_by is_some) f.shared ∙ sum_by-replicate (λ (o : Option Share). cond (is_some o) 1 0) limit None in let pages : fin.len b.tables.shares.pages ≡ 0 = ap (λ (x : Shares). fin.len x.pages) f.shares ∙ fin.len-empty nat_cmp SharedPage in omega (arith, none, pages));
  }

  none_filed_at : (h : ℕ) → share_of b.filed h ≡ 0
  none_filed_at h = ap (λ xs. share_of xs h) f.filed ∙ zero_at limit h

  fresh_filed : AreFiled b
  fresh_filed = record {
    within = λ x h e. absurd (let z : None ≡ Some h = sym (no_file x) ∙ e in cc z);
    homes = (let many : length b.filed ≡ limit = ap length f.filed ∙ length-replicate limit 0 in omega (arith, many, names_many));
    count = λ h. none_filed_at h ∙ sym (ap (filed_total h) f.files ∙ no_values (file_page_cmp nat_cmp) (is_at h));
    few = λ h. omega (arith, none_filed_at h);
  }

  pub fresh_kept : AreRooted b.tables (map is_taken places) → AreKept b places
  fresh_kept rooted = record {
    rooted = rooted;
    filed = λ x h is. absurd (let z : None ≡ Some h = sym (no_file x) ∙ is in cc z);
    named = fresh_named;
    shared = fresh_shared;
    files = fresh_filed;
    sized = names_many ∙ sym f.limited;
    living = (let none = ap (count_by (λ (m : MapPage). is_some m.fork)) f.maps ∙ sum_by-replicate (λ (m : MapPage). cond (is_some m.fork) 1 0) MOST_MAPS no_map in omega (arith, none, f.living));
    homes = fresh_length ∙ sym f.limited;
    free = (let homes : free_homes places ≡ limit = ap free_homes f.homes ∙ homes_free limit in omega (arith, homes, f.taken, f.living, f.limited));
    few = subst (λ (n : ℕ). n ≤ MOST_HOMES) (sym f.limited) f.few;
  }
