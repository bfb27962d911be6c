-- What is left where pages of files are mapped and unmapped, and pages put into files.
use Rattle.std.proofs.Common.{◌≡◌, ◌≢◌, ℕ, zero, suc, ◌≤◌, Bool, true, false, cond, List, [], ◌∷◌, Option, None, Some, inl, inr, refl, sym, ◌∙◌, ap, subst, arith}
use Rattle.std.specs.Prelude.{IsSome, nat_lt, slice_get, slice_set}
use Rattle.std.specs.Option.{option_and_then, option_map_or, unwrap_or}
use Rattle.std.specs.Cmp.Lexicographic.{nat_list_cmp_total}
use Rattle.std.specs.FinMap as map
use Rattle.std.proofs.lemmas.Bool.Decides.{nat_tests}
use Rattle.machine_names.specs.declared.names.Access.{Access}
use Rattle.machine_names.specs.declared.names.ForkName.{ForkName}
use Rattle.machine_names.specs.declared.names.PageName.{PageName}
use Rattle.machine_names.specs.declared.names.Slot.{Slot}
use Rattle.machine_names.specs.Orders.{FilePage}
use Rattle.machine_names.specs.PageWords.{zero_words}
use Rattle.machine_names.proofs.Keys.{cases_key, get_put, get_put_other}
use Rattle.machine_names.proofs.OrderLemmas.{fork_cmp_apart, fork_cmp_total, name_cmp_apart}
use Rattle.plain_pages.specs.declared.map.MapEntry.{MapEntry}
use Rattle.plain_pages.specs.declared.map.MapEntry.TheVariants.{Empty, Names}
use Rattle.plain_pages.specs.PlainPages.{NamedPages, Map, Maps}
use Rattle.plain_pages.specs.Maps.{Chain, chain, entry_at, set_entry, single_link}
use Rattle.plain_pages.specs.Room.{live, page_in, uses}
use Rattle.plain_pages.specs.References.{drop_unnamed, in_file, in_map, page_at, with_entry, words_of}
use Rattle.plain_pages.specs.FilePages.{with_file}
use Rattle.plain_pages.specs.WholePages.{AreWhole}
use Rattle.plain_pages.proofs.ChainEquations.{named_chain}
use Rattle.plain_pages.proofs.Chains.{entry_map, entry_other, entry_set}
use Rattle.plain_pages.proofs.FilesKept.{filed_files, filed_maps, filed_still, filed_whole, set_here}
use Rattle.plain_pages.proofs.Kept.{AreStill, entry_kept, entry_maps, entry_whole, file_there, live_entry, still, still_on, still_same, unnamed_gone, uses_entry}
use Rattle.plain_pages.proofs.Makings.{spot_there}
use Rattle.plain_pages.proofs.Reading.{four, is_four, page_of_chain}
use Rattle.plain_model.specs.declared.call.MapChange.TheVariants.{Map as MapPage, Put, Unmap}
use Rattle.plain_model.specs.MapCalls.{entry_for, map_changed}
use Rattle.plain_model.proofs.MapTurns.{change_whole, changed_leaves}
use Rattle.plain_laws.specs.MappedLaws.{HasEntry, IsOne, KeepsPage, Shares, mapped, put_into, unmapped}
use Rattle.plain_laws.proofs.ReadsOn.{Passes, beside, passes, through}
use Rattle.plain_laws.proofs.RowsPut.{file_page}

-- an entry that is set to what it was leaves the map
set_back : {A : Type 0} (xs : List A) (i : ℕ) (y x : A) → slice_get xs i ≡ Some x → slice_set (slice_set xs i y) i x ≡ xs
set_back [] i y x is = refl
set_back (z ∷ xs) zero y x is = let same : z ≡ x = cc is in ap (λ e. e ∷ xs) (sym same)
set_back (z ∷ xs) (suc i) y x is = ap (λ ys. z ∷ ys) (set_back xs i y x is)

-- and all maps
entry_back : (maps : Maps) (s : Slot) (y e : MapEntry) → entry_at maps s ≡ Some e → set_entry (set_entry maps s y) s e ≡ maps
entry_back maps s y e h =
    let m = entry_map (map.get maps s.fork) s.page e h in
    let mid : Maps = map.insert maps s.fork (slice_set m.0 s.page y) in
    let first : set_entry maps s y ≡ mid = ap (λ (o : Option Map). option_map_or (λ n. map.insert maps s.fork (slice_set n s.page y)) o maps) m.1 in
    let here : map.get mid s.fork ≡ Some (slice_set m.0 s.page y) = get_put fork_cmp_total fork_cmp_apart maps s.fork s.fork (slice_set m.0 s.page y) refl in
    ap (λ (ms : Maps). set_entry ms s e) first
    ∙ ap (λ (o : Option Map). option_map_or (λ n. map.insert mid s.fork (slice_set n s.page e)) o mid) here
    ∙ map.same_map fork_cmp_total fork_cmp_apart (map.insert mid s.fork (slice_set (slice_set m.0 s.page y) s.page e)) maps (λ f. each m.0 m.1 m.2 f)
  where
    each : (n : Map) → map.get maps s.fork ≡ Some n → slice_get n s.page ≡ Some e → (f : ForkName) → map.get (map.insert (map.insert maps s.fork (slice_set n s.page y)) s.fork (slice_set (slice_set n s.page y) s.page e)) f ≡ map.get maps f
    each n is at f = elim (cases_key fork_cmp_total fork_cmp_apart f s.fork) [
      | inl same ↦
          get_put fork_cmp_total fork_cmp_apart (map.insert maps s.fork (slice_set n s.page y)) s.fork f (slice_set (slice_set n s.page y) s.page e) same
          ∙ ap Some (set_back n s.page y e at) ∙ sym (ap (map.get maps) same ∙ is)
      | inr ne ↦
          get_put_other fork_cmp_total fork_cmp_apart (map.insert maps s.fork (slice_set n s.page y)) s.fork f (slice_set (slice_set n s.page y) s.page e) ne
          ∙ get_put_other fork_cmp_total fork_cmp_apart maps s.fork f (slice_set n s.page y) ne
    ]

-- a page that is there is named
there_named : (p : NamedPages) → AreWhole p → (n : PageName) → map.contains_key p.objects n ≡ true → nat_lt 0 (uses p n) ≡ true
there_named p w n there = sym (w.named n) ∙ there

-- whole pages are what is named of them
still_itself : (p : NamedPages) → AreWhole p → AreStill p p
still_itself p w = record { objects = λ n. by n (nat_lt 0 (uses p n)) refl; page_serials = refl; console_serial = refl; limit = refl }
  where
    by : (n : PageName) (b : Bool) → nat_lt 0 (uses p n) ≡ b → map.get p.objects n ≡ cond b (map.get p.objects n) None
    by n true is = refl
    by n false is = unnamed_gone p w n is

-- a page of a file in a slot
module _ (p : NamedPages) (w : AreWhole p) (s : Slot) (f : FilePage (List ℕ)) (a : Access) where
  abbrev to : MapEntry → MapEntry
  to e = entry_for a e (map.get p.files f)

  map_is : (e : MapEntry) → entry_at p.maps s ≡ Some e → mapped p s f a ≡ with_entry p s (to e)
  unfolding map_changed
  map_is e h = ap (λ o. option_map_or (λ e. with_entry p s (to e)) o p) h

  module _ (e : MapEntry) (h : entry_at p.maps s ≡ Some e) (n : PageName) (filed : map.get p.files f ≡ Some n) where
    maps_page : mapped p s f a ≡ with_entry p s (Names n a)
    maps_page = map_is e h ∙ ap (λ (o : Option PageName). with_entry p s (entry_for a e o)) filed

    -- the slot names the file's page, and files name what they named
    slot_then : entry_at (mapped p s f a).maps s ≡ Some (Names n a)
    slot_then = ap (λ (q : NamedPages). entry_at q.maps s) maps_page ∙ ap (λ (m : Maps). entry_at m s) (entry_maps p w s e (Names n a) h) ∙ entry_set p.maps s e (Names n a) h

    others_then : (t : Slot) → t ≢ s → entry_at (mapped p s f a).maps t ≡ entry_at p.maps t
    others_then t ne = ap (λ (q : NamedPages). entry_at q.maps t) maps_page ∙ ap (λ (m : Maps). entry_at m t) (entry_maps p w s e (Names n a) h) ∙ entry_other p.maps s e (Names n a) h t ne

    files_then : (mapped p s f a).files ≡ p.files
    files_then = ap (λ (q : NamedPages). q.files) maps_page ∙ (entry_kept p w s e (Names n a) h).files

    filed_then : map.get (mapped p s f a).files f ≡ Some n
    filed_then = ap (λ (m : map.FinMap _ PageName). map.get m f) files_then ∙ filed

    shares_it : a.c ≡ false → Shares (mapped p s f a) s f
    shares_it unmarked = record {
      way = single_link s a (Some n);
      is = named_chain (entry_at (mapped p s f a).maps) s n a slot_then;
      unmarked = ap (λ b. cond b (Some (record { slot = s; access = a })) None) unmarked;
      page = n;
      ends = refl;
      filed = filed_then;
    }

    whole_then : AreWhole (mapped p s f a)
    whole_then = subst (λ (q : NamedPages). AreWhole q) (sym maps_page) (entry_whole p w s e (Names n a) h (λ m is. (let one : n ≡ m = cc is in file_there p w f m (filed ∙ ap Some one))))

    words_then : map.get (mapped p s f a).objects n ≡ map.get p.objects n
    words_then =
        ap (λ (q : NamedPages). map.get q.objects n) maps_page ∙ (entry_kept p w s e (Names n a) h).objects n
        ∙ ap (λ b. cond b (map.get p.objects n) None) (ap (λ (q : NamedPages). nat_lt 0 (uses q n)) (sym maps_page) ∙ there_named (mapped p s f a) whole_then n (file_there (mapped p s f a) whole_then f n filed_then))

  pub shares_page : HasEntry p s → IsSome (map.get p.files f) → a.c ≡ false → Shares (mapped p s f a) s f
  shares_page has some unmarked = by (map.get p.files f) some refl
    where
      by : (o : Option PageName) → IsSome o → map.get p.files f ≡ o → Shares (mapped p s f a) s f
      by None h is = absurd (cc h)
      by (Some n) h is = shares_it has.0 has.1 n is unmarked

  -- into an entry that was empty
  module _ (h : entry_at p.maps s ≡ Some Empty) where
    page_there : (n : PageName) → page_in (to Empty) ≡ Some n → map.contains_key p.objects n ≡ true
    page_there n is = by (map.get p.files f) refl is
      where
        by : (o : Option PageName) → map.get p.files f ≡ o → page_in (entry_for a Empty o) ≡ Some n → map.contains_key p.objects n ≡ true
        by None g k = absurd (cc k)
        by (Some m) g k = let one : m ≡ n = cc k in file_there p w f n (g ∙ ap Some one)

    abbrev put : NamedPages
    put = with_entry p s (to Empty)

    put_whole : AreWhole put
    put_whole = entry_whole p w s Empty (to Empty) h page_there

    put_objects : put.objects ≡ p.objects
    unfolding with_entry
    put_objects = ap (λ (o : Option MapEntry). (option_map_or (drop_unnamed (record p { maps = set_entry p.maps s (to Empty) })) (option_and_then page_in o) (record p { maps = set_entry p.maps s (to Empty) })).objects) h

    pub maps_freely : (live (mapped p s f a) ≡ live p) × ((mapped p s f a).objects ≡ p.objects)
    maps_freely = (ap (λ (q : NamedPages). live q) (map_is Empty h) ∙ as_many, ap (λ (q : NamedPages). q.objects) (map_is Empty h) ∙ put_objects)
      where
        as_many : live put ≡ live p
        as_many = omega (arith, live_entry p w s Empty (to Empty) h page_there)

    -- and out of it again
    put_there : entry_at put.maps s ≡ Some (to Empty)
    put_there = ap (λ (m : Maps). entry_at m s) (entry_maps p w s Empty (to Empty) h) ∙ entry_set p.maps s Empty (to Empty) h

    unmap_is : unmapped put s ≡ with_entry put s Empty
    unfolding map_changed
    unmap_is = ap (λ o. option_map_or (λ e. with_entry put s Empty) o put) put_there

    fewer : (n : PageName) → nat_lt 0 (uses (with_entry put s Empty) n) ≡ true → nat_lt 0 (uses put n) ≡ true
    fewer n named = more (uses (with_entry put s Empty) n) (uses put n) (omega (arith, uses_entry put put_whole s (to Empty) Empty put_there n)) named
      where
        more : (j k : ℕ) → j ≤ k → nat_lt 0 j ≡ true → nat_lt 0 k ≡ true
        more j k le g = grind (arith, nat_tests)

    pub comes_back : unmapped (mapped p s f a) s ≡ p
    comes_back =
        let gone = with_entry put s Empty in
        let first = entry_kept p w s Empty (to Empty) h in
        let second = entry_kept put put_whole s (to Empty) Empty put_there in
        ap (λ (q : NamedPages). unmapped q s) (map_is Empty h) ∙ unmap_is
        ∙ still_same p gone p (still_on p put gone (still p put first) (still put gone second) fewer) (still_itself p w)
        (entry_maps put put_whole s (to Empty) Empty put_there ∙ ap (λ (m : Maps). set_entry m s Empty) (entry_maps p w s Empty (to Empty) h) ∙ entry_back p.maps s (to Empty) Empty h)
        (second.files ∙ first.files)

-- whatever is unmapped, files keep their pages
module _ (p : NamedPages) (w : AreWhole p) (s : Slot) where
  unmapped_files : (unmapped p s).files ≡ p.files
  unfolding map_changed
  unmapped_files = changed_leaves p s (λ e. Empty)

  unmapped_whole : AreWhole (unmapped p s)
  unmapped_whole = let c = change_whole nat_list_cmp_total name_cmp_apart (λ name. name) p w (Unmap s) in c.whole

  unmapped_words : (n : PageName) → nat_lt 0 (uses (unmapped p s) n) ≡ true → map.get (unmapped p s).objects n ≡ map.get p.objects n
  unfolding map_changed
  unmapped_words n named = by (entry_at p.maps s) refl named
    where
      by : (o : Option MapEntry) → entry_at p.maps s ≡ o → nat_lt 0 (uses (option_map_or (λ e. with_entry p s Empty) o p) n) ≡ true → map.get (option_map_or (λ e. with_entry p s Empty) o p).objects n ≡ map.get p.objects n
      by None h g = refl
      by (Some e) h g = (entry_kept p w s e Empty h).objects n ∙ ap (λ b. cond b (map.get p.objects n) None) g

  pub unmapping_keeps : (f : FilePage (List ℕ)) → KeepsPage p (unmapped p s) f
  unmapping_keeps f = (page, ap (λ (n : Option PageName). option_map_or (words_of (unmapped p s)) n zero_words) page ∙ by (page_at p (in_file f)) refl)
    where
      page : page_at (unmapped p s) (in_file f) ≡ page_at p (in_file f)
      page = file_page (unmapped p s) f ∙ ap (λ (m : map.FinMap _ PageName). map.get m f) unmapped_files ∙ sym (file_page p f)

      by : (n : Option PageName) → page_at p (in_file f) ≡ n → option_map_or (words_of (unmapped p s)) n zero_words ≡ option_map_or (words_of p) n zero_words
      by None is = refl
      by (Some n) is =
          let there = file_there (unmapped p s) unmapped_whole f n (sym (file_page (unmapped p s) f) ∙ page ∙ is) in
          ap (λ (ws : Option (List ℕ)). unwrap_or ws zero_words) (unmapped_words n (there_named (unmapped p s) unmapped_whole n there))

-- a slot without a chain names no page
no_page : (p : NamedPages) (s : Slot) → chain (entry_at p.maps) s ≡ None → page_at p (in_map s) ≡ None
unfolding page_at
no_page p s none = ap (option_and_then (λ (d : Chain). d.page)) none

-- a page that is put into a file and mapped back
module _ (p : NamedPages) (w : AreWhole p) (s t : Slot) (f : FilePage (List ℕ)) (a : Access) where
  pub no_room_taken : live (mapped (put_into p f s) t f a) ≤ live p
  no_room_taken =
      let first = change_whole nat_list_cmp_total name_cmp_apart (λ name. name) p w (Put f.file f.page s) in
      let second = change_whole nat_list_cmp_total name_cmp_apart (λ name. name) (put_into p f s) first.whole (MapPage t f.file f.page a) in
      omega (arith, first.room, second.room)

  module _ (n : PageName) (h : page_at p (in_map s) ≡ Some n) (has : HasEntry p t) where
    abbrev kept_at : NamedPages
    kept_at = with_file p f (Some n)

    put_is : put_into p f s ≡ kept_at
    unfolding map_changed
    put_is = ap (λ (o : Option PageName). with_file p f o) h

    there : (m : PageName) → Some n ≡ Some m → map.contains_key p.objects m ≡ true
    there m is = spot_there nat_list_cmp_total p w (in_map s) m (h ∙ is)

    whole_kept : AreWhole kept_at
    whole_kept = filed_whole nat_list_cmp_total name_cmp_apart p f (Some n) w there

    filed : map.get kept_at.files f ≡ Some n
    filed = ap (λ (m : map.FinMap _ PageName). map.get m f) (filed_files nat_list_cmp_total name_cmp_apart p f (Some n)) ∙ set_here nat_list_cmp_total name_cmp_apart p f (Some n)

    maps_kept : kept_at.maps ≡ p.maps
    maps_kept = filed_maps nat_list_cmp_total name_cmp_apart p f (Some n)

    entry_kept_there : entry_at kept_at.maps t ≡ Some has.0
    entry_kept_there = ap (λ (m : Maps). entry_at m t) maps_kept ∙ has.1

    words_kept : map.get kept_at.objects n ≡ map.get p.objects n
    words_kept = (filed_still nat_list_cmp_total name_cmp_apart p f (Some n) w).objects n ∙ ap (λ b. cond b (map.get p.objects n) None) (there_named kept_at whole_kept n (file_there kept_at whole_kept f n filed))

    abbrev then_mapped : NamedPages
    then_mapped = mapped kept_at t f a

    -- the slot that it came from has it still
    from_slot : page_at then_mapped (in_map s) ≡ Some n
    from_slot = by (chain (entry_at p.maps) s) refl
      where
        goes : (c : Chain) → c.page ≡ Some n → Passes (entry_at kept_at.maps) (entry_at then_mapped.maps) t n a (slot_then kept_at whole_kept t f a has.0 entry_kept_there n filed) (others_then kept_at whole_kept t f a has.0 entry_kept_there n filed) 4 s c → page_at then_mapped (in_map s) ≡ Some n
        goes c page (through k d r g named) = page_of_chain then_mapped s d (is_four then_mapped s d g) ∙ named
        goes c page (beside g) = page_of_chain then_mapped s c (is_four then_mapped s c g) ∙ page

        along : (c : Chain) → chain (entry_at p.maps) s ≡ Some c → page_at then_mapped (in_map s) ≡ Some n
        along c is =
            let now : chain (entry_at kept_at.maps) s ≡ Some c = ap (λ (m : Maps). chain (entry_at m) s) maps_kept ∙ is in
            goes c (sym (page_of_chain p s c is) ∙ h)
            (passes (entry_at kept_at.maps) (entry_at then_mapped.maps) t n a (slot_then kept_at whole_kept t f a has.0 entry_kept_there n filed) (others_then kept_at whole_kept t f a has.0 entry_kept_there n filed) 4 s c (four kept_at s c now))

        by : (o : Option Chain) → chain (entry_at p.maps) s ≡ o → page_at then_mapped (in_map s) ≡ Some n
        by None is = absurd (let no : None ≡ Some n = sym (no_page p s is) ∙ h in cc no)
        by (Some c) is = along c is

    to_slot : page_at then_mapped (in_map t) ≡ Some n
    to_slot =
        let is = named_chain (entry_at then_mapped.maps) t n a (slot_then kept_at whole_kept t f a has.0 entry_kept_there n filed) in
        page_of_chain then_mapped t (single_link t a (Some n)) is

    one_page : IsOne p then_mapped n s t f
    one_page = record {
      from = from_slot;
      to = to_slot;
      file = file_page then_mapped f ∙ filed_then kept_at whole_kept t f a has.0 entry_kept_there n filed;
      words = words_then kept_at whole_kept t f a has.0 entry_kept_there n filed ∙ words_kept;
    }

    pub is_one : IsOne p (mapped (put_into p f s) t f a) n s t f
    is_one = subst (λ (q : NamedPages). IsOne p (mapped q t f a) n s t f) (sym put_is) one_page
