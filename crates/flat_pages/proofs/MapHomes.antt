-- The homes that a map which is added, and one that goes, leaves to all others.
use Rattle.std.proofs.Common.{◌≡◌, ◌≢◌, ◌⊎◌, inl, inr, ℕ, List, true, Option, None, Some, refl, sym, ◌∙◌, ap, arith}
use Rattle.std.specs.Option.{option_map, option_and_then, unwrap_or}
use Rattle.std.specs.FinMap as fin
use Rattle.machine_names.specs.Orders.{FilePage, file_page}
use Rattle.flat_pages.specs.FileSteps.{FileHas, IsFiled}
use Rattle.flat_tables.proofs.FiledHomes.{get_filed}
use Rattle.machine_names.specs.declared.names.Access.{Access}
use Rattle.machine_names.specs.declared.names.ForkName.{ForkName}
use Rattle.machine_names.specs.declared.names.PageName.{PageName}
use Rattle.machine_names.specs.declared.names.Place.{Place}
use Rattle.machine_names.specs.declared.names.Slot.{Slot}
use Rattle.page_homes.specs.declared.homes.Home.{Home}
use Rattle.plain_pages.specs.declared.map.MapEntry.TheVariants.{Names}
use Rattle.page_contracts.specs.declared.answers.Seen.TheVariants.{Is}
use Rattle.page_contracts.specs.Changes.{StaysBeside}
use Rattle.page_contracts.specs.Pages.{AddsMap, DropsFile, DropsMap, EntryNames, FileNames, IsOfFile, IsOfMap, NamesPage, PagesMeaning, SetsEntry, SetsFile, SettlesHome, StandsAt}
use Rattle.page_contracts.specs.Stores.{StoreMeaning, free, is_here, place}
use Rattle.flat_tables.specs.declared.held_entry.HeldEntry.{HeldEntry}
use Rattle.flat_tables.specs.declared.held_entry.HeldEntry.TheVariants.{Empty, Page, Follows}
use Rattle.flat_tables.specs.HeldMaps.{entry_of, held_entry, index_of, name_at, name_of, nobody}
use Rattle.flat_pages.specs.Emptying.{MapNames}
use Rattle.flat_tables.specs.SlotSteps.{HomeStays, NamesHome}
use Rattle.flat_pages.specs.SlotMeaning.{filed_in, seen_entry, seen_in, slots_meaning}
use Rattle.flat_tables.specs.SlotTables.{Tables, AreTables}
use Rattle.flat_tables.specs.SlotTouches.{home_named}
use Rattle.flat_pages.proofs.Agreement.{entry_named, filed_named}
use Rattle.flat_pages.proofs.Telling.{named_home}
use Rattle.flat_pages.proofs.Touching.{home_is}

-- an entry that names a page is that of its home
pub record IsPage (e : HeldEntry) : Type 0 where
  pub home : Home
  pub access : Access
  pub is : e ≡ Page home access

pub page_seen : (names : List (Option PageName)) (e : HeldEntry) (n : PageName) (a : Access) → entry_of names e ≡ Names n a → IsPage e
page_seen names Empty n a h = absurd (cc h)
page_seen names (Page home access) n a h = record { home = home; access = access; is = refl }
page_seen names (Follows l b) n a h = absurd (cc h)

-- what a look at an entry found that names a page
pub record SeenAt (t : Tables) (f : ForkName) (page : ℕ) : Type 0 where
  pub map : ℕ
  pub index : index_of t.maps f ≡ Some map
  pub entry : HeldEntry
  pub held : held_entry t.maps (record { map = map; page = page }) ≡ Some entry
  pub named : IsPage entry

pub seen_names : (t : Tables) (f : ForkName) (page : ℕ) (n : PageName) (a : Access) → seen_in t (record { fork = f; page = page }) ≡ Is (Names n a) → SeenAt t f page
seen_names t f page n a h = by (index_of t.maps f) refl h
  where
    at : (k : ℕ) → index_of t.maps f ≡ Some k → (o : Option HeldEntry) → held_entry t.maps (record { map = k; page = page }) ≡ o → seen_entry t o ≡ Is (Names n a) → SeenAt t f page
    at k is None held e = absurd (cc e)
    at k is (Some x) held e = record { map = k; index = is; entry = x; held = held; named = page_seen t.names x n a (cc e) }

    by : (o : Option ℕ) → index_of t.maps f ≡ o → seen_entry t (option_and_then (λ k. held_entry t.maps (record { map = k; page = page })) o) ≡ Is (Names n a) → SeenAt t f page
    by None is e = absurd (cc e)
    by (Some k) is e = at k is (held_entry t.maps (record { map = k; page = page })) refl e

module _ {P S : Type 0} (store : StoreMeaning S) (part : P → S) (tables : P → Tables) (old new : P) (f : ForkName) where
  abbrev means : PagesMeaning P
  means = slots_meaning store part tables

  abbrev t : Tables
  t = tables old

  abbrev u : Tables
  u = tables new

  -- a map of which no entry names a page was added
  pub adds_map : store.homes (part new) ≡ store.homes (part old) → u.names ≡ t.names → u.files ≡ t.files → (k : ℕ) → ((j : ℕ) → index_of u.maps f ≡ Some j → j ≡ k)
      → ((page home : ℕ) (a : Access) → held_entry u.maps (record { map = k; page = page }) ≡ Some (Page (record { 0 = home }) a) → ⊥) → AddsMap means f old new
  adds_map homes names files k own none = record {
    homes = λ home ne. ap (λ ps. place ps home) homes;
    pages = ap home_named names;
    maps = λ g ne. refl;
    filed = λ i. filed_in (record t { names = names i; files = files i });
    names = λ n h. (let s = seen_names u f h.page n h.access h.is in
        none h.page s.named.home.0 s.named.access (ap (λ j. held_entry u.maps (record { map = j; page = h.page })) (sym (own s.map s.index)) ∙ s.held ∙ ap Some s.named.is));
  }

  -- homes were given up, each of a page that was named so
  module _ (a : AreTables t) (a' : AreTables u) (named : ℕ → Type 0) (names : PageName → Type 0) (lift : (home : ℕ) (n : PageName) → name_at t.names home ≡ Some n → named home → names n) (stays : (home : ℕ) → HomeStays t u home (named home)) where
    pub housed : (home : ℕ) (n : PageName) → name_at t.names home ≡ Some n → home_named t.names n ≡ Some home
    housed home n is = home_is t.names home n is (λ j e. a.once j home n e is)

    gone : (n : PageName) (home : ℕ) → home_named t.names n ≡ Some home → home_named u.names n ≡ None → HomeStays t u home (named home) → names n
    gone n home was none (inl same) = absurd (
        let is : name_at u.names home ≡ Some n = same.1 ∙ named_home t.names n home was in
        let z : None ≡ Some home = sym none ∙ home_is u.names home n is (λ j e. a'.once j home n e is) in
        cc z
        )
    gone n home was none (inr given) = lift home n (named_home t.names n home was) given.2

    still : (n : PageName) (home : ℕ) → home_named u.names n ≡ Some home → HomeStays t u home (named home) → home_named t.names n ≡ Some home
    still n home is (inl same) = housed home n (sym same.1 ∙ named_home u.names n home is)
    still n home is (inr given) = absurd (let z : None ≡ Some n = sym given.1 ∙ named_home u.names n home is in cc z)

    at_both : (n : PageName) (o p : Option ℕ) → home_named t.names n ≡ o → home_named u.names n ≡ p → (home_named u.names n ≡ home_named t.names n) ⊎ ((home_named u.names n ≡ None) × names n)
    at_both n o (Some home) was is = inl (is ∙ sym (still n home is (stays home)))
    at_both n None None was is = inl (is ∙ sym was)
    at_both n (Some home) None was is = inr (is, gone n home was is (stays home))

    pub page_stays : (n : PageName) → (home_named u.names n ≡ home_named t.names n) ⊎ ((home_named u.names n ≡ None) × names n)
    page_stays n = at_both n (home_named t.names n) (home_named u.names n) refl refl

    pub home_stays : store.homes (part old) ≡ t.places → store.homes (part new) ≡ u.places → (home : ℕ) → (place (store.homes (part new)) home ≡ place (store.homes (part old)) home) ⊎ ((place (store.homes (part new)) home ≡ free) × named home)
    home_stays old_homes new_homes home = elim (stays home) [
      | inl same ↦ inl (ap (λ ps. place ps home) new_homes ∙ same.0 ∙ sym (ap (λ ps. place ps home) old_homes))
      | inr given ↦ inr (ap (λ ps. place ps home) new_homes ∙ given.0, given.2)
    ]

  -- a store that is as it was
  pub untouched_beside : part new ≡ part old → StaysBeside means old new
  untouched_beside same = record {
    queued = record { queue = ap store.queue same; untold = ap store.untold same };
    holds = ap store.holds same;
  }

  -- where a map names no page, none of its entries has one
  module _ (a : AreTables t) (k : ℕ) (index : index_of t.maps f ≡ Some k) where
    pub no_page : ((n : PageName) → NamesPage means old f n → ⊥) → (home : ℕ) → MapNames t.maps k home → ⊥
    no_page none home m =
        let n = entry_named t a (record { map = k; page = m.page }) (record { 0 = home }) m.there.access m.there.is in
        none n.0 (record {
          page = m.page;
          access = m.there.access;
          is = ap (λ (o : Option ℕ). seen_entry t (option_and_then (λ j. held_entry t.maps (record { map = j; page = m.page })) o)) index
              ∙ ap (seen_entry t) m.there.is ∙ ap (λ (o : Option PageName). Is (Names (unwrap_or o nobody) m.there.access)) n.1;
        })

  -- a map went
  module _ (a : AreTables t) (a' : AreTables u) (k : ℕ) (index : index_of t.maps f ≡ Some k) (old_homes : store.homes (part old) ≡ t.places) (new_homes : store.homes (part new) ≡ u.places)
      (stays : (home : ℕ) → HomeStays t u home (MapNames t.maps k home)) (frames : ((home : ℕ) → MapNames t.maps k home → ⊥) → store.spare (part new) ≡ store.spare (part old)) (filed : filed_in u ≡ filed_in t) where
    -- a page whose home the map names is named by it
    named_page : (home : ℕ) (n : PageName) → name_at t.names home ≡ Some n → MapNames t.maps k home → NamesPage means old f n
    named_page home n named m = record {
      page = m.page;
      access = m.there.access;
      is = ap (λ (o : Option ℕ). seen_entry t (option_and_then (λ j. held_entry t.maps (record { map = j; page = m.page })) o)) index
          ∙ ap (seen_entry t) m.there.is ∙ ap (λ (o : Option PageName). Is (Names (unwrap_or o nobody) m.there.access)) named;
    }

    its_name : (home : ℕ) → MapNames t.maps k home → (n : PageName) × (name_at t.names home ≡ Some n)
    its_name home m = entry_named t a (record { map = k; page = m.page }) (record { 0 = home }) m.there.access m.there.is

    of_map : (home : ℕ) → (place (store.homes (part new)) home ≡ place (store.homes (part old)) home) ⊎ ((place (store.homes (part new)) home ≡ free) × IsOfMap means old f home)
    of_map home = elim (home_stays a a' (MapNames t.maps k) (NamesPage means old f) named_page stays old_homes new_homes home) [
      | inl same ↦ inl same
      | inr given ↦ (let n = its_name home given.1 in inr (given.0, inr (n.0, housed a a' (MapNames t.maps k) (NamesPage means old f) named_page stays home n.0 n.1, named_page home n.0 n.1 given.1)))
    ]

    pub drops_map : DropsMap means f old new
    drops_map = record {
      homes = of_map;
      pages = page_stays a a' (MapNames t.maps k) (NamesPage means old f) named_page stays;
      maps = λ g ne. refl;
      away = λ g ne. refl;
      filed = filed;
      frames = λ none. (let same = frames (λ home m. (let n = its_name home m in none n.0 (named_page home n.0 n.1 m))) in omega (arith, same));
    }

  -- the pages of a file went
  module _ (a : AreTables t) (a' : AreTables u) (file : ℕ) (old_homes : store.homes (part old) ≡ t.places) (new_homes : store.homes (part new) ≡ u.places) (stays : (home : ℕ) → HomeStays t u home (FileHas t.files file home))
      (frames : ((home : ℕ) → FileHas t.files file home → ⊥) → store.spare (part new) ≡ store.spare (part old)) (gone_all : (page : ℕ) → fin.get u.files (file_page file page) ≡ None) (filed : (g : FilePage ℕ) → g.file ≢ file → filed_in u g ≡ filed_in t g) where
    -- a page whose home the file names is named by it
    filed_page : (home : ℕ) (n : PageName) → name_at t.names home ≡ Some n → FileHas t.files file home → FileNames means old file n
    filed_page home n named m = record {
      page = m.page;
      is = get_filed t.names t.files (file_page file m.page) ∙ ap (option_map (name_of t.names)) m.there ∙ ap (λ (o : Option PageName). Some (unwrap_or o nobody)) named;
    }

    file_name : (home : ℕ) → FileHas t.files file home → (n : PageName) × (name_at t.names home ≡ Some n)
    file_name home m = filed_named t a (file_page file m.page) (record { 0 = home }) m.there

    of_file : (home : ℕ) → (place (store.homes (part new)) home ≡ place (store.homes (part old)) home) ⊎ ((place (store.homes (part new)) home ≡ free) × IsOfFile means old file home)
    of_file home = elim (home_stays a a' (FileHas t.files file) (FileNames means old file) filed_page stays old_homes new_homes home) [
      | inl same ↦ inl same
      | inr given ↦ (let n = file_name home given.1 in inr (given.0, (n.0, housed a a' (FileHas t.files file) (FileNames means old file) filed_page stays home n.0 n.1, filed_page home n.0 n.1 given.1)))
    ]

    pub drops_file : DropsFile means file old new
    drops_file = record {
      homes = of_file;
      pages = page_stays a a' (FileHas t.files file) (FileNames means old file) filed_page stays;
      maps = refl;
      away = refl;
      frames = λ none. (let same = frames (λ home m. (let n = file_name home m in none n.0 (filed_page home n.0 n.1 m))) in omega (arith, same));
      gone = λ page. get_filed u.names u.files (file_page file page) ∙ ap (option_map (name_of u.names)) (gone_all page);
      filed = filed;
    }

  -- an entry was set
  module _ (a : AreTables t) (a' : AreTables u) (slot : Slot) (k : ℕ) (index : index_of t.maps slot.fork ≡ Some k) (old_homes : store.homes (part old) ≡ t.places) (new_homes : store.homes (part new) ≡ u.places)
      (stays : (home : ℕ) → HomeStays t u home (NamesHome t.maps (record { map = k; page = slot.page }) home)) where
    -- a page whose home the entry names is named by it
    entry_page : (home : ℕ) (n : PageName) → name_at t.names home ≡ Some n → NamesHome t.maps (record { map = k; page = slot.page }) home → EntryNames means old slot n
    entry_page home n named m = record {
      access = m.access;
      is = ap (λ (o : Option ℕ). seen_entry t (option_and_then (λ j. held_entry t.maps (record { map = j; page = slot.page })) o)) index
          ∙ ap (seen_entry t) m.is ∙ ap (λ (o : Option PageName). Is (Names (unwrap_or o nobody) m.access)) named;
    }

    pub sets_entry : SetsEntry means slot old new
    sets_entry = record {
      homes = λ home none. elim (home_stays a a' (NamesHome t.maps (record { map = k; page = slot.page })) (EntryNames means old slot) entry_page stays old_homes new_homes home) [
        | inl same ↦ inl same
        | inr given ↦ (let n = entry_named t a (record { map = k; page = slot.page }) (record { 0 = home }) given.1.access given.1.is in
            inr (given.0, (n.0, housed a a' (NamesHome t.maps (record { map = k; page = slot.page })) (EntryNames means old slot) entry_page stays home n.0 n.1, entry_page home n.0 n.1 given.1)))
      ];
      map = λ home is. absurd (cc is);
      pages = page_stays a a' (NamesHome t.maps (record { map = k; page = slot.page })) (EntryNames means old slot) entry_page stays;
      maps = refl;
    }

  -- a page of a file was set
  module _ (a : AreTables t) (a' : AreTables u) (fp : FilePage ℕ) (old_homes : store.homes (part old) ≡ t.places) (new_homes : store.homes (part new) ≡ u.places) (stays : (home : ℕ) → HomeStays t u home (IsFiled t.files fp home)) where
    -- a page whose home the file names is named by it
    one_filed : (home : ℕ) (n : PageName) → name_at t.names home ≡ Some n → IsFiled t.files fp home → filed_in t fp ≡ Some n
    one_filed home n named m = get_filed t.names t.files fp ∙ ap (option_map (name_of t.names)) m ∙ ap (λ (o : Option PageName). Some (unwrap_or o nobody)) named

    pub sets_file : SetsFile means fp old new
    sets_file = record {
      homes = λ home. elim (home_stays a a' (IsFiled t.files fp) (λ n. filed_in t fp ≡ Some n) one_filed stays old_homes new_homes home) [
        | inl same ↦ inl same
        | inr given ↦ (let n = filed_named t a fp (record { 0 = home }) given.1 in
            inr (given.0, (n.0, housed a a' (IsFiled t.files fp) (λ m. filed_in t fp ≡ Some m) one_filed stays home n.0 n.1, one_filed home n.0 n.1 given.1)))
      ];
      pages = page_stays a a' (IsFiled t.files fp) (λ n. filed_in t fp ≡ Some n) one_filed stays;
      maps = refl;
    }

  -- the page of a place was used or made, at a home: each other home has its page and name
  module _ (a : AreTables t) (a' : AreTables u) (at : Place) (home : ℕ) (old_homes : store.homes (part old) ≡ t.places) (new_homes : store.homes (part new) ≡ u.places)
      (places : (k : ℕ) → k ≢ home → place u.places k ≡ place t.places k) (names : (k : ℕ) → k ≢ home → name_at u.names k ≡ name_at t.names k) where
    pub settles_home : StandsAt means new at home → is_here (place (store.homes (part new)) home) ≡ true → (place t.places home ≡ free) ⊎ (place u.places home ≡ place t.places home) → SettlesHome means at old new
    settles_home stands there own = record {
      home = home;
      stands = stands;
      here = there;
      own = elim own [
        | inl none ↦ inl (ap (λ ps. place ps home) old_homes ∙ none)
        | inr same ↦ inr (ap (λ ps. place ps home) new_homes ∙ same ∙ sym (ap (λ ps. place ps home) old_homes))
      ];
      fork = None;
      map = λ k is. absurd (cc is);
      others = λ k ne apart. ap (λ ps. place ps k) new_homes ∙ places k ne ∙ sym (ap (λ ps. place ps k) old_homes);
      pages = λ n k ne. (
        λ is. (let named : name_at t.names k ≡ Some n = sym (names k ne) ∙ named_home u.names n k is in home_is t.names k n named (λ j e. a.once j k n e named)),
        λ is. (let named : name_at u.names k ≡ Some n = names k ne ∙ named_home t.names n k is in home_is u.names k n named (λ j e. a'.once j k n e named)),
      );
      maps = refl;
    }
