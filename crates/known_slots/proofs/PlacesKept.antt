-- The homes that an entry that is set, a page of a file that is set, and a page that is settled leave to all others.
use Rattle.std.proofs.Common.{◌≡◌, ◌≢◌, ◌⊎◌, ◌↔◌, inl, inr, ℕ, List, Bool, true, false, Option, None, Some, is_some, refl, sym, ◌∙◌, ap, subst}
use Rattle.std.specs.Option.{option_map, unwrap_or}
use Rattle.machine_names.specs.declared.names.ForkName.{ForkName}
use Rattle.machine_names.specs.declared.names.PageName.{PageName}
use Rattle.machine_names.specs.declared.names.Place.{Place}
use Rattle.machine_names.specs.declared.names.Slot.{Slot}
use Rattle.machine_names.specs.Orders.{FilePage}
use Rattle.page_homes.specs.declared.homes.Home.{Home}
use Rattle.page_contracts.specs.declared.answers.Seen.TheVariants as seen
use Rattle.page_contracts.specs.Changes.{EntrySet}
use Rattle.page_contracts.specs.Pages.{EntryNames, IsPlace, SetsEntry, SetsFile, SettlesHome, StandsAt, WordSet}
use Rattle.page_contracts.specs.Stores.{HomePlace, IsSound, StoreMeaning, away, free, here, is_here, is_taken, place}
use Rattle.plain_pages.specs.declared.map.MapEntry.TheVariants.{Names}
use Rattle.plain_pages.specs.declared.map.NewEntry.{NewEntry}
use Rattle.flat_pages.specs.FileSteps.{IsFiled}
use Rattle.flat_tables.specs.Serials.{serial_of}
use Rattle.flat_tables.specs.SlotTouches.{home_named}
use Rattle.flat_tables.proofs.FiledHomes.{get_filed}
use Rattle.flat_pages.proofs.Telling.{named_home}
use Rattle.pager_walk.specs.declared.map_pages.MapPage.{MapPage}
use Rattle.pager_walk.specs.declared.paged_entry.Looked.{Looked}
use Rattle.pager_walk.specs.MapPages.{index_of, root_at}
use Rattle.pager_walk.specs.PagedMaps.{LookStands, name_at, name_of, nobody, seen_for}
use Rattle.pager_walk.proofs.Looking.{stands_at}
use Rattle.pager_walk.proofs.NumberedMaps.{index_fork}
use Rattle.paged_tables.specs.declared.page_home.PageHome.TheVariants.{At}
use Rattle.paged_tables.specs.FiledSteps.{PageStays}
use Rattle.paged_tables.specs.FreedEntries.{KeepsHomes, NamesHome}
use Rattle.paged_tables.specs.PageHomes.{homed_over}
use Rattle.paged_tables.specs.PagedMeaning.{lives_in}
use Rattle.paged_tables.specs.PagedSlots.{filed_over, map_home_over, paged_slots}
use Rattle.paged_tables.specs.PagedTables.{Beside, AreKept}
use Rattle.paged_tables.specs.PlacesSettled.{KeepsPages}
use Rattle.paged_tables.specs.SetEntries.{ChangesEntry}
use Rattle.paged_tables.proofs.FilingSteps.{some_name}
use Rattle.paged_tables.proofs.MapsSame.{homes_same}
use Rattle.slot_paged.proofs.HousedPages.{named_is}
use Rattle.known_slots.proofs.PlacesUsed.{stands_at as place_stands}

module _ {P S : Type 0} (store : StoreMeaning S) (part : P → S) (beside : P → Beside) (old new : P) (kept : AreKept (beside old) (store.homes (part old))) (kept' : AreKept (beside new) (store.homes (part new))) (maps : (beside new).tables.maps ≡ (beside old).tables.maps) where
  abbrev b : Beside
  b = beside old

  abbrev b' : Beside
  b' = beside new

  abbrev places : List HomePlace
  places = store.homes (part old)

  abbrev places' : List HomePlace
  places' = store.homes (part new)

  pub maps_same : map_home_over b' ≡ map_home_over b
  maps_same = homes_same b b' maps

  -- each page has its home, or went, where its home was given up
  module _ (named : ℕ → Type 0) (names : PageName → Type 0) (lift : (home : ℕ) (n : PageName) → name_at b.tables.names home ≡ Some n → named home → names n)
      (stays : (home : ℕ) → (is_some (name_at b.tables.names home) ≡ true) ⊎ (is_some (name_at b'.tables.names home) ≡ true) → PageStays b places b' places' home (named home)) where
    was : (home : ℕ) (n : PageName) → name_at b'.tables.names home ≡ Some n → PageStays b places b' places' home (named home) → name_at b.tables.names home ≡ Some n
    was home n is (inl same) = sym same.1 ∙ is
    was home n is (inr given) = absurd (let z : None ≡ Some n = sym given.1 ∙ is in cc z)

    went : (home : ℕ) (n : PageName) → name_at b.tables.names home ≡ Some n → home_named b'.tables.names n ≡ None → PageStays b places b' places' home (named home) → names n
    went home n is none (inl same) = absurd (let z : None ≡ Some home = sym none ∙ named_is b' places' kept' home n (same.1 ∙ is) in cc z)
    went home n is none (inr given) = lift home n is given.2

    pub pages_stay : (n : PageName) → (home_named b'.tables.names n ≡ home_named b.tables.names n) ⊎ ((home_named b'.tables.names n ≡ None) × names n)
    pages_stay n = by (home_named b.tables.names n) (home_named b'.tables.names n) refl refl
      where
        by : (o o' : Option ℕ) → home_named b.tables.names n ≡ o → home_named b'.tables.names n ≡ o' → (home_named b'.tables.names n ≡ home_named b.tables.names n) ⊎ ((home_named b'.tables.names n ≡ None) × names n)
        by o (Some home) is is' =
            let now = named_home b'.tables.names n home is' in
            inl (is' ∙ sym (named_is b places kept home n (was home n now (stays home (inr (ap is_some now))))))
        by None None is is' = inl (is' ∙ sym is)
        by (Some home) None is is' = let name = named_home b.tables.names n home is in inr (is', went home n name is' (stays home (inl (ap is_some name))))

  -- the home of a map has no name
  root_unnamed : (f : ForkName) (number : ℕ) → index_of b.tables.maps f ≡ Some number → name_at b.tables.names (root_at b.tables.maps number).0 ≡ None
  root_unnamed f number numbered = kept.rooted.unnamed number f (index_fork b.tables.maps f number numbered)

  root_unnamed_now : (f : ForkName) (number : ℕ) → index_of b.tables.maps f ≡ Some number → name_at b'.tables.names (root_at b.tables.maps number).0 ≡ None
  root_unnamed_now f number numbered =
      ap (name_at b'.tables.names) (ap (λ (ms : List MapPage). (root_at ms number).0) (sym maps))
      ∙ kept'.rooted.unnamed number f (index_fork b'.tables.maps f number (ap (λ (ms : List MapPage). index_of ms f) maps ∙ numbered))

  -- an entry was set
  module _ (slot : Slot) (z : KeepsHomes store (part old) (part new) b b' slot) where
    abbrev root : ℕ
    root = (root_at b.tables.maps z.number).0

    root_home : map_home_over b slot.fork ≡ Some root
    root_home = ap (option_map (λ k. (root_at b.tables.maps k).0)) z.numbered

    entry_page : (home : ℕ) (n : PageName) → name_at b.tables.names home ≡ Some n → NamesHome b places slot home → EntryNames (paged_slots store part beside) old slot n
    entry_page home n is has = record { access = has.access; is = ap (seen_for b.tables) has.is ∙ ap (λ (o : Option PageName). seen.Is (Names (unwrap_or o nobody) has.access)) is }

    entry_name : (home : ℕ) → NamesHome b places slot home → (n : PageName) × (name_at b.tables.names home ≡ Some n)
    entry_name home has = some_name (name_at b.tables.names home) (subst (λ (l : Looked). LookStands b.tables places l) has.is (stands_at b.tables places kept.rooted slot))

    not_root : (home : ℕ) → (is_some (name_at b.tables.names home) ≡ true) ⊎ (is_some (name_at b'.tables.names home) ≡ true) → home ≢ root
    not_root home (inl some) same = let no : true ≡ false = sym some ∙ ap (λ k. is_some (name_at b.tables.names k)) same ∙ ap is_some (root_unnamed slot.fork z.number z.numbered) in cc no
    not_root home (inr some) same = let no : true ≡ false = sym some ∙ ap (λ k. is_some (name_at b'.tables.names k)) same ∙ ap is_some (root_unnamed_now slot.fork z.number z.numbered) in cc no

    pub sets_entry : SetsEntry (paged_slots store part beside) slot old new
    sets_entry = record {
      homes = λ home none. elim (z.homes home (λ same. none (root_home ∙ ap Some (sym same)))) [
        | inl same ↦ inl same.0
        | inr given ↦ (let n = entry_name home given.2 in inr (given.0, (n.0, named_is b places kept home n.0 n.1, entry_page home n.0 n.1 given.2)))
      ];
      map = λ home is. (let two : Some root ≡ Some home = sym root_home ∙ is in let same : root ≡ home = cc two in
          subst (λ (k : ℕ). WordSet (place places k) (place places' k)) same (record { at = slot.page; word = z.word; is = z.map }));
      pages = pages_stay (NamesHome b places slot) (EntryNames (paged_slots store part beside) old slot) entry_page (λ home some. z.homes home (not_root home some));
      maps = maps_same;
    }

    pub entry_set : (entry : NewEntry) → ChangesEntry store (part old) (part new) b b' slot entry → EntrySet (paged_slots store part beside) slot entry old new
    entry_set entry c = record {
      told = c.told;
      scene = c.core;
      filed = c.filed;
      loses = c.lost;
      uses = c.uses;
      sets = sets_entry;
      lives = c.lives;
      forks = c.forks;
      serials = ap serial_of c.serials;
      most = c.most;
    }

  -- a page of a file was set
  module _ (f : FilePage ℕ) (stays : (home : ℕ) → PageStays b places b' places' home (IsFiled b.files f home)) where
    filed_page : (home : ℕ) (n : PageName) → name_at b.tables.names home ≡ Some n → IsFiled b.files f home → filed_over b f ≡ Some n
    filed_page home n is has = get_filed b.tables.names b.files f ∙ ap (option_map (name_of b.tables.names)) has ∙ ap (λ (o : Option PageName). Some (unwrap_or o nobody)) is

    pub sets_file : SetsFile (paged_slots store part beside) f old new
    sets_file = record {
      homes = λ home. elim (stays home) [
        | inl same ↦ inl same.0
        | inr given ↦ (let n = some_name (name_at b.tables.names home) (kept.filed f (record { 0 = home }) given.2) in inr (given.0, (n.0, named_is b places kept home n.0 n.1, filed_page home n.0 n.1 given.2)))
      ];
      pages = pages_stay (IsFiled b.files f) (λ n. filed_over b f ≡ Some n) filed_page (λ home some. stays home);
      maps = maps_same;
    }

  -- the page of a place was settled
  module _ (at : Place) (h : Home) (sound : IsSound store (part new)) (there : IsPlace (lives_in b') at) (ends : homed_over b' places' at ≡ At h) (in_frame : is_here (place places' h.0) ≡ true) (named : is_some (name_at b'.tables.names h.0) ≡ true)
      (keeps : KeepsPages b places places') (names : (k : ℕ) → k ≢ h.0 → name_at b'.tables.names k ≡ name_at b.tables.names k) (fresh : (k : ℕ) → k ≢ h.0 → is_taken (place places k) ≡ false → place places' k ≡ place places k) where
    free_is : (p : HomePlace) → is_taken p ≡ false → p ≡ free
    free_is free e = refl
    free_is away e = absurd (cc e)
    free_is (here words) e = absurd (cc e)

    pages_apart : (n : PageName) (k : ℕ) → k ≢ h.0 → (home_named b'.tables.names n ≡ Some k) ↔ (home_named b.tables.names n ≡ Some k)
    pages_apart n k ne = (
      λ is. named_is b places kept k n (sym (names k ne) ∙ named_home b'.tables.names n k is),
      λ is. named_is b' places' kept' k n (names k ne ∙ named_home b.tables.names n k is),
    )

    home_apart : (f : ForkName) (number : ℕ) → index_of b.tables.maps f ≡ Some number → h.0 ≢ (root_at b.tables.maps number).0
    home_apart f number numbered same = let no : true ≡ false = sym named ∙ ap (λ k. is_some (name_at b'.tables.names k)) same ∙ ap is_some (root_unnamed_now f number numbered) in cc no

    abbrev Done : Type 0
    Done = SettlesHome (paged_slots store part beside) at old new

    taken_or : (k : ℕ) (bit : Bool) → is_taken (place places k) ≡ bit → k ≢ h.0 → (is_taken (place places k) ≡ true → place places' k ≡ place places k) → place places' k ≡ place places k
    taken_or k true is ne same = same is
    taken_or k false is ne same = fresh k ne is

    own_by : (bit : Bool) → is_taken (place places h.0) ≡ bit → (is_taken (place places h.0) ≡ true → place places' h.0 ≡ place places h.0) → (place places h.0 ≡ free) ⊎ (place places' h.0 ≡ place places h.0)
    own_by true is same = inr (same is)
    own_by false is same = inl (free_is (place places h.0) is)

    pub settles_home : Done
    settles_home = by keeps
      where
        stood : StandsAt (paged_slots store part beside) new at h.0
        stood = place_stands store part beside new kept' sound at h there ends in_frame

        by : KeepsPages b places places' → Done
        by (inl same) = record {
          home = h.0;
          stands = stood;
          here = in_frame;
          own = own_by (is_taken (place places h.0)) refl (same h.0);
          fork = None;
          map = λ k is. absurd (cc is);
          others = λ k ne none. taken_or k (is_taken (place places k)) refl ne (same k);
          pages = pages_apart;
          maps = maps_same;
        }
        by (inr one) =
            let root : ℕ = (root_at b.tables.maps one.number).0 in
            let root_is : map_home_over b one.fork ≡ Some root = ap (option_map (λ k. (root_at b.tables.maps k).0)) one.numbered in
            record {
              home = h.0;
              stands = stood;
              here = in_frame;
              own = own_by (is_taken (place places h.0)) refl (one.homes h.0 (home_apart one.fork one.number one.numbered));
              fork = Some one.fork;
              map = λ k is. (let two : Some root ≡ Some k = sym root_is ∙ is in let same : root ≡ k = cc two in
                  subst (λ (j : ℕ). WordSet (place places j) (place places' j)) same (record { at = one.page; word = one.word; is = one.map }));
              others = λ k ne none. taken_or k (is_taken (place places k)) refl ne (one.homes k (λ same. none (root_is ∙ ap Some (sym same))));
              pages = pages_apart;
              maps = maps_same;
            }
