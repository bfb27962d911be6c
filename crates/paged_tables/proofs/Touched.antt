-- What a touch answers of maps that are pages is what a reference to the plain pages comes to.
use Rattle.std.proofs.Common.{◌≡◌, ℕ, ◌<◌, List, [], ◌∷◌, Bool, true, false, cond, Option, None, Some, is_some, map, refl, sym, ◌∙◌, ap, arith, inl, inr}
use Rattle.std.specs.Prelude.{◌==◌, ◌&&◌}
use Rattle.std.proofs.lemmas.Bool.Decides.{eqb_tells}
use Rattle.std.specs.Option.{option_map, option_and_then, option_or}
use Rattle.std.specs.FinMap as fin
use Rattle.std.proofs.Math.Path.{fun_ext}
use Rattle.machine_names.specs.declared.names.ForkName.{ForkName}
use Rattle.machine_names.specs.declared.names.Kind.{Kind}
use Rattle.machine_names.specs.declared.names.Kind.TheVariants.{Read, Write, Execute}
use Rattle.machine_names.specs.declared.names.PageName.{PageName}
use Rattle.machine_names.specs.declared.names.Slot.{Slot}
use Rattle.machine_names.specs.declared.names.Tty.{Tty}
use Rattle.machine_names.specs.declared.names.TheConstants.{SPACE_PAGES}
use Rattle.machine_names.specs.Bounds.{IsOwner}
use Rattle.machine_names.specs.Orders.{FilePage}
use Rattle.page_homes.specs.declared.homes.Home.{Home}
use Rattle.page_contracts.specs.declared.answers.Touch.{Touch}
use Rattle.page_contracts.specs.declared.answers.Touch.TheVariants.{Ready, Denied}
use Rattle.page_contracts.specs.DrumWords.{DrumWords}
use Rattle.page_contracts.specs.Pages.{Scene, absent_or, first_away, map_away as maps_away, touch_of, touched_by}
use Rattle.page_contracts.specs.Stores.{HomePlace, away_at, away_home, is_taken}
use Rattle.plain_pages.specs.PlainPages.{NumberedPages}
use Rattle.plain_pages.specs.Maps.{entry_at, maps_on_way}
use Rattle.plain_pages.specs.References.{Referred, Spot, in_file, in_map, granted, denied, full, reference}
use Rattle.pager_walk.specs.declared.chain_walk.Walked.{Walked}
use Rattle.pager_walk.specs.declared.chain_walk.Walked.TheVariants.{Along, Absent, NoChain}
use Rattle.pager_walk.specs.declared.paged_entry.Looked.{Looked}
use Rattle.pager_walk.specs.declared.paged_entry.Looked.TheVariants.{Is, Absent as MapAbsent, Missing, Refused}
use Rattle.pager_walk.specs.declared.paged_entry.PagedEntry.TheVariants.{Empty, Page, Follows}
use Rattle.pager_walk.specs.MapPages.{index_of}
use Rattle.pager_walk.specs.PagedMaps.{AreRooted, look_at, is_near, map_away, maps_over, name_at}
use Rattle.pager_walk.specs.Walks.{Way, IsNearSlot, TellsWalk, WalkStands, WayStands, first_absent, walk_at}
use Rattle.pager_walk.proofs.Looking.{ArePages}
use Rattle.pager_walk.proofs.NumberedMaps.{index_is}
use Rattle.flat_tables.specs.declared.held_entry.EntryAt.{EntryAt}
use Rattle.flat_tables.specs.declared.held_map.HeldMap.{HeldMap}
use Rattle.flat_tables.specs.HeldMaps as flat
use Rattle.flat_tables.specs.Walks.{Walk, slot_of, walk}
use Rattle.flat_tables.specs.declared.held_entry.HeldEntry.TheVariants as flat_entry
use Rattle.flat_tables.specs.HeldMaps.{points_at}
use Rattle.flat_tables.specs.SlotTables.{Tables as FlatTables, filed_total, share_of}
use Rattle.flat_tables.proofs.HeldEntries.{points_self, total_le}
use Rattle.fork_maps.specs.ChainWalks.{allows_along, copy_for}
use Rattle.flat_tables.specs.SlotTouches.{home_named, is_alone, scene_of, touch_copy, touch_filed, touch_made, touch_walked}
use Rattle.flat_pages.proofs.FileTouches.{file_told}
use Rattle.flat_pages.proofs.Meeting.{place_told}
use Rattle.flat_pages.proofs.Settling.{sized_of}
use Rattle.flat_pages.proofs.Telling.{named_home}
use Rattle.flat_pages.proofs.Touching.{none_away}
use Rattle.paged_tables.specs.PagedPlaces.{page_places}
use Rattle.paged_tables.specs.PagedTables.{Beside, FitsPages, in_memory_over, plain_over}
use Rattle.paged_tables.specs.PagedTouches.{alone_at, alone_in, copy_touched, file_touched, has_one_name, made_touched, names_at, scene_over, walk_touched}
use Rattle.paged_tables.proofs.Counted.{counts_at}
use Rattle.paged_tables.proofs.MapsTold.{maps_told}
use Rattle.paged_tables.proofs.Places.{IsNoRoot, fits_places, place_here, place_same}
use Rattle.paged_tables.proofs.WalksTold.{IsSameCopy, IsSameWalk, IsSameWay, LookIs, fork_same, index_same, look_told, maps, walk_told}

-- the first map on the way that is in no frame
first_same : (scene : Scene) (fs : List ForkName) → first_away scene fs ≡ first_absent scene.map_away fs
first_same scene [] = refl
first_same scene (f ∷ fs) = ap (λ o. option_or (scene.map_away f) o) (first_same scene fs)

-- a slot with the entry that stands there
pub record StandsIn (hs : List HeldMap) (at : EntryAt) (s : Slot) : Type 0 where
  pub fork : flat.fork_at hs at.map ≡ Some s.fork
  pub page : at.page ≡ s.page

pub stands_in : (hs : List HeldMap) (at : EntryAt) (s : Slot) → slot_of hs at ≡ Some s → StandsIn hs at s
stands_in hs at s e = by (flat.fork_at hs at.map) refl e
  where
    by : (o : Option ForkName) → flat.fork_at hs at.map ≡ o → option_map (λ f. record { fork = f; page = at.page }) o ≡ Some s → StandsIn hs at s
    by None is e = absurd (cc e)
    by (Some f) is e = let same : ◌≡◌ {A = Slot} (record { fork = f; page = at.page }) s = cc e in record { fork = is ∙ ap (λ (x : Slot). Some x.fork) same; page = ap (λ (x : Slot). x.page) same }

module _ (b : Beside) (places : List HomePlace) (rooted : AreRooted b.tables (map is_taken places)) where
  -- the page of a home that has a name is no map
  pub named_apart : (h : ℕ) → is_some (name_at b.tables.names h) ≡ true → IsNoRoot b.tables.maps h
  named_apart h named k f is same = let z : true ≡ false = sym named ∙ ap (λ j. is_some (name_at b.tables.names j)) (sym same) ∙ ap is_some (rooted.unnamed k f is) in cc z

  pub away_same : (h : ℕ) → is_some (name_at b.tables.names h) ≡ true → away_at (page_places b.tables.maps places) h ≡ away_at places h
  away_same h named = ap (λ p. away_home p h) (place_same b.tables.maps places h (named_apart h named))

  page_away_same : (n : PageName) (o : Option ℕ) → home_named b.tables.names n ≡ o → option_and_then (away_at (page_places b.tables.maps places)) o ≡ option_and_then (away_at places) o
  page_away_same n None is = refl
  page_away_same n (Some h) is = away_same h (ap is_some (named_home b.tables.names n h is))

  -- pages are away as they are of the tables in memory
  pub pages_away : (d : DrumWords) (frames : ℕ) → (scene_of (in_memory_over b places d) frames).page_away ≡ (scene_over b places frames).page_away
  pages_away d frames = fun_ext (λ n. page_away_same n (home_named b.tables.names n) refl)

  module _ (pages : ArePages places) (d : DrumWords) (fits : FitsPages b places d) where
    abbrev pub u : FlatTables
    u = in_memory_over b places d

    abbrev pub p : NumberedPages
    p = plain_over b places d

    -- what is in frames, where each map is
    abbrev mapped : ℕ → Scene
    mapped frames = record (scene_of u frames) { map_away = map_away b.tables places }

    scene_same : (frames : ℕ) → mapped frames ≡ scene_over b places frames
    scene_same frames = λ i. record { map_away = map_away b.tables places; page_away = pages_away d frames i; free_frames = frames }

    -- what a reference finds beyond the maps doesn't depend on them
    beyond : (frames : ℕ) (at : Spot ℕ) (kind : Kind) (r : Referred _) → touched_by p (mapped frames) at kind r ≡ touched_by p (scene_of u frames) at kind r
    beyond frames at kind (granted q) = refl
    beyond frames at kind (denied k) = refl
    beyond frames at kind full = refl

    -- where the maps are in frames a touch finds what it finds of the tables in memory
    pub touch_near : (frames : ℕ) (at : Spot ℕ) (kind : Kind) (owner : Tty) → maps_away p (scene_over b places frames) at ≡ None → maps_away p (scene_of u frames) at ≡ None
        → touch_of p (scene_over b places frames) at kind owner ≡ touch_of p (scene_of u frames) at kind owner
    unfolding touch_of
    touch_near frames at kind owner near none =
        ap (λ o. absent_or o (touched_by p (scene_over b places frames) at kind (reference p at kind owner))) near
        ∙ ap (λ (x : Scene). touched_by p x at kind (reference p at kind owner)) (sym (scene_same frames))
        ∙ beyond frames at kind (reference p at kind owner)
        ∙ sym (ap (λ o. absent_or o (touched_by p (scene_of u frames) at kind (reference p at kind owner))) none)

    pub touch_away : (frames : ℕ) (at : Spot ℕ) (kind : Kind) (owner : Tty) (home : ℕ) → maps_away p (scene_over b places frames) at ≡ Some home → touch_of p (scene_over b places frames) at kind owner ≡ Touch.Absent (record { 0 = home })
    unfolding touch_of
    touch_away frames at kind owner home away = ap (λ o. absent_or o (touched_by p (scene_over b places frames) at kind (reference p at kind owner))) away

    -- the maps on the way to a slot
    pub on_way : (frames : ℕ) (s : Slot) → maps_away p (scene_over b places frames) (in_map s) ≡ first_absent (map_away b.tables places) (maps_on_way (entry_at (maps_over b.tables places d)) s)
    on_way frames s = ap (λ m. first_away (scene_over b places frames) (maps_on_way (entry_at m) s)) (maps_told b.tables places d) ∙ first_same (scene_over b places frames) (maps_on_way (entry_at (maps_over b.tables places d)) s)

    flat_way : (frames : ℕ) (s : Slot) → maps_away p (scene_of u frames) (in_map s) ≡ None
    flat_way frames s = none_away (scene_of u frames) (maps_on_way (entry_at p.maps) s) (λ f. refl)

    -- so many pages of files name each page as are counted
    module _ (counted : (h : ℕ) → share_of b.filed h ≡ filed_total h b.files) where
      -- whether an entry is the only name of its page
      pub alone_told : (at : EntryAt) (s : Slot) → slot_of (maps b.tables places d) at ≡ Some s → IsNearSlot b.tables places s → is_alone u.shares (flat.held_entry u.maps at) ≡ alone_at b places s
      alone_told at s is near = by (look_at b.tables places s) refl (look_told b.tables places d rooted pages fits.maps s at.map index near.page)
        where
          x : StandsIn (maps b.tables places d) at s
          x = stands_in (maps b.tables places d) at s is

          index : index_of b.tables.maps s.fork ≡ Some at.map
          index = index_is b.tables.maps rooted.numbered.once s.fork at.map (sym (fork_same b.tables places d at.map) ∙ x.fork)

          here : ◌≡◌ {A = EntryAt} (record { map = at.map; page = s.page }) at
          here = λ i. record { map = at.map; page = sym x.page i }

          -- no file names a page that an entry alone names
          one_entry : (home : Home) (a : _) → flat.held_entry u.maps (record { map = at.map; page = s.page }) ≡ Some (flat_entry.Page home a) → (names_at b home.0 == 1) ≡ has_one_name b home.0
          one_entry home a held = elim (eqb_tells (names_at b home.0) 1) [
            | inl one ↦
                let some = total_le (points_at home.0) u.maps (record { map = at.map; page = s.page }) (flat_entry.Page home a) refl held in
                let all = fits.agree.shares home.0 in
                let same = counts_at b.tables.shares b.tables.names b.shared home.0 in
                let none : share_of b.filed home.0 ≡ 0 = omega (arith, counted home.0, some, points_self home a, all, same, one.1) in
                sym (ap (λ n. (names_at b home.0 == 1) && (n == 0)) none ∙ and_true (names_at b home.0 == 1))
            | inr ne ↦ ne.0 ∙ sym (ap (λ c. c && (share_of b.filed home.0 == 0)) ne.0)
          ]
            where
              and_true : (c : Bool) → (c && true) ≡ c
              and_true true = refl
              and_true false = refl

          by : (l : Looked) → look_at b.tables places s ≡ l → LookIs l (flat.held_entry u.maps (record { map = at.map; page = s.page })) → is_alone u.shares (flat.held_entry u.maps at) ≡ alone_in b l
          by (Is Empty) e held = ap (λ (a : EntryAt). is_alone u.shares (flat.held_entry u.maps a)) (sym here) ∙ ap (is_alone u.shares) held
          by (Is (Page home a)) e held = ap (λ (a : EntryAt). is_alone u.shares (flat.held_entry u.maps a)) (sym here) ∙ ap (is_alone u.shares) held
              ∙ ap (λ n. n == 1) (counts_at b.tables.shares b.tables.names b.shared home.0) ∙ one_entry home a held
          by (Is (Follows serial page a)) e held = ap (λ (a : EntryAt). is_alone u.shares (flat.held_entry u.maps a)) (sym here) ∙ ap (is_alone u.shares) held
          by (MapAbsent home) e held = absurd (let z : false ≡ true = sym (ap is_near e) ∙ near.near in cc z)
          by Missing e held = absurd held
          by Refused e held = absurd held

      copy_same : (scene : Scene) (o : Option ℕ) (alone : Bool) → touch_copy u scene o alone ≡ copy_touched b scene o alone
      copy_same scene o true = refl
      copy_same scene o false = refl

      -- what is made is free of where maps are
      made_scene : (absent : ℕ → Option ℕ) (frames : ℕ) (home : Option Home) (alone : Option Bool) → made_touched absent b (scene_of u frames) home alone ≡ made_touched absent b (scene_over b places frames) home alone
      made_scene absent frames None None = refl
      made_scene absent frames None (Some alone) = refl
      made_scene absent frames (Some h) None = refl
      made_scene absent frames (Some h) (Some true) = refl
      made_scene absent frames (Some h) (Some false) = refl

      module _ (frames : ℕ) (w : Way) (v : Walk) (stands : WayStands b.tables places w) (same : IsSameWay (maps b.tables places d) w v) where
        allow_same : (kind : Kind) → allows_along kind v ≡ allows_along kind w
        allow_same Read = same.reads
        allow_same Write = same.writes
        allow_same Execute = same.executes

        home_away : (h : Home) → w.home ≡ Some h → away_at u.places h.0 ≡ away_at places h.0
        home_away h is = away_same h.0 (stands.named h is)

        made_same : (home : Option Home) → w.home ≡ home → (o : Option Slot) (x : Option EntryAt) → IsSameCopy (maps b.tables places d) o x → ((s : Slot) → o ≡ Some s → IsNearSlot b.tables places s)
            → touch_made (away_at u.places) u (scene_of u frames) home x ≡ made_touched (away_at places) b (scene_of u frames) home (option_map (alone_at b places) o)
        made_same None is None None c near = refl
        made_same None is (Some s) (Some x) c near = refl
        made_same (Some h) is None None c near = ap (λ o. absent_or o Ready) (home_away h is)
        made_same (Some h) is (Some s) (Some x) c near =
            (λ i. touch_copy u (scene_of u frames) (home_away h is i) (alone_told x s c (near s refl) i)) ∙ copy_same (scene_of u frames) (away_at places h.0) (alone_at b places s)
        made_same home is None (Some x) c near = absurd c
        made_same home is (Some s) None c near = absurd c

        none_copied : (s : Slot) → ◌≡◌ {A = Option Slot} None (Some s) → IsNearSlot b.tables places s
        none_copied s e = absurd (cc e)

        copied : (kind : Kind) → touch_made (away_at u.places) u (scene_of u frames) w.home (copy_for kind v) ≡ made_touched (away_at places) b (scene_of u frames) w.home (option_map (alone_at b places) (copy_for kind w))
        copied Read = made_same w.home refl None None tt none_copied
        copied Write = made_same w.home refl w.copy v.copy same.copy stands.copy
        copied Execute = made_same w.home refl None None tt none_copied

        pub along_same : (kind : Kind) → touch_walked (away_at u.places) u (scene_of u frames) kind (Some v) ≡ walk_touched b places frames kind (Along w)
        along_same kind =
            (λ i. cond (allow_same kind i) (touch_made (away_at u.places) u (scene_of u frames) (same.home i) (copy_for kind v)) (Denied kind))
            ∙ ap (λ x. cond (allows_along kind w) x (Denied kind)) (copied kind ∙ made_scene (away_at places) frames w.home (option_map (alone_at b places) (copy_for kind w)))

      -- a touch of a page of a living fork's space answers as told
      pub slot_touched : (frames : ℕ) (s : Slot) (kind : Kind) (owner : Tty) → IsOwner owner → is_some (index_of b.tables.maps s.fork) ≡ true → s.page < SPACE_PAGES
          → WalkStands b.tables places (walk_at b.tables places s) → TellsWalk b.tables places d s (walk_at b.tables places s)
          → touch_of p (scene_over b places frames) (in_map s) kind owner ≡ walk_touched b places frames kind (walk_at b.tables places s)
      slot_touched frames s kind owner own lives below = numbered (index_of b.tables.maps s.fork) refl lives
        where
          near : maps_away p (scene_over b places frames) (in_map s) ≡ None → (k : ℕ) → index_of b.tables.maps s.fork ≡ Some k
              → touch_of p (scene_over b places frames) (in_map s) kind owner ≡ touch_walked (away_at u.places) u (scene_of u frames) kind (walk (maps b.tables places d) (record { map = k; page = s.page }))
          near passes k is =
              touch_near frames (in_map s) kind owner passes (flat_way frames s)
              ∙ place_told u fits.agree frames d (sized_of u.places d (fits_places b.tables.maps places d fits.maps.drum) (λ h words e. pages h words (sym (place_same b.tables.maps places h (place_here b.tables.maps places h words e)) ∙ e))) owner own s kind
              (ap is_some (index_same b.tables places d s.fork) ∙ lives)
              ∙ ap (λ o. touch_walked (away_at u.places) u (scene_of u frames) kind (option_and_then (λ j. walk (maps b.tables places d) (record { map = j; page = s.page })) o)) (index_same b.tables places d s.fork ∙ is)

          by : (w : Walked) (k : ℕ) → index_of b.tables.maps s.fork ≡ Some k → (o : Option Walk) → walk (maps b.tables places d) (record { map = k; page = s.page }) ≡ o → IsSameWalk (maps b.tables places d) w o
              → WalkStands b.tables places w → TellsWalk b.tables places d s w → touch_of p (scene_over b places frames) (in_map s) kind owner ≡ walk_touched b places frames kind w
          by (Along w) k is None e same stands tells = absurd same
          by (Along w) k is (Some v) e same stands tells = near (on_way frames s ∙ tells.0) k is ∙ ap (touch_walked (away_at u.places) u (scene_of u frames) kind) e ∙ along_same frames w v stands same kind
          by (Absent home) k is o e same stands tells = touch_away frames (in_map s) kind owner home.0 (on_way frames s ∙ tells)
          by NoChain k is None e same stands tells = near (on_way frames s ∙ tells.0) k is ∙ ap (touch_walked (away_at u.places) u (scene_of u frames) kind) e
          by NoChain k is (Some v) e same stands tells = absurd same

          numbered : (o : Option ℕ) → index_of b.tables.maps s.fork ≡ o → is_some o ≡ true → WalkStands b.tables places (walk_at b.tables places s) → TellsWalk b.tables places d s (walk_at b.tables places s)
              → touch_of p (scene_over b places frames) (in_map s) kind owner ≡ walk_touched b places frames kind (walk_at b.tables places s)
          numbered None is l stands tells = absurd (cc l)
          numbered (Some k) is l stands tells = by (walk_at b.tables places s) k is (walk (maps b.tables places d) (record { map = k; page = s.page })) refl (walk_told b.tables places d rooted pages fits.maps s k is below) stands tells

    -- and one of a page of a file
    pub file_touch_told : (frames : ℕ) (f : FilePage ℕ) (kind : Kind) (owner : Tty) → IsOwner owner → ((h : Home) → fin.get b.files f ≡ Some h → is_some (name_at b.tables.names h.0) ≡ true)
        → touch_of p (scene_over b places frames) (in_file f) kind owner ≡ file_touched (away_at places) b (scene_over b places frames) kind (fin.get b.files f)
    file_touch_told frames f kind owner own named =
        touch_near frames (in_file f) kind owner refl refl
        ∙ file_told u fits.agree frames d (sized_of u.places d (fits_places b.tables.maps places d fits.maps.drum) (λ h words e. pages h words (sym (place_same b.tables.maps places h (place_here b.tables.maps places h words e)) ∙ e))) owner own f kind
        ∙ by (fin.get b.files f) kind named
      where
        by : (o : Option Home) (k : Kind) → ((h : Home) → o ≡ Some h → is_some (name_at b.tables.names h.0) ≡ true)
            → touch_filed (away_at u.places) u (scene_of u frames) k o ≡ file_touched (away_at places) b (scene_over b places frames) k o
        by (Some h) Read named = ap (λ o. absent_or o Ready) (away_same h.0 (named h refl))
        by (Some h) Write named = ap (λ o. absent_or o Ready) (away_same h.0 (named h refl))
        by (Some h) Execute named = ap (λ o. absent_or o Ready) (away_same h.0 (named h refl))
        by None Read named = refl
        by None Write named = refl
        by None Execute named = refl
