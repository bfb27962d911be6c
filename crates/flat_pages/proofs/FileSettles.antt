-- A page of a file that is settled: what its touch answered, and what it answers then.
use Rattle.std.proofs.Common.{◌≡◌, ◌≢◌, ◌⊎◌, inl, inr, ℕ, List, ◌+◌, ◌<◌, ◌≤◌, [], Bool, true, false, cond, Option, None, Some, length, refl, sym, ◌∙◌, ap, subst, arith, is_some}
use Rattle.std.specs.Prelude.{nat_lt}
use Rattle.std.specs.Option.{option_map, unwrap_or}
use Rattle.std.specs.Cmp.{nat_cmp_total}
use Rattle.std.specs.FinMap as fin
use Rattle.std.proofs.lemmas.Bool.Decides.{nat_tests}
use Rattle.std.proofs.lemmas.List.{get_or-set_same, get_or-set_other}
use Rattle.machine_names.specs.declared.names.FileNo.{FileNo}
use Rattle.machine_names.specs.declared.names.ForkName.{ForkName}
use Rattle.machine_names.specs.declared.names.PageName.{PageName}
use Rattle.machine_names.specs.declared.names.Place.{Place}
use Rattle.machine_names.specs.declared.names.Place.TheVariants.{File}
use Rattle.machine_names.specs.declared.names.Kind.{Kind}
use Rattle.machine_names.specs.declared.names.Kind.TheVariants.{Read, Write, Execute}
use Rattle.machine_names.specs.declared.names.Tty.{Tty}
use Rattle.machine_names.specs.Bounds.{IsFilePage, IsOwner}
use Rattle.machine_names.specs.Orders.{FilePage, file_page}
use Rattle.machine_names.specs.PageWords.{zero_words}
use Rattle.page_homes.specs.declared.homes.Home.{Home}
use Rattle.page_contracts.specs.declared.answers.Touch.{Touch}
use Rattle.page_contracts.specs.declared.answers.Touch.TheVariants.{Ready, Zero, Copy, Absent, NeedFrame, Denied, Full}
use Rattle.page_contracts.specs.DrumWords.{DrumWords}
use Rattle.page_contracts.specs.Changes.{PageSettled}
use Rattle.page_contracts.specs.Pages.{FilesMade, PagesMeaning, SettlesTo, TakesFrames, map_set, IsPlace, absent_or, framed, can_settle, frames_taken}
use Rattle.page_contracts.specs.Stores.{StoreMeaning, HomePlace, IsSound, IsUsed, Loses, RenewsOne, FitsHomes, free, here, place, is_here, away_at, away_home, traffic}
use Rattle.page_contracts.proofs.Losing.{loses_made, loses_used, made_one, used_one}
use Rattle.plain_pages.specs.PlainPages.{NumberedPages}
use Rattle.plain_pages.specs.References.{in_file, blank, make, next_making, next_page, settled, Making}
use Rattle.plain_pages.proofs.Made.{is_filed}
use Rattle.plain_pages.proofs.ReferencesMade.{settled_makes, settled_stays}
use Rattle.flat_tables.specs.declared.map_tables.MapTables.{MapTables}
use Rattle.flat_tables.specs.HeldMaps.{index_of, living_of, name_at, name_of, nobody, maps_held}
use Rattle.flat_tables.specs.Serials.{serial_of, with_next}
use Rattle.flat_tables.specs.SlotTables.{Tables, plain_of, files_held, share_of, AreTables, AreSized}
use Rattle.flat_tables.specs.SlotTouches.{scene_of, has_room, touch_filed, touch_of_place}
use Rattle.flat_pages.specs.SlotMeaning.{filed_in, slots_meaning}
use Rattle.flat_tables.specs.TableSteps.{tables_of, next_name, home_filed}
use Rattle.flat_pages.specs.FileSteps.{FilesHome, SettlesFiled, UsesFiled}
use Rattle.flat_pages.proofs.Agreement.{filed_named, tables_whole}
use Rattle.flat_tables.proofs.FiledHomes.{files_still, get_filed, held_insert, with_here, with_elsewhere}
use Rattle.flat_pages.proofs.FileSetting.{maps_alike}
use Rattle.flat_pages.proofs.FileTouches.{makes_in}
use Rattle.flat_pages.proofs.HandedOn.{used_within}
use Rattle.flat_pages.proofs.MapHomes.{settles_home}
use Rattle.flat_tables.proofs.HeldEntries.{total_le}
use Rattle.flat_pages.proofs.Settled.{ArePages, takes_frames, unused}
use Rattle.flat_pages.proofs.Settling.{content_other, content_set, fits_set, sized_of, terminals_next, console_next}
use Rattle.flat_pages.proofs.Told.{entry_still, told_made}
use Rattle.flat_tables.proofs.NextSerials.{next_own, next_other}
use Rattle.flat_pages.proofs.Rooming.{here_when}
use Rattle.flat_pages.proofs.Using.{home_filed_at, made_here, no_map_home, stands_filed, used_here}

-- what is told of the tables once a page of a file is settled
pub record SettlesInFile (t u : Tables) (frames frames' : ℕ) (file : FileNo) (page : ℕ) (kind : Kind) (owner : Tty) : Type 0 where
  pub told : (d : DrumWords) → FitsHomes t.places d → FitsHomes u.places d × (plain_of u d ≡ settled (plain_of t d) (in_file (file_page file.0 page)) kind owner)
  pub settles : SettlesTo (touch_of_place t frames (File file page) kind) (touch_of_place u frames' (File file page) kind)
  pub scene : TakesFrames (scene_of t frames) (scene_of u frames') (frames_taken (touch_of_place t frames (File file page) kind))
  pub count : u.taken + u.living ≡ t.taken + t.living + frames_taken (touch_of_place t frames (File file page) kind)

module _ (t : Tables) (a : AreTables t) (pages : ArePages t) (frames : ℕ) (file : FileNo) (page : ℕ) (kind : Kind) (ready : can_settle (touch_of_place t frames (File file page) kind) ≡ true) where
  abbrev f : FilePage ℕ
  f = file_page file.0 page

  abbrev touch : Touch
  touch = touch_of_place t frames (File file page) kind

  by_home : (o : Option Home) → fin.get t.files f ≡ o → touch ≡ touch_filed (away_at t.places) t (scene_of t frames) kind o
  by_home o is = ap (touch_filed (away_at t.places) t (scene_of t frames) kind) is

  -- the page is there, in a frame
  module _ (h : Home) (there : fin.get t.files f ≡ Some h) where
    pub near : away_at t.places h.0 ≡ None
    near = by (away_at t.places h.0) (sym (ap can_settle (by_home (Some h) there)) ∙ ready)
      where
        by : (o : Option ℕ) → can_settle (absent_or o Ready) ≡ true → o ≡ None
        by None k = refl
        by (Some x) k = absurd (cc k)

    pub is_ready : touch ≡ Ready
    is_ready = by_home (Some h) there ∙ ap (λ o. absent_or o Ready) near

    makes_none : (d : DrumWords) (sized : AreSized t.places d) (owner : Tty) (own : IsOwner owner) → plain_of t d ≡ settled (plain_of t d) (in_file f) kind owner
    makes_none d sized owner own =
        sym (settled_stays (plain_of t d) owner (in_file f) kind (makes_in t a frames d sized owner own f kind (Some (name_of t.names h)) (get_filed t.names t.files f ∙ ap (option_map (name_of t.names)) there)))

    pub used_settles : (frames' : ℕ) → frames' ≡ frames → (owner : Tty) → IsOwner owner → SettlesInFile t t frames frames' file page kind owner
    used_settles frames' same owner own = subst (λ n. SettlesInFile t t frames n file page kind owner) (sym same) (record {
      told = λ d fits. (fits, makes_none d (sized_of t.places d fits pages) owner own);
      settles = subst (λ (x : Touch). SettlesTo x touch) (sym is_ready) is_ready;
      scene = subst (λ (x : Touch). TakesFrames (scene_of t frames) (scene_of t frames) (frames_taken x)) (sym is_ready) (record { maps = refl; pages = refl; frames = omega arith });
      count = subst (λ (x : Touch). t.taken + t.living ≡ t.taken + t.living + frames_taken x) (sym is_ready) (omega arith);
    })

  -- it has to be made
  module _ (none : fin.get t.files f ≡ None) where
    writes : kind ≡ Write
    writes = by kind (sym (ap can_settle (by_home None none)) ∙ ready)
      where
        by : (k : Kind) → can_settle (touch_filed (away_at t.places) t (scene_of t frames) k None) ≡ true → k ≡ Write
        by Write e = refl
        by Read e = absurd (cc e)
        by Execute e = absurd (cc e)

    zero_made : touch ≡ cond (has_room t 1) (framed (scene_of t frames) Zero) Full
    zero_made = by_home None none ∙ ap (λ k. touch_filed (away_at t.places) t (scene_of t frames) k None) writes

    pub is_zero : touch ≡ Zero
    is_zero = zero_made ∙ by (has_room t 1) (nat_lt 0 frames) (sym (ap can_settle zero_made) ∙ ready)
      where
        by : (room some : Bool) → can_settle (cond room (cond some Zero NeedFrame) Full) ≡ true → cond room (cond some Zero NeedFrame) Full ≡ Zero
        by true true k = refl
        by true false k = absurd (cc k)
        by false some k = absurd (cc k)

    both : (room some : Bool) → can_settle (cond room (cond some Zero NeedFrame) Full) ≡ true → (room ≡ true) × (some ≡ true)
    both true true k = (refl, refl)
    both true false k = absurd (cc k)
    both false some k = absurd (cc k)

    -- for which there is room, and a frame
    pub zero_room : has_room t 1 ≡ true
    zero_room = (both (has_room t 1) (nat_lt 0 frames) (sym (ap can_settle zero_made) ∙ ready)).0

    pub zero_frame : 0 < frames
    zero_frame = let some = (both (has_room t 1) (nat_lt 0 frames) (sym (ap can_settle zero_made) ∙ ready)).1 in grind (arith, nat_tests, some)

    module _ (h : Home) (below : h.0 < t.limit) (was_free : place t.places h.0 ≡ free) (owner : Tty) (own : IsOwner owner) (frames' : ℕ) (taken : frames' + 1 ≡ frames) where
      abbrev u : Tables
      u = home_filed t f h (here zero_words) owner

      within_places : h.0 < length t.places
      within_places = omega (arith, below, a.homes)

      name_here : name_at u.names h.0 ≡ Some (next_name t.serials owner)
      name_here = get_or-set_same t.names h.0 (Some (next_name t.serials owner)) None (omega (arith, below, a.named))

      name_other : (k : ℕ) → k ≢ h.0 → name_at u.names k ≡ name_at t.names k
      name_other k ne = get_or-set_other t.names h.0 k (Some (next_name t.serials owner)) None ne

      no_name : share_of t.shares h.0 ≡ 0
      no_name = unused t a h.0 was_free

      is_next : name_of u.names h ≡ next_name t.serials owner
      is_next = ap (λ (o : Option PageName). unwrap_or o nobody) name_here

      files_are : files_held u.names u.files ≡ fin.insert (files_held t.names t.files) f (next_name t.serials owner)
      files_are = held_insert u.names t.files f h ∙ (λ i. fin.insert (files_still t.names u.names t.files h.0 (omega (arith, no_name, a.shares h.0)) name_other i) f (is_next i))

      maps_are : maps_held u.names t.maps ≡ maps_held t.names t.maps
      maps_are = maps_alike t.names u.names t.maps (λ b x held. entry_still t.names u.names h.0 x name_other (omega (arith, no_name, a.shares h.0, total_le (Rattle.flat_tables.specs.HeldMaps.points_at h.0) t.maps b x refl held)))

      near_now : away_at u.places h.0 ≡ None
      near_now = ap (λ p. away_home p h.0) (get_or-set_same t.places h.0 (here zero_words) free within_places)

      made_maps : (d : DrumWords) → (make (plain_of t d) owner (blank (in_file f))).maps ≡ maps_held t.names t.maps
      unfolding make
      made_maps d = refl

      made_files : (d : DrumWords) → (make (plain_of t d) owner (blank (in_file f))).files ≡ fin.insert (files_held t.names t.files) f (next_page (plain_of t d) owner)
      unfolding make
      made_files d = refl

      made_terminals : (d : DrumWords) → (with_next t.serials owner).terminals ≡ (make (plain_of t d) owner (blank (in_file f))).page_serials
      unfolding make
      made_terminals d = terminals_next t.serials owner

      made_console : (d : DrumWords) → (with_next t.serials owner).console ≡ (make (plain_of t d) owner (blank (in_file f))).console_serial
      unfolding make
      made_console d = console_next t.serials owner

      told_zero : AreTables u → ArePages u → (d : DrumWords) → FitsHomes t.places d → plain_of u d ≡ settled (plain_of t d) (in_file f) kind owner
      told_zero a' pages' d fits =
          let sized = sized_of t.places d fits pages in
          let sized' = sized_of u.places d (fits_set t.places d h.0 (here zero_words) fits) pages' in
          let p : NumberedPages = plain_of t d in
          let no_page : fin.get p.files f ≡ None = get_filed t.names t.files f ∙ ap (option_map (name_of t.names)) none in
          let m : Making ℕ = blank (in_file f) in
          told_made t u a a' d sized sized' owner h.0 (make p owner m) zero_words (is_filed nat_cmp_total p (tables_whole t a d sized) owner own f no_page)
          (maps_are ∙ sym (made_maps d)) (files_are ∙ sym (made_files d)) (made_terminals d) (made_console d) refl name_here name_other
          (content_set t.places d h.0 zero_words within_places) (λ k ne. content_other t.places d h.0 k (here zero_words) ne)
          ∙ sym (settled_makes p owner (in_file f) kind m [] (ap (λ k. Rattle.plain_pages.specs.References.makings p (in_file f) k) writes ∙ makes_in t a frames d sized owner own f Write None no_page))

      now_ready : touch_of_place u frames' (File file page) kind ≡ Ready
      now_ready = ap (touch_filed (away_at u.places) u (scene_of u frames') kind) (with_here t.files f (Some h)) ∙ ap (λ o. absent_or o Ready) near_now

      pub zero_settles : AreTables u → ArePages u → SettlesInFile t u frames frames' file page kind owner
      zero_settles a' pages' = record {
        told = λ d fits. (fits_set t.places d h.0 (here zero_words) fits, told_zero a' pages' d fits);
        settles = subst (λ (x : Touch). SettlesTo x (touch_of_place u frames' (File file page) kind)) (sym is_zero) (inl now_ready);
        scene = subst (λ (x : Touch). TakesFrames (scene_of t frames) (scene_of u frames') (frames_taken x)) (sym is_zero)
            (takes_frames t u a a' h.0 name_other (λ k ne. get_or-set_other t.places h.0 k (here zero_words) free ne) (ap (λ p. away_home p h.0) was_free) near_now frames frames' 1 taken);
        count = subst (λ (x : Touch). u.taken + u.living ≡ t.taken + t.living + frames_taken x) (sym is_zero) (omega arith);
      }

      pub zero_filed : (is_some (filed_in u f) ≡ true) × ((g : FilePage ℕ) → g ≢ f → filed_in u g ≡ filed_in t g)
      zero_filed = (
        ap is_some (get_filed u.names u.files f ∙ ap (option_map (name_of u.names)) (with_here t.files f (Some h))),
        λ g ne. get_filed u.names u.files g ∙ ap (option_map (name_of u.names)) (with_elsewhere t.files f g (Some h) ne) ∙ sym (get_filed u.names t.files g) ∙ ap (λ m. fin.get m g) names_still,
      )
        where
          names_still : files_held u.names t.files ≡ files_held t.names t.files
          names_still = files_still t.names u.names t.files h.0 (omega (arith, no_name, a.shares h.0)) name_other

-- what a file's page names once it is settled
abbrev FiledThen : Tables → Tables → FilePage ℕ → Touch → Type 0
FiledThen t u f Zero = (is_some (filed_in u f) ≡ true) × ((g : FilePage ℕ) → g ≢ f → filed_in u g ≡ filed_in t g)
FiledThen t u f touch = filed_in u ≡ filed_in t

-- over a store
pub record FileSettled {S : Type 0} (store : StoreMeaning S) (old new : S) (tables tables' : MapTables) (file : FileNo) (page : ℕ) (kind : Kind) (owner : Tty) : Type 0 where
  pub settles : SettlesInFile (tables_of (store.homes old) tables) (tables_of (store.homes new) tables') (store.spare old) (store.spare new) file page kind owner
  pub loses : Loses (traffic store old) (traffic store new)
  pub home : Home
  pub named : fin.get tables'.files (file_page file.0 page) ≡ Some home
  pub here : is_here (place (store.homes new) home.0) ≡ true
  pub renews : RenewsOne home.0 (traffic store old) (traffic store new)
  pub own_place : (place (store.homes old) home.0 ≡ free) ⊎ (place (store.homes new) home.0 ≡ place (store.homes old) home.0)
  pub places : (k : ℕ) → k ≢ home.0 → place (store.homes new) k ≡ place (store.homes old) k
  pub names : (k : ℕ) → k ≢ home.0 → name_at tables'.names.items k ≡ name_at tables.names.items k
  pub filed : FiledThen (tables_of (store.homes old) tables) (tables_of (store.homes new) tables') (file_page file.0 page) (touch_of_place (tables_of (store.homes old) tables) (store.spare old) (File file page) kind)
  pub used : touch_of_place (tables_of (store.homes old) tables) (store.spare old) (File file page) kind ≡ Ready → IsUsed store home.0 old new × (fin.get tables.files (file_page file.0 page) ≡ Some home)
  pub maps : tables'.maps.held.items ≡ tables.maps.held.items
  pub limit : tables'.limit ≡ tables.limit
  pub own : serial_of tables'.serials owner ≤ serial_of tables.serials owner + 1
  pub serials : (t : Tty) → t ≢ owner → serial_of tables'.serials t ≡ serial_of tables.serials t

module _ {S : Type 0} (store : StoreMeaning S) (old new : S) (sound : IsSound store old) (sound' : IsSound store new) (tables tables' : MapTables) (a : AreTables (tables_of (store.homes old) tables)) (a' : AreTables (tables_of (store.homes new) tables'))
    (file : FileNo) (page : ℕ) (kind : Kind) (owner : Tty) (own : IsOwner owner) (ready : can_settle (touch_of_place (tables_of (store.homes old) tables) (store.spare old) (File file page) kind) ≡ true) where
  abbrev v : Tables
  v = tables_of (store.homes old) tables

  abbrev v' : Tables
  v' = tables_of (store.homes new) tables'

  by_use : (h : Home) → fin.get tables.files (file_page file.0 page) ≡ Some h → UsesFiled store old new tables tables' h → FileSettled store old new tables tables' file page kind owner
  by_use h there k =
      let same : v' ≡ v = λ i. tables_of (k.homes i) (k.same i) in
      let is = is_ready v a sound.pages (store.spare old) file page kind ready h there in record {
        settles = subst (λ (x : Tables). SettlesInFile v x (store.spare old) (store.spare new) file page kind owner) (sym same) (used_settles v a sound.pages (store.spare old) file page kind ready h there (store.spare new) k.used.framed.spare owner own);
        loses = loses_used store old new h.0 k.used;
        home = h;
        named = ap (λ (x : MapTables). fin.get x.files (file_page file.0 page)) k.same ∙ there;
        here = used_here store old new h.0 k.homes (here_when v.places h.0 (a.is_taken h.0 ∙ ap is_some (filed_named v a (file_page file.0 page) h there).1) (near v a sound.pages (store.spare old) file page kind ready h there));
        renews = used_one store old new h.0 k.used;
        own_place = inr (ap (λ (ps : List HomePlace). place ps h.0) k.homes);
        places = λ j ne. ap (λ (ps : List HomePlace). place ps j) k.homes;
        names = λ j ne. ap (λ (x : MapTables). name_at x.names.items j) k.same;
        filed = subst (FiledThen v v' (file_page file.0 page)) (sym is) (ap filed_in same);
        used = λ r. (k.used, there);
        maps = ap (λ (x : MapTables). x.maps.held.items) k.same;
        limit = ap (λ (x : MapTables). x.limit) k.same;
        own = omega (arith, ap (λ (x : MapTables). serial_of x.serials owner) k.same);
        serials = λ t ne. ap (λ (x : MapTables). serial_of x.serials t) k.same;
      }

  by_making : fin.get tables.files (file_page file.0 page) ≡ None → FilesHome store old new tables tables' (file_page file.0 page) owner → FileSettled store old new tables tables' file page kind owner
  by_making none k =
      let is = is_zero v a sound.pages (store.spare old) file page kind ready none in
      let below : k.home.0 < v.limit = omega (arith, k.made.below, a.homes) in record {
        settles = subst (λ (x : Tables). SettlesInFile v x (store.spare old) (store.spare new) file page kind owner) (sym k.taken)
            (zero_settles v a sound.pages (store.spare old) file page kind ready none k.home below k.made.was_free owner own (store.spare new) k.made.spare (subst AreTables k.taken a') (subst ArePages k.taken sound'.pages));
        loses = loses_made store old new k.home.0 (here zero_words) k.made;
        home = k.home;
        named = ap (λ (x : Tables). fin.get x.files (file_page file.0 page)) k.taken ∙ with_here tables.files (file_page file.0 page) (Some k.home);
        here = made_here store old new k.home.0 (here zero_words) k.made refl;
        renews = made_one store old new k.home.0 (here zero_words) k.made;
        own_place = inl k.made.was_free;
        places = λ j ne. ap (λ (ps : List HomePlace). place ps j) k.made.homes ∙ get_or-set_other (store.homes old) k.home.0 j (here zero_words) free ne;
        names = λ j ne. ap (λ (x : Tables). name_at x.names j) k.taken ∙ get_or-set_other tables.names.items k.home.0 j (Some (next_name tables.serials owner)) None ne;
        filed = subst (FiledThen v v' (file_page file.0 page)) (sym is) (subst (λ (x : Tables). FiledThen v x (file_page file.0 page) Zero) (sym k.taken)
            (zero_filed v a sound.pages (store.spare old) file page kind ready none k.home below k.made.was_free owner own (store.spare new) k.made.spare));
        used = λ r. absurd (let z : Zero ≡ Ready = sym is ∙ r in cc z);
        maps = ap (λ (x : Tables). x.maps) k.taken;
        limit = ap (λ (x : Tables). x.limit) k.taken;
        own = omega (arith, ap (λ (x : Tables). serial_of x.serials owner) k.taken, next_own tables.serials owner own a.owners);
        serials = λ t ne. ap (λ (x : Tables). serial_of x.serials t) k.taken ∙ next_other tables.serials owner t (λ e. ne (λ i. record { 0 = e i }));
      }

  pub file_settled : SettlesFiled store old new tables tables' (file_page file.0 page) owner (fin.get tables.files (file_page file.0 page)) → FileSettled store old new tables tables' file page kind owner
  file_settled = by (fin.get tables.files (file_page file.0 page)) refl
    where
      by : (o : Option Home) → fin.get tables.files (file_page file.0 page) ≡ o → SettlesFiled store old new tables tables' (file_page file.0 page) owner o → FileSettled store old new tables tables' file page kind owner
      by None is k = by_making is k
      by (Some h) is k = by_use h is k

-- what is told of pages then
module _ {P S : Type 0} (store : StoreMeaning S) (part : P → S) (mt : P → MapTables) (p q : P) (a : AreTables (tables_of (store.homes (part p)) (mt p))) (a' : AreTables (tables_of (store.homes (part q)) (mt q))) (file : FileNo) (page : ℕ) (kind : Kind) (owner : Tty) where
  abbrev tables : P → Tables
  tables x = tables_of (store.homes (part x)) (mt x)

  abbrev means : PagesMeaning P
  means = slots_meaning store part tables

  abbrev w : Tables
  w = tables p

  abbrev w' : Tables
  w' = tables q

  filed_made : (x : Touch) → FiledThen w w' (file_page file.0 page) x → FilesMade means (File file page) x p q
  filed_made Zero k = record { set = k.0; others = k.1 }
  filed_made Ready k = k
  filed_made (Copy sole) k = k
  filed_made (Absent home) k = k
  filed_made NeedFrame k = k
  filed_made (Denied other) k = k
  filed_made Full k = k

  place_settled : FileSettled store (part p) (part q) (mt p) (mt q) file page kind owner → PageSettled means (File file page) kind owner p q
  place_settled k = record {
    told = k.settles.told;
    settles = k.settles.settles;
    scene = k.settles.scene;
    count = k.settles.count;
    loses = k.loses;
    uses = record {
      home = k.home.0;
      stands = stands_filed store part tables q a' (file_page file.0 page) k.home k.named;
      here = k.here;
      map = None;
      of_fork = λ at none. absurd (cc none);
      set = λ d fits. no_map_home (map_set (next_making (means.plain p d) (in_file (file_page file.0 page)) kind));
      ages = k.renews;
    };
    homes = settles_home store part tables p q (record { tty = record { 0 = 0 }; serial = 0 }) a a' (File file page) k.home.0 refl refl k.places k.names (stands_filed store part tables q a' (file_page file.0 page) k.home k.named) k.here k.own_place;
    filed = filed_made (touch_of_place w (store.spare (part p)) (File file page) kind) k.filed;
    ready = λ home r stands. (let u = k.used r in used_within store part home p q (subst (λ (n : ℕ). IsUsed store n (part p) (part q)) (home_filed_at store part tables p a (file_page file.0 page) k.home u.1 home stands) u.0));
    lives = λ i f. is_some (index_of (k.maps i) f);
    forks = ap living_of k.maps;
    serial = k.own;
    serials = k.serials;
    most = k.limit;
  }

  pub settled_at : (at : Place) → at ≡ File file page → FileSettled store (part p) (part q) (mt p) (mt q) file page kind owner → PageSettled means at kind owner p q
  settled_at at is k = subst (λ (x : Place). PageSettled means x kind owner p q) (sym is) (place_settled k)

-- what is asked of a page of a file that is to be settled
pub ready_at : (t : Tables) (frames : ℕ) (at : Place) (file : FileNo) (page : ℕ) (kind : Kind) → at ≡ File file page → can_settle (touch_of_place t frames at kind) ≡ true → can_settle (touch_of_place t frames (File file page) kind) ≡ true
ready_at t frames at file page kind is ready = sym (ap (λ (x : Place). can_settle (touch_of_place t frames x kind)) is) ∙ ready

pub file_bounds : (lives : ForkName → Bool) (at : Place) (file : FileNo) (page : ℕ) → at ≡ File file page → IsPlace lives at → IsFilePage file page
file_bounds lives at file page is h = subst (IsPlace lives) is h
