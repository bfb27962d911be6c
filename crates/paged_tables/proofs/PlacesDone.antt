-- A page of a place that is settled: what is told, and what holds whatever the drum.
use Rattle.std.proofs.Common.{◌≡◌, inl, inr, ℕ, ◌+◌, ◌<◌, List, true, false, None, Some, is_some, refl, sym, ◌∙◌, ap, subst, arith}
use Rattle.std.specs.FinMap as fin
use Rattle.std.specs.Option.{option_and_then}
use Rattle.machine_names.specs.declared.names.FileNo.{FileNo}
use Rattle.machine_names.specs.declared.names.Kind.{Kind}
use Rattle.machine_names.specs.declared.names.Kind.TheVariants.{Write}
use Rattle.machine_names.specs.declared.names.Place.{Place}
use Rattle.machine_names.specs.declared.names.Place.TheVariants.{Fork, File}
use Rattle.machine_names.specs.declared.names.Slot.{Slot}
use Rattle.machine_names.specs.declared.names.Tty.{Tty}
use Rattle.machine_names.specs.declared.names.TheConstants.{SPACE_PAGES}
use Rattle.machine_names.specs.Bounds.{IsFilePage, IsOwner}
use Rattle.machine_names.specs.Orders.{file_page}
use Rattle.machine_names.specs.PageWords.{zero_words}
use Rattle.page_homes.specs.declared.homes.Home.{Home}
use Rattle.page_contracts.specs.declared.answers.Touch.{Touch}
use Rattle.page_contracts.specs.declared.answers.Touch.TheVariants.{Ready, Zero, Copy}
use Rattle.page_contracts.specs.DrumWords.{DrumWords}
use Rattle.page_contracts.specs.Pages.{SettlesTo, TakesFrames, absent_or, can_settle, frames_taken, map_set, spot_of}
use Rattle.page_contracts.specs.Stores.{HomePlace, IsUsed, StoreMeaning, away_at, here, is_here, is_taken, place}
use Rattle.page_contracts.proofs.Losing.{loses_used, used_one}
use Rattle.plain_pages.specs.Maps.{full_access}
use Rattle.plain_pages.specs.References.{in_map, next_making, settled}
use Rattle.share_table.specs.Shares.{Shares}
use Rattle.pager_walk.specs.declared.chain_walk.Walked.TheVariants.{Along}
use Rattle.pager_walk.specs.MapPages.{index_of}
use Rattle.pager_walk.specs.PagedMaps.{look_at, map_away}
use Rattle.fork_maps.specs.ChainWalks.{allows_along, copy_for}
use Rattle.pager_walk.specs.Walks.{Way, WayStands, walk_at}
use Rattle.pager_walk.proofs.Looking.{ArePages}
use Rattle.flat_tables.specs.SlotTouches.{home_named}
use Rattle.flat_pages.proofs.Settled.{stays_told}
use Rattle.flat_pages.proofs.Settling.{sized_of}
use Rattle.paged_tables.specs.declared.page_home.PageHome.TheVariants.{At}
use Rattle.paged_tables.specs.LeftShares.{left_of}
use Rattle.paged_tables.specs.MadePages.{FilesPage, MakesPage, RenamesPage}
use Rattle.paged_tables.specs.PageHomes.{homed, homed_along, homed_over}
use Rattle.paged_tables.specs.PagedTables.{Beside, AreKept, FitsPages, in_memory_over, plain_over}
use Rattle.paged_tables.specs.PagedTouches.{alone_at, file_touched, has_one_name, roomy, scene_over, touched_over, walk_touched}
use Rattle.paged_tables.specs.PlacesSettled.{FilesSettled, SettlesPlace}
use Rattle.paged_tables.proofs.AloneTold.{alone_settled_told}
use Rattle.paged_tables.proofs.CopiesTold.{copy_told}
use Rattle.paged_tables.proofs.FileTold.{filed_told}
use Rattle.paged_tables.proofs.FiledDone.{filed_ages, filed_at, filed_count, filed_forks, filed_here, filed_lives, filed_loses, filed_most, filed_fresh, filed_maps, filed_names, filed_near, filed_one, filed_pages, filed_scene, filed_serial, filed_serials, filed_taken}
use Rattle.paged_tables.proofs.Homed.{flat_pages}
use Rattle.paged_tables.proofs.MadeDone.{made_ages, made_count, made_files, made_forks, made_here, made_lives, made_loses, made_most, made_fresh, made_maps, made_names, made_near, made_pages, made_room, made_scene, made_serial, made_serials, made_sets, made_taken}
use Rattle.paged_tables.proofs.MapsSet.{copy_map, file_map, zero_map}
use Rattle.paged_tables.proofs.MemoryWays.{copy_none, memory_announced, memory_way}
use Rattle.paged_tables.proofs.Places.{fits_places}
use Rattle.paged_tables.proofs.RenamedDone.{renamed_ages, renamed_count, renamed_files, renamed_forks, renamed_here, renamed_lives, renamed_loses, renamed_most, renamed_fresh, renamed_maps, renamed_names, renamed_near, renamed_pages, renamed_scene, renamed_serial, renamed_serials, renamed_sets, renamed_taken}
use Rattle.paged_tables.proofs.SettledTouches.{IsCopy, IsZero, copied_ready, is_copy, is_zero, only_write, permitted, zero_then}
use Rattle.paged_tables.proofs.WalksSet.{Copied, marked, walk_copied, walk_filled}
use Rattle.paged_tables.proofs.ZeroPages.{zero_told}

-- along a chain
module _ {S : Type 0} (store : StoreMeaning S) (old new : S) (b b' : Beside) (kept : AreKept b (store.homes old)) (kept' : AreKept b' (store.homes new)) (pages : ArePages (store.homes old)) (pages' : ArePages (store.homes new)) (s : Slot) (kind : Kind) (owner : Tty) (own : IsOwner owner)
    (lives : is_some (index_of b.tables.maps s.fork) ≡ true) (within : s.page < SPACE_PAGES) (w : Way) (walks : Along w ≡ walk_at b.tables (store.homes old) s) (stands : WayStands b.tables (store.homes old) w)
    (ready : can_settle (walk_touched b (store.homes old) (store.spare old) kind (Along w)) ≡ true) where
  abbrev places : List HomePlace
  places = store.homes old

  abbrev frames : ℕ
  frames = store.spare old

  abbrev touch : Touch
  touch = touched_over b places frames (Fork s) kind

  touch_is : touch ≡ walk_touched b places frames kind (Along w)
  touch_is = ap (walk_touched b places frames kind) (sym walks)

  abbrev touch' : Touch
  touch' = touched_over b' (store.homes new) (store.spare new) (Fork s) kind

  -- a zero page was made
  pub zero_done : w.home ≡ None → MakesPage store old new b b' w.end (here zero_words) full_access (left_of b (look_at b.tables places w.end)) owner → SettlesPlace store old new b b' (Fork s) kind owner
  zero_done none made =
      let shares = left_of b (look_at b.tables places w.end) in
      let same : shares ≡ b.tables.shares = ap (left_of b) (stands.empty none) in
      let z : MakesPage store old new b b' w.end (here zero_words) full_access b.tables.shares owner = subst (λ (x : Shares). MakesPage store old new b b' w.end (here zero_words) full_access x owner) same made in
      let zero : IsZero b places frames kind w = is_zero b places frames kind w ready none in
      let is : touch ≡ Zero = touch_is ∙ zero.is in
      let sets = made_sets store old new b b' kept kept' pages owner own w.end stands.end zero_words full_access b.tables.shares z in
      let near = made_near store old new b b' kept kept' pages owner own w.end stands.end zero_words full_access b.tables.shares z in
      let filled : walk_at b'.tables (store.homes new) s ≡ Along (record w { home = Some z.home }) = walk_filled b.tables b'.tables places (store.homes new) w.end z.home full_access sets refl (stands.empty none) s w (sym walks) refl in
      record {
        told = λ d fits. zero_told store old new b b' kept pages pages' s kind owner own lives within w walks stands none zero.is zero.room z d fits;
        settles = subst (λ (x : Touch). SettlesTo x touch') (sym is)
            (zero_then b b' places (store.homes new) frames (store.spare new) kind w ready z.home near (made_room store old new b b' kept kept' pages owner own w.end stands.end zero_words full_access b.tables.shares z) zero (walk_at b'.tables (store.homes new) s) filled);
        scene = subst (λ (x : Touch). TakesFrames (scene_over b (store.homes old) (store.spare old)) (scene_over b' (store.homes new) (store.spare new)) (frames_taken x)) (sym is) (made_scene store old new b b' kept kept' pages owner own w.end stands.end zero_words full_access b.tables.shares z);
        count = subst (λ (x : Touch). b'.taken + b'.living ≡ b.taken + b.living + frames_taken x) (sym is) (made_count store old new b b' kept kept' pages owner own w.end stands.end zero_words full_access b.tables.shares z);
        loses = made_loses store old new b b' kept kept' pages owner own w.end stands.end zero_words full_access b.tables.shares z;
        uses = record {
          home = z.home;
          stands = ap homed_along filled;
          here = made_here store old new b b' kept kept' pages owner own w.end stands.end zero_words full_access b.tables.shares z;
          fork = Some w.end.fork;
          set = λ d fits. zero_map b places kept pages s kind owner own lives within w walks stands frames ready d fits none;
          ages = made_ages store old new b b' kept kept' pages owner own w.end stands.end zero_words full_access b.tables.shares z;
        };
        filed = made_files store old new b b' kept kept' pages owner own w.end stands.end zero_words full_access b.tables.shares z;
        ready = λ h r at. absurd (let no : Zero ≡ Ready = sym is ∙ r in cc no);
        still = λ r. absurd (let no : Zero ≡ Ready = sym is ∙ r in cc no);
        lives = made_lives store old new b b' kept kept' pages owner own w.end stands.end zero_words full_access b.tables.shares z;
        forks = made_forks store old new b b' kept kept' pages owner own w.end stands.end zero_words full_access b.tables.shares z;
        serial = made_serial store old new b b' kept kept' pages owner own w.end stands.end zero_words full_access b.tables.shares z;
        serials = made_serials store old new b b' kept kept' pages owner own w.end stands.end zero_words full_access b.tables.shares z;
        most = made_most store old new b b' kept kept' pages owner own w.end stands.end zero_words full_access b.tables.shares z;
        taken = made_taken store old new b b' kept kept' pages owner own w.end stands.end zero_words full_access b.tables.shares z;
        pages = inr (made_pages store old new b b' kept kept' pages owner own w.end stands.end zero_words full_access b.tables.shares z);
        names = λ f at k ne. (let own_home : z.home ≡ f = (let y : At z.home ≡ At f = sym (ap homed_along filled) ∙ at in cc y) in made_names store old new b b' kept kept' pages owner own w.end stands.end zero_words full_access b.tables.shares z k (λ same. ne (same ∙ ap (λ (x : Home). x.0) own_home)));
        fresh = λ f at k ne unused. (let own_home : z.home ≡ f = (let y : At z.home ≡ At f = sym (ap homed_along filled) ∙ at in cc y) in made_fresh store old new b b' kept kept' pages owner own w.end stands.end zero_words full_access b.tables.shares z k (λ same. ne (same ∙ ap (λ (x : Home). x.0) own_home)) unused);
        maps = made_maps store old new b b' kept kept' pages owner own w.end stands.end zero_words full_access b.tables.shares z;
      }

  -- the page is there, and stays
  pub ready_told : (h : Home) → w.home ≡ Some h → copy_for kind w ≡ None → (d : DrumWords) → FitsPages b places d → plain_over b places d ≡ settled (plain_over b places d) (in_map s) kind owner
  ready_told h home none d fits =
      let u = in_memory_over b places d in
      let m = memory_way b places kept pages d fits s lives within w walks in
      stays_told u fits.agree frames s kind m.way (memory_announced b places kept pages d fits s lives within w walks m stands frames kind ready) d (sized_of u.places d (fits_places b.tables.maps places d fits.maps.drum) (flat_pages b places kept pages d fits)) owner own h (m.same.home ∙ home)
      (copy_none b places d w m.way m.same kind none)

  -- a copy was made
  module _ (h : Home) (home : w.home ≡ Some h) (m : Slot) (some : copy_for kind w ≡ Some m) (words : List ℕ) (old_words : place places h.0 ≡ here words) where
    copy : IsCopy b places frames kind w h m
    copy = is_copy b places frames kind w ready h m home some

    writes : w.writes ≡ true
    writes = let k = only_write kind w m some in ap (λ (x : Kind). allows_along x w) (sym k.0) ∙ permitted b places frames kind w ready

    -- in a home of its own
    pub copy_done : alone_at b places m ≡ false → MakesPage store old new b b' m (here words) (record full_access { x = w.executes }) (left_of b (look_at b.tables places m)) owner → SettlesPlace store old new b b' (Fork s) kind owner
    copy_done shared z =
        let k = only_write kind w m some in
        let access = record full_access { x = w.executes } in
        let shares = left_of b (look_at b.tables places m) in
        let near_slot = stands.copy m k.1 in
        let is : touch ≡ Copy false = touch_is ∙ copy.is ∙ ap Copy shared in
        let sets = made_sets store old new b b' kept kept' pages owner own m near_slot words access shares z in
        let c : Copied (walk_at b'.tables (store.homes new) s) z.home = walk_copied b.tables b'.tables places (store.homes new) m z.home access sets refl refl (marked b.tables places s w m (sym walks) k.1) s w (sym walks) k.1 writes in
        record {
          told = λ d fits. copy_told store old new b b' kept pages pages' s kind owner own lives within w walks stands h home m some shared words old_words ready (copy.room shared) near_slot z d fits;
          settles = subst (λ (x : Touch). SettlesTo x touch') (sym is) (ap (λ (x : Kind). touched_over b' (store.homes new) (store.spare new) (Fork s) x) k.0
              ∙ copied_ready b' (store.homes new) (store.spare new) (walk_at b'.tables (store.homes new) s) z.home c (made_near store old new b b' kept kept' pages owner own m near_slot words access shares z));
          scene = subst (λ (x : Touch). TakesFrames (scene_over b (store.homes old) (store.spare old)) (scene_over b' (store.homes new) (store.spare new)) (frames_taken x)) (sym is) (made_scene store old new b b' kept kept' pages owner own m near_slot words access shares z);
          count = subst (λ (x : Touch). b'.taken + b'.living ≡ b.taken + b.living + frames_taken x) (sym is) (made_count store old new b b' kept kept' pages owner own m near_slot words access shares z);
          loses = made_loses store old new b b' kept kept' pages owner own m near_slot words access shares z;
          uses = record {
            home = z.home;
            stands = ap homed_along c.is ∙ ap homed c.home;
            here = made_here store old new b b' kept kept' pages owner own m near_slot words access shares z;
            fork = Some m.fork;
            set = λ d fits. copy_map b places kept pages s kind owner own lives within w walks stands frames ready d fits h m home some;
            ages = made_ages store old new b b' kept kept' pages owner own m near_slot words access shares z;
          };
          filed = made_files store old new b b' kept kept' pages owner own m near_slot words access shares z;
          ready = λ g r at. absurd (let no : Copy false ≡ Ready = sym is ∙ r in cc no);
          still = λ r. absurd (let no : Copy false ≡ Ready = sym is ∙ r in cc no);
          lives = made_lives store old new b b' kept kept' pages owner own m near_slot words access shares z;
          forks = made_forks store old new b b' kept kept' pages owner own m near_slot words access shares z;
          serial = made_serial store old new b b' kept kept' pages owner own m near_slot words access shares z;
          serials = made_serials store old new b b' kept kept' pages owner own m near_slot words access shares z;
          most = made_most store old new b b' kept kept' pages owner own m near_slot words access shares z;
          taken = made_taken store old new b b' kept kept' pages owner own m near_slot words access shares z;
          pages = inr (made_pages store old new b b' kept kept' pages owner own m near_slot words access shares z);
          names = λ f at k ne. (let own_home : z.home ≡ f = (let y : At z.home ≡ At f = sym (ap homed_along c.is ∙ ap homed c.home) ∙ at in cc y) in made_names store old new b b' kept kept' pages owner own m near_slot words access shares z k (λ same. ne (same ∙ ap (λ (x : Home). x.0) own_home)));
          fresh = λ f at k ne unused. (let own_home : z.home ≡ f = (let y : At z.home ≡ At f = sym (ap homed_along c.is ∙ ap homed c.home) ∙ at in cc y) in made_fresh store old new b b' kept kept' pages owner own m near_slot words access shares z k (λ same. ne (same ∙ ap (λ (x : Home). x.0) own_home)) unused);
          maps = made_maps store old new b b' kept kept' pages owner own m near_slot words access shares z;
        }

    -- in its place
    pub alone_done : alone_at b places m ≡ true → has_one_name b h.0 ≡ true → RenamesPage store old new b b' m h (record full_access { x = w.executes }) owner → SettlesPlace store old new b b' (Fork s) kind owner
    alone_done alone one z =
        let k = only_write kind w m some in
        let access = record full_access { x = w.executes } in
        let near_slot = stands.copy m k.1 in
        let is : touch ≡ Copy true = touch_is ∙ copy.is ∙ ap Copy alone in
        let sets = renamed_sets store old new b b' kept kept' pages owner own m near_slot h one words old_words access z in
        let c : Copied (walk_at b'.tables (store.homes new) s) h = walk_copied b.tables b'.tables places (store.homes new) m h access sets refl refl (marked b.tables places s w m (sym walks) k.1) s w (sym walks) k.1 writes in
        record {
          told = λ d fits. alone_settled_told store old new b b' kept pages s kind owner own lives within w walks stands h home m some alone words old_words ready near_slot z d fits;
          settles = subst (λ (x : Touch). SettlesTo x touch') (sym is) (ap (λ (x : Kind). touched_over b' (store.homes new) (store.spare new) (Fork s) x) k.0
              ∙ copied_ready b' (store.homes new) (store.spare new) (walk_at b'.tables (store.homes new) s) h c (renamed_near store old new b b' kept kept' pages owner own m near_slot h one words old_words access z));
          scene = subst (λ (x : Touch). TakesFrames (scene_over b (store.homes old) (store.spare old)) (scene_over b' (store.homes new) (store.spare new)) (frames_taken x)) (sym is) (renamed_scene store old new b b' kept kept' pages owner own m near_slot h one words old_words access z);
          count = subst (λ (x : Touch). b'.taken + b'.living ≡ b.taken + b.living + frames_taken x) (sym is) (let same = renamed_count store old new b b' kept kept' pages owner own m near_slot h one words old_words access z in omega (arith, same));
          loses = renamed_loses store old new b b' kept kept' pages owner own m near_slot h one words old_words access z;
          uses = record {
            home = h;
            stands = ap homed_along c.is ∙ ap homed c.home;
            here = renamed_here store old new b b' kept kept' pages owner own m near_slot h one words old_words access z;
            fork = Some m.fork;
            set = λ d fits. copy_map b places kept pages s kind owner own lives within w walks stands frames ready d fits h m home some;
            ages = renamed_ages store old new b b' kept kept' pages owner own m near_slot h one words old_words access z;
          };
          filed = renamed_files store old new b b' kept kept' pages owner own m near_slot h one words old_words access z;
          ready = λ g r at. absurd (let no : Copy true ≡ Ready = sym is ∙ r in cc no);
          still = λ r. absurd (let no : Copy true ≡ Ready = sym is ∙ r in cc no);
          lives = renamed_lives store old new b b' kept kept' pages owner own m near_slot h one words old_words access z;
          forks = renamed_forks store old new b b' kept kept' pages owner own m near_slot h one words old_words access z;
          serial = renamed_serial store old new b b' kept kept' pages owner own m near_slot h one words old_words access z;
          serials = renamed_serials store old new b b' kept kept' pages owner own m near_slot h one words old_words access z;
          most = renamed_most store old new b b' kept kept' pages owner own m near_slot h one words old_words access z;
          taken = renamed_taken store old new b b' kept kept' pages owner own m near_slot h one words old_words access z;
          pages = inr (renamed_pages store old new b b' kept kept' pages owner own m near_slot h one words old_words access z);
          names = λ f at k ne. (let own_home : h ≡ f = (let y : At h ≡ At f = sym (ap homed_along c.is ∙ ap homed c.home) ∙ at in cc y) in renamed_names store old new b b' kept kept' pages owner own m near_slot h one words old_words access z k (λ same. ne (same ∙ ap (λ (x : Home). x.0) own_home)));
          fresh = λ f at k ne unused. (let own_home : h ≡ f = (let y : At h ≡ At f = sym (ap homed_along c.is ∙ ap homed c.home) ∙ at in cc y) in renamed_fresh store old new b b' kept kept' pages owner own m near_slot h one words old_words access z k (λ same. ne (same ∙ ap (λ (x : Home). x.0) own_home)) unused);
          maps = renamed_maps store old new b b' kept kept' pages owner own m near_slot h one words old_words access z;
        }

-- the page is there, and was used
module _ {S : Type 0} (store : StoreMeaning S) (old new : S) (b : Beside) (kept : AreKept b (store.homes old)) (pages : ArePages (store.homes old)) (at : Place) (kind : Kind) (owner : Tty) (own : IsOwner owner) (h : Home)
    (is : touched_over b (store.homes old) (store.spare old) at kind ≡ Ready) (there : homed_over b (store.homes old) at ≡ At h) (here_is : is_here (place (store.homes old) h.0) ≡ true) (used : IsUsed store h.0 old new) (homes : store.homes new ≡ store.homes old)
    (told : (d : DrumWords) → FitsPages b (store.homes old) d → plain_over b (store.homes old) d ≡ settled (plain_over b (store.homes old) d) (spot_of at) kind owner)
    (set : (d : DrumWords) → FitsPages b (store.homes old) d → None ≡ map_set (next_making (plain_over b (store.homes old) d) (spot_of at) kind)) where
  touch_same : touched_over b (store.homes new) (store.spare new) at kind ≡ touched_over b (store.homes old) (store.spare old) at kind
  touch_same = λ i. touched_over b (homes i) (used.framed.spare i) at kind

  filed_same : (t : Touch) → t ≡ Ready → FilesSettled b b at t
  filed_same t e = subst (FilesSettled b b at) (sym e) (by at)
    where
      by : (x : Place) → FilesSettled b b x Ready
      by (Fork s) = refl
      by (File f page) = refl

  pub used_done : SettlesPlace store old new b b at kind owner
  used_done = record {
    told = λ d fits. (subst (λ (ps : List HomePlace). FitsPages b ps d) (sym homes) fits, ap (λ ps. plain_over b ps d) homes ∙ told d fits);
    settles = subst (λ (x : Touch). SettlesTo x (touched_over b (store.homes new) (store.spare new) at kind)) (sym is) (touch_same ∙ is);
    scene = subst (λ (x : Touch). TakesFrames (scene_over b (store.homes old) (store.spare old)) (scene_over b (store.homes new) (store.spare new)) (frames_taken x)) (sym is) (record {
      maps = λ i. map_away b.tables (homes i);
      pages = λ i n. option_and_then (away_at (homes i)) (home_named b.tables.names n);
      frames = omega (arith, used.framed.spare);
    });
    count = subst (λ (x : Touch). b.taken + b.living ≡ b.taken + b.living + frames_taken x) (sym is) (omega arith);
    loses = loses_used store old new h.0 used;
    uses = record { home = h; stands = ap (λ ps. homed_over b ps at) homes ∙ there; here = ap (λ ps. is_here (place ps h.0)) homes ∙ here_is; fork = None; set = set; ages = used_one store old new h.0 used };
    filed = filed_same (touched_over b (store.homes old) (store.spare old) at kind) is;
    ready = λ g r stands. (let same : h ≡ g = (let z : At h ≡ At g = sym there ∙ stands in cc z) in subst (λ (x : Home). IsUsed store x.0 old new) same used);
    still = λ r. (refl, homes);
    lives = refl;
    forks = refl;
    serial = omega arith;
    serials = λ t ne. refl;
    most = refl;
    taken = λ k t. ap (λ ps. is_taken (place ps k)) homes ∙ t;
    pages = inl (λ k t. ap (λ ps. place ps k) homes);
    names = λ f at k ne. refl;
    fresh = λ f at k ne unused. ap (λ ps. place ps k) homes;
    maps = refl;
  }

-- a page of a file was made
module _ {S : Type 0} (store : StoreMeaning S) (old new : S) (b b' : Beside) (kept : AreKept b (store.homes old)) (kept' : AreKept b' (store.homes new)) (pages : ArePages (store.homes old)) (pages' : ArePages (store.homes new)) (file : FileNo) (page : ℕ) (bounds : IsFilePage file page) (kind : Kind) (owner : Tty) (own : IsOwner owner)
    (none : fin.get b.files (file_page file.0 page) ≡ None) (is : touched_over b (store.homes old) (store.spare old) (File file page) kind ≡ Zero) (writes : kind ≡ Write) (room : roomy b 1 ≡ true) (z : FilesPage store old new b b' (file_page file.0 page) owner) where
  ready_then : touched_over b' (store.homes new) (store.spare new) (File file page) kind ≡ Ready
  ready_then =
      ap (file_touched (away_at (store.homes new)) b' (scene_over b' (store.homes new) (store.spare new)) kind) (filed_at store old new b b' kept kept' owner own (file_page file.0 page) z)
      ∙ ap (λ o. absent_or o Ready) (filed_near store old new b b' kept kept' owner own (file_page file.0 page) z)

  pub filed_done : SettlesPlace store old new b b' (File file page) kind owner
  filed_done = record {
    told = λ d fits. filed_told store old new b b' kept pages pages' file page bounds kind owner own none (ap can_settle is) room z d fits;
    settles = subst (λ (x : Touch). SettlesTo x (touched_over b' (store.homes new) (store.spare new) (File file page) kind)) (sym is) (inl ready_then);
    scene = subst (λ (x : Touch). TakesFrames (scene_over b (store.homes old) (store.spare old)) (scene_over b' (store.homes new) (store.spare new)) (frames_taken x)) (sym is) (filed_scene store old new b b' kept kept' owner own (file_page file.0 page) z);
    count = subst (λ (x : Touch). b'.taken + b'.living ≡ b.taken + b.living + frames_taken x) (sym is) (filed_count store old new b b' kept kept' owner own (file_page file.0 page) z);
    loses = filed_loses store old new b b' kept kept' owner own (file_page file.0 page) z;
    uses = record {
      home = z.home;
      stands = ap homed (filed_at store old new b b' kept kept' owner own (file_page file.0 page) z);
      here = filed_here store old new b b' kept kept' owner own (file_page file.0 page) z;
      fork = None;
      set = λ d fits. file_map (plain_over b (store.homes old) d) (file_page file.0 page) kind;
      ages = filed_ages store old new b b' kept kept' owner own (file_page file.0 page) z;
    };
    filed = subst (FilesSettled b b' (File file page)) (sym is) (filed_one store old new b b' kept kept' owner own (file_page file.0 page) z);
    ready = λ h r at. absurd (let no : Zero ≡ Ready = sym is ∙ r in cc no);
    still = λ r. absurd (let no : Zero ≡ Ready = sym is ∙ r in cc no);
    lives = filed_lives store old new b b' kept kept' owner own (file_page file.0 page) z;
    forks = filed_forks store old new b b' kept kept' owner own (file_page file.0 page) z;
    serial = filed_serial store old new b b' kept kept' owner own (file_page file.0 page) z;
    serials = filed_serials store old new b b' kept kept' owner own (file_page file.0 page) z;
    most = filed_most store old new b b' kept kept' owner own (file_page file.0 page) z;
    taken = filed_taken store old new b b' kept kept' owner own (file_page file.0 page) z;
    pages = inl (filed_pages store old new b b' kept kept' owner own (file_page file.0 page) z);
    names = λ f at k ne. (let own_home : z.home ≡ f = (let y : At z.home ≡ At f = sym (ap homed (filed_at store old new b b' kept kept' owner own (file_page file.0 page) z)) ∙ at in cc y) in filed_names store old new b b' kept kept' owner own (file_page file.0 page) z k (λ same. ne (same ∙ ap (λ (x : Home). x.0) own_home)));
    fresh = λ f at k ne unused. (let own_home : z.home ≡ f = (let y : At z.home ≡ At f = sym (ap homed (filed_at store old new b b' kept kept' owner own (file_page file.0 page) z)) ∙ at in cc y) in filed_fresh store old new b b' kept kept' owner own (file_page file.0 page) z k (λ same. ne (same ∙ ap (λ (x : Home). x.0) own_home)) unused);
    maps = filed_maps store old new b b' kept kept' owner own (file_page file.0 page) z;
  }
