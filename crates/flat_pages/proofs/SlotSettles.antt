-- What settling the page of a slot leaves, in one record for each way.
use Rattle.std.proofs.Common.{◌≡◌, ◌≢◌, ◌⊎◌, inl, inr, ℕ, ◌+◌, ◌<◌, ◌≤◌, List, Bool, true, false, None, Some, refl, sym, ◌∙◌, ap, arith, is_some}
use Rattle.std.specs.Prelude.{IsSome, slice_set}
use Rattle.std.proofs.lemmas.List.{get_or-set_other}
use Rattle.machine_names.specs.Bounds.{IsOwner}
use Rattle.machine_names.specs.PageWords.{zero_words}
use Rattle.machine_names.specs.declared.names.Access.{Access}
use Rattle.machine_names.specs.declared.names.ForkName.{ForkName}
use Rattle.machine_names.specs.declared.names.Kind.{Kind}
use Rattle.machine_names.specs.declared.names.Place.{Place}
use Rattle.machine_names.specs.declared.names.Place.TheVariants.{Fork}
use Rattle.machine_names.specs.declared.names.Slot.{Slot}
use Rattle.machine_names.specs.declared.names.Tty.{Tty}
use Rattle.page_homes.specs.declared.homes.Home.{Home}
use Rattle.plain_pages.specs.Maps.{full_access}
use Rattle.page_contracts.specs.declared.answers.Touch.TheVariants.{Ready, Copy}
use Rattle.page_contracts.specs.Changes.{PageSettled}
use Rattle.page_contracts.specs.Pages.{IsPlace, PagesMeaning, StandsAt, can_settle}
use Rattle.page_contracts.specs.Stores.{StoreMeaning, HomePlace, IsSound, IsUsed, Loses, RenewsOne, free, here, is_here, place, traffic}
use Rattle.page_contracts.proofs.Losing.{loses_made, loses_used, made_one, used_one}
use Rattle.flat_tables.specs.Walks.{Walk}
use Rattle.flat_tables.specs.declared.held_entry.EntryAt.{EntryAt}
use Rattle.flat_tables.specs.declared.held_entry.HeldEntry.{HeldEntry}
use Rattle.flat_tables.specs.declared.held_entry.HeldEntry.TheVariants.{Empty, Page}
use Rattle.flat_tables.specs.declared.map_tables.MapTables.{MapTables}
use Rattle.flat_tables.specs.HeldMaps.{fork_at, held_entry, index_of, name_at, with_entry}
use Rattle.flat_tables.specs.Serials.{serial_of, with_next}
use Rattle.flat_pages.specs.SlotMeaning.{slots_meaning}
use Rattle.flat_tables.specs.SlotSteps.{TakesHome}
use Rattle.flat_tables.specs.SlotTables.{Tables, AreTables, share_of}
use Rattle.fork_maps.specs.ChainWalks.{copy_for}
use Rattle.flat_tables.specs.SlotTouches.{has_room, is_alone, touch_of_place, walk_of}
use Rattle.flat_tables.specs.TableSteps.{home_renamed, next_name, tables_of}
use Rattle.flat_tables.proofs.NextSerials.{next_other, next_own}
use Rattle.flat_pages.proofs.Settled.{Announced, CanCopy, EndsAt, Settles, alone_home, alone_stored, announced, can_copy, copy_ends, copy_here, copy_lives, copy_shared, copy_stored, home_here, one_is, ready_away, slot_lives, used_stored, walk_found, zero_ends, zero_fits, zero_stored}
use Rattle.flat_pages.proofs.Meeting.{copy_held}
use Rattle.flat_pages.proofs.Using.{fork_filed, made_here, settles_there, stands_nowhere, used_at, used_here, uses_there}

module _ {P S : Type 0} (store : StoreMeaning S) (part : P → S) (mt : P → MapTables) (p : P) (sound : IsSound store (part p)) (a : AreTables (tables_of (store.homes (part p)) (mt p))) (at : Place) (s : Slot) (is : at ≡ Fork s) (kind : Kind) (w : Walk)
    (placed : IsPlace (λ f. is_some (index_of (mt p).maps.held.items f)) at) (walks : walk_of (mt p).maps.held.items s ≡ Some w) (announces : can_settle (touch_of_place (tables_of (store.homes (part p)) (mt p)) (store.spare (part p)) at kind) ≡ true) where
  abbrev tables : P → Tables
  tables x = tables_of (store.homes (part x)) (mt x)

  abbrev means : PagesMeaning P
  means = slots_meaning store part tables

  abbrev t : Tables
  t = tables p

  abbrev frames : ℕ
  frames = store.spare (part p)

  r : Announced t frames s kind w
  r = announced t frames at s kind w is placed walks announces

  -- what making a zero page asks for
  pub record CanZero : Type 0 where
    pub empty : held_entry t.maps w.end ≡ Some Empty
    pub lives : IsSome (fork_at t.maps w.end.map)
    pub room : has_room t 1 ≡ true
    pub frame : 0 < frames

  pub can_zero : w.home ≡ None → CanZero
  can_zero none =
      let found = walk_found t a frames s kind w r in
      let fits = zero_fits t a frames s kind w r none in
      record { empty = found.meets.empty none; lives = slot_lives t.maps w.end found.links.end found.meets.end; room = fits.0; frame = fits.1 }

  pub can_use : (h : Home) → w.home ≡ Some h → copy_for kind w ≡ None → is_here (place t.places h.0) ≡ true
  can_use h home none = home_here t a frames s kind w r h home (ready_away t a frames s kind w r h home none)

  pub mark_held : (m : EntryAt) → copy_for kind w ≡ Some m → IsSome (held_entry t.maps m)
  mark_held m some = copy_held t a s w (walk_found t a frames s kind w r) kind m some

  -- the page at the end of the chain is to be copied into the entry with the mark
  module _ (h : Home) (home : w.home ≡ Some h) (m : EntryAt) (some : copy_for kind w ≡ Some m) (e : HeldEntry) (there : held_entry t.maps m ≡ Some e) where
    -- what a copy asks for in the place of the page, which that entry alone names
    pub record CanRename (b : Access) : Type 0 where
      pub entry : held_entry t.maps m ≡ Some (Page h b)
      pub lives : IsSome (fork_at t.maps m.map)
      pub alone : is_alone t.shares (held_entry t.maps m) ≡ true
      pub from : is_here (place t.places h.0) ≡ true

    pub can_rename : (g : Home) (b : Access) → e ≡ Page g b → share_of t.shares h.0 ≡ 1 → CanRename b
    can_rename g b named one =
        let entry = there ∙ ap Some named in
        let own = entry ∙ ap (λ (x : Home). Some (Page x b)) (alone_home t a frames s kind w r h m g b home some entry) in
        record { entry = own; lives = copy_lives t a frames s kind w r m some; alone = ap (is_alone t.shares) own ∙ one_is (share_of t.shares h.0) one; from = copy_here t a frames s kind w r h m home some }

    -- and in a home of its own
    pub record CanCopyApart : Type 0 where
      pub lives : IsSome (fork_at t.maps m.map)
      pub shared : is_alone t.shares (held_entry t.maps m) ≡ false
      pub from : is_here (place t.places h.0) ≡ true
      pub room : has_room t 1 ≡ true
      pub frame : 0 < frames

    pub can_copy_apart : ((g : Home) (b : Access) → e ≡ Page g b → share_of t.shares h.0 ≢ 1) → CanCopyApart
    can_copy_apart more =
        let can = can_copy t a frames s kind w r h m home some in
        let shared = copy_shared t a frames s kind w r h m e home some there more in
        record { lives = copy_lives t a frames s kind w r m some; shared = shared; from = copy_here t a frames s kind w r h m home some; room = can.room shared; frame = can.frame shared }

  -- then
  module _ (q : P) (sound' : IsSound store (part q)) (a' : AreTables (tables_of (store.homes (part q)) (mt q))) (owner : Tty) (own : IsOwner owner) where
    abbrev u : Tables
    u = tables q

    -- The chain of the slot ends at a home then, which was free or has what it had, and whose page is in a frame. Each other home has its page and its name.
    record EndsThere (h : Home) : Type 0 where
      settles : Settles t u frames (store.spare (part q)) at kind owner
      ends : EndsAt u.maps s h
      here : is_here (place u.places h.0) ≡ true
      was : (place t.places h.0 ≡ free) ⊎ (place u.places h.0 ≡ place t.places h.0)
      places : (k : ℕ) → k ≢ h.0 → place u.places k ≡ place t.places k
      names : (k : ℕ) → k ≢ h.0 → name_at u.names k ≡ name_at t.names k
      loses : Loses (traffic store (part p)) (traffic store (part q))
      renews : RenewsOne h.0 (traffic store (part p)) (traffic store (part q))
      ready : (home : ℕ) → means.touched p at kind ≡ Ready → StandsAt means p at home → IsUsed means.store home p q
      serial : serial_of u.serials owner ≤ serial_of t.serials owner + 1
      serials : (x : Tty) → x ≢ owner → serial_of u.serials x ≡ serial_of t.serials x
      limit : u.limit ≡ t.limit

    settled_there : (h : Home) → EndsThere h → PageSettled means at kind owner p q
    settled_there h k =
        let lives = ap (λ (by : ForkName → Bool). by s.fork) k.settles.lives ∙ r.lives in record {
          told = k.settles.told;
          settles = k.settles.settles;
          scene = k.settles.scene;
          count = k.settles.count;
          loses = k.loses;
          uses = uses_there store part tables p q at s is lives h k.ends sound' k.here kind k.renews;
          homes = settles_there store part tables p q at s is lives h k.ends sound' k.here a a' refl refl k.places k.names k.was;
          filed = fork_filed store part tables p q at s is _ k.settles.filed;
          ready = k.ready;
          lives = k.settles.lives;
          forks = k.settles.forks;
          serial = k.serial;
          serials = k.serials;
          most = k.limit;
        }

    -- the tables take an owner's next name, and no other owner's
    own_serial : u.serials ≡ with_next t.serials owner → serial_of u.serials owner ≤ serial_of t.serials owner + 1
    own_serial next = omega (arith, ap (λ x. serial_of x owner) next, next_own t.serials owner own a.owners)

    other_serials : u.serials ≡ with_next t.serials owner → (x : Tty) → x ≢ owner → serial_of u.serials x ≡ serial_of t.serials x
    other_serials next x ne = ap (λ y. serial_of y x) next ∙ next_other t.serials owner x (λ e. ne (λ i. record { 0 = e i }))

    other_names : (h : Home) → u.names ≡ slice_set t.names h.0 (Some (next_name t.serials owner)) → (k : ℕ) → k ≢ h.0 → name_at u.names k ≡ name_at t.names k
    other_names h named k ne = ap (λ ns. name_at ns k) named ∙ get_or-set_other t.names h.0 k (Some (next_name t.serials owner)) None ne

    -- a home was taken for what was made
    at_taken : (m : EntryAt) (page : HomePlace) (b : Access) (k : TakesHome store (part p) (part q) (mt p) (mt q) m page b owner) → is_here page ≡ true → Settles t u frames (store.spare (part q)) at kind owner → EndsAt u.maps s k.home
        → ((home : ℕ) → means.touched p at kind ≡ Ready → StandsAt means p at home → ⊥) → PageSettled means at kind owner p q
    at_taken m page b k in_frame settles ends unready = settled_there k.home (record {
      settles = settles;
      ends = ends;
      here = made_here store (part p) (part q) k.home.0 page k.made in_frame;
      was = inl k.made.was_free;
      places = λ j ne. ap (λ (x : Tables). place x.places j) k.taken ∙ get_or-set_other (store.homes (part p)) k.home.0 j page free ne;
      names = other_names k.home (ap (λ (x : Tables). x.names) k.taken);
      loses = loses_made store (part p) (part q) k.home.0 page k.made;
      renews = made_one store (part p) (part q) k.home.0 page k.made;
      ready = λ home touched stands. absurd (unready home touched stands);
      serial = own_serial (ap (λ (x : Tables). x.serials) k.taken);
      serials = other_serials (ap (λ (x : Tables). x.serials) k.taken);
      limit = ap (λ (x : Tables). x.limit) k.taken;
    })

    -- a zero page was made
    pub zero_made : w.home ≡ None → TakesHome store (part p) (part q) (mt p) (mt q) w.end (here zero_words) full_access owner → PageSettled means at kind owner p q
    zero_made none k = at_taken w.end (here zero_words) full_access k refl (zero_stored store (part p) (part q) sound sound' (mt p) (mt q) a a' at s is kind w r owner own none k)
        (zero_ends t a frames s kind w r u k.home none (ap (λ (x : Tables). x.maps) k.taken))
        (λ home touched stands. stands_nowhere store part tables p at home stands s is w r.walks none)

    -- a page is at the end of the chain
    module _ (h : Home) (home : w.home ≡ Some h) where
      -- it was used as it is
      pub used_ready : copy_for kind w ≡ None → store.homes (part q) ≡ store.homes (part p) → mt q ≡ mt p → IsUsed store h.0 (part p) (part q) → PageSettled means at kind owner p q
      used_ready none homes same used =
          let whole : u ≡ t = λ i. tables_of (homes i) (same i) in settled_there h (record {
            settles = used_stored store (part p) (part q) sound sound' (mt p) (mt q) a a' at s is kind w r owner own h home none whole used;
            ends = record { walk = w; is = ap (λ (x : Tables). walk_of x.maps s) whole ∙ r.walks; home = home };
            here = used_here store (part p) (part q) h.0 homes (can_use h home none);
            was = inr (ap (λ (ps : List HomePlace). place ps h.0) homes);
            places = λ k ne. ap (λ (ps : List HomePlace). place ps k) homes;
            names = λ k ne. ap (λ (x : Tables). name_at x.names k) whole;
            loses = loses_used store (part p) (part q) h.0 used;
            renews = used_one store (part p) (part q) h.0 used;
            ready = λ k touched stands. used_at store part tables p at k stands s is w r.walks q sound h home used;
            serial = omega (arith, ap (λ (x : Tables). serial_of x.serials owner) whole);
            serials = λ x ne. ap (λ (y : Tables). serial_of y.serials x) whole;
            limit = ap (λ (x : Tables). x.limit) whole;
          })

      -- it is copied into an entry
      module _ (m : EntryAt) (some : copy_for kind w ≡ Some m) (e : HeldEntry) (there : held_entry t.maps m ≡ Some e) where
        abbrev access : Access
        access = record full_access { x = w.executes }

        can : CanCopy t frames s kind h m
        can = can_copy t a frames s kind w r h m home some

        not_ready : means.touched p at kind ≡ Ready → ⊥
        not_ready touched = (let no : Ready ≡ Copy (is_alone t.shares (held_entry t.maps m)) = sym touched ∙ ap (λ (x : Place). touch_of_place t frames x kind) is ∙ can.is in cc no)

        ends_at : (k : Home) → u.maps ≡ with_entry t.maps m (Page k access) → EndsAt u.maps s k
        ends_at k maps = copy_ends t a frames s kind w r u k m access e some there refl refl maps

        -- in a home of its own
        pub copied_apart : ((g : Home) (b : Access) → e ≡ Page g b → share_of t.shares h.0 ≢ 1) → TakesHome store (part p) (part q) (mt p) (mt q) m (place (store.homes (part p)) h.0) access owner → PageSettled means at kind owner p q
        copied_apart more k =
            let apart = can_copy_apart h home m some e there more in
            at_taken m (place (store.homes (part p)) h.0) access k apart.from (copy_stored store (part p) (part q) sound sound' (mt p) (mt q) a a' at s is kind w r owner own h m access home some refl e there apart.shared k)
            (ends_at k.home (ap (λ (x : Tables). x.maps) k.taken)) (λ home touched stands. not_ready touched)

        -- in the home of the page that the entry alone named
        pub copied_in_place : (g : Home) (b : Access) → e ≡ Page g b → share_of t.shares h.0 ≡ 1 → u ≡ home_renamed t m h access owner → store.homes (part q) ≡ store.homes (part p) → IsUsed store h.0 (part p) (part q) → PageSettled means at kind owner p q
        copied_in_place g b named one renamed homes used =
            let was = can_rename h home m some e there g b named one in settled_there h (record {
              settles = alone_stored store (part p) (part q) sound sound' (mt p) (mt q) a a' at s is kind w r owner own h m access home some refl b was.entry was.alone renamed used;
              ends = ends_at h (ap (λ (x : Tables). x.maps) renamed);
              here = used_here store (part p) (part q) h.0 homes was.from;
              was = inr (ap (λ (ps : List HomePlace). place ps h.0) homes);
              places = λ k ne. ap (λ (ps : List HomePlace). place ps k) homes;
              names = other_names h (ap (λ (x : Tables). x.names) renamed);
              loses = loses_used store (part p) (part q) h.0 used;
              renews = used_one store (part p) (part q) h.0 used;
              ready = λ k touched stands. absurd (not_ready touched);
              serial = own_serial (ap (λ (x : Tables). x.serials) renamed);
              serials = other_serials (ap (λ (x : Tables). x.serials) renamed);
              limit = ap (λ (x : Tables). x.limit) renamed;
            })
