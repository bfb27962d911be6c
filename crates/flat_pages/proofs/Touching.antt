-- What a touch answers is what a reference to the plain pages comes to.
use Rattle.std.proofs.Common.{◌≡◌, inl, inr, ℕ, zero, suc, ◌+◌, List, [], ◌∷◌, ◌++◌, Bool, true, false, cond, Option, None, Some, refl, sym, ◌∙◌, ap, arith, is_some}
use Rattle.std.specs.Prelude.{find, nat_le, ◌==◌, slice_get}
use Rattle.std.specs.Option.{option_map, option_and_then, unwrap_or}
use Rattle.std.specs.Cmp.{nat_cmp_total}
use Rattle.std.proofs.lemmas.Bool.Decides.{nat_tests}
use Rattle.machine_names.specs.declared.names.ForkName.{ForkName}
use Rattle.machine_names.specs.declared.names.PageName.{PageName}
use Rattle.page_homes.specs.declared.homes.Home.{Home}
use Rattle.machine_names.specs.declared.names.Slot.{Slot}
use Rattle.machine_names.specs.declared.names.Tty.{Tty}
use Rattle.machine_names.specs.declared.names.Kind.{Kind}
use Rattle.machine_names.specs.declared.names.Kind.TheVariants.{Read, Write, Execute}
use Rattle.plain_pages.specs.declared.map.MapEntry.TheVariants as entry
use Rattle.page_contracts.specs.declared.answers.Touch.TheVariants.{Ready, Zero, Copy, Denied, Full}
use Rattle.page_contracts.specs.DrumWords.{DrumWords}
use Rattle.plain_pages.specs.PlainPages.{NumberedPages}
use Rattle.plain_pages.specs.Maps.{Link as ChainLink, Chain, entry_at, chain, maps_on_way, permits, full_access}
use Rattle.plain_pages.specs.Room.{same_page, uses, live, HasRoom}
use Rattle.plain_pages.specs.References.{in_map, Making, blank, copy, blanks, copies, copy_in, private_access, along_chain, makings, make, make_all, granted, full, reference, next_making, page_at}
use Rattle.machine_names.specs.PageWords.{zero_words}
use Rattle.page_contracts.specs.Pages.{Scene, touch_of, touched_by, absent_or, announced, is_sole, framed, page_away, first_away}
use Rattle.machine_names.specs.Bounds.{IsOwner}
use Rattle.plain_pages.specs.WholePages.{AreWhole}
use Rattle.plain_pages.proofs.Chains.{marked}
use Rattle.plain_pages.proofs.Counts.{page_tells, Same}
use Rattle.plain_pages.proofs.Ends.{AtMark, mark_follows, mark_names, at_mark}
use Rattle.plain_pages.proofs.Makings.{CanMake}
use Rattle.plain_pages.proofs.Made.{IsMade, is_blank}
use Rattle.page_contracts.proofs.Rooms.{room_blank, room_copy, live_blank}
use Rattle.plain_pages.proofs.Settles.{makings_can}
use Rattle.plain_pages.proofs.ReferencesMade.{reference_makes, reference_denied, make_first}
use Rattle.flat_tables.specs.declared.held_entry.EntryAt.{EntryAt}
use Rattle.flat_tables.specs.declared.held_entry.HeldEntry.{HeldEntry}
use Rattle.flat_tables.specs.declared.held_entry.HeldEntry.TheVariants.{Empty, Page, Follows}
use Rattle.flat_tables.specs.HeldMaps.{held_entry, name_at, nobody, name_of, entry_of, one_later}
use Rattle.flat_tables.specs.Walks.{Walk, slot_of, walk}
use Rattle.flat_tables.specs.SlotTables.{Tables, plain_of, AreTables, AreSized}
use Rattle.fork_maps.specs.ChainWalks.{allows_along, copy_for}
use Rattle.flat_tables.specs.SlotTouches.{home_named, scene_of, has_room, is_alone, touch_copy, touch_made, touch_walked}
use Rattle.page_contracts.specs.Stores.{away_at}
use Rattle.flat_tables.proofs.LivingMaps.{entry_held}
use Rattle.flat_pages.proofs.Agreement.{entry_named, uses_home, tables_whole, tables_live}
use Rattle.flat_pages.proofs.Walked.{IsCopy, Meets, WalkIs, walked}

-- the home of a page that has one
pub home_is : (names : List (Option PageName)) (h : ℕ) (x : PageName) → name_at names h ≡ Some x → ((k : ℕ) → name_at names k ≡ Some x → k ≡ h) → home_named names x ≡ Some h
home_is [] h x is only = absurd (cc is)
home_is (None ∷ names) zero x is only = absurd (cc is)
home_is (None ∷ names) (suc h) x is only = ap one_later (home_is names h x is (λ k e. (let z = only (suc k) e in omega (arith, z))))
home_is (Some n ∷ names) h x is only = by (page_tells x n) h (λ k e f. home_is names k x e f) is only
  where
    by : Same x n → (h : ℕ) → ((k : ℕ) → name_at names k ≡ Some x → ((j : ℕ) → name_at names j ≡ Some x → j ≡ k) → home_named names x ≡ Some k) → name_at (Some n ∷ names) h ≡ Some x → ((k : ℕ) → name_at (Some n ∷ names) k ≡ Some x → k ≡ h)
        → cond (same_page x n) (Some 0) (one_later (home_named names x)) ≡ Some h
    by (inl t) h rest is only = ap (λ b. cond b (Some 0) (one_later (home_named names x))) t.0 ∙ ap Some (only 0 (ap Some (sym t.1)))
    by (inr t) zero rest is only = absurd (t.1 (let same : n ≡ x = cc is in sym same))
    by (inr t) (suc h) rest is only = ap (λ b. cond b (Some 0) (one_later (home_named names x))) t.0 ∙ ap one_later (rest h is (λ k e. (let z = only (suc k) e in omega (arith, z))))

-- a map is never away
pub none_away : (scene : Scene) (fs : List ForkName) → ((f : ForkName) → scene.map_away f ≡ None) → first_away scene fs ≡ None
none_away scene [] none = refl
none_away scene (f ∷ fs) none = rw (none f) (none_away scene fs none)

pub allowed_is : (names : List (Option PageName)) (t : Tables) (kind : Kind) (w : Walk) (c : Chain) → Meets names t.maps w c → permits kind c ≡ allows_along kind w
allowed_is names t Read w c m = m.reads
allowed_is names t Write w c m = m.writes
allowed_is names t Execute w c m = m.executes

module _ (t : Tables) (a : AreTables t) (frames : ℕ) (d : DrumWords) (sized : AreSized t.places d) (owner : Tty) (own : IsOwner owner) (at : EntryAt) (s : Slot) (is : slot_of t.maps at ≡ Some s) where
  abbrev p : NumberedPages
  p = plain_of t d

  abbrev scene : Scene
  scene = scene_of t frames

  whole : AreWhole p
  whole = tables_whole t a d sized

  abbrev pub found : Option Chain
  found = chain (entry_at p.maps) s

  -- what is made along the chain
  pub made_along : (kind : Kind) (o : Option Chain) → found ≡ o → makings p (in_map s) kind ≡ option_and_then (along_chain kind) o
  unfolding makings
  made_along kind o e = ap (option_and_then (along_chain kind)) e

  pub page_along : (c : Chain) → found ≡ Some c → page_at p (in_map s) ≡ c.page
  unfolding page_at
  page_along c e = ap (option_and_then (λ (x : Chain). x.page)) e

  -- a touch passes the maps
  touch_passed : (kind : Kind) → touch_of p scene (in_map s) kind owner ≡ touched_by p scene (in_map s) kind (reference p (in_map s) kind owner)
  unfolding touch_of
  touch_passed kind = ap (λ o. absent_or o (touched_by p scene (in_map s) kind (reference p (in_map s) kind owner))) (none_away scene (maps_on_way (entry_at p.maps) s) (λ f. refl))

  touch_denied : (kind : Kind) → makings p (in_map s) kind ≡ None → touch_of p scene (in_map s) kind owner ≡ Denied kind
  touch_denied kind e = touch_passed kind ∙ ap (touched_by p scene (in_map s) kind) (reference_denied p owner (in_map s) kind e)

  -- where there is room a reference is granted
  touch_roomy : (kind : Kind) (b : Bool) (q : NumberedPages) (ms : List (Making ℕ)) → makings p (in_map s) kind ≡ Some ms → reference p (in_map s) kind owner ≡ cond b (granted q) full
      → touch_of p scene (in_map s) kind owner ≡ cond b (absent_or (page_away p scene (in_map s)) (announced p scene (slice_get ms 0))) Full
  touch_roomy kind b q ms e r = touch_passed kind ∙ ap (touched_by p scene (in_map s) kind) r ∙ by b
    where
      next : next_making p (in_map s) kind ≡ slice_get ms 0
      next = ap (option_and_then (λ (ns : List (Making ℕ)). slice_get ns 0)) e

      by : (b : Bool) → touched_by p scene (in_map s) kind (cond b (granted q) full) ≡ cond b (absent_or (page_away p scene (in_map s)) (announced p scene (slice_get ms 0))) Full
      by true = ap (λ m. absent_or (page_away p scene (in_map s)) (announced p scene m)) next
      by false = refl

  room_is : (n : ℕ) → nat_le (live p + n) p.limit ≡ has_room t n
  room_is n = ap (λ k. nat_le (k + n) t.limit) (tables_live t a d sized)

  always : nat_le (live p + 0) p.limit ≡ true
  always = let r = a.room in room_is 0 ∙ fits
    where
      fits : nat_le (t.taken + t.living + 0) t.limit ≡ true
      fits = let r = a.room in grind (arith, nat_tests, r)

  make_none : (q : NumberedPages) → make_all q owner [] ≡ granted q
  unfolding make_all
  make_none q = refl

  one_made : (kind : Kind) (m : Making ℕ) → makings p (in_map s) kind ≡ Some (m ∷ []) → reference p (in_map s) kind owner ≡ cond (HasRoom (make p owner m) owner) (granted (make p owner m)) full
  one_made kind m e = reference_makes p owner (in_map s) kind (m ∷ []) e ∙ make_first p owner m [] ∙ ap (λ r. cond (HasRoom (make p owner m) owner) r full) (make_none (make p owner m))

  -- the page of the chain, where it is in no frame
  page_is_away : (c : Chain) (w : Walk) (h : Home) → found ≡ Some c → Meets t.names t.maps w c → w.home ≡ Some h → page_away p scene (in_map s) ≡ away_at t.places h.0
  page_is_away c w h e m is_home =
      let here = m.named h is_home in
      let n = entry_named t a w.end h here.0 here.1 in
      ap (option_and_then scene.page_away) (page_along c e ∙ m.page ∙ ap (option_map (name_of t.names)) is_home ∙ ap (λ (o : Option PageName). Some (unwrap_or o nobody)) n.1)
      ∙ ap (option_and_then (away_at t.places)) (home_is t.names h.0 n.0 n.1 (λ k k_is. a.once k h.0 n.0 k_is n.1))

  no_page_away : (c : Chain) (w : Walk) → found ≡ Some c → Meets t.names t.maps w c → w.home ≡ None → page_away p scene (in_map s) ≡ None
  no_page_away c w e m none = ap (option_and_then scene.page_away) (page_along c e ∙ m.page ∙ ap (option_map (name_of t.names)) none)

  -- the entry of a marked link names its page alone
  pub alone_is : (m : EntryAt) (l : ChainLink) (e : HeldEntry) → slot_of t.maps m ≡ Some l.slot → held_entry t.maps m ≡ Some e → is_sole p (entry_at p.maps l.slot) ≡ is_alone t.shares (held_entry t.maps m)
  alone_is m l e at_m here = ap (is_sole p) (entry_held t.names t.maps a.held.once m l.slot at_m ∙ ap (option_map (entry_of t.names)) here) ∙ by e here ∙ ap (is_alone t.shares) (sym here)
    where
      by : (e : HeldEntry) → held_entry t.maps m ≡ Some e → is_sole p (Some (entry_of t.names e)) ≡ is_alone t.shares (Some e)
      by Empty k = refl
      by (Follows l b) k = refl
      by (Page h b) k = let n = entry_named t a m h b k in
          ap (λ (o : Option PageName). uses p (unwrap_or o nobody) == 1) n.1 ∙ ap (λ u. u == 1) (uses_home t a d sized h.0 n.0 n.1)

  -- a reference that is permitted, by what it makes
  module _ (kind : Kind) (c : Chain) (w : Walk) (e : found ≡ Some c) (m : Meets t.names t.maps w c) (yes : permits kind c ≡ true) where
    pub listed : makings p (in_map s) kind ≡ Some (blanks c ++ copies kind c)
    listed = made_along kind (Some c) e ∙ ap (λ b. cond b (Some (blanks c ++ copies kind c)) None) yes

    pub blanks_none : w.home ≡ None → blanks {K = ℕ} c ≡ blank (in_map c.end) ∷ []
    blanks_none none = let l : List (Making ℕ) = blank (in_map c.end) ∷ [] in ap (λ (n : Option PageName). cond (is_some n) [] l) (m.page ∙ ap (option_map (name_of t.names)) none)

    pub blanks_some : (h : Home) → w.home ≡ Some h → blanks {K = ℕ} c ≡ []
    blanks_some h some = let l : List (Making ℕ) = blank (in_map c.end) ∷ [] in ap (λ (n : Option PageName). cond (is_some n) [] l) (m.page ∙ ap (option_map (name_of t.names)) some)

    pub copies_none : copy_for kind w ≡ None → copies {K = ℕ} kind c ≡ []
    copies_none none = by kind none
      where
        none_in : (o : Option EntryAt) → IsCopy t.maps o (find marked c.links) → o ≡ None → copy_in {K = ℕ} c (find marked c.links) ≡ []
        none_in None is k = ap (copy_in c) is
        none_in (Some x) is k = absurd (cc k)

        by : (k : Kind) → copy_for k w ≡ None → copies {K = ℕ} k c ≡ []
        by Read k = refl
        by Execute k = refl
        by Write k = none_in w.copy m.copy k

    -- the copy that a write makes
    pub record Copied (x : EntryAt) : Type 0 where
      pub link : ChainLink
      pub first : find marked c.links ≡ Some link
      pub there : slot_of t.maps x ≡ Some link.slot
      pub old : HeldEntry
      pub holds : held_entry t.maps x ≡ Some old
      pub list : copies {K = ℕ} kind c ≡ copy link.slot (private_access c) ∷ []

    pub copied : (x : EntryAt) → copy_for kind w ≡ Some x → Copied x
    copied x some = by kind refl some
      where
        some_in : (o : Option EntryAt) → IsCopy t.maps o (find marked c.links) → o ≡ Some x → (copies {K = ℕ} kind c ≡ copy_in c (find marked c.links)) → Copied x
        some_in None is k l = absurd (cc k)
        some_in (Some y) is k l =
            let same : y ≡ x = cc k in
            record { link = is.0; first = is.1; there = ap (slot_of t.maps) (sym same) ∙ is.2; old = is.3.0; holds = ap (held_entry t.maps) (sym same) ∙ is.3.1; list = l ∙ ap (copy_in c) is.1 }

        by : (k : Kind) → kind ≡ k → copy_for k w ≡ Some x → Copied x
        by Read e k = absurd (cc k)
        by Execute e k = absurd (cc k)
        by Write e k = some_in w.copy m.copy k (ap (λ j. copies {K = ℕ} j c) e)

    -- nothing
    granted_ready : (h : Home) → w.home ≡ Some h → copy_for kind w ≡ None → touch_of p scene (in_map s) kind owner ≡ absent_or (away_at t.places h.0) Ready
    granted_ready h some none =
        let list : makings p (in_map s) kind ≡ Some [] = listed ∙ λ i. Some (blanks_some h some i ++ copies_none none i) in
        touch_roomy kind true p [] list (reference_makes p owner (in_map s) kind [] list ∙ make_none p) ∙ ap (λ o. absent_or o Ready) (page_is_away c w h e m some)

    -- a zero page
    granted_zero : w.home ≡ None → copy_for kind w ≡ None → touch_of p scene (in_map s) kind owner ≡ cond (has_room t 1) (framed scene Zero) Full
    granted_zero none no_copy =
        let list : makings p (in_map s) kind ≡ Some (blank (in_map c.end) ∷ []) = listed ∙ λ i. Some (blanks_none none i ++ copies_none no_copy i) in
        let can : CanMake p (blank (in_map c.end)) = makings_can nat_cmp_total p owner (in_map s) kind (blank (in_map c.end)) [] list in
        touch_roomy kind (has_room t 1) (make p owner (blank (in_map c.end))) (blank (in_map c.end) ∷ []) list
        (one_made kind (blank (in_map c.end)) list ∙ ap (λ b. cond b (granted (make p owner (blank (in_map c.end)))) full) (room_blank nat_cmp_total p whole owner own (in_map c.end) can ∙ room_is 1))
        ∙ ap (λ o. cond (has_room t 1) (absent_or o (framed scene Zero)) Full) (no_page_away c w e m none)

    -- a copy, which may have the only name of the old page
    granted_copy : (h : Home) (x : EntryAt) → w.home ≡ Some h → copy_for kind w ≡ Some x → touch_of p scene (in_map s) kind owner ≡ touch_copy t scene (away_at t.places h.0) (is_alone t.shares (held_entry t.maps x))
    granted_copy h x some some_copy =
        let k = copied x some_copy in
        let making : Making ℕ = copy k.link.slot (private_access c) in
        let list : makings p (in_map s) kind ≡ Some (making ∷ []) = listed ∙ λ i. Some (blanks_some h some i ++ k.list i) in
        let can : CanMake p making = makings_can nat_cmp_total p owner (in_map s) kind making [] list in
        let sole = alone_is x k.link k.old k.there k.holds in
        let room : HasRoom (make p owner making) owner ≡ nat_le (live p + cond (is_alone t.shares (held_entry t.maps x)) 0 1) p.limit =
        room_copy nat_cmp_total p whole owner own k.link.slot (private_access c) can.0 can.1 ∙ ap (λ b. nat_le (live p + cond b 0 1) p.limit) (ap (is_sole p) (sym can.1) ∙ sole) in
        touch_roomy kind (HasRoom (make p owner making) owner) (make p owner making) (making ∷ []) list (one_made kind making list)
        ∙ ap (λ o. cond (HasRoom (make p owner making) owner) (absent_or o (announced p scene (Some making))) Full) (page_is_away c w h e m some)
        ∙ ap (λ b. cond (HasRoom (make p owner making) owner) (absent_or (away_at t.places h.0) (cond b (Copy true) (framed scene (Copy false)))) Full) sole
        ∙ by (is_alone t.shares (held_entry t.maps x)) (HasRoom (make p owner making) owner) room
      where
        by : (alone b : Bool) → b ≡ nat_le (live p + cond alone 0 1) p.limit → cond b (absent_or (away_at t.places h.0) (cond alone (Copy true) (framed scene (Copy false)))) Full ≡ touch_copy t scene (away_at t.places h.0) alone
        by true b r = ap (λ c. cond c (absent_or (away_at t.places h.0) (Copy true)) Full) (r ∙ always)
        by false b r = ap (λ c. cond c (absent_or (away_at t.places h.0) (framed scene (Copy false))) Full) (r ∙ room_is 1)

    at_mark_of : (l : ChainLink) → find marked c.links ≡ Some l → AtMark (entry_at p.maps) c l
    unfolding chain
    at_mark_of l f = at_mark 4 (entry_at p.maps) s c l e f

    -- a zero page, and then a copy of it
    granted_both : (x : EntryAt) → w.home ≡ None → copy_for kind w ≡ Some x → touch_of p scene (in_map s) kind owner ≡ cond (has_room t 2) (framed scene Zero) Full
    granted_both x none some_copy =
        let k = copied x some_copy in
        let first : Making ℕ = blank (in_map c.end) in
        let second : Making ℕ = copy k.link.slot (private_access c) in
        let q : NumberedPages = make p owner first in
        let list : makings p (in_map s) kind ≡ Some (first ∷ second ∷ []) = listed ∙ λ i. Some (blanks_none none i ++ k.list i) in
        let can : CanMake p first = makings_can nat_cmp_total p owner (in_map s) kind first (second ∷ []) list in
        let made : IsMade p q owner c.end full_access zero_words entry.Empty = is_blank nat_cmp_total p whole owner own c.end can in
        let room1 : HasRoom q owner ≡ has_room t 1 = room_blank nat_cmp_total p whole owner own (in_map c.end) can ∙ room_is 1 in
        let more : live q ≡ live p + 1 = live_blank nat_cmp_total p whole owner own (in_map c.end) can in
        touch_roomy kind (has_room t 2) (make q owner second) (first ∷ second ∷ []) list
        (reference_makes p owner (in_map s) kind (first ∷ second ∷ []) list ∙ make_first p owner first (second ∷ []) ∙ ap (λ b. cond b (make_all q owner (second ∷ [])) full) room1
        ∙ ap (λ r. cond (has_room t 1) r full) (make_first q owner second [] ∙ ap (λ r. cond (HasRoom (make q owner second) owner) r full) (make_none (make q owner second)))
        ∙ both (make q owner second) (HasRoom (make q owner second) owner) (followed k made more (at_mark_of k.link k.first)))
        ∙ ap (λ o. cond (has_room t 2) (absent_or o (framed scene Zero)) Full) (no_page_away c w e m none)
      where
        both : (q : NumberedPages) (b : Bool) → b ≡ has_room t 2 → cond (has_room t 1) (cond b (granted q) full) full ≡ cond (has_room t 2) (granted q) full
        both q b r = ap (λ x. cond (has_room t 1) (cond x (granted q) full) full) r ∙ by (has_room t 1) (has_room t 2) (λ two. room_less two)
          where
            room_less : has_room t 2 ≡ true → has_room t 1 ≡ true
            room_less two = grind (arith, nat_tests, two)

            by : (one two : Bool) → (two ≡ true → one ≡ true) → cond one (cond two (granted q) full) full ≡ cond two (granted q) full
            by true two f = refl
            by false true f = absurd (let z : false ≡ true = f refl in cc z)
            by false false f = refl

        followed : (k : Copied x) → IsMade p (make p owner (blank (in_map c.end))) owner c.end full_access zero_words entry.Empty → live (make p owner (blank (in_map c.end))) ≡ live p + 1 → AtMark (entry_at p.maps) c k.link
            → HasRoom (make (make p owner (blank (in_map c.end))) owner (copy k.link.slot (private_access c))) owner ≡ has_room t 2
        followed k made more (mark_follows serial page b there ne) =
            let q : NumberedPages = make p owner (blank (in_map c.end)) in
            let still : entry_at q.maps k.link.slot ≡ Some (entry.Follows serial page b) = made.others k.link.slot ne ∙ there in
            room_copy nat_cmp_total q made.whole owner own k.link.slot (private_access c) (entry.Follows serial page b) still
            ∙ (λ i. nat_le (more i + 1) (made.limit i)) ∙ two
          where
            two : nat_le (live p + 1 + 1) p.limit ≡ has_room t 2
            two = ap (λ n. nat_le (n + 1 + 1) t.limit) (tables_live t a d sized) ∙ ap (λ n. nat_le n t.limit) (omega arith)
        followed k made more (mark_names y b there at_end named) = absurd (let z : Some y ≡ None = sym named ∙ m.page ∙ ap (option_map (name_of t.names)) none in cc z)

    granted_touch : touch_of p scene (in_map s) kind owner ≡ touch_made (away_at t.places) t scene w.home (copy_for kind w)
    granted_touch = by w.home refl (copy_for kind w) refl
      where
        by : (h : Option Home) → w.home ≡ h → (x : Option EntryAt) → copy_for kind w ≡ x → touch_of p scene (in_map s) kind owner ≡ touch_made (away_at t.places) t scene h x
        by None none None no_copy = granted_zero none no_copy
        by None none (Some x) some = granted_both x none some
        by (Some h) home None no_copy = granted_ready h home no_copy
        by (Some h) home (Some x) some = granted_copy h x home some

  -- a touch of a page of a living fork's space answers as told
  pub touch_told : (kind : Kind) → touch_of p scene (in_map s) kind owner ≡ touch_walked (away_at t.places) t scene kind (walk t.maps at)
  touch_told kind = by (walk t.maps at) found refl (walked t.names t.maps a.held at s is)
    where
      by : (w : Option Walk) (o : Option Chain) → found ≡ o → WalkIs t.names t.maps w o → touch_of p scene (in_map s) kind owner ≡ touch_walked (away_at t.places) t scene kind w
      by None None e m = touch_denied kind (made_along kind None e)
      by None (Some c) e m = absurd m
      by (Some w) None e m = absurd m
      by (Some w) (Some c) e m = permitted (permits kind c) refl
        where
          permitted : (b : Bool) → permits kind c ≡ b → touch_of p scene (in_map s) kind owner ≡ cond (allows_along kind w) (touch_made (away_at t.places) t scene w.home (copy_for kind w)) (Denied kind)
          permitted true so = granted_touch kind c w e m so ∙ sym (ap (λ b. cond b (touch_made (away_at t.places) t scene w.home (copy_for kind w)) (Denied kind)) (sym (allowed_is t.names t kind w c m) ∙ so))
          permitted false not_so = touch_denied kind (made_along kind (Some c) e ∙ ap (λ b. cond b (Some (blanks c ++ copies kind c)) None) not_so) ∙ sym (ap (λ b. cond b (touch_made (away_at t.places) t scene w.home (copy_for kind w)) (Denied kind)) (sym (allowed_is t.names t kind w c m) ∙ not_so))
