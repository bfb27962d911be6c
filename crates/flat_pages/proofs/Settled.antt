-- A page that is settled: what its touch answered, and what it answers then.
use Rattle.std.proofs.Common.{◌≡◌, ◌≢◌, inl, inr, ℕ, ◌+◌, ◌<◌, List, [], ◌∷◌, ◌++◌, Bool, true, false, cond, Option, None, Some, length, refl, sym, ◌∙◌, ap, subst, arith, is_some}
use Rattle.std.specs.Prelude.{IsSome, nat_lt, ◌==◌, slice_get, slice_set, find}
use Rattle.std.specs.Option.{option_map, option_map_or, option_and_then}
use Rattle.std.proofs.lemmas.Bool.{cases_eq}
use Rattle.std.proofs.lemmas.Bool.Decides.{nat_tests, eqb_tells}
use Rattle.std.proofs.lemmas.List.{get_or-set_same, get_or-set_other}
use Rattle.outside.specs.Drums.{IsPage}
use Rattle.machine_names.specs.declared.names.Access.{Access}
use Rattle.page_homes.specs.declared.homes.Home.{Home}
use Rattle.machine_names.specs.declared.names.Kind.{Kind}
use Rattle.machine_names.specs.declared.names.Kind.TheVariants.{Read, Write, Execute}
use Rattle.machine_names.specs.declared.names.ForkName.{ForkName}
use Rattle.machine_names.specs.declared.names.PageName.{PageName}
use Rattle.machine_names.specs.declared.names.Place.{Place}
use Rattle.machine_names.specs.declared.names.Place.TheVariants.{Fork}
use Rattle.machine_names.specs.declared.names.Slot.{Slot}
use Rattle.machine_names.specs.declared.names.Tty.{Tty}
use Rattle.page_contracts.specs.declared.answers.Touch.{Touch}
use Rattle.page_contracts.specs.declared.answers.Touch.TheVariants.{Ready, Zero, Copy, NeedFrame, Denied, Full}
use Rattle.page_contracts.specs.DrumWords.{DrumWords}
use Rattle.plain_pages.specs.PlainPages.{NumberedPages}
use Rattle.plain_pages.specs.Maps.{Chain, full_access, permits}
use Rattle.plain_pages.specs.References.{in_map, Making, blank, copy, blanks, copies, private_access, makings, make, next_making, settled, words_at, words_of}
use Rattle.machine_names.specs.PageWords.{zero_words}
use Rattle.page_contracts.specs.Pages.{Scene, IsPlace, map_set, spot_of, absent_or, framed, can_settle, SettlesTo, TakesFrames, frames_taken}
use Rattle.machine_names.specs.Bounds.{IsOwner}
use Rattle.page_contracts.specs.Stores.{StoreMeaning, IsSound, IsUsed, HomePlace, free, away, here, place, is_taken, is_here, content, FitsHomes}
use Rattle.plain_pages.proofs.Chains.{marked}
use Rattle.plain_pages.proofs.Reading.{mark_there}
use Rattle.plain_pages.proofs.ReferencesMade.{settled_makes, settled_stays}
use Rattle.flat_tables.specs.declared.held_entry.EntryAt.{EntryAt}
use Rattle.flat_tables.specs.declared.held_entry.HeldEntry.{HeldEntry}
use Rattle.flat_tables.specs.declared.held_entry.HeldEntry.TheVariants.{Empty, Page, Follows}
use Rattle.flat_tables.specs.declared.held_map.HeldMap.{HeldMap}
use Rattle.flat_tables.specs.declared.map_tables.MapTables.{MapTables}
use Rattle.flat_tables.specs.HeldMaps.{fork_at, index_of, held_entry, with_entry, name_at, points_at, living_of}
use Rattle.flat_tables.specs.Walks.{Walk, slot_of, walk}
use Rattle.flat_tables.specs.SlotTables.{Tables, plain_of, files_held, share_of, AreTables, AreSized}
use Rattle.fork_maps.specs.ChainWalks.{allows_along, copy_for}
use Rattle.flat_tables.specs.SlotTouches.{walk_of, scene_of, home_named, has_room, is_alone, touch_copy, touch_made, touch_walked, touch_of_place}
use Rattle.page_contracts.specs.Stores.{away_home, away_at}
use Rattle.flat_tables.specs.Serials.{with_next}
use Rattle.flat_tables.specs.TableSteps.{tables_of, next_name, home_taken, home_renamed}
use Rattle.flat_tables.specs.SlotSteps.{TakesHome}
use Rattle.flat_tables.proofs.HeldEntries.{total_le, points_self}
use Rattle.flat_pages.proofs.Walked.{IsCopy}
use Rattle.flat_tables.proofs.Taking.{none_shared}
use Rattle.flat_pages.proofs.Touching.{home_is, allowed_is, listed, blanks_none, blanks_some, copies_none, copied}
use Rattle.flat_pages.proofs.Settling.{sized_of, fits_set, content_here, content_set, content_other, told_blank, told_copy}
use Rattle.flat_tables.proofs.FiledHomes.{files_still}
use Rattle.flat_pages.proofs.Told.{none_filed}
use Rattle.flat_pages.proofs.Telling.{named_home}
use Rattle.flat_pages.proofs.Rooming.{here_when}
use Rattle.flat_tables.proofs.Making.{alone_share, home_under}
use Rattle.flat_pages.proofs.Meeting.{Stands, stands, Found, found_walk, home_taken_is, words_are, place_lives}
use Rattle.flat_pages.proofs.SlotSetting.{set_forks, index_same, set_lives, set_living, slot_at}
use Rattle.flat_pages.proofs.PageWalks.{marked_home, Copies, walk_filled, walk_copied}

-- where a home gets another page that is in a frame, and none of its old one was away, the pages are away that were
module _ (t t' : Tables) (a : AreTables t) (a' : AreTables t') (home : ℕ) (names : (k : ℕ) → k ≢ home → name_at t'.names k ≡ name_at t.names k) (places : (k : ℕ) → k ≢ home → place t'.places k ≡ place t.places k)
    (there : away_at t.places home ≡ None) (there' : away_at t'.places home ≡ None) where
  not_away : (n : PageName) (o : Option ℕ) → home_named t'.names n ≡ o → ((k : ℕ) → k ≢ home → name_at t.names k ≢ Some n) → option_and_then (away_at t'.places) o ≡ None
  not_away n None r others = refl
  not_away n (Some k) r others = elim (cases_eq k home) [
    | inl s ↦ ap (away_at t'.places) s ∙ there'
    | inr ne ↦ absurd (others k ne (sym (names k ne) ∙ named_home t'.names n k r))
  ]

  away_same : (n : PageName) (o : Option ℕ) → home_named t.names n ≡ o → option_and_then (away_at t'.places) (home_named t'.names n) ≡ option_and_then (away_at t.places) o
  away_same n None r = not_away n (home_named t'.names n) refl (λ k ne is. (let z : None ≡ Some k = sym r ∙ home_is t.names k n is (λ j f. a.once j k n f is) in cc z))
  away_same n (Some k) r = elim (cases_eq k home) [
    | inl s ↦ not_away n (home_named t'.names n) refl (λ j ne is. ne (a.once j k n is (named_home t.names n k r) ∙ s)) ∙ sym (ap (away_at t.places) s ∙ there)
    | inr ne ↦
        let named : name_at t'.names k ≡ Some n = names k ne ∙ named_home t.names n k r in
        ap (option_and_then (away_at t'.places)) (home_is t'.names k n named (λ j f. a'.once j k n f named)) ∙ ap (λ p. away_home p k) (places k ne)
  ]

  pub takes_frames : (frames frames' n : ℕ) → frames' + n ≡ frames → TakesFrames (scene_of t frames) (scene_of t' frames') n
  takes_frames frames frames' n sum = record { maps = refl; pages = λ i. λ x. away_same x (home_named t.names x) refl i; frames = sum }

pub slot_lives : (maps : List HeldMap) (at : EntryAt) (s : Slot) → slot_of maps at ≡ Some s → IsSome (fork_at maps at.map)
slot_lives maps at s is = by (fork_at maps at.map) is
  where
    by : (o : Option ForkName) → option_map (λ f. record { fork = f; page = at.page }) o ≡ Some s → IsSome o
    by None k = absurd (cc k)
    by (Some f) k = refl

-- a fork lives on where an entry is set
pub still_lives : (maps maps' : List HeldMap) (at : EntryAt) (e : HeldEntry) → maps' ≡ with_entry maps at e → (f : ForkName) → is_some (index_of maps f) ≡ true → is_some (index_of maps' f) ≡ true
still_lives maps maps' at e is f lives = ap (λ (by : ForkName → Bool). by f) (set_lives maps maps' at e is) ∙ lives

pub one_is : (n : ℕ) → n ≡ 1 → (n == 1) ≡ true
one_is n e = grind (arith, nat_tests, e)

pub not_one : (n : ℕ) → n ≢ 1 → (n == 1) ≡ false
not_one n ne = elim (eqb_tells n 1) [ inl t ↦ absurd (ne t.1) | inr t ↦ t.0 ]

-- the chain of a slot ends at the page of a home
pub record EndsAt (maps : List HeldMap) (s : Slot) (h : Home) : Type 0 where
  pub walk : Walk
  pub is : walk_of maps s ≡ Some walk
  pub home : walk.home ≡ Some h

-- a slot whose touch announces what is to be made
pub record Announced (t : Tables) (frames : ℕ) (s : Slot) (kind : Kind) (w : Walk) : Type 0 where
  pub lives : is_some (index_of t.maps s.fork) ≡ true
  pub walks : walk_of t.maps s ≡ Some w
  pub ready : can_settle (touch_of_place t frames (Fork s) kind) ≡ true

-- what is told of the tables once a page of a place is settled
pub record Settles (t u : Tables) (frames frames' : ℕ) (at : Place) (kind : Kind) (owner : Tty) : Type 0 where
  pub told : (d : DrumWords) → FitsHomes t.places d → FitsHomes u.places d × (plain_of u d ≡ settled (plain_of t d) (spot_of at) kind owner)
  pub settles : SettlesTo (touch_of_place t frames at kind) (touch_of_place u frames' at kind)
  pub scene : TakesFrames (scene_of t frames) (scene_of u frames') (frames_taken (touch_of_place t frames at kind))
  pub count : u.taken + u.living ≡ t.taken + t.living + frames_taken (touch_of_place t frames at kind)
  pub lives : ◌≡◌ {A = ForkName → Bool} (λ f. is_some (index_of u.maps f)) (λ f. is_some (index_of t.maps f))
  pub forks : living_of u.maps ≡ living_of t.maps
  pub filed : files_held u.names u.files ≡ files_held t.names t.files

-- what a copy's touch may answer
abbrev pub copying : Option ℕ → Bool → Bool → Bool → Touch
copying o true room frame = absent_or o (Copy true)
copying o false room frame = cond room (absent_or o (cond frame (Copy false) NeedFrame)) Full

pub record Copying (o : Option ℕ) (alone b c : Bool) : Type 0 where
  pub none : o ≡ None
  pub is : copying o alone b c ≡ Copy alone
  pub room : alone ≡ false → b ≡ true
  pub frame : alone ≡ false → c ≡ true

pub can_copying : (o : Option ℕ) (alone room frame : Bool) → can_settle (copying o alone room frame) ≡ true → Copying o alone room frame
can_copying None true room frame k = record { none = refl; is = refl; room = λ z. absurd (cc z); frame = λ z. absurd (cc z) }
can_copying (Some h) true room frame k = absurd (cc k)
can_copying None false true true k = record { none = refl; is = refl; room = λ z. refl; frame = λ z. refl }
can_copying None false true false k = absurd (cc k)
can_copying (Some h) false true frame k = absurd (cc k)
can_copying None false false frame k = absurd (cc k)
can_copying (Some h) false false frame k = absurd (cc k)

copying_is : (t : Tables) (frames : ℕ) (o : Option ℕ) (alone : Bool) → touch_copy t (scene_of t frames) o alone ≡ copying o alone (has_room t 1) (nat_lt 0 frames)
copying_is t frames o true = refl
copying_is t frames o false = refl

-- a copy that can be made
pub record CanCopy (t : Tables) (frames : ℕ) (s : Slot) (kind : Kind) (h : Home) (m : EntryAt) : Type 0 where
  pub away : away_at t.places h.0 ≡ None
  pub is : touch_of_place t frames (Fork s) kind ≡ Copy (is_alone t.shares (held_entry t.maps m))
  pub room : is_alone t.shares (held_entry t.maps m) ≡ false → has_room t 1 ≡ true
  pub frame : is_alone t.shares (held_entry t.maps m) ≡ false → 0 < frames

module _ (t : Tables) (a : AreTables t) (frames : ℕ) (s : Slot) (kind : Kind) (w : Walk) (r : Announced t frames s kind w) where
  abbrev scene : Scene
  scene = scene_of t frames

  abbrev touch : Touch
  touch = touch_of_place t frames (Fork s) kind

  abbrev made : Touch
  made = touch_made (away_at t.places) t scene w.home (copy_for kind w)

  touch_is : touch ≡ cond (allows_along kind w) made (Denied kind)
  touch_is = ap (touch_walked (away_at t.places) t scene kind) r.walks

  pub permitted : allows_along kind w ≡ true
  permitted = by (allows_along kind w) (sym (ap can_settle touch_is) ∙ r.ready)
    where
      by : (b : Bool) → can_settle (cond b made (Denied kind)) ≡ true → b ≡ true
      by true k = refl
      by false k = absurd (cc k)

  made_is : touch ≡ made
  made_is = touch_is ∙ ap (λ b. cond b made (Denied kind)) permitted

  can : can_settle made ≡ true
  can = sym (ap can_settle made_is) ∙ r.ready

  pub walk_found : Found t s w
  walk_found = found_walk t a s w r.lives r.walks

  -- for a zero page
  zero_touch : w.home ≡ None → touch ≡ Zero
  zero_touch none = made_is ∙ ap (λ h. touch_made (away_at t.places) t scene h (copy_for kind w)) none ∙ by (copy_for kind w) (sym (ap (λ h. can_settle (touch_made (away_at t.places) t scene h (copy_for kind w))) none) ∙ can)
    where
      zero : (room some : Bool) → can_settle (cond room (cond some Zero NeedFrame) Full) ≡ true → cond room (cond some Zero NeedFrame) Full ≡ Zero
      zero true true k = refl
      zero true false k = absurd (cc k)
      zero false some k = absurd (cc k)

      by : (m : Option EntryAt) → can_settle (touch_made (away_at t.places) t scene None m) ≡ true → touch_made (away_at t.places) t scene None m ≡ Zero
      by None k = zero (has_room t 1) (nat_lt 0 frames) k
      by (Some m) k = zero (has_room t 2) (nat_lt 0 frames) k

  zero_room : w.home ≡ None → (m : EntryAt) → copy_for kind w ≡ Some m → has_room t 2 ≡ true
  zero_room none m some = by (has_room t 2) (sym (λ i. can_settle (touch_made (away_at t.places) t scene (none i) (some i))) ∙ can)
    where
      by : (room : Bool) → can_settle (cond room (framed scene Zero) Full) ≡ true → room ≡ true
      by true k = refl
      by false k = absurd (cc k)

  -- there is room for it, and a frame
  pub zero_fits : w.home ≡ None → (has_room t 1 ≡ true) × (0 < frames)
  zero_fits none = by (copy_for kind w) (sym (ap (λ h. can_settle (touch_made (away_at t.places) t scene h (copy_for kind w))) none) ∙ can)
    where
      both : (room some : Bool) → can_settle (cond room (cond some Zero NeedFrame) Full) ≡ true → (room ≡ true) × (some ≡ true)
      both true true k = (refl, refl)
      both true false k = absurd (cc k)
      both false some k = absurd (cc k)

      above : nat_lt 0 frames ≡ true → 0 < frames
      above some = grind (arith, nat_tests, some)

      fewer : has_room t 2 ≡ true → has_room t 1 ≡ true
      fewer two = grind (arith, nat_tests, two)

      by : (m : Option EntryAt) → can_settle (touch_made (away_at t.places) t scene None m) ≡ true → (has_room t 1 ≡ true) × (0 < frames)
      by None k = let b = both (has_room t 1) (nat_lt 0 frames) k in (b.0, above b.1)
      by (Some m) k = let b = both (has_room t 2) (nat_lt 0 frames) k in (fewer b.0, above b.1)

  -- for a copy
  pub can_copy : (h : Home) (m : EntryAt) → w.home ≡ Some h → copy_for kind w ≡ Some m → CanCopy t frames s kind h m
  can_copy h m home some =
      let alone = is_alone t.shares (held_entry t.maps m) in
      let is : made ≡ copying (away_at t.places h.0) alone (has_room t 1) (nat_lt 0 frames) = (λ i. touch_made (away_at t.places) t scene (home i) (some i)) ∙ copying_is t frames (away_at t.places h.0) alone in
      let k = can_copying (away_at t.places h.0) alone (has_room t 1) (nat_lt 0 frames) (sym (ap can_settle is) ∙ can) in
      record { away = k.none; is = made_is ∙ is ∙ k.is; room = k.room; frame = λ shared. (let f = k.frame shared in grind (arith, nat_tests, f)) }

  -- for none
  pub ready_away : (h : Home) → w.home ≡ Some h → copy_for kind w ≡ None → away_at t.places h.0 ≡ None
  ready_away h home none = by (away_at t.places h.0) (sym (λ i. can_settle (touch_made (away_at t.places) t scene (home i) (none i))) ∙ can)
    where
      by : (o : Option ℕ) → can_settle (absent_or o Ready) ≡ true → o ≡ None
      by None k = refl
      by (Some x) k = absurd (cc k)

  pub is_ready : (h : Home) → w.home ≡ Some h → copy_for kind w ≡ None → touch ≡ Ready
  is_ready h home none = made_is ∙ (λ i. touch_made (away_at t.places) t scene (home i) (none i)) ∙ ap (λ o. absent_or o Ready) (ready_away h home none)

  pub home_here : (h : Home) → w.home ≡ Some h → away_at t.places h.0 ≡ None → is_here (place t.places h.0) ≡ true
  home_here h home in_core = here_when t.places h.0 (home_taken_is t a s w walk_found h home) in_core

  -- where the chain starts
  stand : Stands t.maps s
  stand = stands t.maps s r.lives

  abbrev start : EntryAt
  start = record { map = stand.at.map; page = s.page }

  start_slot : slot_of t.maps start ≡ Some s
  start_slot = slot_at t.maps s stand.at.map stand.index

  starts : walk t.maps start ≡ Some w
  starts = sym (ap (option_and_then (λ k. walk t.maps (record { map = k; page = s.page }))) stand.index) ∙ r.walks

  starts_in : (to : EntryAt) (x : HeldEntry) → walk_of (with_entry t.maps to x) s ≡ walk (with_entry t.maps to x) start
  starts_in to x =
      ap (option_and_then (λ k. walk (with_entry t.maps to x) (record { map = k; page = s.page }))) (index_same (with_entry t.maps to x) t.maps (set_forks t.maps (with_entry t.maps to x) to x refl) s.fork ∙ stand.index)

  zero_walk : (u : Tables) (h : Home) → w.home ≡ None → u.maps ≡ with_entry t.maps w.end (Page h full_access) → walk_of u.maps s ≡ Some (record w { home = Some h })
  zero_walk u h none maps = ap (λ (ms : List HeldMap). walk_of ms s) maps ∙ starts_in w.end (Page h full_access) ∙ walk_filled t.maps w.end h full_access Empty (walk_found.meets.empty none) refl refl start w starts refl

  pub zero_ends : (u : Tables) (h : Home) → w.home ≡ None → u.maps ≡ with_entry t.maps w.end (Page h full_access) → EndsAt u.maps s h
  zero_ends u h none maps = record { walk = record w { home = Some h }; is = zero_walk u h none maps; home = refl }

  -- once a zero page stands at the chain's end
  zero_settles : (u : Tables) (h : Home) (frames' : ℕ) → w.home ≡ None → u.maps ≡ with_entry t.maps w.end (Page h full_access) → away_at u.places h.0 ≡ None → (has_room t 2 ≡ true → has_room u 1 ≡ true) → SettlesTo touch (touch_of_place u frames' (Fork s) kind)
  zero_settles u h frames' none maps there room = subst (λ (x : Touch). SettlesTo x (touch_of_place u frames' (Fork s) kind)) (sym (zero_touch none)) (subst (λ (x : Touch). SettlesTo Zero x) (sym new) (after (copy_for kind w) (λ m e. zero_room none m e)))
    where
      allows_same : (k : Kind) → allows_along k (record w { home = Some h }) ≡ allows_along k w
      allows_same Read = refl
      allows_same Write = refl
      allows_same Execute = refl

      copy_same : (k : Kind) → copy_for k (record w { home = Some h }) ≡ copy_for k w
      copy_same Read = refl
      copy_same Write = refl
      copy_same Execute = refl

      new : touch_of_place u frames' (Fork s) kind ≡ touch_made (away_at u.places) u (scene_of u frames') (Some h) (copy_for kind w)
      new =
          ap (touch_walked (away_at u.places) u (scene_of u frames') kind) (zero_walk u h none maps)
          ∙ (λ i. cond (allows_same kind i) (touch_made (away_at u.places) u (scene_of u frames') (Some h) (copy_same kind i)) (Denied kind))
          ∙ ap (λ b. cond b (touch_made (away_at u.places) u (scene_of u frames') (Some h) (copy_for kind w)) (Denied kind)) permitted

      in_frame : (b : Bool) → SettlesTo Zero (cond b (Copy false) NeedFrame)
      in_frame true = inr (inl (false, refl))
      in_frame false = inr (inr refl)

      copies_then : (alone : Bool) → has_room u 1 ≡ true → SettlesTo Zero (touch_copy u (scene_of u frames') None alone)
      copies_then true k = inr (inl (true, refl))
      copies_then false k = subst (λ b. SettlesTo Zero (cond b (framed (scene_of u frames') (Copy false)) Full)) (sym k) (in_frame (nat_lt 0 frames'))

      after : (c : Option EntryAt) → ((m : EntryAt) → c ≡ Some m → has_room t 2 ≡ true) → SettlesTo Zero (touch_made (away_at u.places) u (scene_of u frames') (Some h) c)
      after None two = inl (ap (λ o. absent_or o Ready) there)
      after (Some m) two = subst (λ o. SettlesTo Zero (touch_copy u (scene_of u frames') o (is_alone u.shares (held_entry u.maps m)))) (sym there) (copies_then (is_alone u.shares (held_entry u.maps m)) (room (two m refl)))

  only_write : (k : Kind) (m : EntryAt) → copy_for k w ≡ Some m → (k ≡ Write) × (w.copy ≡ Some m)
  only_write Read m e = absurd (cc e)
  only_write Execute m e = absurd (cc e)
  only_write Write m e = (refl, e)

  pub copy_marked : (m : EntryAt) → copy_for kind w ≡ Some m → w.copy ≡ Some m
  copy_marked m some = (let k = only_write kind m some in k.1)

  -- the entry with the mark is of a fork that lives
  pub copy_lives : (m : EntryAt) → copy_for kind w ≡ Some m → IsSome (fork_at t.maps m.map)
  copy_lives m some = by w.copy (copy_marked m some) walk_found.meets.copy
    where
      by : (o : Option EntryAt) → o ≡ Some m → IsCopy t.maps o (find marked walk_found.links.links) → IsSome (fork_at t.maps m.map)
      by None e k = absurd (cc e)
      by (Some x) e k = let same : x ≡ m = cc e in slot_lives t.maps m k.0.slot (ap (slot_of t.maps) (sym same) ∙ k.2)

  -- and names the page at the end, if it names one
  pub alone_home : (h : Home) (m : EntryAt) (g : Home) (b : Access) → w.home ≡ Some h → copy_for kind w ≡ Some m → held_entry t.maps m ≡ Some (Page g b) → g ≡ h
  alone_home h m g b home some there = (let z : Some g ≡ Some h = sym (marked_home t.maps m g b there start w starts (copy_marked m some)) ∙ home in cc z)

  -- the page to be copied is in a frame
  pub copy_here : (h : Home) (m : EntryAt) → w.home ≡ Some h → copy_for kind w ≡ Some m → is_here (place t.places h.0) ≡ true
  copy_here h m home some = home_here h home (can_copy h m home some).away

  -- it has another name, where it is not that of the entry with the mark, or has more names than one
  pub copy_shared : (h : Home) (m : EntryAt) (e : HeldEntry) → w.home ≡ Some h → copy_for kind w ≡ Some m → held_entry t.maps m ≡ Some e → ((g : Home) (b : Access) → e ≡ Page g b → share_of t.shares h.0 ≢ 1) → is_alone t.shares (held_entry t.maps m) ≡ false
  copy_shared h m Empty home some there more = ap (is_alone t.shares) there
  copy_shared h m (Follows l b) home some there more = ap (is_alone t.shares) there
  copy_shared h m (Page g b) home some there more =
      ap (is_alone t.shares) there ∙ ap (λ (x : Home). is_alone t.shares (Some (Page x b))) (alone_home h m g b home some there) ∙ not_one (share_of t.shares h.0) (more g b refl)

  copy_walk : (h : Home) (m : EntryAt) (b : Access) (q : HeldEntry) → copy_for kind w ≡ Some m → held_entry t.maps m ≡ Some q → b.c ≡ false → b.w ≡ true → Copies h (walk (with_entry t.maps m (Page h b)) start)
  copy_walk h m b q some there plain writable =
      let k = only_write kind m some in
      let writes : w.writes ≡ true = ap (λ (x : Kind). allows_along x w) (sym k.0) ∙ permitted in
      walk_copied t.maps m h b q there plain writable start w starts k.1 writes

  pub copy_ends : (u : Tables) (h : Home) (m : EntryAt) (b : Access) (q : HeldEntry) → copy_for kind w ≡ Some m → held_entry t.maps m ≡ Some q → b.c ≡ false → b.w ≡ true → u.maps ≡ with_entry t.maps m (Page h b) → EndsAt u.maps s h
  copy_ends u h m b q some there plain writable maps =
      let c = copy_walk h m b q some there plain writable in
      record { walk = c.walk; is = ap (λ (ms : List HeldMap). walk_of ms s) maps ∙ starts_in m (Page h b) ∙ c.is; home = c.home }

  -- once a copy stands where the mark was
  copy_ready : (u : Tables) (h : Home) (m : EntryAt) (b : Access) (q : HeldEntry) (frames' : ℕ) → copy_for kind w ≡ Some m → held_entry t.maps m ≡ Some q → b.c ≡ false → b.w ≡ true → u.maps ≡ with_entry t.maps m (Page h b) → away_at u.places h.0 ≡ None
      → touch_of_place u frames' (Fork s) kind ≡ Ready
  copy_ready u h m b q frames' some there plain writable maps in_core =
      let k = only_write kind m some in
      let c = copy_walk h m b q some there plain writable in
      ap (λ (x : Kind). touch_of_place u frames' (Fork s) x) k.0
      ∙ ap (touch_walked (away_at u.places) u (scene_of u frames') Write) (ap (λ (ms : List HeldMap). walk_of ms s) maps ∙ starts_in m (Page h b) ∙ c.is)
      ∙ (λ i. cond (c.writes i) (touch_made (away_at u.places) u (scene_of u frames') (c.home i) (c.copy i)) (Denied Write))
      ∙ ap (λ o. absent_or o Ready) in_core

  -- what the plain pages are then
  module _ (d : DrumWords) (sized : AreSized t.places d) (owner : Tty) (own : IsOwner owner) where
    abbrev p : NumberedPages
    p = plain_of t d

    abbrev c : Chain
    c = walk_found.links

    yes : permits kind c ≡ true
    yes = allowed_is t.names t kind w c walk_found.meets ∙ permitted

    list : makings p (in_map s) kind ≡ Some (blanks c ++ copies kind c)
    list = listed t a frames d sized owner own start s start_slot kind c w walk_found.is walk_found.meets yes

    -- with nothing to be made they stay
    pub stays_told : (h : Home) → w.home ≡ Some h → copy_for kind w ≡ None → p ≡ settled p (in_map s) kind owner
    stays_told h home none =
        sym (settled_stays p owner (in_map s) kind
        (list ∙ λ i. Some (blanks_some t a frames d sized owner own start s start_slot kind c w walk_found.is walk_found.meets yes h home i
        ++ copies_none t a frames d sized owner own start s start_slot kind c w walk_found.is walk_found.meets yes none i)))

    -- where an entry is set to what is made
    set_first : (m : Making ℕ) (rest : List (Making ℕ)) → makings p (in_map s) kind ≡ Some (m ∷ rest) → map_set (next_making p (in_map s) kind) ≡ map_set (Some m)
    set_first m rest h = ap (λ (x : Option (List (Making ℕ))). map_set (option_and_then (λ ms. slice_get ms 0) x)) h

    -- that is no map where nothing is made
    pub stays_set : (h : Home) → w.home ≡ Some h → copy_for kind w ≡ None → None ≡ map_set (next_making p (in_map s) kind)
    stays_set h home none =
        sym (ap (λ (x : Option (List (Making ℕ))). map_set (option_and_then (λ ms. slice_get ms 0) x))
        (list ∙ λ i. Some (blanks_some t a frames d sized owner own start s start_slot kind c w walk_found.is walk_found.meets yes h home i
        ++ copies_none t a frames d sized owner own start s start_slot kind c w walk_found.is walk_found.meets yes none i)))

    -- the map at the chain's end for a zero page
    pub zero_set : w.home ≡ None → (e : Slot) → slot_of t.maps w.end ≡ Some e → Some e.fork ≡ map_set (next_making p (in_map s) kind)
    zero_set none e at =
        let z : Some e ≡ Some c.end = sym at ∙ walk_found.meets.end in
        let same : e ≡ c.end = cc z in
        ap (λ (x : Slot). Some x.fork) same
        ∙ sym (set_first (blank (in_map c.end)) (copies kind c) (list ∙ λ i. Some (blanks_none t a frames d sized owner own start s start_slot kind c w walk_found.is walk_found.meets yes none i ++ copies kind c)))

    -- and that of the first copy mark for a copy
    pub copy_set : (h : Home) (m : EntryAt) (e : Slot) → w.home ≡ Some h → copy_for kind w ≡ Some m → slot_of t.maps m ≡ Some e → Some e.fork ≡ map_set (next_making p (in_map s) kind)
    copy_set h m e home some at =
        let k = copied t a frames d sized owner own start s start_slot kind c w walk_found.is walk_found.meets yes m some in
        let z : Some e ≡ Some k.link.slot = sym at ∙ k.there in
        let same : e ≡ k.link.slot = cc z in
        ap (λ (x : Slot). Some x.fork) same
        ∙ sym (set_first (copy k.link.slot (private_access c)) []
        (list ∙ λ i. Some (blanks_some t a frames d sized owner own start s start_slot kind c w walk_found.is walk_found.meets yes h home i ++ k.list i)))

    module _ (u : Tables) (a' : AreTables u) (sized' : AreSized u.places d) (h : Home) (below : h.0 < t.limit) where
      -- a zero page
      zero_told : w.home ≡ None → share_of t.shares h.0 ≡ 0 → u.names ≡ slice_set t.names h.0 (Some (next_name t.serials owner)) → u.maps ≡ with_entry t.maps w.end (Page h full_access) → u.files ≡ t.files → u.serials ≡ with_next t.serials owner → u.limit ≡ t.limit
          → content u.places d h.0 ≡ Some zero_words → ((k : ℕ) → k ≢ h.0 → content u.places d k ≡ content t.places d k) → plain_of u d ≡ settled p (in_map s) kind owner
      zero_told none alone names maps files serials limit held kept =
          told_blank t a d sized owner own h.0 below w.end c.end Empty full_access walk_found.meets.end (walk_found.meets.empty none) alone zero_words u a' sized' names maps files serials limit held kept refl refl refl
          ∙ sym (settled_makes p owner (in_map s) kind (blank (in_map c.end)) (copies kind c)
          (list ∙ λ i. Some (blanks_none t a frames d sized owner own start s start_slot kind c w walk_found.is walk_found.meets yes none i ++ copies kind c)))

      -- a copy
      copy_told : (old : Home) (m : EntryAt) (b : Access) (q : HeldEntry) (words : List ℕ) → w.home ≡ Some old → copy_for kind w ≡ Some m → held_entry t.maps m ≡ Some q → b ≡ record full_access { x = w.executes } → share_of t.shares h.0 ≡ points_at h.0 q
          → place t.places old.0 ≡ here words → u.names ≡ slice_set t.names h.0 (Some (next_name t.serials owner)) → u.maps ≡ with_entry t.maps m (Page h b) → u.files ≡ t.files → u.serials ≡ with_next t.serials owner → u.limit ≡ t.limit
          → content u.places d h.0 ≡ Some words → ((k : ℕ) → k ≢ h.0 → content u.places d k ≡ content t.places d k) → plain_of u d ≡ settled p (in_map s) kind owner
      copy_told old m b q words home some there access alone old_words names maps files serials limit held kept =
          let k = copied t a frames d sized owner own start s start_slot kind c w walk_found.is walk_found.meets yes m some in
          let from = mark_there p s c k.link walk_found.is k.first in
          let same : words ≡ words_at p (in_map k.link.slot) = sym (words_are t a s w walk_found d sized old words home (content_here t.places d old.0 words old_words)) ∙ sym (ap (λ (o : Option PageName). option_map_or (words_of p) o zero_words) from.2) in
          told_copy t a d sized owner own h.0 below m k.link.slot q b k.there there alone words u a' sized' names maps files serials limit held kept same
          ∙ ap (λ (x : Access). make p owner (copy k.link.slot x)) (access ∙ ap (λ x. record full_access { x = x }) (sym walk_found.meets.executes))
          ∙ sym (settled_makes p owner (in_map s) kind (copy k.link.slot (private_access c)) []
          (list ∙ λ i. Some (blanks_some t a frames d sized owner own start s start_slot kind c w walk_found.is walk_found.meets yes old home i ++ k.list i)))

abbrev pub ArePages : Tables → Type 0
ArePages t = (h : ℕ) (words : List ℕ) → place t.places h ≡ here words → IsPage words

-- a page that is there is used
pub used_settled : (t : Tables) (a : AreTables t) → ArePages t → (frames : ℕ) (s : Slot) (kind : Kind) (w : Walk) (r : Announced t frames s kind w) (owner : Tty) → IsOwner owner → (h : Home) → w.home ≡ Some h → copy_for kind w ≡ None
    → Settles t t frames frames (Fork s) kind owner
used_settled t a pages frames s kind w r owner own h home none =
    let is = is_ready t a frames s kind w r h home none in
    record {
      told = λ d fits. (fits, stays_told t a frames s kind w r d (sized_of t.places d fits pages) owner own h home none);
      settles = subst (λ (x : Touch). SettlesTo x (touch_of_place t frames (Fork s) kind)) (sym is) is;
      scene = subst (λ (x : Touch). TakesFrames (scene_of t frames) (scene_of t frames) (frames_taken x)) (sym is) (record { maps = refl; pages = refl; frames = omega arith });
      count = subst (λ (x : Touch). t.taken + t.living ≡ t.taken + t.living + frames_taken x) (sym is) (omega arith);
      lives = refl;
      forks = refl;
      filed = refl;
    }

-- a free home's page is named by no entry
pub unused : (t : Tables) → AreTables t → (h : ℕ) → place t.places h ≡ free → share_of t.shares h ≡ 0
unused t a h is = none_shared (share_of t.shares h) (sym (a.shared h) ∙ sym (a.is_taken h) ∙ ap is_taken is)

unused_by : (t : Tables) → AreTables t → (h : ℕ) → place t.places h ≡ free → (at : EntryAt) (q : HeldEntry) → held_entry t.maps at ≡ Some q → share_of t.shares h ≡ points_at h q
unused_by t a h is at q there = omega (arith, unused t a h is, a.shares h, total_le (points_at h) t.maps at q refl there)

-- a home with a new name that no file names leaves what files name
renamed_files : (t : Tables) (a : AreTables t) (owner : Tty) (home : ℕ) (at : EntryAt) (q : HeldEntry) → held_entry t.maps at ≡ Some q → share_of t.shares home ≡ points_at home q
    → files_held (slice_set t.names home (Some (next_name t.serials owner))) t.files ≡ files_held t.names t.files
renamed_files t a owner home at q there alone =
    files_still t.names (slice_set t.names home (Some (next_name t.serials owner))) t.files home (none_filed t a at q home there alone) (λ k ne. get_or-set_other t.names home k (Some (next_name t.serials owner)) None ne)

-- a home is taken for a page
module _ (t : Tables) (a : AreTables t) (pages : ArePages t) (frames : ℕ) (s : Slot) (kind : Kind) (w : Walk) (r : Announced t frames s kind w) (owner : Tty) (own : IsOwner owner) (h : Home) (below : h.0 < t.limit) (was_free : place t.places h.0 ≡ free) (frames' : ℕ) (taken : frames' + 1 ≡ frames) where
  within : h.0 < length t.places
  within = omega (arith, below, a.homes)

  free_home : away_at t.places h.0 ≡ None
  free_home = ap (λ p. away_home p h.0) was_free

  module _ (at : EntryAt) (words : List ℕ) (b : Access) where
    abbrev u : Tables
    u = home_taken t at h (here words) b owner

    placed : place u.places h.0 ≡ here words
    placed = get_or-set_same t.places h.0 (here words) free within

    placed_here : away_at u.places h.0 ≡ None
    placed_here = ap (λ p. away_home p h.0) placed

    taken_scene : AreTables u → TakesFrames (scene_of t frames) (scene_of u frames') 1
    taken_scene a' = takes_frames t u a a' h.0 (λ k ne. get_or-set_other t.names h.0 k (Some (next_name t.serials owner)) None ne) (λ k ne. get_or-set_other t.places h.0 k (here words) free ne) free_home placed_here frames frames' 1 taken

    content_there : (d : DrumWords) → content u.places d h.0 ≡ Some words
    content_there d = content_set t.places d h.0 words within

    content_kept : (d : DrumWords) (k : ℕ) → k ≢ h.0 → content u.places d k ≡ content t.places d k
    content_kept d k ne = content_other t.places d h.0 k (here words) ne

  pub zero_settled : w.home ≡ None → AreTables (home_taken t w.end h (here zero_words) full_access owner) → ArePages (home_taken t w.end h (here zero_words) full_access owner)
      → Settles t (home_taken t w.end h (here zero_words) full_access owner) frames frames' (Fork s) kind owner
  zero_settled none a' pages' =
      let v : Tables = home_taken t w.end h (here zero_words) full_access owner in
      let is : touch_of_place t frames (Fork s) kind ≡ Zero = zero_touch t a frames s kind w r none in
      let end : held_entry t.maps w.end ≡ Some Empty = (walk_found t a frames s kind w r).meets.empty none in
      record {
        told = λ d fits. (
          fits_set t.places d h.0 (here zero_words) fits,
          zero_told t a frames s kind w r d (sized_of t.places d fits pages) owner own v a' (sized_of v.places d (fits_set t.places d h.0 (here zero_words) fits) pages') h below none (unused t a h.0 was_free) refl refl refl refl refl
              (content_there w.end zero_words full_access d) (content_kept w.end zero_words full_access d),
        );
        settles = zero_settles t a frames s kind w r v h frames' none refl (placed_here w.end zero_words full_access) (λ two. grind (arith, nat_tests, two));
        scene = subst (λ (x : Touch). TakesFrames (scene_of t frames) (scene_of v frames') (frames_taken x)) (sym is) (taken_scene w.end zero_words full_access a');
        count = subst (λ (x : Touch). v.taken + v.living ≡ t.taken + t.living + frames_taken x) (sym is) (omega arith);
        lives = set_lives t.maps v.maps w.end (Page h full_access) refl;
        forks = set_living t.maps v.maps w.end (Page h full_access) refl;
        filed = renamed_files t a owner h.0 w.end Empty end (unused t a h.0 was_free);
      }

  pub copy_settled : (old : Home) (m : EntryAt) (b : Access) (q : HeldEntry) (words : List ℕ) → w.home ≡ Some old → copy_for kind w ≡ Some m → held_entry t.maps m ≡ Some q → b ≡ record full_access { x = w.executes } → is_alone t.shares (held_entry t.maps m) ≡ false
      → place t.places old.0 ≡ here words → AreTables (home_taken t m h (here words) b owner) → ArePages (home_taken t m h (here words) b owner) → Settles t (home_taken t m h (here words) b owner) frames frames' (Fork s) kind owner
  copy_settled old m b q words home some there access shared old_words a' pages' =
      let v : Tables = home_taken t m h (here words) b owner in
      let is : touch_of_place t frames (Fork s) kind ≡ Copy false = (can_copy t a frames s kind w r old m home some).is ∙ ap Copy shared in
      record {
        told = λ d fits. (
          fits_set t.places d h.0 (here words) fits,
          copy_told t a frames s kind w r d (sized_of t.places d fits pages) owner own v a' (sized_of v.places d (fits_set t.places d h.0 (here words) fits) pages') h below old m b q words home some there access (unused_by t a h.0 was_free m q there)
              old_words refl refl refl refl refl (content_there m words b d) (content_kept m words b d),
        );
        settles = subst (λ (x : Touch). SettlesTo x (touch_of_place v frames' (Fork s) kind)) (sym is) (copy_ready t a frames s kind w r v h m b q frames' some there (ap (λ (x : Access). x.c) access) (ap (λ (x : Access). x.w) access) refl (placed_here m words b));
        scene = subst (λ (x : Touch). TakesFrames (scene_of t frames) (scene_of v frames') (frames_taken x)) (sym is) (taken_scene m words b a');
        count = subst (λ (x : Touch). v.taken + v.living ≡ t.taken + t.living + frames_taken x) (sym is) (omega arith);
        lives = set_lives t.maps v.maps m (Page h b) refl;
        forks = set_living t.maps v.maps m (Page h b) refl;
        filed = renamed_files t a owner h.0 m q there (unused_by t a h.0 was_free m q there);
      }

-- the home of a page that one entry alone names becomes that of its copy
module _ (t : Tables) (a : AreTables t) (pages : ArePages t) (frames : ℕ) (s : Slot) (kind : Kind) (w : Walk) (r : Announced t frames s kind w) (owner : Tty) (own : IsOwner owner) (h : Home) (m : EntryAt) (b old : Access) (words : List ℕ) (home : w.home ≡ Some h) (some : copy_for kind w ≡ Some m)
    (there : held_entry t.maps m ≡ Some (Page h old)) (access : b ≡ record full_access { x = w.executes }) (alone : is_alone t.shares (held_entry t.maps m) ≡ true) (old_words : place t.places h.0 ≡ here words) where
  abbrev v : Tables
  v = home_renamed t m h b owner

  pub alone_settled : AreTables v → Settles t v frames frames (Fork s) kind owner
  alone_settled a' =
      let is : touch_of_place t frames (Fork s) kind ≡ Copy true = (can_copy t a frames s kind w r h m home some).is ∙ ap Copy alone in
      let in_core : away_at t.places h.0 ≡ None = ap (λ p. away_home p h.0) old_words in
      let one : share_of t.shares h.0 ≡ 1 = alone_share t h old (ap (is_alone t.shares) (sym there) ∙ alone) in
      record {
        told = λ d fits. (
          fits,
          copy_told t a frames s kind w r d (sized_of t.places d fits pages) owner own v a' (sized_of t.places d fits pages) h (home_under t a h.0 (ap is_taken old_words)) h m b (Page h old) words home some there access (one ∙ sym (points_self h old))
              old_words refl refl refl refl refl (content_here t.places d h.0 words old_words) (λ k ne. refl),
        );
        settles = subst (λ (x : Touch). SettlesTo x (touch_of_place v frames (Fork s) kind)) (sym is) (copy_ready t a frames s kind w r v h m b (Page h old) frames some there (ap (λ (x : Access). x.c) access) (ap (λ (x : Access). x.w) access) refl in_core);
        scene = subst (λ (x : Touch). TakesFrames (scene_of t frames) (scene_of v frames) (frames_taken x)) (sym is)
            (takes_frames t v a a' h.0 (λ k ne. get_or-set_other t.names h.0 k (Some (next_name t.serials owner)) None ne) (λ k ne. refl) in_core in_core frames frames 0 (omega arith));
        count = subst (λ (x : Touch). v.taken + v.living ≡ t.taken + t.living + frames_taken x) (sym is) (omega arith);
        lives = set_lives t.maps v.maps m (Page h b) refl;
        forks = set_living t.maps v.maps m (Page h b) refl;
        filed = renamed_files t a owner h.0 m (Page h old) there (one ∙ sym (points_self h old));
      }

-- what a slot's touch announces
pub announced : (t : Tables) (frames : ℕ) (at : Place) (s : Slot) (kind : Kind) (w : Walk) → at ≡ Fork s → IsPlace (λ f. is_some (index_of t.maps f)) at → walk_of t.maps s ≡ Some w → can_settle (touch_of_place t frames at kind) ≡ true → Announced t frames s kind w
announced t frames at s kind w is there walks ready = record { lives = (place_lives (λ f. is_some (index_of t.maps f)) at s is there).0; walks = walks; ready = ap (λ (x : Place). can_settle (touch_of_place t frames x kind)) (sym is) ∙ ready }

here_words : (p : HomePlace) → is_here p ≡ true → (words : List ℕ) × (p ≡ here words)
here_words free e = absurd (cc e)
here_words away e = absurd (cc e)
here_words (here words) e = (words, refl)

-- over a store
module _ {S : Type 0} (store : StoreMeaning S) (old new : S) (sound : IsSound store old) (sound' : IsSound store new) (tables tables' : MapTables) (a : AreTables (tables_of (store.homes old) tables)) (a' : AreTables (tables_of (store.homes new) tables'))
    (at : Place) (s : Slot) (is : at ≡ Fork s) (kind : Kind) (w : Walk) (r : Announced (tables_of (store.homes old) tables) (store.spare old) s kind w) (owner : Tty) (own : IsOwner owner) where
  abbrev t : Tables
  t = tables_of (store.homes old) tables

  abbrev t' : Tables
  t' = tables_of (store.homes new) tables'

  at_place : Settles t t' (store.spare old) (store.spare new) (Fork s) kind owner → Settles t t' (store.spare old) (store.spare new) at kind owner
  at_place = subst (λ (x : Place). Settles t t' (store.spare old) (store.spare new) x kind owner) (sym is)

  pub used_stored : (h : Home) → w.home ≡ Some h → copy_for kind w ≡ None → t' ≡ t → IsUsed store h.0 old new → Settles t t' (store.spare old) (store.spare new) at kind owner
  used_stored h home none same used =
      at_place (subst (λ (x : Tables). Settles t x (store.spare old) (store.spare new) (Fork s) kind owner) (sym same)
      (subst (λ n. Settles t t (store.spare old) n (Fork s) kind owner) (sym used.framed.spare) (used_settled t a sound.pages (store.spare old) s kind w r owner own h home none)))

  pub zero_stored : w.home ≡ None → TakesHome store old new tables tables' w.end (here zero_words) full_access owner → Settles t t' (store.spare old) (store.spare new) at kind owner
  zero_stored none k =
      at_place (subst (λ (x : Tables). Settles t x (store.spare old) (store.spare new) (Fork s) kind owner) (sym k.taken)
      (zero_settled t a sound.pages (store.spare old) s kind w r owner own k.home (omega (arith, k.made.below, a.homes)) k.made.was_free (store.spare new) k.made.spare none (subst AreTables k.taken a') (subst ArePages k.taken sound'.pages)))

  module _ (h : Home) (m : EntryAt) (b : Access) (home : w.home ≡ Some h) (some : copy_for kind w ≡ Some m) (access : b ≡ record full_access { x = w.executes }) where
    from : (words : List ℕ) × (place t.places h.0 ≡ here words)
    from = here_words (place t.places h.0) (home_here t a (store.spare old) s kind w r h home (can_copy t a (store.spare old) s kind w r h m home some).away)

    pub copy_stored : (q : HeldEntry) → held_entry t.maps m ≡ Some q → is_alone t.shares (held_entry t.maps m) ≡ false → TakesHome store old new tables tables' m (place (store.homes old) h.0) b owner → Settles t t' (store.spare old) (store.spare new) at kind owner
    copy_stored q there shared k =
        let taken : t' ≡ home_taken t m k.home (here from.0) b owner = k.taken ∙ ap (λ (p : HomePlace). home_taken t m k.home p b owner) from.1 in
        at_place (subst (λ (x : Tables). Settles t x (store.spare old) (store.spare new) (Fork s) kind owner) (sym taken)
        (copy_settled t a sound.pages (store.spare old) s kind w r owner own k.home (omega (arith, k.made.below, a.homes)) k.made.was_free (store.spare new) k.made.spare h m b q from.0 home some there access shared from.1 (subst AreTables taken a') (subst ArePages taken sound'.pages)))

    pub alone_stored : (c : Access) → held_entry t.maps m ≡ Some (Page h c) → is_alone t.shares (held_entry t.maps m) ≡ true → t' ≡ home_renamed t m h b owner → IsUsed store h.0 old new → Settles t t' (store.spare old) (store.spare new) at kind owner
    alone_stored c there alone renamed used =
        at_place (subst (λ (x : Tables). Settles t x (store.spare old) (store.spare new) (Fork s) kind owner) (sym renamed)
        (subst (λ n. Settles t (home_renamed t m h b owner) (store.spare old) n (Fork s) kind owner) (sym used.framed.spare)
        (alone_settled t a sound.pages (store.spare old) s kind w r owner own h m b c from.0 home some there access alone from.1 (subst AreTables renamed a'))))
