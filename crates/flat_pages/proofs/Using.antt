-- Which page of a store a call on places uses, and what a touch needs first.
use Rattle.std.proofs.Common.{◌≡◌, ◌≢◌, ◌⊎◌, ℕ, List, true, false, Bool, cond, Option, None, Some, is_some, refl, sym, ◌∙◌, ap, subst, arith}
use Rattle.std.specs.Prelude.{nat_le, nat_lt, ◌+◌, ◌≤◌}
use Rattle.std.specs.Option.{option_map, option_and_then, unwrap_or}
use Rattle.std.specs.FinMap as fin
use Rattle.std.proofs.lemmas.Bool.Decides.{nat_tests}
use Rattle.std.proofs.lemmas.List.{get_or-set_same}
use Rattle.page_homes.specs.declared.homes.Home.{Home}
use Rattle.machine_names.specs.declared.names.ForkName.{ForkName}
use Rattle.machine_names.specs.declared.names.Kind.{Kind}
use Rattle.machine_names.specs.declared.names.Kind.TheVariants.{Read, Write, Execute}
use Rattle.machine_names.specs.declared.names.Place.{Place}
use Rattle.machine_names.specs.declared.names.Place.TheVariants.{Fork, File}
use Rattle.machine_names.specs.declared.names.Slot.{Slot}
use Rattle.plain_pages.specs.References.{next_making}
use Rattle.page_contracts.specs.declared.answers.Found.{Found}
use Rattle.page_contracts.specs.declared.answers.SpaceHandle.{SpaceHandle}
use Rattle.page_contracts.specs.declared.answers.Touch.{Touch}
use Rattle.page_contracts.specs.declared.answers.Touch.TheVariants.{Ready, Zero, Copy, Absent, NeedFrame, Full}
use Rattle.page_contracts.specs.Pages.{FilesMade, IsOfFilePage, PagesMeaning, Scene, SettlesHome, StandsAt, StandsInFile, StandsInSpace, TouchNeeds, UsesPlace, absent_or, framed, is_in_core, map_set, spot_of}
use Rattle.page_contracts.specs.Stores.{StoreMeaning, HomePlace, free, away, here, IsMade, IsSound, IsUsed, RenewsOne, away_at, away_home, free_homes, is_here, is_taken, place, traffic}
use Rattle.flat_tables.specs.declared.held_entry.EntryAt.{EntryAt}
use Rattle.flat_tables.specs.HeldMaps.{index_of, held_entry, name_at, name_of, nobody}
use Rattle.flat_pages.specs.SlotMeaning.{place_along, slots_meaning, within}
use Rattle.flat_tables.specs.SlotTables.{Tables, files_held, AreTables}
use Rattle.flat_tables.specs.Walks.{Walk, walk}
use Rattle.flat_tables.specs.SlotTouches.{has_room, is_alone, scene_of, touch_copy, home_at, home_named, touch_filed, touch_made, touch_of_place, walk_of}
use Rattle.machine_names.specs.Orders.{FilePage, file_page}
use Rattle.machine_names.specs.declared.names.PageName.{PageName}
use Rattle.flat_pages.proofs.Agreement.{filed_named}
use Rattle.flat_tables.proofs.FiledHomes.{get_filed}
use Rattle.flat_pages.proofs.Touching.{home_is}
use Rattle.flat_pages.proofs.HandedOn.{used_within}
use Rattle.flat_pages.proofs.MapHomes.{settles_home}
use Rattle.flat_pages.proofs.Settled.{EndsAt}

-- where the page of a living fork's slot is found is told by the walk along its chain
along_walk : (found : ℕ → Option Found) (t : Tables) (s : Slot) (space : SpaceHandle) → option_map (λ k. record { 0 = k }) (index_of t.maps s.fork) ≡ Some space
    → place_along found t space s.page ≡ option_and_then (λ w. option_and_then (λ h. found h.0) w.home) (walk_of t.maps s)
along_walk found t s space e = by (index_of t.maps s.fork) refl e
  where
    by : (o : Option ℕ) → index_of t.maps s.fork ≡ o → ◌≡◌ {A = Option SpaceHandle} (option_map (λ k. record { 0 = k }) o) (Some space)
        → place_along found t space s.page ≡ option_and_then (λ w. option_and_then (λ h. found h.0) w.home) (walk_of t.maps s)
    by None is k = absurd (cc k)
    by (Some j) is k =
        let same : ◌≡◌ {A = SpaceHandle} (record { 0 = j }) space = cc k in
        ap (λ x. place_along found t x s.page) (sym same)
        ∙ sym (ap (λ (o : Option ℕ). option_and_then (λ (w : Walk). option_and_then (λ h. found h.0) w.home) (option_and_then (λ i. walk t.maps (record { map = i; page = s.page })) o)) is)

module _ {P S : Type 0} (store : StoreMeaning S) (part : P → S) (tables : P → Tables) (p : P) (at : Place) (home : ℕ) (stands : StandsAt (slots_meaning store part tables) p at home) (s : Slot) (is : at ≡ Fork s) (w : Walk) (walks : walk_of (tables p).maps s ≡ Some w) where
  in_space : StandsInSpace (slots_meaning store part tables) p s home
  in_space = subst (λ (x : Place). StandsAt (slots_meaning store part tables) p x home) is stands

  -- the page of a place that was found is at the end of its chain
  found_by : option_and_then (λ h. store.found (part p) h.0) w.home ≡ Some in_space.found
  found_by =
      sym (ap (λ (o : Option Walk). option_and_then (λ v. option_and_then (λ h. store.found (part p) h.0) v.home) o) walks)
      ∙ sym (along_walk (store.found (part p)) (tables p) s in_space.space in_space.named) ∙ in_space.there

  pub stands_home : IsSound store (part p) → (h : Home) → w.home ≡ Some h → h.0 ≡ home
  stands_home sound h is_home = sound.apart h.0 home in_space.found (sym (ap (option_and_then (λ (x : Home). store.found (part p) x.0)) is_home) ∙ found_by) in_space.here

  pub stands_nowhere : w.home ≡ None → ⊥
  stands_nowhere none = (let z : None ≡ Some in_space.found = sym (ap (option_and_then (λ (x : Home). store.found (part p) x.0)) none) ∙ found_by in cc z)

  -- so that page is used
  pub used_at : (q : P) → IsSound store (part p) → (h : Home) → w.home ≡ Some h → IsUsed store h.0 (part p) (part q) → IsUsed (within store part) home p q
  used_at q sound h is_home u = used_within store part home p q (subst (λ (k : ℕ). IsUsed store k (part p) (part q)) (stands_home sound h is_home) u)

-- the page of a file stands at its home, and at no other
module _ {P S : Type 0} (store : StoreMeaning S) (part : P → S) (tables : P → Tables) (p : P) (a : AreTables (tables p)) (f : FilePage ℕ) (h : Home) (is : fin.get (tables p).files f ≡ Some h) where
  abbrev t : Tables
  t = tables p

  its_name : (n : PageName) × (name_at t.names h.0 ≡ Some n)
  its_name = filed_named t a f h is

  pub stands_filed : StandsInFile (slots_meaning store part tables) p f h.0
  stands_filed = record {
    name = its_name.0;
    named = get_filed t.names t.files f ∙ ap (option_map (name_of t.names)) is ∙ ap (λ (o : Option PageName). Some (unwrap_or o nobody)) its_name.1;
    there = home_is t.names h.0 its_name.0 its_name.1 (λ k e. a.once k h.0 its_name.0 e its_name.1);
  }

  pub home_filed_at : (home : ℕ) → StandsInFile (slots_meaning store part tables) p f home → h.0 ≡ home
  home_filed_at home stands =
      let same : stands_filed.name ≡ stands.name = (let z : Some stands_filed.name ≡ Some stands.name = sym stands_filed.named ∙ stands.named in cc z) in
      let z : Some h.0 ≡ Some home = sym stands_filed.there ∙ ap (home_named t.names) same ∙ stands.there in
      cc z

-- a page that is in no frame is that of a file's place, where a touch or a look answers it of one
module _ {P S : Type 0} (store : StoreMeaning S) (part : P → S) (tables : P → Tables) (p : P) (a : AreTables (tables p)) where
  pub of_file_page : (at : Place) (h : Home) → home_at (tables p) at ≡ Some h → IsOfFilePage (slots_meaning store part tables) p at h.0
  of_file_page (Fork s) h is = tt
  of_file_page (File f page) h is = stands_filed store part tables p a (file_page f.0 page) h is

  absent_filed : (kind : Kind) (o : Option Home) (x : Home) (scene : Scene) → touch_filed (away_at (tables p).places) (tables p) scene kind o ≡ Absent x → o ≡ Some x
  absent_filed kind (Some h) x scene is = by (place (tables p).places h.0) is
    where
      by : (q : HomePlace) → absent_or (away_home q h.0) Ready ≡ Absent x → Some h ≡ Some x
      by free k = absurd (cc k)
      by away k = let same : h ≡ x = cc k in ap Some same
      by (here words) k = absurd (cc k)
  absent_filed Write None x scene is = absurd (by (has_room (tables p) 1) (nat_lt 0 scene.free_frames) is)
    where
      by : (room some : Bool) → cond room (cond some Zero NeedFrame) Full ≡ Absent x → ⊥
      by true true k = cc k
      by true false k = cc k
      by false some k = cc k
  absent_filed Read None x scene is = absurd (cc is)
  absent_filed Execute None x scene is = absurd (cc is)

  pub absent_of_file : (frames : ℕ) (at : Place) (kind : Kind) (x : Home) → touch_of_place (tables p) frames at kind ≡ Absent x → IsOfFilePage (slots_meaning store part tables) p at x.0
  absent_of_file frames (Fork s) kind x is = tt
  absent_of_file frames (File f page) kind x is = of_file_page (File f page) x (absent_filed kind (fin.get (tables p).files (file_page f.0 page)) x (scene_of (tables p) frames) is)

-- the page of a place is that of its home, and so that is used
module _ {P S : Type 0} (store : StoreMeaning S) (part : P → S) (tables : P → Tables) (p : P) (a : AreTables (tables p)) where
  pub place_used : (at : Place) (home : ℕ) (h : Home) → StandsAt (slots_meaning store part tables) p at home → home_at (tables p) at ≡ Some h → (q : P) → IsSound store (part p) → IsUsed store h.0 (part p) (part q) → IsUsed (within store part) home p q
  place_used (Fork s) home h stands is q sound u = by (walk_of (tables p).maps s) refl is
    where
      by : (o : Option Walk) → walk_of (tables p).maps s ≡ o → option_and_then (λ w. w.home) o ≡ Some h → IsUsed (within store part) home p q
      by None e k = absurd (cc k)
      by (Some w) e k = used_at store part tables p (Fork s) home stands s refl w e q sound h k u
  place_used (File f page) home h stands is q sound u =
      let at = home_filed_at store part tables p a (file_page f.0 page) h is home stands in
      used_within store part home p q (subst (λ (k : ℕ). IsUsed store k (part p) (part q)) at u)

-- maps in memory have no homes
pub no_map_home : (f : Option ForkName) → ◌≡◌ {A = Option ℕ} None (option_and_then (λ (g : ForkName). None) f)
no_map_home None = refl
no_map_home (Some g) = refl

-- the page at the end of the chain of a place is found there, and so it is that page which was used or made
module _ {P S : Type 0} (store : StoreMeaning S) (part : P → S) (tables : P → Tables) (p q : P) (at : Place) (s : Slot) (is : at ≡ Fork s) (lives : is_some (index_of (tables q).maps s.fork) ≡ true) (h : Home) (ends : EndsAt (tables q).maps s h) (sound : IsSound store (part q)) (there : is_here (place (store.homes (part q)) h.0) ≡ true) where
  abbrev means : PagesMeaning P
  means = slots_meaning store part tables

  space_of : (o : Option ℕ) → is_some o ≡ true → (space : SpaceHandle) × (option_map (λ k. record { 0 = k }) o ≡ Some space)
  space_of None e = absurd (cc e)
  space_of (Some k) e = (record { 0 = k }, refl)

  found_of : (o : Option Found) → is_some o ≡ true → (found : Found) × (o ≡ Some found)
  found_of None e = absurd (cc e)
  found_of (Some found) e = (found, refl)

  stands_slot : StandsInSpace means q s h.0
  stands_slot =
      let space = space_of (index_of (tables q).maps s.fork) lives in
      let found = found_of (store.found (part q) h.0) (sound.finds h.0 ∙ there) in
      record {
        space = space.0;
        named = space.1;
        found = found.0;
        there = along_walk (store.found (part q)) (tables q) s space.0 space.1
            ∙ ap (option_and_then (λ (w : Walk). option_and_then (λ (x : Home). store.found (part q) x.0) w.home)) ends.is ∙ ap (option_and_then (λ (x : Home). store.found (part q) x.0)) ends.home ∙ found.1;
        here = found.1;
      }

  stands_there : StandsAt means q at h.0
  stands_there = subst (λ (x : Place). StandsAt means q x h.0) (sym is) stands_slot

  pub uses_there : (kind : Kind) → RenewsOne h.0 (traffic store (part p)) (traffic store (part q)) → UsesPlace means at kind p q
  uses_there kind renews = record {
    home = h.0;
    stands = stands_there;
    here = there;
    map = None;
    of_fork = λ k none. absurd (cc none);
    set = λ d fits. no_map_home (map_set (next_making (means.plain p d) (spot_of at) kind));
    ages = renews;
  }

  -- and each other home has what it had
  pub settles_there : AreTables (tables p) → AreTables (tables q) → store.homes (part p) ≡ (tables p).places → store.homes (part q) ≡ (tables q).places → ((k : ℕ) → k ≢ h.0 → place (tables q).places k ≡ place (tables p).places k)
      → ((k : ℕ) → k ≢ h.0 → name_at (tables q).names k ≡ name_at (tables p).names k) → (place (tables p).places h.0 ≡ free) ⊎ (place (tables q).places h.0 ≡ place (tables p).places h.0) → SettlesHome means at p q
  settles_there a a' old_homes new_homes places names own = settles_home store part tables p q s.fork a a' at h.0 old_homes new_homes places names stands_there there own

-- a place of a fork's space leaves what files name
module _ {P S : Type 0} (store : StoreMeaning S) (part : P → S) (tables : P → Tables) (p q : P) where
  pub fork_filed : (at : Place) (s : Slot) → at ≡ Fork s → (x : Touch) → files_held (tables q).names (tables q).files ≡ files_held (tables p).names (tables p).files → FilesMade (slots_meaning store part tables) at x p q
  fork_filed at s is x same = subst (λ (y : Place). FilesMade (slots_meaning store part tables) y x p q) (sym is) (ap fin.get same)

-- a page that was made, and one that was used where it stood, is in a frame
module _ {S : Type 0} (store : StoreMeaning S) (old new : S) where
  pub made_here : (home : ℕ) (page : HomePlace) → IsMade store home page old new → is_here page ≡ true → is_here (place (store.homes new) home) ≡ true
  made_here home page m h = ap (λ (places : List HomePlace). is_here (place places home)) m.homes ∙ ap is_here (get_or-set_same (store.homes old) home page free m.below) ∙ h

  pub used_here : (home : ℕ) → store.homes new ≡ store.homes old → is_here (place (store.homes old) home) ≡ true → is_here (place (store.homes new) home) ≡ true
  used_here home same h = ap (λ (places : List HomePlace). is_here (place places home)) same ∙ h

-- what a touch needs first is so
module _ {P : Type 0} (m : StoreMeaning P) (p : P) (t : Tables) (same : m.homes p ≡ t.places) where
  framed_needs : (x : Touch) → TouchNeeds m p x → TouchNeeds m p (framed (scene_of t (m.spare p)) x)
  framed_needs x need = by (nat_lt 0 (m.spare p)) refl
    where
      by : (b : Bool) → nat_lt 0 (m.spare p) ≡ b → TouchNeeds m p (cond b x NeedFrame)
      by true is = need
      by false is = grind (arith, nat_tests, is)

  absent_needs : (h : ℕ) (x : Touch) → TouchNeeds m p x → TouchNeeds m p (absent_or (away_at t.places h) x)
  absent_needs h x need = by (place t.places h) refl
    where
      by : (q : HomePlace) → place t.places h ≡ q → TouchNeeds m p (absent_or (away_home q h) x)
      by free is = need
      by away is = ap (λ (places : List HomePlace). place places h) same ∙ is
      by (here words) is = need

  room_needs : (b : Bool) (x : Touch) → TouchNeeds m p x → TouchNeeds m p (cond b x Full)
  room_needs true x need = need
  room_needs false x need = tt

  pub made_needs : (home : Option Home) (copy : Option EntryAt) → TouchNeeds m p (touch_made (away_at t.places) t (scene_of t (m.spare p)) home copy)
  made_needs None None = room_needs (has_room t 1) (framed (scene_of t (m.spare p)) Zero) (framed_needs Zero tt)
  made_needs None (Some e) = room_needs (has_room t 2) (framed (scene_of t (m.spare p)) Zero) (framed_needs Zero tt)
  made_needs (Some h) None = absent_needs h.0 Ready tt
  made_needs (Some h) (Some e) = by (is_alone t.shares (held_entry t.maps e))
    where
      by : (b : Bool) → TouchNeeds m p (touch_copy t (scene_of t (m.spare p)) (away_at t.places h.0) b)
      by true = absent_needs h.0 (Copy true) tt
      by false = room_needs (has_room t 1) (absent_or (away_at t.places h.0) (framed (scene_of t (m.spare p)) (Copy false))) (absent_needs h.0 (framed (scene_of t (m.spare p)) (Copy false)) (framed_needs (Copy false) tt))

  pub filed_needs : (kind : Kind) (home : Option Home) → TouchNeeds m p (touch_filed (away_at t.places) t (scene_of t (m.spare p)) kind home)
  filed_needs kind (Some h) = made_needs (Some h) None
  filed_needs Write None = made_needs None None
  filed_needs Read None = tt
  filed_needs Execute None = tt

-- nothing is in no frame where nothing ever is
module _ {P : Type 0} (m : StoreMeaning P) (p : P) (sound : IsSound m p) (flat : m.flat ≡ true) (t : Tables) (a : AreTables t) (same : m.homes p ≡ t.places) where
  some_free : (n : ℕ) → 1 ≤ n → has_room t n ≡ true → nat_lt 0 (m.spare p) ≡ true
  some_free n some room =
      let frames : m.spare p ≡ free_homes t.places = sound.frames flat ∙ ap free_homes same in
      above (m.spare p) (omega (arith, frames, a.free, fits (t.taken + t.living + n) t.limit room, some))
    where
      fits : (j k : ℕ) → nat_le j k ≡ true → j ≤ k
      fits j k e = grind (arith, nat_tests, e)

      above : (k : ℕ) → 1 ≤ k → nat_lt 0 k ≡ true
      above k l = grind (arith, nat_tests)

  framed_core : (n : ℕ) (x : Touch) → 1 ≤ n → is_in_core x ≡ true → is_in_core (cond (has_room t n) (framed (scene_of t (m.spare p)) x) Full) ≡ true
  framed_core n x some core = by (has_room t n) refl
    where
      by : (b : Bool) → has_room t n ≡ b → is_in_core (cond b (framed (scene_of t (m.spare p)) x) Full) ≡ true
      by true room = ap (λ b. is_in_core (cond b x NeedFrame)) (some_free n some room) ∙ core
      by false room = refl

  near_is : (h : ℕ) → is_taken (place t.places h) ≡ true → away_at t.places h ≡ None
  near_is h taken = by (place t.places h) (sym (ap (λ (ps : List HomePlace). is_here (place ps h)) (sym same) ∙ sym (sound.core flat h) ∙ ap (λ (ps : List HomePlace). is_taken (place ps h)) same ∙ taken))
    where
      by : (q : HomePlace) → true ≡ is_here q → away_home q h ≡ None
      by free e = refl
      by away e = absurd (cc e)
      by (here words) e = refl

  pub made_core : (home : Option Home) (copy : Option EntryAt) → ((h : Home) → home ≡ Some h → is_taken (place t.places h.0) ≡ true) → is_in_core (touch_made (away_at t.places) t (scene_of t (m.spare p)) home copy) ≡ true
  made_core None None taken = framed_core 1 Zero (omega arith) refl
  made_core None (Some e) taken = framed_core 2 Zero (omega arith) refl
  made_core (Some h) None taken = ap (λ o. is_in_core (absent_or o Ready)) (near_is h.0 (taken h refl))
  made_core (Some h) (Some e) taken = ap (λ o. is_in_core (touch_copy t (scene_of t (m.spare p)) o (is_alone t.shares (held_entry t.maps e)))) (near_is h.0 (taken h refl)) ∙ by (is_alone t.shares (held_entry t.maps e))
    where
      by : (b : Bool) → is_in_core (touch_copy t (scene_of t (m.spare p)) None b) ≡ true
      by true = refl
      by false = framed_core 1 (Copy false) (omega arith) refl
