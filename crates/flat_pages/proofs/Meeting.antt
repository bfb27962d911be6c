-- What a walk from the slot of a living fork finds.
use Rattle.std.proofs.Common.{◌≡◌, ℕ, ◌<◌, List, Bool, true, false, cond, Option, None, Some, refl, sym, ◌∙◌, ap, subst, is_some}
use Rattle.std.specs.Prelude.{slice_index, IsSome, is_none, nat_lt, ◌&&◌, find}
use Rattle.std.specs.Option.{option_map, option_map_or, option_and_then, unwrap_or}
use Rattle.page_homes.specs.declared.homes.Home.{Home}
use Rattle.machine_names.specs.declared.names.Kind.{Kind}
use Rattle.machine_names.specs.declared.names.Kind.TheVariants.{Read, Write, Execute}
use Rattle.machine_names.specs.declared.names.ForkName.{ForkName}
use Rattle.machine_names.specs.declared.names.PageName.{PageName}
use Rattle.std.specs.FinMap as fin
use Rattle.machine_names.specs.declared.names.FileNo.{FileNo}
use Rattle.machine_names.specs.Orders.{file_page}
use Rattle.machine_names.specs.declared.names.Place.{Place}
use Rattle.machine_names.specs.declared.names.Place.TheVariants.{Fork, File}
use Rattle.machine_names.specs.declared.names.Slot.{Slot}
use Rattle.machine_names.specs.declared.names.Tty.{Tty}
use Rattle.machine_names.specs.declared.names.TheConstants.{SPACE_PAGES}
use Rattle.page_contracts.specs.DrumWords.{DrumWords}
use Rattle.plain_pages.specs.Maps.{Chain, entry_at, chain, maps_on_way}
use Rattle.plain_pages.specs.Room.{uses}
use Rattle.page_contracts.specs.declared.answers.Found.{Found as AFound}
use Rattle.page_contracts.specs.declared.answers.SpaceHandle.{SpaceHandle}
use Rattle.page_contracts.specs.declared.answers.Touch.{Touch}
use Rattle.page_contracts.specs.declared.answers.Touch.TheVariants.{Ready, Zero, Copy, NeedFrame, Denied, Full}
use Rattle.page_contracts.specs.declared.answers.Peeked.TheVariants.{Is, Absent, NoPage}
use Rattle.plain_pages.specs.References.{in_map, in_file, page_at, words_of, words_at, word_at}
use Rattle.machine_names.specs.PageWords.{zero_words}
use Rattle.page_contracts.specs.Pages.{Scene, IsPlace, touch_of, spot_of, peek_of, away_or, map_away, counted, absent_or, framed}
use Rattle.machine_names.specs.Bounds.{IsOwner}
use Rattle.page_contracts.specs.Stores.{HomePlace, free, away, here, place, is_taken, is_here, word_in, content}
use Rattle.plain_pages.proofs.Chains.{marked}
use Rattle.flat_tables.specs.declared.held_entry.EntryAt.{EntryAt}
use Rattle.flat_tables.specs.declared.held_entry.HeldEntry.{HeldEntry}
use Rattle.flat_tables.specs.declared.held_map.HeldMap.{HeldMap}
use Rattle.flat_tables.specs.HeldMaps.{index_of, held_entry, fork_at, maps_held, name_at, name_of}
use Rattle.flat_tables.specs.declared.chain_walk.Use.{Use}
use Rattle.flat_tables.specs.declared.chain_walk.Use.TheVariants as to
use Rattle.flat_tables.specs.Walks.{Walk, slot_of, walk, use_of, lets_along, ready_home}
use Rattle.flat_tables.specs.SlotTables.{Tables, plain_of, share_of, AreTables, AreSized}
use Rattle.fork_maps.specs.ChainWalks.{allows_along, copy_for}
use Rattle.flat_tables.specs.SlotTouches.{walk_of, scene_of, has_room, is_alone, touch_copy, touch_made, touch_filed, touch_walked, touch_of_place, home_at}
use Rattle.page_contracts.specs.Stores.{away_home, away_at}
use Rattle.flat_tables.proofs.ForkMaps.{index_fork, index_is}
use Rattle.flat_pages.proofs.Agreement.{entry_named, filed_named, object_home, uses_home}
use Rattle.flat_tables.proofs.FiledHomes.{get_filed}
use Rattle.flat_pages.proofs.Walked.{IsCopy, Meets, WalkIs, walked}
use Rattle.flat_pages.proofs.Touching.{touch_told, home_is, none_away}
use Rattle.flat_pages.proofs.Settling.{content_here}
use Rattle.flat_pages.proofs.Rooming.{away_none, here_when}

-- where the entry of a living fork's slot stands
pub record Stands (maps : List HeldMap) (s : Slot) : Type 0 where
  pub at : EntryAt
  pub index : index_of maps s.fork ≡ Some at.map
  pub page : at.page ≡ s.page
  pub slot : slot_of maps at ≡ Some s
  pub walk : walk_of maps s ≡ walk maps at

pub stands : (maps : List HeldMap) (s : Slot) → is_some (index_of maps s.fork) ≡ true → Stands maps s
stands maps s lives = by (index_of maps s.fork) refl lives
  where
    by : (o : Option ℕ) → index_of maps s.fork ≡ o → is_some o ≡ true → Stands maps s
    by None is k = absurd (cc k)
    by (Some k) is l = record {
      at = record { map = k; page = s.page };
      index = is;
      page = refl;
      slot = ap (option_map (λ f. record { fork = f; page = s.page })) (index_fork maps s.fork k is);
      walk = ap (option_and_then (λ j. walk maps (record { map = j; page = s.page }))) is;
    }

-- where the entry stands in a map with a number
pub stands_at : (t : Tables) → AreTables t → (k page : ℕ) (f : ForkName) → fork_at t.maps k ≡ Some f → walk_of t.maps (record { fork = f; page = page }) ≡ walk t.maps (record { map = k; page = page })
stands_at t a k page f is = ap (option_and_then (λ j. walk t.maps (record { map = j; page = page }))) (index_is t.maps a.held.once f k is)

-- a walk with its chain
pub record Found (t : Tables) (s : Slot) (w : Walk) : Type 0 where
  pub links : Chain
  pub is : chain (entry_at (maps_held t.names t.maps)) s ≡ Some links
  pub meets : Meets t.names t.maps w links

pub found_walk : (t : Tables) → AreTables t → (s : Slot) (w : Walk) → is_some (index_of t.maps s.fork) ≡ true → walk_of t.maps s ≡ Some w → Found t s w
found_walk t a s w lives is =
    let at = stands t.maps s lives in
    by (walk t.maps at.at) (chain (entry_at (maps_held t.names t.maps)) s) refl (sym at.walk ∙ is) (walked t.names t.maps a.held at.at s at.slot)
  where
    by : (v : Option Walk) (o : Option Chain) → chain (entry_at (maps_held t.names t.maps)) s ≡ o → v ≡ Some w → WalkIs t.names t.maps v o → Found t s w
    by None o e k m = absurd (cc k)
    by (Some v) None e k m = absurd m
    by (Some v) (Some c) e k m = let same : v ≡ w = cc k in record { links = c; is = e; meets = subst (λ (x : Walk). Meets t.names t.maps x c) same m }

module _ (t : Tables) (a : AreTables t) (s : Slot) (w : Walk) (f : Found t s w) where
  -- the home of the page at the end is taken
  pub home_taken_is : (h : Home) → w.home ≡ Some h → is_taken (place t.places h.0) ≡ true
  home_taken_is h e = let n = f.meets.named h e in let x = entry_named t a w.end h n.0 n.1 in a.is_taken h.0 ∙ ap is_some x.1

  -- and has a name
  pub home_name : (h : Home) → w.home ≡ Some h → (n : PageName) × (name_at t.names h.0 ≡ Some n)
  home_name h e = let x = f.meets.named h e in entry_named t a w.end h x.0 x.1

  -- the entry with the copy mark is there
  pub copy_held : (kind : Kind) (m : EntryAt) → copy_for kind w ≡ Some m → IsSome (held_entry t.maps m)
  copy_held kind m e = by kind e
    where
      some : (o : Option HeldEntry) (x : HeldEntry) → o ≡ Some x → IsSome o
      some None x k = absurd (cc k)
      some (Some y) x k = refl

      held : (o : Option EntryAt) → IsCopy t.maps o (find marked f.links.links) → o ≡ Some m → IsSome (held_entry t.maps m)
      held None is k = absurd (cc k)
      held (Some y) is k = let same : y ≡ m = cc k in some (held_entry t.maps m) is.3.0 (ap (held_entry t.maps) (sym same) ∙ is.3.1)

      by : (k : Kind) → copy_for k w ≡ Some m → IsSome (held_entry t.maps m)
      by Read k = absurd (cc k)
      by Execute k = absurd (cc k)
      by Write k = held w.copy f.meets.copy k

  module _ (d : DrumWords) where
    -- the page that is named at the end
    pub page_is : page_at (plain_of t d) (in_map s) ≡ option_map (name_of t.names) w.home
    unfolding page_at
    page_is = ap (option_and_then (λ (c : Chain). c.page)) f.is ∙ f.meets.page

    -- its words are those of its home
    pub words_are : AreSized t.places d → (h : Home) (words : List ℕ) → w.home ≡ Some h → content t.places d h.0 ≡ Some words → words_at (plain_of t d) (in_map s) ≡ words
    words_are sized h words e held =
        let n = home_name h e in
        ap (λ (o : Option PageName). option_map_or (words_of (plain_of t d)) o zero_words) (page_is ∙ ap (option_map (name_of t.names)) e)
        ∙ ap (λ (o : Option PageName). words_of (plain_of t d) (unwrap_or o (record { tty = record { 0 = 0 }; serial = 0 }))) n.1
        ∙ ap (λ (o : Option (List ℕ)). unwrap_or o zero_words) (object_home t a d sized h.0 n.0 n.1 ∙ held)

-- a slot of a living fork that has no chain has no page
pub no_page_at : (t : Tables) → AreTables t → (s : Slot) (d : DrumWords) → is_some (index_of t.maps s.fork) ≡ true → walk_of t.maps s ≡ None → page_at (plain_of t d) (in_map s) ≡ None
unfolding page_at
no_page_at t a s d lives is =
    let at = stands t.maps s lives in
    by (walk t.maps at.at) (chain (entry_at (maps_held t.names t.maps)) s) (sym at.walk ∙ is) (walked t.names t.maps a.held at.at s at.slot)
  where
    by : (v : Option Walk) (o : Option Chain) → v ≡ None → WalkIs t.names t.maps v o → option_and_then (λ (c : Chain). c.page) o ≡ None
    by None None k m = refl
    by None (Some c) k m = absurd m
    by (Some v) o k m = absurd (cc k)

-- a touch of a living fork's slot answers as told
pub place_told : (t : Tables) → AreTables t → (frames : ℕ) (d : DrumWords) → AreSized t.places d → (owner : Tty) → IsOwner owner → (s : Slot) (kind : Kind) → is_some (index_of t.maps s.fork) ≡ true
    → touch_of (plain_of t d) (scene_of t frames) (in_map s) kind owner ≡ touch_walked (away_at t.places) t (scene_of t frames) kind (walk_of t.maps s)
place_told t a frames d sized owner own s kind lives =
    let at = stands t.maps s lives in
    touch_told t a frames d sized owner own at.at s at.slot kind ∙ ap (touch_walked (away_at t.places) t (scene_of t frames) kind) (sym at.walk)

pub place_lives : (lives : ForkName → Bool) (at : Place) (s : Slot) → at ≡ Fork s → IsPlace lives at → (lives s.fork ≡ true) × (s.page < SPACE_PAGES)
place_lives lives at s is h = subst (IsPlace lives) is h

pub at_told : (t : Tables) → AreTables t → (frames : ℕ) (d : DrumWords) → AreSized t.places d → (owner : Tty) → IsOwner owner → (at : Place) (s : Slot) → at ≡ Fork s → (kind : Kind) → is_some (index_of t.maps s.fork) ≡ true
    → touch_of (plain_of t d) (scene_of t frames) (spot_of at) kind owner ≡ touch_walked (away_at t.places) t (scene_of t frames) kind (walk_of t.maps s)
at_told t a frames d sized owner own at s is kind lives = ap (λ (x : Place). touch_of (plain_of t d) (scene_of t frames) (spot_of x) kind owner) is ∙ place_told t a frames d sized owner own s kind lives

-- the page of a place, by its home
pub record Reached (t : Tables) (at : Place) (h : Home) : Type 0 where
  pub home : home_at t at ≡ Some h
  pub name : PageName
  pub named : name_at t.names h.0 ≡ Some name
  pub page : (d : DrumWords) → page_at (plain_of t d) (spot_of at) ≡ Some (name_of t.names h)
  pub passes : (d : DrumWords) (frames : ℕ) → map_away (plain_of t d) (scene_of t frames) (spot_of at) ≡ None

-- a place of which no page is named
pub record Unreached (t : Tables) (at : Place) : Type 0 where
  pub none : (d : DrumWords) → page_at (plain_of t d) (spot_of at) ≡ None
  pub passes : (d : DrumWords) (frames : ℕ) → map_away (plain_of t d) (scene_of t frames) (spot_of at) ≡ None

-- the maps on the way from a slot are in memory
slot_passes : (t : Tables) (s : Slot) (d : DrumWords) (frames : ℕ) → map_away (plain_of t d) (scene_of t frames) (in_map s) ≡ None
slot_passes t s d frames = none_away (scene_of t frames) (maps_on_way (entry_at (maps_held t.names t.maps)) s) (λ f. refl)

-- the page that a file names
filed_page : (t : Tables) (f : FileNo) (page : ℕ) (d : DrumWords) → page_at (plain_of t d) (in_file (file_page f.0 page)) ≡ option_map (name_of t.names) (fin.get t.files (file_page f.0 page))
unfolding page_at
filed_page t f page d = get_filed t.names t.files (file_page f.0 page)

pub reached_slot : (t : Tables) → AreTables t → (s : Slot) (w : Walk) (h : Home) → walk_of t.maps s ≡ Some w → Found t s w → w.home ≡ Some h → Reached t (Fork s) h
reached_slot t a s w h walks found is = (let n = home_name t a s w found h is in record {
  home = ap (option_and_then (λ (v : Walk). v.home)) walks ∙ is;
  name = n.0;
  named = n.1;
  page = λ d. page_is t a s w found d ∙ ap (option_map (name_of t.names)) is;
  passes = slot_passes t s;
})

pub reached : (t : Tables) → AreTables t → (at : Place) (h : Home) → IsPlace (λ f. is_some (index_of t.maps f)) at → Some h ≡ home_at t at → Reached t at h
reached t a (File f page) h there is = (let n = filed_named t a (file_page f.0 page) h (sym is) in record {
  home = sym is;
  name = n.0;
  named = n.1;
  page = λ d. filed_page t f page d ∙ ap (option_map (name_of t.names)) (sym is);
  passes = λ d frames. refl;
})
reached t a (Fork s) h there is = by (walk_of t.maps s) refl is
  where
    by : (o : Option Walk) → walk_of t.maps s ≡ o → Some h ≡ option_and_then (λ w. w.home) o → Reached t (Fork s) h
    by None e k = absurd (cc k)
    by (Some w) e k = reached_slot t a s w h e (found_walk t a s w there.0 e) (sym k)

pub unreached : (t : Tables) → AreTables t → (at : Place) → IsPlace (λ f. is_some (index_of t.maps f)) at → None ≡ home_at t at → Unreached t at
unreached t a (File f page) there is = record { none = λ d. filed_page t f page d ∙ ap (option_map (name_of t.names)) (sym is); passes = λ d frames. refl }
unreached t a (Fork s) there is = by (walk_of t.maps s) refl is
  where
    by : (o : Option Walk) → walk_of t.maps s ≡ o → None ≡ option_and_then (λ w. w.home) o → Unreached t (Fork s)
    by None e k = record { none = λ d. no_page_at t a s d there.0 e; passes = slot_passes t s }
    by (Some w) e k = record { none = λ d. page_is t a s w (found_walk t a s w there.0 e) d ∙ ap (option_map (name_of t.names)) (sym k); passes = slot_passes t s }

-- what a word is read of
pub word_here : (p : HomePlace) (at x : ℕ) → word_in p at ≡ Some x → (words : List ℕ) × (p ≡ here words) × (x ≡ slice_index words at)
word_here free at x e = absurd (cc e)
word_here away at x e = absurd (cc e)
word_here (here words) at x e = (words, refl, (let same : slice_index words at ≡ x = cc e in sym same))

pub word_away : (p : HomePlace) (at : ℕ) → word_in p at ≡ None → is_taken p ≡ true → p ≡ away
word_away free at e taken = absurd (cc taken)
word_away away at e taken = refl
word_away (here words) at e taken = absurd (cc e)

module _ (t : Tables) (a : AreTables t) (at : Place) (h : Home) (r : Reached t at h) where
  pub reached_taken : is_taken (place t.places h.0) ≡ true
  reached_taken = a.is_taken h.0 ∙ ap is_some r.named

  pub reached_words : (d : DrumWords) → AreSized t.places d → (words : List ℕ) → content t.places d h.0 ≡ Some words → words_at (plain_of t d) (spot_of at) ≡ words
  reached_words d sized words held =
      ap (λ (o : Option PageName). option_map_or (words_of (plain_of t d)) o zero_words) (r.page d)
      ∙ ap (λ (o : Option PageName). words_of (plain_of t d) (unwrap_or o (record { tty = record { 0 = 0 }; serial = 0 }))) r.named
      ∙ ap (λ (o : Option (List ℕ)). unwrap_or o zero_words) (object_home t a d sized h.0 r.name r.named ∙ held)

  pub reached_word : (d : DrumWords) → AreSized t.places d → (words : List ℕ) (offset : ℕ) → place t.places h.0 ≡ here words → word_at (plain_of t d) (spot_of at) offset ≡ slice_index words offset
  reached_word d sized words offset is = ap (λ ws. slice_index ws offset) (reached_words d sized words (content_here t.places d h.0 words is))

  pub reached_away : (frames : ℕ) → (scene_of t frames).page_away (name_of t.names h) ≡ away_at t.places h.0
  reached_away frames =
      let n : (x : PageName) × (name_at t.names h.0 ≡ Some x) = (r.name, r.named) in
      ap (λ (o : Option PageName). (scene_of t frames).page_away (unwrap_or o (record { tty = record { 0 = 0 }; serial = 0 }))) n.1
      ∙ ap (option_and_then (away_at t.places)) (home_is t.names h.0 n.0 n.1 (λ k e. a.once k h.0 n.0 e n.1))

  pub reached_counted : (d : DrumWords) → AreSized t.places d → counted (plain_of t d) (page_at (plain_of t d) (spot_of at)) ≡ Some (name_of t.names h, share_of t.shares h.0)
  reached_counted d sized =
      let n : (x : PageName) × (name_at t.names h.0 ≡ Some x) = (r.name, r.named) in
      let named : name_of t.names h ≡ n.0 = ap (λ (o : Option PageName). unwrap_or o (record { tty = record { 0 = 0 }; serial = 0 })) n.1 in
      ap (counted (plain_of t d)) (r.page d)
      ∙ ap (λ k. Some (name_of t.names h, k)) (ap (uses (plain_of t d)) named ∙ uses_home t a d sized h.0 n.0 n.1)

  pub peek_here : (d : DrumWords) → AreSized t.places d → (frames offset : ℕ) (words : List ℕ) → place t.places h.0 ≡ here words → peek_of (plain_of t d) (scene_of t frames) (spot_of at) offset ≡ Is (slice_index words offset)
  unfolding peek_of
  peek_here d sized frames offset words is =
      (λ i. away_or (r.passes d frames i) (away_or (option_and_then (scene_of t frames).page_away (r.page d i)) (option_map_or (λ n. Is (slice_index (words_of (plain_of t d) n) offset)) (r.page d i) NoPage)))
      ∙ (λ i. away_or (reached_away frames i) (Is (slice_index (words_of (plain_of t d) (name_of t.names h)) offset)))
      ∙ (λ i. away_or (away_home (is i) h.0) (Is (slice_index (words_of (plain_of t d) (name_of t.names h)) offset)))
      ∙ ap (λ ws. Is (slice_index ws offset)) (sym (ap (λ (o : Option PageName). option_map_or (words_of (plain_of t d)) o zero_words) (r.page d)) ∙ reached_words d sized words (content_here t.places d h.0 words is))

  pub peek_away : (d : DrumWords) (frames offset : ℕ) → place t.places h.0 ≡ away → peek_of (plain_of t d) (scene_of t frames) (spot_of at) offset ≡ Absent h
  unfolding peek_of
  peek_away d frames offset is =
      (λ i. away_or (r.passes d frames i) (away_or (option_and_then (scene_of t frames).page_away (r.page d i)) (option_map_or (λ n. Is (slice_index (words_of (plain_of t d) n) offset)) (r.page d i) NoPage)))
      ∙ (λ i. away_or (reached_away frames i) (Is (slice_index (words_of (plain_of t d) (name_of t.names h)) offset)))
      ∙ (λ i. away_or (away_home (is i) h.0) (Is (slice_index (words_of (plain_of t d) (name_of t.names h)) offset)))

module _ (t : Tables) (at : Place) (u : Unreached t at) (d : DrumWords) (frames : ℕ) where
  pub peek_none : (offset : ℕ) → peek_of (plain_of t d) (scene_of t frames) (spot_of at) offset ≡ NoPage
  unfolding peek_of
  peek_none offset = λ i. away_or (u.passes d frames i) (away_or (option_and_then (scene_of t frames).page_away (u.none d i)) (option_map_or (λ n. Is (slice_index (words_of (plain_of t d) n) offset)) (u.none d i) NoPage))

-- a reference that finds its page ready, by its walk
abbrev pub IsReadyBy : (ℕ → Option ℕ) → Use → Walk → Type 0
IsReadyBy absent wanted w = (h : Home) × (ready_home wanted w ≡ Some h) × (absent h.0 ≡ None)

framed_not : (b : Bool) (x : Touch) → (x ≡ Ready → ⊥) → cond b x NeedFrame ≡ Ready → ⊥
framed_not true x f e = f e
framed_not false x f e = cc e

roomy_not : (b : Bool) (x : Touch) → (x ≡ Ready → ⊥) → cond b x Full ≡ Ready → ⊥
roomy_not true x f e = f e
roomy_not false x f e = cc e

absent_not : (o : Option ℕ) (x : Touch) → (x ≡ Ready → ⊥) → absent_or o x ≡ Ready → ⊥
absent_not None x f e = f e
absent_not (Some home) x f e = cc e

module _ (absent : ℕ → Option ℕ) (t : Tables) (scene : Scene) where
  copy_not : (o : Option ℕ) (alone : Bool) → touch_copy t scene o alone ≡ Ready → ⊥
  copy_not o true e = absent_not o (Copy true) (λ k. cc k) e
  copy_not o false e = roomy_not (has_room t 1) (absent_or o (framed scene (Copy false))) (λ k. absent_not o (framed scene (Copy false)) (λ l. framed_not (nat_lt 0 scene.free_frames) (Copy false) (λ m. cc m) l) k) e

  made_ready : (home : Option Home) (m : Option EntryAt) → touch_made absent t scene home m ≡ Ready → (h : Home) × (home ≡ Some h) × (m ≡ None) × (absent h.0 ≡ None)
  made_ready None None e = absurd (roomy_not (has_room t 1) (framed scene Zero) (λ k. framed_not (nat_lt 0 scene.free_frames) Zero (λ l. cc l) k) e)
  made_ready None (Some m) e = absurd (roomy_not (has_room t 2) (framed scene Zero) (λ k. framed_not (nat_lt 0 scene.free_frames) Zero (λ l. cc l) k) e)
  made_ready (Some h) None e = (h, refl, refl, by (absent h.0) e)
    where
      by : (o : Option ℕ) → absent_or o Ready ≡ Ready → o ≡ None
      by None k = refl
      by (Some home) k = absurd (cc k)
  made_ready (Some h) (Some m) e = absurd (copy_not (absent h.0) (is_alone t.shares (held_entry t.maps m)) e)

  allowed_true : (b : Bool) (x : Touch) (kind : Kind) → cond b x (Denied kind) ≡ Ready → (b ≡ true) × (x ≡ Ready)
  allowed_true true x kind e = (refl, e)
  allowed_true false x kind e = absurd (cc e)

  both : (a b : Bool) → a ≡ true → b ≡ true → (a && b) ≡ true
  both a b p q = (λ i. p i && q i)

  lets_when : (kind : Kind) (w : Walk) → allows_along kind w ≡ true → copy_for kind w ≡ None → lets_along (use_of kind) w ≡ true
  lets_when Read w e n = e
  lets_when Execute w e n = e
  lets_when Write w e n = both w.writes (is_none w.copy) e (ap is_none n)

  -- a touch that answers Ready finds the page that may be used so
  pub ready_from : (kind : Kind) (w : Walk) → touch_walked absent t scene kind (Some w) ≡ Ready → IsReadyBy absent (use_of kind) w
  ready_from kind w e =
      let p = allowed_true (allows_along kind w) (touch_made absent t scene w.home (copy_for kind w)) kind e in
      let m = made_ready w.home (copy_for kind w) p.1 in
      (m.0, ap (λ b. cond b w.home None) (lets_when kind w p.0 m.2) ∙ m.1, m.3)

  none_of : (o : Option EntryAt) → is_none o ≡ true → o ≡ None
  none_of None e = refl
  none_of (Some x) e = absurd (cc e)

  first_of_both : (a b : Bool) → (a && b) ≡ true → (a ≡ true) × (b ≡ true)
  first_of_both true b e = (refl, e)
  first_of_both false b e = absurd (cc e)

  when_lets : (kind : Kind) (w : Walk) → lets_along (use_of kind) w ≡ true → (allows_along kind w ≡ true) × (copy_for kind w ≡ None)
  when_lets Read w e = (e, refl)
  when_lets Execute w e = (e, refl)
  when_lets Write w e = let b = first_of_both w.writes (is_none w.copy) e in (b.0, none_of w.copy b.1)

  pub home_let : (b : Bool) (home : Option Home) (h : Home) → cond b home None ≡ Some h → (b ≡ true) × (home ≡ Some h)
  home_let true home h e = (refl, e)
  home_let false home h e = absurd (cc e)

  pub ready_to : (kind : Kind) (w : Walk) → IsReadyBy absent (use_of kind) w → touch_walked absent t scene kind (Some w) ≡ Ready
  ready_to kind w r =
      let b = home_let (lets_along (use_of kind) w) w.home r.0 r.1 in
      let l = when_lets kind w b.0 in
      ap (λ x. cond x (touch_made absent t scene w.home (copy_for kind w)) (Denied kind)) l.0
      ∙ (λ i. touch_made absent t scene (b.1 i) (l.1 i)) ∙ ap (λ o. absent_or o Ready) r.2

  -- where the page may be changed it may be read and written
  pub change_to : (w : Walk) → IsReadyBy absent to.Change w → IsReadyBy absent to.Read w × IsReadyBy absent to.Write w
  change_to w r =
      let b = home_let (lets_along to.Change w) w.home r.0 r.1 in
      let l = first_of_both w.reads (w.writes && is_none w.copy) b.0 in
      ((r.0, ap (λ x. cond x w.home None) l.0 ∙ b.1, r.2), (r.0, ap (λ x. cond x w.home None) l.1 ∙ b.1, r.2))

  pub change_from : (w : Walk) → IsReadyBy absent to.Read w → IsReadyBy absent to.Write w → IsReadyBy absent to.Change w
  change_from w r v =
      let b = home_let (lets_along to.Read w) w.home r.0 r.1 in
      let c = home_let (lets_along to.Write w) w.home v.0 v.1 in
      (r.0, ap (λ x. cond x w.home None) (both w.reads (w.writes && is_none w.copy) b.0 c.0) ∙ b.1, r.2)

pub space_fork : (maps : List HeldMap) (f : ForkName) (space : SpaceHandle) → option_map (λ k. record { 0 = k }) (index_of maps f) ≡ Some space → fork_at maps space.0 ≡ Some f
space_fork maps f space e = by (index_of maps f) refl e
  where
    by : (o : Option ℕ) → index_of maps f ≡ o → option_map (λ k. record { 0 = k }) o ≡ Some space → fork_at maps space.0 ≡ Some f
    by None is k = absurd (cc k)
    by (Some j) is k = let same : ◌≡◌ {A = SpaceHandle} (record { 0 = j }) space = cc k in ap (λ (x : SpaceHandle). fork_at maps x.0) (sym same) ∙ index_fork maps f j is

-- a look along the chain of an entry, in a store
module _ (t : Tables) (a : AreTables t) (found : ℕ → Option AFound) (finds : (h : ℕ) → is_some (found h) ≡ is_here (place t.places h)) (k page : ℕ) (f : ForkName) (is : fork_at t.maps k ≡ Some f) where
  abbrev at : EntryAt
  at = record { map = k; page = page }

  abbrev slot : Slot
  slot = record { fork = f; page = page }

  pub lives_at : is_some (index_of t.maps f) ≡ true
  lives_at = ap is_some (index_is t.maps a.held.once f k is)

  walk_at : walk_of t.maps slot ≡ walk t.maps at
  walk_at = stands_at t a k page f is

  pub found_at : (w : Walk) → walk t.maps at ≡ Some w → Found t slot w
  found_at w e = found_walk t a slot w lives_at (walk_at ∙ e)

  -- the page that is let be used so is that of a home that is taken
  pub ready_taken : (wanted : Use) (h : Home) → option_and_then (ready_home wanted) (walk t.maps at) ≡ Some h → is_taken (place t.places h.0) ≡ true
  ready_taken wanted h e = by (walk t.maps at) refl e
    where
      by : (o : Option Walk) → walk t.maps at ≡ o → option_and_then (ready_home wanted) o ≡ Some h → is_taken (place t.places h.0) ≡ true
      by None e g = absurd (cc g)
      by (Some w) e g = let b = home_let (away_at t.places) t (scene_of t 0) (lets_along wanted w) w.home h g in home_taken_is t a slot w (found_at w e) h b.1

  some_found : (o : Option AFound) → is_some o ≡ true → IsSome o
  some_found None e = absurd (cc e)
  some_found (Some x) e = refl

  found_some : (o : Option AFound) → IsSome o → is_some o ≡ true
  found_some None e = absurd (let z : false ≡ true = e in cc z)
  found_some (Some x) e = refl

  -- what is found may be used so, and is in a frame
  pub some_ready : (wanted : Use) → IsSome (option_and_then (λ h. found h.0) (option_and_then (ready_home wanted) (walk t.maps at))) → (w : Walk) × (walk t.maps at ≡ Some w) × IsReadyBy (away_at t.places) wanted w
  some_ready wanted e = by (walk t.maps at) refl e
    where
      home_by : (w : Walk) (o : Option Home) → ready_home wanted w ≡ o → IsSome (option_and_then (λ h. found h.0) o) → IsReadyBy (away_at t.places) wanted w
      home_by w None r g = absurd (let z : false ≡ true = g in cc z)
      home_by w (Some h) r g = (h, r, away_none t.places h.0 (sym (finds h.0) ∙ found_some (found h.0) g))

      by : (o : Option Walk) → walk t.maps at ≡ o → IsSome (option_and_then (λ h. found h.0) (option_and_then (ready_home wanted) o)) → (w : Walk) × (walk t.maps at ≡ Some w) × IsReadyBy (away_at t.places) wanted w
      by None r g = absurd (let z : false ≡ true = g in cc z)
      by (Some w) r g = (w, r, home_by w (ready_home wanted w) refl g)

  -- and what may be used so and is in a frame is found
  pub ready_some : (wanted : Use) (w : Walk) → walk t.maps at ≡ Some w → IsReadyBy (away_at t.places) wanted w → IsSome (option_and_then (λ h. found h.0) (option_and_then (ready_home wanted) (walk t.maps at)))
  ready_some wanted w e r =
      let taken = ready_taken wanted r.0 (ap (option_and_then (ready_home wanted)) e ∙ r.1) in
      let is_found = some_found (found r.0.0) (finds r.0.0 ∙ here_when t.places r.0.0 taken r.2) in
      subst (λ (o : Option Home). IsSome (option_and_then (λ h. found h.0) o)) (sym (ap (option_and_then (ready_home wanted)) e ∙ r.1)) is_found

  pub walk_some : (kind : Kind) (frames : ℕ) → touch_walked (away_at t.places) t (scene_of t frames) kind (walk_of t.maps slot) ≡ Ready → (w : Walk) × (walk t.maps at ≡ Some w) × IsReadyBy (away_at t.places) (use_of kind) w
  walk_some kind frames e = by (walk t.maps at) refl (sym (ap (touch_walked (away_at t.places) t (scene_of t frames) kind) walk_at) ∙ e)
    where
      by : (o : Option Walk) → walk t.maps at ≡ o → touch_walked (away_at t.places) t (scene_of t frames) kind o ≡ Ready → (w : Walk) × (walk t.maps at ≡ Some w) × IsReadyBy (away_at t.places) (use_of kind) w
      by None r g = absurd (cc g)
      by (Some w) r g = (w, r, ready_from (away_at t.places) t (scene_of t frames) kind w g)

  pub touch_ready : (kind : Kind) (frames : ℕ) (w : Walk) → walk t.maps at ≡ Some w → IsReadyBy (away_at t.places) (use_of kind) w → touch_walked (away_at t.places) t (scene_of t frames) kind (walk_of t.maps slot) ≡ Ready
  touch_ready kind frames w e r = ap (touch_walked (away_at t.places) t (scene_of t frames) kind) (walk_at ∙ e) ∙ ready_to (away_at t.places) t (scene_of t frames) kind w r

  -- a look finds exactly what a touch finds ready
  pub find_from : (kind : Kind) (frames : ℕ) → IsSome (option_and_then (λ h. found h.0) (option_and_then (ready_home (use_of kind)) (walk t.maps at))) → touch_walked (away_at t.places) t (scene_of t frames) kind (walk_of t.maps slot) ≡ Ready
  find_from kind frames e = let r = some_ready (use_of kind) e in touch_ready kind frames r.0 r.1 r.2

  pub find_to : (kind : Kind) (frames : ℕ) → touch_walked (away_at t.places) t (scene_of t frames) kind (walk_of t.maps slot) ≡ Ready → IsSome (option_and_then (λ h. found h.0) (option_and_then (ready_home (use_of kind)) (walk t.maps at)))
  find_to kind frames e = let r = walk_some kind frames e in ready_some (use_of kind) r.0 r.1 r.2

  pub change_touched : (frames : ℕ) → IsSome (option_and_then (λ h. found h.0) (option_and_then (ready_home to.Change) (walk t.maps at)))
      → (touch_walked (away_at t.places) t (scene_of t frames) Read (walk_of t.maps slot) ≡ Ready) × (touch_walked (away_at t.places) t (scene_of t frames) Write (walk_of t.maps slot) ≡ Ready)
  change_touched frames e =
      let r = some_ready to.Change e in
      let b = change_to (away_at t.places) t (scene_of t frames) r.0 r.2 in
      (touch_ready Read frames r.0 r.1 b.0, touch_ready Write frames r.0 r.1 b.1)

  pub touched_change : (frames : ℕ) → (touch_walked (away_at t.places) t (scene_of t frames) Read (walk_of t.maps slot) ≡ Ready) × (touch_walked (away_at t.places) t (scene_of t frames) Write (walk_of t.maps slot) ≡ Ready)
      → IsSome (option_and_then (λ h. found h.0) (option_and_then (ready_home to.Change) (walk t.maps at)))
  touched_change frames e =
      let r = walk_some Read frames e.0 in
      let v = walk_some Write frames e.1 in
      let same : v.0 ≡ r.0 = (let z : Some v.0 ≡ Some r.0 = sym v.1 ∙ r.1 in cc z) in
      ready_some to.Change r.0 r.1 (change_from (away_at t.places) t (scene_of t frames) r.0 r.2 (subst (λ (w : Walk). IsReadyBy (away_at t.places) to.Write w) same v.2))

  -- the word at an address, in a page that was found
  pub load_word : (d : DrumWords) → AreSized t.places d → (spot : AFound) (offset x : ℕ) → option_and_then (λ w. option_and_then (λ h. found h.0) w.home) (walk t.maps at) ≡ Some spot
      → ((home : ℕ) → found home ≡ Some spot → word_in (place t.places home) offset ≡ Some x) → word_at (plain_of t d) (in_map slot) offset ≡ x
  load_word d sized spot offset x e reads = by (walk t.maps at) refl e
    where
      home_by : (w : Walk) → walk t.maps at ≡ Some w → (o : Option Home) → w.home ≡ o → option_and_then (λ h. found h.0) o ≡ Some spot → word_at (plain_of t d) (in_map slot) offset ≡ x
      home_by w r None is_home g = absurd (cc g)
      home_by w r (Some h) is_home g =
          let y = word_here (place t.places h.0) offset x (reads h.0 g) in
          ap (λ ws. slice_index ws offset) (words_are t a slot w (found_at w r) d sized h y.0 is_home (content_here t.places d h.0 y.0 y.1)) ∙ sym y.2

      by : (o : Option Walk) → walk t.maps at ≡ o → option_and_then (λ w. option_and_then (λ h. found h.0) w.home) o ≡ Some spot → word_at (plain_of t d) (in_map slot) offset ≡ x
      by None r g = absurd (cc g)
      by (Some w) r g = home_by w r w.home refl g

is_words : (p : HomePlace) → is_here p ≡ true → (words : List ℕ) × (p ≡ here words)
is_words free e = absurd (cc e)
is_words away e = absurd (cc e)
is_words (here words) e = (words, refl)

-- a place that a touch finds ready has its page in a frame
pub ready_near : (t : Tables) (frames : ℕ) (kind : Kind) (at : Place) (h : Home) → home_at t at ≡ Some h → touch_of_place t frames at kind ≡ Ready → away_at t.places h.0 ≡ None
ready_near t frames kind (Fork s) h home ready = by (walk_of t.maps s) home ready
  where
    by : (o : Option Walk) → option_and_then (λ w. w.home) o ≡ Some h → touch_walked (away_at t.places) t (scene_of t frames) kind o ≡ Ready → away_at t.places h.0 ≡ None
    by None is k = absurd (cc is)
    by (Some w) is k =
        let b = ready_from (away_at t.places) t (scene_of t frames) kind w k in
        let l = home_let (away_at t.places) t (scene_of t frames) (lets_along (use_of kind) w) w.home b.0 b.1 in
        let same : b.0 ≡ h = (let z : Some b.0 ≡ Some h = sym l.1 ∙ is in cc z) in
        ap (λ (x : Home). away_at t.places x.0) (sym same) ∙ b.2
ready_near t frames kind (File f page) h home ready =
    let m = made_ready (away_at t.places) t (scene_of t frames) (Some h) None (sym (ap (touch_filed (away_at t.places) t (scene_of t frames) kind) home) ∙ ready) in
    let same : m.0 ≡ h = (let z : Some h ≡ Some m.0 = m.1 in cc z) in
    ap (λ (x : Home). away_at t.places x.0) (sym same) ∙ m.3

-- the page of a place that a touch finds ready is in a frame
module _ (t : Tables) (a : AreTables t) (at : Place) (h : Home) (r : Reached t at h) (frames : ℕ) (kind : Kind) (ready : touch_of_place t frames at kind ≡ Ready) where
  pub ready_words : (words : List ℕ) × (place t.places h.0 ≡ here words)
  ready_words = is_words (place t.places h.0) (here_when t.places h.0 (reached_taken t a at h r) (ready_near t frames kind at h r.home ready))

-- the page of a place that was found
pub record Placed (t : Tables) (found : ℕ → Option AFound) (spot : AFound) (s : Slot) : Type 0 where
  pub home : Home
  pub spots : found home.0 ≡ Some spot
  pub reached : Reached t (Fork s) home
  pub words : List ℕ
  pub holds : place t.places home.0 ≡ here words

pub placed : (t : Tables) (a : AreTables t) (found : ℕ → Option AFound) (finds : (h : ℕ) → is_some (found h) ≡ is_here (place t.places h)) (k page : ℕ) (f : ForkName) (is : fork_at t.maps k ≡ Some f) (spot : AFound)
    → option_and_then (λ w. option_and_then (λ h. found h.0) w.home) (walk t.maps (record { map = k; page = page })) ≡ Some spot → Placed t found spot (record { fork = f; page = page })
placed t a found finds k page f is spot e = by (walk t.maps (record { map = k; page = page })) refl e
  where
    home_by : (w : Walk) → walk t.maps (record { map = k; page = page }) ≡ Some w → (o : Option Home) → w.home ≡ o → option_and_then (λ h. found h.0) o ≡ Some spot → Placed t found spot (record { fork = f; page = page })
    home_by w r None is_home g = absurd (cc g)
    home_by w r (Some h) is_home g =
        let x = is_words (place t.places h.0) (sym (finds h.0) ∙ ap is_some g) in
        record {
          home = h;
          spots = g;
          reached = reached_slot t a (record { fork = f; page = page }) w h (walk_at t a found finds k page f is ∙ r) (found_at t a found finds k page f is w r) is_home;
          words = x.0;
          holds = x.1;
        }

    by : (o : Option Walk) → walk t.maps (record { map = k; page = page }) ≡ o → option_and_then (λ w. option_and_then (λ h. found h.0) w.home) o ≡ Some spot → Placed t found spot (record { fork = f; page = page })
    by None r g = absurd (cc g)
    by (Some w) r g = home_by w r w.home refl g
