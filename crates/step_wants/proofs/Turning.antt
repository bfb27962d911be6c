-- What a turn of a call needs first is the home of one of its names.
use Rattle.std.proofs.Common.{◌≡◌, ◌⊎◌, inl, inr, ⊎_elim, ℕ, zero, suc, List, [], ◌∷◌, ◌++◌, map, Bool, true, false, cond, Option, None, Some, refl, sym, ◌∙◌, ap}
use Rattle.std.specs.Option.{option_and_then, option_map, option_map_or, option_or}
use Rattle.std.specs.Ordering.{nat_cmp}
use Rattle.std.specs.Prelude.{nat_lt, unwrap_or}
use Rattle.machine_names.specs.declared.names.ForkName.{ForkName}
use Rattle.machine_names.specs.declared.names.Kind.{Kind}
use Rattle.machine_names.specs.declared.names.PageName.{PageName}
use Rattle.machine_names.specs.declared.names.Slot.{Slot}
use Rattle.machine_names.specs.declared.names.Tty.{Tty}
use Rattle.page_homes.specs.declared.homes.Home.{Home}
use Rattle.page_contracts.specs.declared.answers.Need.{Need}
use Rattle.page_contracts.specs.declared.answers.Need.TheVariants as need
use Rattle.page_contracts.specs.declared.answers.Touch.{Touch}
use Rattle.page_contracts.specs.declared.answers.Touch.TheVariants as touch
use Rattle.page_contracts.specs.Pages.{Scene, TakesMap, absent_or, announced, frames_taken, is_sole, map_away, page_away, touch_of, touched_by}
use Rattle.plain_pages.specs.declared.map.MapEntry.{MapEntry}
use Rattle.plain_pages.specs.declared.map.MapEntry.TheVariants.{Empty, Follows, Names}
use Rattle.plain_pages.specs.Maps.{entry_at, followed, maps_from, maps_on_way, maps_within}
use Rattle.plain_pages.specs.NewMaps.{with_map}
use Rattle.plain_pages.specs.PlainPages.{NumberedPages}
use Rattle.plain_pages.specs.References.{Making, blank, copy, Referred, Spot, denied, full, granted, in_file, in_map, next_making, page_at, reference, word_at}
use Rattle.plain_pages.specs.Room.{HasRoom}
use Rattle.plain_units.specs.declared.registers.Regs.{Regs}
use Rattle.plain_units.specs.Steps.{Ending, Planned, Steps, begun, call, done, need as needs, pages_left, stopped, trap}
use Rattle.plain_units.specs.Blocks.{steps_on}
use Rattle.plain_model.specs.Calls.{Sight, Turn, adds, ends, entry_of, finds, looks, makes, reads, sees, spot_of, stepped, takes, touched, touches}
use Rattle.plain_model.specs.declared.call.End.{End}
use Rattle.plain_model.specs.declared.call.Touched.{Touched}
use Rattle.plain_model.specs.declared.call.Touched.TheVariants as came
use Rattle.fork_calls.specs.Needing.{WordsNeed}
use Rattle.call_turns.specs.Needing.{FirstNeeds, NeedsFrame, OneTouchNeeds, ReferredLater, SpotNeeds, TurnNeeds}
use Rattle.call_turns.specs.Telling.{entry_need, find_need, need_behind, need_in, touch_need, way_need, word_need}
use Rattle.text_pointers.specs.Needing.{NeedsFirst, StepsNeed, frames_left}
use Rattle.ka10_unit.specs.Taking.{Plan, run_over}
use Rattle.ka10_unit.proofs.Plainly.{plain_of}
use Rattle.step_wants.specs.Names.{Housed, a_map, is_named, maps_to, names_of_steps, names_of_turn, names_on_way}
use Rattle.step_wants.specs.Naming.{AreHomed}
use Rattle.step_wants.proofs.Away.{map_named, named_behind, named_first, named_more, or_first, or_later, page_is_named}
use Rattle.step_wants.proofs.Stepping.{steps_named}

-- this is needed first, or what comes later needs it
first_so : {Later : Type 0} (o : Option Need) (n : Need) → FirstNeeds o Later n → (o ≡ Some n) ⊎ Later
first_so (Some m) n is = inl (ap Some (sym is))
first_so None n is = inr is

-- a map or a page that is needed by an option of a home
home_needed : (o : Option ℕ) (home : Home) → option_map (λ (h : ℕ). need.Page (record { 0 = h })) o ≡ Some (need.Page home) → o ≡ Some home.0
home_needed None home is = absurd (cc is)
home_needed (Some h) home is = ap number is
  where
    number : Option Need → Option ℕ
    number None = None
    number (Some need.Frame) = None
    number (Some (need.Page at)) = Some at.0

entry_away : (scene : Scene) (s : Slot) (o : Option MapEntry) (home : Home) → option_and_then (λ (e : MapEntry). option_map (λ (h : ℕ). need.Page (record { 0 = h })) (scene.map_away s.fork)) o ≡ Some (need.Page home)
    → scene.map_away s.fork ≡ Some home.0
entry_away scene s None home is = absurd (cc is)
entry_away scene s (Some e) home is = home_needed (scene.map_away s.fork) home is

module _ (map_home : ForkName → Option ℕ) (page_home : PageName → Option ℕ) where
  abbrev named : List Housed → Home → Bool
  named names home = is_named map_home page_home names home.0

  pub named_front : (home : Home) (xs ys : List Housed) → named xs home ≡ true → named (xs ++ ys) home ≡ true
  named_front home xs ys is = named_more map_home page_home home.0 xs ys ∙ or_first (named xs home) (named ys home) is

  pub named_later : (home : Home) (xs ys : List Housed) → named ys home ≡ true → named (xs ++ ys) home ≡ true
  named_later home xs ys is = named_more map_home page_home home.0 xs ys ∙ or_later (named xs home) (named ys home) is

  pub entry_named : (scene : Scene) (p : NumberedPages) (s : Slot) (home : Home) (names : List Housed) → AreHomed map_home page_home scene → entry_need scene p s ≡ Some (need.Page home) → named (a_map s.fork ∷ names) home ≡ true
  entry_named scene p s home names homed is = named_first map_home page_home home.0 (a_map s.fork) names (homed.maps s.fork home.0 (entry_away scene s (entry_at p.maps s) home is))

  -- the first map on a way that is in no frame
  way_named : (n : ℕ) (scene : Scene) (p : NumberedPages) (s : Slot) (home : Home) → AreHomed map_home page_home scene → way_need n scene p s ≡ Some (need.Page home)
      → named (map a_map (maps_within n (entry_at p.maps) s)) home ≡ true
  unfolding maps_within
  way_named zero scene p s home homed is = absurd (cc is)
  way_named (suc n) scene p s home homed is = by (entry_at p.maps s) (λ r. way_named n scene p r home homed) is
    where
      first : Option MapEntry → Option Need
      first o = option_and_then (λ (e : MapEntry). option_map (λ (h : ℕ). need.Page (record { 0 = h })) (scene.map_away s.fork)) o

      here : (names : List Housed) → scene.map_away s.fork ≡ Some home.0 → named (a_map s.fork ∷ names) home ≡ true
      here names away = named_first map_home page_home home.0 (a_map s.fork) names (homed.maps s.fork home.0 away)

      whether : (o : Option ℕ) (rest : Option Need) → option_or (option_map (λ (h : ℕ). need.Page (record { 0 = h })) o) rest ≡ Some (need.Page home) → (o ≡ Some home.0) ⊎ (rest ≡ Some (need.Page home))
      whether None rest e = inr e
      whether (Some h) rest e = inl (home_needed (Some h) home e)

      by : (o : Option MapEntry) → ((r : Slot) → way_need n scene p r ≡ Some (need.Page home) → named (map a_map (maps_within n (entry_at p.maps) r)) home ≡ true)
          → option_or (first o) (need_behind s (unwrap_or o Empty) (way_need n scene p)) ≡ Some (need.Page home)
          → named (map a_map (maps_from s o (maps_within n (entry_at p.maps)))) home ≡ true
      by None rest e = absurd (cc e)
      by (Some Empty) rest e = ⊎_elim (here []) (λ no. absurd (cc no)) (whether (scene.map_away s.fork) None e)
      by (Some (Names m a)) rest e = ⊎_elim (here []) (λ no. absurd (cc no)) (whether (scene.map_away s.fork) None e)
      by (Some (Follows serial page a)) rest e =
          let next = followed s serial page in
          ⊎_elim (here (map a_map (maps_within n (entry_at p.maps) next)))
          (λ later. named_behind map_home page_home home.0 (a_map s.fork) (map a_map (maps_within n (entry_at p.maps) next)) (rest next later))
          (whether (scene.map_away s.fork) (way_need n scene p next) e)

  find_named : (scene : Scene) (p : NumberedPages) (at : Option (Spot ℕ)) (home : Home) → AreHomed map_home page_home scene → find_need scene p at ≡ Some (need.Page home) → named (option_map_or (maps_to p) at []) home ≡ true
  unfolding maps_on_way
  find_named scene p (Some (in_map s)) home homed is = way_named 4 scene p s home homed is
  find_named scene p (Some (in_file f)) home homed is = absurd (cc is)
  find_named scene p None home homed is = absurd (cc is)

  word_named : (scene : Scene) (p : NumberedPages) (at : Option (Spot ℕ)) (home : Home) → AreHomed map_home page_home scene → word_need scene p at ≡ Some (need.Page home) → named (option_map_or (names_on_way p) at []) home ≡ true
  word_named scene p None home homed is = absurd (cc is)
  word_named scene p (Some at) home homed is = page_is_named map_home page_home p at scene home.0 homed (home_needed (page_away p scene at) home is)

  -- a touch that answers a home
  touch_named : (scene : Scene) (p : NumberedPages) (at : Spot ℕ) (kind : Kind) (owner : Tty) (home : Home) → AreHomed map_home page_home scene → touch_need scene p at kind owner ≡ Some (need.Page home) → named (names_on_way p at) home ≡ true
  unfolding touch_of
  touch_named scene p at kind owner home homed = by (map_away p scene at) refl (reference p at kind owner)
    where
      home_in : (h : ℕ) → Some (need.Page (record { 0 = h })) ≡ Some (need.Page home) → Some h ≡ Some home.0
      home_in h e = home_needed (Some h) home e

      in_frames : (b : Bool) (t : Touch) → need_in t ≡ None → need_in (cond b t touch.NeedFrame) ≡ Some (need.Page home) → ⊥
      in_frames true t none e = cc (sym none ∙ e)
      in_frames false t none e = cc e

      copies : (sole b : Bool) → need_in (cond sole (touch.Copy true) (cond b (touch.Copy false) touch.NeedFrame)) ≡ Some (need.Page home) → ⊥
      copies true b e = cc e
      copies false b e = in_frames b (touch.Copy false) refl e

      announces : (m : Option (Making ℕ)) → need_in (announced p scene m) ≡ Some (need.Page home) → ⊥
      announces None e = cc e
      announces (Some (blank spot)) e = in_frames (nat_lt 0 scene.free_frames) touch.Zero refl e
      announces (Some (copy s access)) e = copies (is_sole p (entry_at p.maps s)) (nat_lt 0 scene.free_frames) e

      here : (away : Option ℕ) → page_away p scene at ≡ away → need_in (absent_or away (announced p scene (next_making p at kind))) ≡ Some (need.Page home) → named (names_on_way p at) home ≡ true
      here None is e = absurd (announces (next_making p at kind) e)
      here (Some h) is e = page_is_named map_home page_home p at scene home.0 homed (is ∙ home_in h e)

      by : (way : Option ℕ) → map_away p scene at ≡ way → (x : Referred nat_cmp) → need_in (absent_or way (touched_by p scene at kind x)) ≡ Some (need.Page home) → named (names_on_way p at) home ≡ true
      by (Some h) there x e = map_named map_home page_home p at scene home.0 homed (there ∙ home_in h e)
      by None there (granted q) e = here (page_away p scene at) refl e
      by None there (denied k) e = absurd (cc e)
      by None there full e = absurd (cc e)

  -- what references of a turn need that make one page at most
  pub one_touch_so : (scene : Scene) (p : NumberedPages) (owner : Tty) (at : Spot ℕ) (kind : Kind) (later : Scene → NumberedPages → Touched → Type 0) (home : Home) (rest : NumberedPages → Touched → List Housed) → AreHomed map_home page_home scene
      → ((after : Scene) (q : NumberedPages) (what : Touched) → AreHomed map_home page_home after → later after q what → named (rest q what) home ≡ true)
      → OneTouchNeeds scene p owner at kind later (need.Page home) → named (names_on_way p at ++ touched p (reference p at kind owner) rest) home ≡ true
  one_touch_so scene p owner at kind later home rest homed each is =
      ⊎_elim (λ e. named_front home (names_on_way p at) (touched p (reference p at kind owner) rest) (touch_named scene p at kind owner home homed e))
      (λ more. named_later home (names_on_way p at) (touched p (reference p at kind owner) rest) (by (frames_taken (touch_of p scene at kind owner)) (reference p at kind owner) more))
      (first_so (touch_need scene p at kind owner) (need.Page home) is)
    where
      by : (taken : ℕ) (x : Referred nat_cmp) → ReferredLater scene p taken x later → named (touched p x rest) home ≡ true
      by taken (granted q) more =
          let takes_frames = more.1 in
          each more.0 q came.Granted (record {
            maps = λ f h e. homed.maps f h (ap (λ (m : ForkName → Option ℕ). m f) (sym takes_frames.maps) ∙ e);
            pages = λ n h e. homed.pages n h (ap (λ (m : PageName → Option ℕ). m n) (sym takes_frames.pages) ∙ e);
          }) more.2
      by taken (denied k) more = each scene p came.Denied homed more
      by taken full more = each scene p came.Full homed more

  -- what steps of a turn need
  pub steps_so : (scene : Scene) (p : NumberedPages) (f : ForkName) (regs : Regs) (steps : Steps) (later : Scene → NumberedPages → Ending → Type 0) (home : Home) (rest : NumberedPages → Ending → List Housed) → AreHomed map_home page_home scene
      → ((after : Scene) (q : NumberedPages) (e : Ending) → AreHomed map_home page_home after → later after q e → named (rest q e) home ≡ true)
      → StepsNeed scene p f regs steps later (need.Page home) → named (names_of_steps f steps (begun p regs.ac) ++ stepped f (steps_on f regs steps p) rest (λ channel. [])) home ≡ true
  steps_so scene p f regs steps later home rest homed each is = by (run_over f (record { pages = p; scene = scene }) steps (begun p regs.ac)) refl is
    where
      front : List Housed
      front = names_of_steps f steps (begun p regs.ac)

      by : (plan : Plan) → run_over f (record { pages = p; scene = scene }) steps (begun p regs.ac) ≡ plan → NeedsFirst f scene p plan later (need.Page home) → named (front ++ stepped f (steps_on f regs steps p) rest (λ channel. [])) home ≡ true
      by (done t e) at holds =
          let plain : steps_on f regs steps p ≡ done t e = plain_of f (record { pages = p; scene = scene }) steps (begun p regs.ac) (done t e) at in
          named_later home front (stepped f (steps_on f regs steps p) rest (λ channel. []))
          (ap (λ (x : Planned nat_cmp ⊥). named (stepped f x rest (λ channel. [])) home) plain ∙ each (frames_left scene p (pages_left f t e)) (pages_left f t e) e (record { maps = homed.maps; pages = homed.pages }) holds)
      by (stopped (needs m)) at holds =
          named_front home front (stepped f (steps_on f regs steps p) rest (λ channel. []))
          (steps_named map_home page_home f (record { pages = p; scene = scene }) home homed steps (begun p regs.ac) (at ∙ ap (λ (n : Need). stopped (needs n)) (sym holds)))
      by (stopped (trap channel)) at holds = absurd holds
      by (call number) at holds = absurd holds

  -- what the words of a fork call need
  pub words_so : (scene : Scene) (p : NumberedPages) (f : ForkName) (regs : Regs) (steps : Steps) (later : Scene → NumberedPages → Ending → Type 0) (home : Home) (rest : NumberedPages → Ending → List Housed) → AreHomed map_home page_home scene
      → WordsNeed scene p f regs steps later (need.Page home) → named (names_of_steps f steps (begun p regs.ac) ++ stepped f (steps_on f regs steps p) rest (λ channel. [])) home ≡ true
  words_so scene p f regs steps later home rest homed is =
      named_front home (names_of_steps f steps (begun p regs.ac)) (stepped f (steps_on f regs steps p) rest (λ channel. []))
      (steps_named map_home page_home f (record { pages = p; scene = scene }) home homed steps (begun p regs.ac) is)

-- A TURN, whatever says what its steps, its references and its end need
module _ (map_home : ForkName → Option ℕ) (page_home : PageName → Option ℕ) (home : Home) {F C : Type 0} (sight : Sight F ℕ)
    (StepsBy : Scene → NumberedPages → ForkName → Regs → Steps → (Scene → NumberedPages → Ending → Type 0) → Need → Type 0)
    (TouchBy : Scene → NumberedPages → Tty → Spot ℕ → Kind → (Scene → NumberedPages → Touched → Type 0) → Need → Type 0)
    (EndBy : Scene → NumberedPages → End C → Need → Type 0) (at_end : End C → List Housed) where
  abbrev Named : List Housed → Type 0
  Named names = is_named map_home page_home names home.0 ≡ true

  abbrev Homed : Scene → Type 0
  Homed scene = AreHomed map_home page_home scene

  pub turn_named :
      ((scene : Scene) (p : NumberedPages) (f : ForkName) (regs : Regs) (steps : Steps) (later : Scene → NumberedPages → Ending → Type 0) (rest : NumberedPages → Ending → List Housed) → Homed scene
      → ((after : Scene) (q : NumberedPages) (e : Ending) → Homed after → later after q e → Named (rest q e))
      → StepsBy scene p f regs steps later (need.Page home) → Named (names_of_steps f steps (begun p regs.ac) ++ stepped f (steps_on f regs steps p) rest (λ channel. [])))
      → ((scene : Scene) (p : NumberedPages) (owner : Tty) (at : Spot ℕ) (kind : Kind) (later : Scene → NumberedPages → Touched → Type 0) (rest : NumberedPages → Touched → List Housed) → Homed scene
      → ((after : Scene) (q : NumberedPages) (what : Touched) → Homed after → later after q what → Named (rest q what))
      → TouchBy scene p owner at kind later (need.Page home) → Named (names_on_way p at ++ touched p (reference p at kind owner) rest))
      → ((scene : Scene) (p : NumberedPages) (e : End C) → Homed scene → EndBy scene p e (need.Page home) → Named (at_end e))
      → (t : Turn F C) (scene : Scene) (p : NumberedPages) → Homed scene → TurnNeeds sight StepsBy TouchBy EndBy scene p t (need.Page home) → Named (names_of_turn sight at_end p t)
  unfolding names_of_turn
  turn_named by_steps by_touch by_end (sees s next) scene p homed is =
      ⊎_elim (entry_named map_home page_home scene p s home (names_of_turn sight at_end p (next (entry_of p s))) homed)
      (λ more. named_behind map_home page_home home.0 (a_map s.fork) (names_of_turn sight at_end p (next (entry_of p s))) (turn_named by_steps by_touch by_end (next (entry_of p s)) scene p homed more))
      (first_so (entry_need scene p s) (need.Page home) is)
  turn_named by_steps by_touch by_end (finds at next) scene p homed is =
      let spot = spot_of sight at in
      let front = option_map_or (maps_to p) spot [] in
      ⊎_elim (λ e. named_front map_home page_home home front (names_of_turn sight at_end p (next (option_and_then (page_at p) (spot_of sight at)))) (find_named map_home page_home scene p spot home homed e))
      (λ more. named_later map_home page_home home front (names_of_turn sight at_end p (next (option_and_then (page_at p) (spot_of sight at)))) (turn_named by_steps by_touch by_end (next (option_and_then (page_at p) (spot_of sight at))) scene p homed more))
      (first_so (find_need scene p spot) (need.Page home) is)
  turn_named by_steps by_touch by_end (reads f offset next) scene p homed is =
      let spot = spot_of sight (in_file f) in
      let front = option_map_or (names_on_way p) spot [] in
      ⊎_elim (λ e. named_front map_home page_home home front (names_of_turn sight at_end p (next (option_map_or (λ at. word_at p at offset) (spot_of sight (in_file f)) 0))) (word_named map_home page_home scene p spot home homed e))
      (λ more. named_later map_home page_home home front (names_of_turn sight at_end p (next (option_map_or (λ at. word_at p at offset) (spot_of sight (in_file f)) 0))) (turn_named by_steps by_touch by_end (next (option_map_or (λ at. word_at p at offset) (spot_of sight (in_file f)) 0)) scene p homed more))
      (first_so (word_need scene p spot) (need.Page home) is)
  turn_named by_steps by_touch by_end (touches owner at kind next) scene p homed is = by (spot_of sight at) (λ after q what there. turn_named by_steps by_touch by_end (next what) after q there) is
    where
      later : Scene → NumberedPages → Touched → Type 0
      later after q what = TurnNeeds sight StepsBy TouchBy EndBy after q (next what) (need.Page home)

      rest : NumberedPages → Touched → List Housed
      rest q what = names_of_turn sight at_end q (next what)

      by : (spot : Option (Spot ℕ)) → ((after : Scene) (q : NumberedPages) (what : Touched) → Homed after → later after q what → Named (rest q what))
          → SpotNeeds sight StepsBy TouchBy EndBy scene p owner spot kind later (need.Page home)
          → Named (option_map_or (names_on_way p) spot [] ++ touched p (option_map_or (λ s. reference p s kind owner) spot (denied kind)) rest)
      by None each e = each scene p came.Denied homed e
      by (Some s) each e = by_touch scene p owner s kind later rest homed each e
  turn_named by_steps by_touch by_end (takes f regs steps next) scene p homed is =
      by_steps scene p f regs steps (λ after q e. TurnNeeds sight StepsBy TouchBy EndBy after q (next e) (need.Page home)) (λ q e. names_of_turn sight at_end q (next e)) homed
      (λ after q e there. turn_named by_steps by_touch by_end (next e) after q there) is
  turn_named by_steps by_touch by_end (adds f entries next) scene p homed is = by (HasRoom (with_map p f entries) f.tty) refl (λ after q room there. turn_named by_steps by_touch by_end (next room) after q there) is
    where
      by : (room : Bool) → HasRoom (with_map p f entries) f.tty ≡ room
          → ((after : Scene) (q : NumberedPages) (r : Bool) → Homed after → TurnNeeds sight StepsBy TouchBy EndBy after q (next r) (need.Page home) → Named (names_of_turn sight at_end q (next r)))
          → (NeedsFrame scene p f entries (need.Page home)
          ⊎ (((HasRoom (with_map p f entries) f.tty ≡ true) × ((after : Scene) × TakesMap scene after f × TurnNeeds sight StepsBy TouchBy EndBy after (with_map p f entries) (next true) (need.Page home)))
          ⊎ ((HasRoom (with_map p f entries) f.tty ≡ false) × TurnNeeds sight StepsBy TouchBy EndBy scene p (next false) (need.Page home))))
          → Named (names_of_turn sight at_end (cond room (with_map p f entries) p) (next room))
      by room at each (inl frame) = absurd (cc frame.is)
      by true at each (inr (inl there)) =
          let takes_map = there.1.1 in
          each there.1.0 (with_map p f entries) true (record {
            maps = λ g h e. homed.maps g h (ap (λ (m : ForkName → Option ℕ). m g) (sym takes_map.maps) ∙ e);
            pages = λ n h e. homed.pages n h (ap (λ (m : PageName → Option ℕ). m n) (sym takes_map.pages) ∙ e);
          }) there.1.2
      by true at each (inr (inr none)) = absurd (cc (sym at ∙ none.0))
      by false at each (inr (inl there)) = absurd (cc (sym at ∙ there.0))
      by false at each (inr (inr none)) = each scene p false homed none.1
  turn_named by_steps by_touch by_end (looks name next) scene p homed is = turn_named by_steps by_touch by_end (next (sight.is_name name)) scene p homed is
  turn_named by_steps by_touch by_end (makes name next) scene p homed is = turn_named by_steps by_touch by_end (next sight.has_more) scene p homed is
  turn_named by_steps by_touch by_end (ends e) scene p homed is = by_end scene p e homed is
