-- The last step of a turn, which refers to a page: how the turn comes out by what a touch answers.
use Rattle.std.proofs.Common.{◌≡◌, ◌⊎◌, inl, inr, ℕ, ◌-◌, ◌≤◌, ◌<◌, Bool, true, false, cond, List, [], ◌∷◌, Option, None, Some, Result, Ok, Err, refl, sym, ◌∙◌, ap, subst, arith, nat_cmp}
use Rattle.std.specs.Prelude.{is_some, nat_lt}
use Rattle.std.specs.Option.{option_and_then, option_or}
use Rattle.std.specs.FinMap as map
use Rattle.std.proofs.lemmas.Bool.Decides.{nat_tests}
use Rattle.machine_names.specs.declared.names.FileNo.{FileNo}
use Rattle.machine_names.specs.declared.names.PageName.{PageName}
use Rattle.machine_names.specs.declared.names.Slot.{Slot}
use Rattle.machine_names.specs.declared.names.Tty.{Tty}
use Rattle.machine_names.specs.declared.names.Kind.{Kind}
use Rattle.machine_names.specs.declared.names.Kind.TheVariants as kind
use Rattle.machine_names.specs.Orders.{FilePage, file_page}
use Rattle.page_contracts.specs.declared.answers.Touch.{Touch}
use Rattle.page_contracts.specs.declared.answers.Touch.TheVariants.{Ready, Zero, Copy, Absent, NeedFrame, Denied, Full}
use Rattle.page_contracts.specs.declared.answers.Need.{Need}
use Rattle.page_contracts.specs.Pages.{Scene, TakesFrames, announced, absent_or, is_sole, map_away, page_away, touch_of, touched_by, frames_taken}
use Rattle.page_contracts.proofs.Touches.{ready_touch, zero_touch, copy_touch, denied_touch, full_touch}
use Rattle.plain_pages.specs.PlainPages.{NumberedPages}
use Rattle.plain_pages.specs.Maps.{Chain, chain, entry_at, permits}
use Rattle.plain_pages.specs.Room.{HasRoom}
use Rattle.plain_pages.specs.References.{Spot, in_map, in_file, Making, blank, copy, along_chain, in_its_file, makings, make, make_all, Referred, granted, denied, full, reference, settled, next_making, page_at}
use Rattle.plain_pages.proofs.ReferencesMade.{reference_denied, reference_makes, reference_stays, settled_makes, settled_stays, make_first, roomy}
use Rattle.plain_model.specs.declared.call.End.{End}
use Rattle.plain_model.specs.declared.call.End.TheVariants.{Refused}
use Rattle.plain_model.specs.declared.call.TheConstants.{NO_PAGE}
use Rattle.plain_model.specs.Calls.{Turn, Came, Sight, touched, turn_on, granted_or, ends}
use Rattle.call_turns.specs.declared.turn.Grant.TheVariants.{Fill}
use Rattle.call_turns.specs.declared.turn.Outcome.{Outcome}
use Rattle.call_turns.specs.declared.turn.WhenFull.{WhenFull}
use Rattle.call_turns.specs.declared.turn.WhenFull.TheVariants as full_as
use Rattle.call_turns.specs.Granting.{filled_by, read_by, refused}
use Rattle.call_turns.specs.Needing.{DrivenTo, Matches}
use Rattle.call_turns.specs.Numbers.{by_number}
use Rattle.call_turns.specs.Telling.{looks_need, need_in, told, way_need}
use Rattle.call_turns.specs.Turns.{filling, full_end, reading, touching}
use Rattle.call_turns.proofs.Looks.{told_is, needed_is}

module _ (p : NumberedPages) (owner : Tty) where
  -- what is referred to in a file
  module _ (f : FilePage ℕ) where
    file_makings : (n : Option PageName) → map.get p.files f ≡ n → makings p (in_file f) kind.Write ≡ in_its_file kind.Write f n
    unfolding makings
    file_makings n is = ap (in_its_file kind.Write f) is

    -- a write that is granted makes one page at most, and no entry of a map is another then
    pub filled_is : (q : NumberedPages) → reference p (in_file f) kind.Write owner ≡ granted q → (settled p (in_file f) kind.Write owner ≡ q) × (q.maps ≡ p.maps)
    unfolding make make_all
    filled_is q h = by (map.get p.files f) refl
      where
        by : (n : Option PageName) → map.get p.files f ≡ n → (settled p (in_file f) kind.Write owner ≡ q) × (q.maps ≡ p.maps)
        by (Some n) is =
            let same : granted p ≡ granted q = sym (reference_stays p owner (in_file f) kind.Write (file_makings (Some n) is)) ∙ h in
            let e : p ≡ q = cc same in
            (settled_stays p owner (in_file f) kind.Write (file_makings (Some n) is) ∙ e, ap (λ (x : NumberedPages). x.maps) (sym e))
        by None is =
            let m : Making ℕ = blank (in_file f) in
            let one : makings p (in_file f) kind.Write ≡ Some (m ∷ []) = file_makings None is in
            let r = roomy (HasRoom (make p owner m) owner) (make_all (make p owner m) owner []) q (sym (make_first p owner m []) ∙ sym (reference_makes p owner (in_file f) kind.Write (m ∷ []) one) ∙ h) in
            let e : make p owner m ≡ q = cc r.1 in
            (settled_makes p owner (in_file f) kind.Write m [] one ∙ e, ap (λ (x : NumberedPages). x.maps) (sym e))

  -- to read a page that is there makes none
  module _ (s : Slot) (there : is_some (page_at p (in_map s)) ≡ true) where
    read_makings : (makings p (in_map s) kind.Read ≡ Some []) ⊎ (makings p (in_map s) kind.Read ≡ None)
    unfolding makings page_at
    read_makings = by (chain (entry_at p.maps) s) there
      where
        along : (c : Chain) (n : Option PageName) → c.page ≡ n → is_some n ≡ true → (along_chain {K = ℕ} kind.Read c ≡ Some []) ⊎ (along_chain {K = ℕ} kind.Read c ≡ None)
        along c None is h = absurd (cc h)
        along c (Some n) is h = may (permits kind.Read c) (rw is refl)
          where
            may : (b : Bool) → along_chain {K = ℕ} kind.Read c ≡ cond b (Some []) None → (along_chain {K = ℕ} kind.Read c ≡ Some []) ⊎ (along_chain {K = ℕ} kind.Read c ≡ None)
            may true k = inl k
            may false k = inr k

        by : (oc : Option Chain) → is_some (option_and_then (λ c. c.page) oc) ≡ true → (option_and_then (along_chain {K = ℕ} kind.Read) oc ≡ Some []) ⊎ (option_and_then (along_chain {K = ℕ} kind.Read) oc ≡ None)
        by None h = absurd (cc h)
        by (Some c) h = along c c.page refl h

    -- it is granted, and leaves the pages, or is denied
    pub read_is : (reference p (in_map s) kind.Read owner ≡ granted p) ⊎ (reference p (in_map s) kind.Read owner ≡ denied kind.Read)
    read_is = elim read_makings [
      | inl none ↦ inl (reference_stays p owner (in_map s) kind.Read none)
      | inr refuses ↦ inr (reference_denied p owner (in_map s) kind.Read refuses)
    ]

    read_first : (m : Making ℕ) (rest : List (Making ℕ)) → makings p (in_map s) kind.Read ≡ Some (m ∷ rest) → ⊥
    read_first m rest h = elim read_makings [
      | inl none ↦ (let two : Some [] ≡ Some (m ∷ rest) = sym none ∙ h in cc two)
      | inr refuses ↦ (let two : None ≡ Some (m ∷ rest) = sym refuses ∙ h in cc two)
    ]

    read_full : reference p (in_map s) kind.Read owner ≡ full → ⊥
    read_full h = elim read_is [
      | inl none ↦ (let two : granted p ≡ full = sym none ∙ h in cc two)
      | inr refuses ↦ (let two : denied kind.Read ≡ full = sym refuses ∙ h in cc two)
    ]

-- how a turn comes out whose last step refers to a page
module _ {F C : Type 0} (seen : Sight F ℕ) (scene : Scene) (p : NumberedPages) (owner : Tty) (e : End C) (when : WhenFull) where
  abbrev pub sight : Sight ℕ ℕ
  sight = by_number seen

  abbrev pub On : Spot ℕ → Kind → Came nat_cmp C
  On at k = turn_on sight p (touching owner at k e when)

  abbrev Comes : Turn ℕ C → Result (Outcome C) Need → Type 0
  Comes t r = DrivenTo sight scene p owner t r

  module _ (at : Spot ℕ) (k : Kind) where
    abbrev pub goes : Referred nat_cmp → Came nat_cmp C
    goes r = touched p r (λ q what. turn_on sight q (ends (granted_or e (full_end when) what)))

    abbrev pub RefersTo : Type 0
    RefersTo = On at k ≡ goes (reference p at k owner)

    module _ (refers : RefersTo) where
      pub came_granted : (q : NumberedPages) → reference p at k owner ≡ granted q → On at k ≡ record { end = e; pages = q }
      unfolding turn_on
      came_granted q h = refers ∙ ap goes h

      pub came_denied : (j : Kind) → reference p at k owner ≡ denied j → On at k ≡ record { end = Refused NO_PAGE; pages = p }
      unfolding turn_on
      came_denied j h = refers ∙ ap goes h

      pub came_full : reference p at k owner ≡ full → On at k ≡ record { end = full_end when; pages = p }
      unfolding turn_on
      came_full h = refers ∙ ap goes h

  pub refers_to : (s : Slot) (k : Kind) → RefersTo (in_map s) k
  unfolding turn_on
  refers_to s k = refl

  pub refers_in : (f : FilePage ℕ) (k : Kind) → RefersTo (in_file f) k
  unfolding turn_on
  refers_in f k = refl

  -- a touch that is to read a page that is there
  module _ (s : Slot) (there : is_some (page_at p (in_map s)) ≡ true) where
    abbrev Read_as : Touch → Type 0
    Read_as t = t ≡ touch_of p scene (in_map s) kind.Read owner

    needs_is : (t : Touch) → Read_as t → looks_need sight scene p (touching owner (in_map s) kind.Read e when) ≡ need_in t
    unfolding looks_need
    needs_is t h = ap need_in (sym h)

    pub read_matches : (t : Touch) → Read_as t → Comes (touching owner (in_map s) kind.Read e when) (read_by t s e)
    read_matches Ready h = (needs_is Ready h, came_granted (in_map s) kind.Read (refers_to s kind.Read) p (reference_stays p owner (in_map s) kind.Read (ready_touch p scene owner (in_map s) kind.Read (sym h))))
    read_matches Zero h = let z = zero_touch p scene owner (in_map s) kind.Read (sym h) in absurd (read_first p owner s there (blank z.1.0) z.1.1 z.1.2)
    read_matches (Copy sole) h = let z = copy_touch p scene owner (in_map s) kind.Read sole (sym h) in absurd (read_first p owner s there (copy z.1.0 z.1.1) z.1.2 z.1.3)
    read_matches (Absent home) h = needs_is (Absent home) h
    read_matches NeedFrame h = needs_is NeedFrame h
    read_matches (Denied k) h = let d = denied_touch p scene owner (in_map s) kind.Read k (sym h) in (needs_is (Denied k) h, came_denied (in_map s) kind.Read (refers_to s kind.Read) d.0 d.1)
    read_matches Full h = absurd (read_full p owner s there (full_touch p scene owner (in_map s) kind.Read (sym h)))

  -- one that is to write a page of a file
  module _ (file : FileNo) (page : ℕ) where
    abbrev f : FilePage ℕ
    f = file_page file.0 page

    abbrev Filled_as : Touch → Type 0
    Filled_as t = t ≡ touch_of p scene (in_file f) kind.Write owner

    fills_need : (t : Touch) → Filled_as t → looks_need sight scene p (filling owner f e when) ≡ need_in t
    unfolding looks_need
    fills_need t h = ap need_in (sym h)

    fills : (q : NumberedPages) → reference p (in_file f) kind.Write owner ≡ granted q → On (in_file f) kind.Write ≡ record { end = e; pages = settled p (in_file f) kind.Write owner }
    fills q h = came_granted (in_file f) kind.Write (refers_in f kind.Write) q h ∙ ap (λ (x : NumberedPages). record { end = e; pages = x }) (sym (filled_is p owner f q h).0)

    pub filled_matches : (t : Touch) → Filled_as t → Comes (filling owner f e when) (filled_by t (Fill file page) e when)
    filled_matches Ready h = (fills_need Ready h, fills p (reference_stays p owner (in_file f) kind.Write (ready_touch p scene owner (in_file f) kind.Write (sym h))))
    filled_matches Zero h = let z = zero_touch p scene owner (in_file f) kind.Write (sym h) in (fills_need Zero h, fills z.0.0 z.0.1)
    filled_matches (Copy sole) h = let z = copy_touch p scene owner (in_file f) kind.Write sole (sym h) in (fills_need (Copy sole) h, fills z.0.0 z.0.1)
    filled_matches (Absent home) h = fills_need (Absent home) h
    filled_matches NeedFrame h = fills_need NeedFrame h
    filled_matches (Denied k) h = let d = denied_touch p scene owner (in_file f) kind.Write k (sym h) in (fills_need (Denied k) h, came_denied (in_file f) kind.Write (refers_in f kind.Write) d.0 d.1)
    filled_matches Full h = (fills_need Full h, came_full (in_file f) kind.Write (refers_in f kind.Write) (full_touch p scene owner (in_file f) kind.Write (sym h)))

-- a turn that reads the page at the end of a chain looks for that first
module _ {F C : Type 0} (seen : Sight F ℕ) (scene : Scene) (p : NumberedPages) (owner : Tty) (e : End C) where
  abbrev view : Sight ℕ ℕ
  view = by_number seen

  abbrev ReadsSo : Turn ℕ C → Result (Outcome C) Need → Type 0
  ReadsSo t r = DrivenTo view scene p owner t r

  module _ (s : Slot) where
    abbrev behind : Bool → Turn ℕ C
    behind there = cond there (touching owner (in_map s) kind.Read e full_as.Refused) (ends (Refused NO_PAGE))

    reads_need : looks_need view scene p (reading owner s e) ≡ option_or (way_need 4 scene p s) (looks_need view scene p (behind (is_some (page_at p (in_map s)))))
    unfolding looks_need
    reads_need = refl

    reads_on : turn_on view p (reading owner s e) ≡ turn_on view p (behind (is_some (page_at p (in_map s))))
    unfolding turn_on
    reads_on = refl

    found : (n : Option PageName) → Ok n ≡ told (way_need 4 scene p s) (page_at p (in_map s)) → (r : Result (Outcome C) Need) → ReadsSo (behind (is_some n)) r → ReadsSo (reading owner s e) r
    found n is r h =
        let t = told_is (way_need 4 scene p s) (page_at p (in_map s)) n is in
        let same : is_some (page_at p (in_map s)) ≡ is_some n = ap is_some (sym t.1) in
        let needs = reads_need ∙ ap (λ o. option_or o (looks_need view scene p (behind (is_some (page_at p (in_map s)))))) t.0 ∙ ap (λ b. looks_need view scene p (behind b)) same in
        subst (λ x. Matches p owner r (looks_need view scene p (reading owner s e)) x) (sym (reads_on ∙ ap (λ b. turn_on view p (behind b)) same))
        (subst (λ x. Matches p owner r x (turn_on view p (behind (is_some n)))) (sym needs) h)

    pub reads_there : (n : PageName) → Ok (Some n) ≡ told (way_need 4 scene p s) (page_at p (in_map s)) → (r : Result (Outcome C) Need) → ReadsSo (touching owner (in_map s) kind.Read e full_as.Refused) r → ReadsSo (reading owner s e) r
    reads_there n is r h = found (Some n) is r h

    pub reads_none : Ok None ≡ told (way_need 4 scene p s) (page_at p (in_map s)) → ReadsSo (reading owner s e) (Ok (refused NO_PAGE))
    unfolding turn_on looks_need
    reads_none is = found None is (Ok (refused NO_PAGE)) (refl, refl)

    pub reads_wait : (n : Need) → Err n ≡ told (way_need 4 scene p s) (page_at p (in_map s)) → ReadsSo (reading owner s e) (Err n)
    reads_wait n is = reads_need ∙ ap (λ o. option_or o (looks_need view scene p (behind (is_some (page_at p (in_map s)))))) (needed_is (way_need 4 scene p s) (page_at p (in_map s)) n is)

    -- a page is there that was found
    pub is_there : (n : PageName) → Ok (Some n) ≡ told (way_need 4 scene p s) (page_at p (in_map s)) → (way_need 4 scene p s ≡ None) × (is_some (page_at p (in_map s)) ≡ true)
    is_there n is = let t = told_is (way_need 4 scene p s) (page_at p (in_map s)) (Some n) is in (t.0, ap is_some (sym t.1))

-- the frames that are taken are free
pub frames_free : (p : NumberedPages) (scene : Scene) (at : Spot ℕ) (k : Kind) (owner : Tty) → frames_taken (touch_of p scene at k owner) ≤ scene.free_frames
unfolding touch_of
frames_free p scene at k owner = absent (map_away p scene at) (touched_by p scene at k (reference p at k owner)) (referred (reference p at k owner))
  where
    absent : (home : Option ℕ) (t : Touch) → frames_taken t ≤ scene.free_frames → frames_taken (absent_or home t) ≤ scene.free_frames
    absent None t h = h
    absent (Some home) t h = omega arith

    framed : (t : Touch) → frames_taken t ≤ 1 → (b : Bool) → nat_lt 0 scene.free_frames ≡ b → frames_taken (cond b t NeedFrame) ≤ scene.free_frames
    framed t h true is = let some : 0 < scene.free_frames = grind (arith, nat_tests, is) in omega (arith, h, some)
    framed t h false is = omega arith

    copied : (b : Bool) → frames_taken (cond b (Copy true) (cond (nat_lt 0 scene.free_frames) (Copy false) NeedFrame)) ≤ scene.free_frames
    copied true = omega arith
    copied false = framed (Copy false) (omega arith) (nat_lt 0 scene.free_frames) refl

    told_of : (m : Option (Making ℕ)) → frames_taken (announced p scene m) ≤ scene.free_frames
    told_of None = omega arith
    told_of (Some (blank b)) = framed Zero (omega arith) (nat_lt 0 scene.free_frames) refl
    told_of (Some (copy s a)) = copied (is_sole p (entry_at p.maps s))

    referred : (r : Referred nat_cmp) → frames_taken (touched_by p scene at k r) ≤ scene.free_frames
    referred (granted q) = absent (page_away p scene at) (announced p scene (next_making p at k)) (told_of (next_making p at k))
    referred (denied j) = omega arith
    referred full = omega arith

-- what is in frames where so many more are taken
pub taken_scene : (scene : Scene) (taken : ℕ) → taken ≤ scene.free_frames → TakesFrames scene (record scene { free_frames = scene.free_frames - taken }) taken
taken_scene scene taken h = record { maps = refl; pages = refl; frames = omega (arith, h) }
