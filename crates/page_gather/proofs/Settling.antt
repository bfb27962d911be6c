-- Making what a reference asks for, one page at a time.
use Rattle.std.proofs.Common.{◌≡◌, ℕ, ◌+◌, ◌<◌, ◌≤◌, Bool, true, false, cond, List, [], ◌∷◌, length, drop, get_or, Option, None, Some, refl, sym, ◌∙◌, ap, subst, arith, add-one}
use Rattle.std.specs.Prelude.{find, nat_lt, slice_get}
use Rattle.std.specs.Option.{option_or, option_and_then}
use Rattle.std.specs.Ordering.{nat_cmp}
use Rattle.std.specs.Cmp.{nat_cmp_total}
use Rattle.std.proofs.Math.Seq.{drop-cons}
use Rattle.std.proofs.lemmas.List.{drop_all}
use Rattle.std.proofs.lemmas.Bool.Decides.{nat_tests}
use Rattle.machine_names.specs.declared.names.Tty.{Tty}
use Rattle.machine_names.specs.declared.names.ForkName.{ForkName}
use Rattle.machine_names.specs.declared.names.PageName.{PageName}
use Rattle.machine_names.specs.declared.names.Slot.{Slot}
use Rattle.machine_names.specs.declared.names.Access.{Access}
use Rattle.machine_names.specs.declared.names.Kind.{Kind}
use Rattle.machine_names.specs.declared.names.Kind.TheVariants.{Read, Write, Execute}
use Rattle.plain_pages.specs.declared.map.MapEntry.TheVariants.{Empty}
use Rattle.page_contracts.specs.declared.answers.Touch.{Touch}
use Rattle.page_contracts.specs.declared.answers.Touch.TheVariants.{Ready, Zero, Copy, NeedFrame}
use Rattle.plain_pages.specs.PlainPages.{NumberedPages}
use Rattle.plain_pages.specs.Maps.{Link, Chain, entry_at, full_access, maps_on_way}
use Rattle.plain_pages.specs.Room.{live, HasRoom}
use Rattle.plain_pages.specs.References.{Spot, in_map, Making, blank, copy, copies, copy_in, makings, make, make_all, Referred, granted, denied, reference, next_making, next_page, page_at, settled}
use Rattle.machine_names.specs.PageWords.{zero_words}
use Rattle.page_contracts.specs.Pages.{PagesMeaning, Agrees, Scene, first_away, is_sole, touch_of, touched_by, announced, absent_or, framed, can_settle}
use Rattle.machine_names.specs.Bounds.{IsOwner}
use Rattle.plain_pages.specs.WholePages.{AreWhole}
use Rattle.plain_pages.proofs.Makings.{CanMake as CanBeMade, make_whole}
use Rattle.plain_pages.proofs.Made.{is_blank}
use Rattle.page_contracts.specs.Stores.{traffic}
use Rattle.page_contracts.proofs.Losing.{loses_nothing, loses_on}
use Rattle.page_contracts.proofs.Rooms.{live_blank, live_copy}
use Rattle.plain_pages.proofs.Settles.{FirstOf, is_blank as first_blank, is_copy as first_copy, first_making, makings_settled, makings_can}
use Rattle.plain_pages.proofs.ReferencesMade.{reference_makes, reference_stays, reference_denied, reference_settled, settled_makes, settled_stays, make_first, roomy}
use Rattle.page_contracts.proofs.Touches.{ready_touch, zero_touch, copy_touch}
use Rattle.plain_pages.proofs.Whole.{unmade}
use Rattle.page_gather.specs.declared.reference.PageReference.{PageReference}
use Rattle.page_gather.specs.Gathering.{referred_to, left_by, after_all, AllWent, IsNear, AreSound, most_framed}
use Rattle.page_gather.specs.Making.{CanMake, Grows}
use Rattle.page_gather.proofs.Near.{near_made, new_in_frame}
use Rattle.page_gather.proofs.Answering.{Goes, answered_goes}

-- ---- what is near, in another scene with the same pages in frames

module _ (old new : Scene) (maps : new.map_away ≡ old.map_away) (pages : new.page_away ≡ old.page_away) where
  same_way : (fs : List ForkName) → first_away new fs ≡ first_away old fs
  same_way [] = refl
  same_way (f ∷ fs) = ap (λ (away : ForkName → Option ℕ). option_or (away f) (first_away new fs)) maps ∙ ap (option_or (old.map_away f)) (same_way fs)

  pub near_scene : (p : NumberedPages) (s : Slot) → IsNear p old s → IsNear p new s
  near_scene p s near = record {
    maps = same_way (maps_on_way (entry_at p.maps) s) ∙ near.maps;
    page = ap (λ (away : PageName → Option ℕ). option_and_then away (page_at p (in_map s))) pages ∙ near.page;
  }

-- ---- no making leaves fewer pages

module _ (owner : Tty) (own : IsOwner owner) (at : Spot ℕ) where
  -- one making
  made_more : (p : NumberedPages) → AreWhole p → (m : Making ℕ) → CanBeMade p m → live p ≤ live (make p owner m)
  made_more p w (blank b) can = omega (arith, live_blank nat_cmp_total p w owner own b can)
  made_more p w (copy s a) can = by (is_sole p (Some can.0)) (live_copy nat_cmp_total p w owner own s a can.0 can.1)
    where
      by : (b : Bool) → live (make p owner (copy s a)) + cond b 1 0 ≡ live p + 1 → live p ≤ live (make p owner (copy s a))
      by true h = omega (arith, h)
      by false h = omega (arith, h)

  pub all_more : (ms : List (Making ℕ)) (p q : NumberedPages) (kind : Kind) → AreWhole p → makings p at kind ≡ Some ms → make_all p owner ms ≡ granted q → live p ≤ live q
  unfolding make_all
  all_more [] p q kind w h made = let same : p ≡ q = cc made in omega (arith, ap (λ (x : NumberedPages). live x) same)
  all_more (m ∷ ms) p q kind w h made =
      let r = roomy (HasRoom (make p owner m) owner) (make_all (make p owner m) owner ms) q made in
      let can = makings_can nat_cmp_total p owner at kind m ms h in
      omega (arith, made_more p w m can, all_more ms (make p owner m) q kind (make_whole nat_cmp_total p w owner own m can) (makings_settled nat_cmp_total p owner at kind m ms h) r.1)

-- a copy is no zero page
no_blank : (kind : Kind) (c : Chain) (at : Spot ℕ) (ms : List (Making ℕ)) → copies kind c ≡ blank at ∷ ms → ⊥
no_blank Read c at ms h = cc h
no_blank Execute c at ms h = cc h
no_blank Write c at ms h = by (find (λ l. l.access.c) c.links) h
  where
    by : (l : Option Link) → copy_in c l ≡ blank at ∷ ms → ⊥
    by None g = cc g
    by (Some l) g = cc g

-- ---- a reference that can be made

module _ (p : NumberedPages) (scene : Scene) (owner : Tty) (own : IsOwner owner) (r : PageReference) (left : NumberedPages) (k : CanMake p scene owner r left) where
  abbrev spot : Spot ℕ
  spot = in_map r.slot

  -- what it makes, in order
  its_makings : (ms : List (Making ℕ)) × (makings p (in_map r.slot) r.kind ≡ Some ms)
  its_makings = by (makings p (in_map r.slot) r.kind) refl
    where
      by : (o : Option (List (Making ℕ))) → makings p (in_map r.slot) r.kind ≡ o → (ms : List (Making ℕ)) × (makings p (in_map r.slot) r.kind ≡ Some ms)
      by None h = absurd (let z : denied r.kind ≡ granted left = sym (reference_denied p owner (in_map r.slot) r.kind h) ∙ k.goes in cc z)
      by (Some ms) h = (ms, h)

  makes_left : (ms : List (Making ℕ)) → makings p (in_map r.slot) r.kind ≡ Some ms → make_all p owner ms ≡ granted left
  makes_left ms h = sym (reference_makes p owner (in_map r.slot) r.kind ms h) ∙ k.goes

  -- the first of two or more leaves no more than all
  first_grows : (m : Making ℕ) (rest : List (Making ℕ)) → makings p (in_map r.slot) r.kind ≡ Some (m ∷ rest) → live (make p owner m) ≤ live left
  first_grows m rest h =
      let made = roomy (HasRoom (make p owner m) owner) (make_all (make p owner m) owner rest) left (sym (make_first p owner m rest) ∙ makes_left (m ∷ rest) h) in
      all_more owner own (in_map r.slot) rest (make p owner m) left r.kind (make_whole nat_cmp_total p k.sound.whole owner own m (makings_can nat_cmp_total p owner (in_map r.slot) r.kind m rest h)) (makings_settled nat_cmp_total p owner (in_map r.slot) r.kind m rest h) made.1

  -- a touch of it finds all in frames, and announces its next making
  touch_is : touch_of p scene (in_map r.slot) r.kind owner ≡ announced p scene (next_making p (in_map r.slot) r.kind)
  unfolding touch_of
  touch_is =
      ap (λ (o : Option ℕ). absent_or o (touched_by p scene (in_map r.slot) r.kind (reference p (in_map r.slot) r.kind owner))) k.near.maps
      ∙ ap (λ (x : Referred nat_cmp). touched_by p scene (in_map r.slot) r.kind x) k.goes
      ∙ ap (λ (o : Option ℕ). absent_or o (announced p scene (next_making p (in_map r.slot) r.kind))) k.near.page

  frame_free : (n : ℕ) → live p + 1 ≤ n → n ≤ live left → nat_lt 0 scene.free_frames ≡ true
  frame_free n more few = let some : 1 ≤ scene.free_frames = omega (arith, more, few, k.frames) in grind (arith, nat_tests, some)

  settles_framed : (t : Touch) → can_settle t ≡ true → nat_lt 0 scene.free_frames ≡ true → can_settle (framed scene t) ≡ true
  settles_framed t can free = ap (λ b. can_settle (cond b t NeedFrame)) free ∙ can

  -- SO IT CAN BE SETTLED
  pub touch_settles : can_settle (touch_of p scene (in_map r.slot) r.kind owner) ≡ true
  touch_settles = ap can_settle touch_is ∙ by its_makings.0 its_makings.1
    where
      next : (ms : List (Making ℕ)) → makings p (in_map r.slot) r.kind ≡ Some ms → next_making p (in_map r.slot) r.kind ≡ slice_get ms 0
      next ms h = ap (option_and_then (λ ns. slice_get ns 0)) h

      of_copy : (s : Slot) (a : Access) (rest : List (Making ℕ)) → makings p (in_map r.slot) r.kind ≡ Some (copy s a ∷ rest) → (b : Bool) → is_sole p (entry_at p.maps s) ≡ b → can_settle (cond b (Copy true) (framed scene (Copy false))) ≡ true
      of_copy s a rest h true sole = refl
      of_copy s a rest h false sole =
          let can = makings_can nat_cmp_total p owner (in_map r.slot) r.kind (copy s a) rest h in
          let alone : is_sole p (Some can.0) ≡ false = ap (is_sole p) (sym can.1) ∙ sole in
          let more : live (make p owner (copy s a)) + 0 ≡ live p + 1 = ap (λ b. live (make p owner (copy s a)) + cond b 1 0) (sym alone) ∙ live_copy nat_cmp_total p k.sound.whole owner own s a can.0 can.1 in
          settles_framed (Copy false) refl (frame_free (live (make p owner (copy s a))) (omega (arith, more)) (first_grows (copy s a) rest h))

      by : (ms : List (Making ℕ)) → makings p (in_map r.slot) r.kind ≡ Some ms → can_settle (announced p scene (next_making p (in_map r.slot) r.kind)) ≡ true
      by [] h = ap (λ m. can_settle (announced p scene m)) (next [] h)
      by (blank b ∷ rest) h =
          let can = makings_can nat_cmp_total p owner (in_map r.slot) r.kind (blank b) rest h in
          ap (λ m. can_settle (announced p scene m)) (next (blank b ∷ rest) h)
          ∙ settles_framed Zero refl (frame_free (live (make p owner (blank b))) (omega (arith, live_blank nat_cmp_total p k.sound.whole owner own b can)) (first_grows (blank b) rest h))
      by (copy s a ∷ rest) h = ap (λ m. can_settle (announced p scene m)) (next (copy s a ∷ rest) h) ∙ of_copy s a rest h (is_sole p (entry_at p.maps s)) refl

  -- no touch of it is refused, or finds a page or a frame wanting
  pub not_stuck : {A : Type 0} (t : Touch) → t ≡ touch_of p scene (in_map r.slot) r.kind owner → can_settle t ≡ false → A
  not_stuck t is stuck = absurd (let z : true ≡ false = sym touch_settles ∙ ap can_settle (sym is) ∙ stuck in cc z)

  -- Ready: nothing is to be made
  pub ready_settled : Ready ≡ touch_of p scene (in_map r.slot) r.kind owner → settled p (in_map r.slot) r.kind owner ≡ left
  ready_settled is =
      let none = ready_touch p scene owner (in_map r.slot) r.kind (sym is) in
      let same : granted p ≡ granted left = sym (reference_stays p owner (in_map r.slot) r.kind none) ∙ k.goes in
      settled_stays p owner (in_map r.slot) r.kind none ∙ cc same

  none_left : (z : NumberedPages) → make_all z owner [] ≡ granted left → z ≡ left
  unfolding make_all
  none_left z h = cc h

  -- the last making leaves what the reference leaves
  last_settled : (m : Making ℕ) (rest : List (Making ℕ)) → makings p (in_map r.slot) r.kind ≡ Some (m ∷ rest) → [] ≡ rest → settled p (in_map r.slot) r.kind owner ≡ left
  last_settled m rest h none =
      let made = roomy (HasRoom (make p owner m) owner) (make_all (make p owner m) owner rest) left (sym (make_first p owner m rest) ∙ makes_left (m ∷ rest) h) in
      settled_makes p owner (in_map r.slot) r.kind m rest h ∙ none_left (make p owner m) (ap (make_all (make p owner m) owner) none ∙ made.1)

  -- Copy: it is the last making
  pub copy_settled : (sole : Bool) → Copy sole ≡ touch_of p scene (in_map r.slot) r.kind owner → settled p (in_map r.slot) r.kind owner ≡ left
  copy_settled sole is =
      let t = copy_touch p scene owner (in_map r.slot) r.kind sole (sym is) in
      let c = first_making nat_cmp_total p owner r.slot r.kind (copy t.1.0 t.1.1) t.1.2 t.1.3 in
      last_settled (copy t.1.0 t.1.1) t.1.2 t.1.3 (by c.0 (copy t.1.0 t.1.1) t.1.2 refl c.1)
    where
      by : (c : Chain) (m : Making ℕ) (rest : List (Making ℕ)) → copy (copy_touch p scene owner (in_map r.slot) r.kind sole (sym is)).1.0 (copy_touch p scene owner (in_map r.slot) r.kind sole (sym is)).1.1 ≡ m → FirstOf r.kind c m rest → [] ≡ rest
      by c m rest same (first_blank none first others) = absurd (let z = first ∙ sym same in cc z)
      by c m rest same (first_copy l writes some f first others) = others

  -- Zero: a zero page, and then what is left
  pub zero_first : Zero ≡ touch_of p scene (in_map r.slot) r.kind owner → (c : Chain) × (makings p (in_map r.slot) r.kind ≡ Some (blank (in_map c.end) ∷ copies r.kind c))
  zero_first is =
      let t = zero_touch p scene owner (in_map r.slot) r.kind (sym is) in
      let c = first_making nat_cmp_total p owner r.slot r.kind (blank t.1.0) t.1.1 t.1.2 in
      (c.0, t.1.2 ∙ by c.0 (blank t.1.0) t.1.1 refl c.1)
    where
      by : (c : Chain) (m : Making ℕ) (rest : List (Making ℕ)) → blank (zero_touch p scene owner (in_map r.slot) r.kind (sym is)).1.0 ≡ m → FirstOf r.kind c m rest → Some (m ∷ rest) ≡ Some (blank (in_map c.end) ∷ copies r.kind c)
      by c m rest same (first_blank none first others) = λ i. Some (sym first i ∷ sym others i)
      by c m rest same (first_copy l writes some f first others) = absurd (let z = first ∙ sym same in cc z)

  module _ (is : Zero ≡ touch_of p scene (in_map r.slot) r.kind owner) (new : Scene) (after : NumberedPages) (made : after ≡ settled p (in_map r.slot) r.kind owner) where
    c : Chain
    c = (zero_first is).0

    after_is : after ≡ make p owner (blank (in_map c.end))
    unfolding c
    after_is = made ∙ settled_makes p owner (in_map r.slot) r.kind (blank (in_map c.end)) (copies r.kind c) (zero_first is).1

    -- it can be made still
    pub zero_can : AreSound after new → new.map_away ≡ scene.map_away → new.page_away ≡ scene.page_away → live after + new.free_frames ≡ live p + scene.free_frames → CanMake after new owner r left
    unfolding c
    zero_can sound maps pages frames = record {
      sound = sound;
      goes = ap (λ (x : NumberedPages). referred_to x owner r) made ∙ reference_settled nat_cmp_total owner (in_map r.slot) r.kind p (blank (in_map c.end)) (copies r.kind c) left (zero_first is).1 k.goes;
      near = near_scene scene new maps pages after r.slot (subst (λ (x : NumberedPages). IsNear x scene r.slot) (sym after_is)
          (near_made p (make p owner (blank (in_map c.end))) scene owner c.end full_access zero_words Empty (is_blank nat_cmp_total p k.sound.whole owner own c.end can) can fresh r.slot k.near));
      frames = omega (arith, k.frames, frames);
    }
      where
        can : entry_at p.maps c.end ≡ Some Empty
        can = makings_can nat_cmp_total p owner (in_map r.slot) r.kind (blank (in_map c.end)) (copies r.kind c) (zero_first is).1

        fresh : scene.page_away (next_page p owner) ≡ None
        fresh = new_in_frame p scene k.sound (next_page p owner) (k.sound.whole.named (next_page p owner) ∙ ap (nat_lt 0) (unmade p k.sound.whole owner))

    -- and makes no zero page any more
    pub zero_once : (at : Spot ℕ) (ms : List (Making ℕ)) → makings after (in_map r.slot) r.kind ≡ Some (blank at ∷ ms) → ⊥
    unfolding c
    zero_once at ms again =
        let rest = makings_settled nat_cmp_total p owner (in_map r.slot) r.kind (blank (in_map c.end)) (copies r.kind c) (zero_first is).1 in
        let two : Some (copies r.kind c) ≡ Some (blank at ∷ ms) = sym rest ∙ ap (λ (x : NumberedPages). makings x (in_map r.slot) r.kind) (sym after_is) ∙ again in
        no_blank r.kind c at ms (cc two)

-- ---- in order

-- what is left to be made, of references that all go through
pub record LeftOver (p q : NumberedPages) (scene : Scene) (most : ℕ) (owner : Tty) (rs : List PageReference) (i : ℕ) : Type 0 where
  pub went : AllWent q scene most owner (drop i rs)
  pub leaves : after_all q owner (drop i rs) ≡ after_all p owner rs

pub none_made : (p : NumberedPages) (scene : Scene) (most : ℕ) (owner : Tty) (rs : List PageReference) → AllWent p scene most owner rs → LeftOver p p scene most owner rs 0
none_made p scene most owner rs went = record { went = went; leaves = refl }

module _ (p q : NumberedPages) (scene : Scene) (most : ℕ) (owner : Tty) (rs : List PageReference) (i : ℕ) (h : LeftOver p q scene most owner rs i) where
  module _ (r : PageReference) (less : i < length rs) where
    split : drop i rs ≡ get_or rs i r ∷ drop (i + 1) rs
    split = drop-cons rs i r less ∙ ap (λ n. get_or rs i r ∷ drop n rs) (sym (add-one i))

    parts : AllWent q scene most owner (get_or rs i r ∷ drop (i + 1) rs)
    parts = subst (AllWent q scene most owner) split h.went

    -- the next reference goes through
    pub next_goes : Goes q scene most owner (get_or rs i r)
    next_goes = answered_goes q scene most owner (get_or rs i r) parts.0

    pub next_left : (new : NumberedPages) → new ≡ next_goes.leaves → LeftOver p new scene most owner rs (i + 1)
    unfolding after_all
    next_left new is = record {
      went = subst (λ (x : NumberedPages). AllWent x scene most owner (drop (i + 1) rs)) same parts.1;
      leaves = ap (λ (x : NumberedPages). after_all x owner (drop (i + 1) rs)) (sym same) ∙ sym (ap (after_all q owner) split) ∙ h.leaves;
    }
      where
        same : left_by q (referred_to q owner (get_or rs i r)) ≡ new
        same = ap (left_by q) next_goes.is ∙ sym is

    -- and can be made, on pages with so many frames left
    pub next_can : (now : Scene) → AreSound q now → now.map_away ≡ scene.map_away → now.page_away ≡ scene.page_away → live q + now.free_frames ≡ most → CanMake q now owner (get_or rs i r) next_goes.leaves
    next_can now sound maps pages frames = record { sound = sound; goes = next_goes.is; near = near_scene scene now maps pages q (get_or rs i r).slot next_goes.near; frames = omega (arith, next_goes.frames, frames) }

  -- all are made
  pub all_made : length rs ≤ i → q ≡ after_all p owner rs
  unfolding after_all
  all_made over = sym (ap (after_all q owner) (drop_all i rs over)) ∙ h.leaves

-- ---- pages made by several calls

module _ {P : Type 0} (means : PagesMeaning P) (owner : Tty) where
  pub grows_more : (n m k : ℕ) (old mid new : P) → n + m ≡ k → Grows means owner n old mid → Grows means owner m mid new → Grows means owner k old new
  grows_more n m k old mid new is h g = record {
    lives = g.lives ∙ h.lives;
    forks = g.forks ∙ h.forks;
    filed = g.filed ∙ h.filed;
    most = g.most ∙ h.most;
    serial = omega (arith, is, g.serial, h.serial);
    serials = λ t ne. g.serials t ne ∙ h.serials t ne;
    maps_away = g.maps_away ∙ h.maps_away;
    pages_away = g.pages_away ∙ h.pages_away;
    framed = g.framed ∙ h.framed;
    loses = loses_on _ _ _ h.loses g.loses;
  }

  -- and by none
  pub grows_none : (n : ℕ) (p : P) → Grows means owner n p p
  grows_none n p = record {
    lives = refl;
    forks = refl;
    filed = refl;
    most = refl;
    serial = omega arith;
    serials = λ t ne. refl;
    maps_away = refl;
    pages_away = refl;
    framed = refl;
    loses = loses_nothing (traffic means.store p);
  }

  -- of pages that tell their numbers, as many frames are left as pages may be made
  pub still_framed : (n : ℕ) (old new : P) (p q : NumberedPages) → Agrees means old p → Agrees means new q → Grows means owner n old new → live q + (means.scene new).free_frames ≡ most_framed p (means.scene old)
  still_framed n old new p q a b g = omega (arith, a.number, b.number, g.framed)
