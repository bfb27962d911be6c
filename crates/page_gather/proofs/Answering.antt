-- What one reference more is answered, and the references with it.
use Rattle.std.proofs.Common.{◌≡◌, ℕ, ◌+◌, ◌≤◌, Bool, true, false, cond, List, [], ◌∷◌, ◌++◌, Option, None, Some, ◌⊎◌, inl, inr, refl, sym, ◌∙◌, ap, subst, arith}
use Rattle.std.specs.Prelude.{nat_le, ◌||◌}
use Rattle.std.specs.Option.{option_and_then}
use Rattle.std.specs.Ordering.{nat_cmp}
use Rattle.std.proofs.lemmas.Bool.Decides.{nat_tests}
use Rattle.machine_names.specs.declared.names.Tty.{Tty}
use Rattle.machine_names.specs.declared.names.Slot.{Slot}
use Rattle.page_contracts.specs.declared.answers.Need.TheVariants as need
use Rattle.page_contracts.specs.declared.answers.Touch.{Touch}
use Rattle.page_contracts.specs.declared.answers.Touch.TheVariants.{Ready}
use Rattle.page_contracts.specs.declared.store.Room.{Room}
use Rattle.page_contracts.specs.declared.store.Room.TheVariants as room
use Rattle.plain_pages.specs.PlainPages.{NumberedPages}
use Rattle.plain_pages.specs.Maps.{Chain, entry_at, chain, permits}
use Rattle.plain_pages.specs.Room.{live}
use Rattle.plain_pages.specs.References.{Referred, granted, denied, full, in_map, blanks, copies, along_chain, makings, next_making}
use Rattle.page_contracts.specs.Pages.{Scene, map_away, page_away, touch_of, touched_by, absent_or, announced, room_for}
use Rattle.machine_names.specs.Bounds.{IsOwner}
use Rattle.plain_pages.proofs.ReferencesMade.{reference_stays, reference_denied}
use Rattle.page_contracts.proofs.Touches.{ready_touch}
use Rattle.page_gather.specs.declared.change.Change.{Change}
use Rattle.page_gather.specs.declared.reference.PageReference.{PageReference}
use Rattle.page_gather.specs.declared.reference.Added.{Added}
use Rattle.page_gather.specs.declared.reference.Added.TheVariants.{Went, Need, Denied}
use Rattle.page_gather.specs.Changes.{same_slot, AreChanged}
use Rattle.page_gather.specs.Gathering.{referred_to, left_by, after_all, page_or, came_to, answered, AllWent, IsNear, AreSound, most_framed, refers_to, AreGathered, GoesOn, concluded}
use Rattle.page_gather.proofs.Changing.{SlotsTell, slots_tell, none_changed}

-- ---- a reference more at the end of a list

pub after_push : (p : NumberedPages) (owner : Tty) (rs : List PageReference) (r : PageReference) → after_all p owner (rs ++ r ∷ []) ≡ left_by (after_all p owner rs) (referred_to (after_all p owner rs) owner r)
unfolding after_all
after_push p owner [] r = refl
after_push p owner (s ∷ rs) r = after_push (left_by p (referred_to p owner s)) owner rs r

pub after_none : (p : NumberedPages) (owner : Tty) → after_all p owner [] ≡ p
unfolding after_all
after_none p owner = refl

went_push : (p : NumberedPages) (scene : Scene) (most : ℕ) (owner : Tty) (rs : List PageReference) (r : PageReference) → AllWent p scene most owner rs → answered (after_all p owner rs) scene most owner r ≡ Went → AllWent p scene most owner (rs ++ r ∷ [])
unfolding after_all
went_push p scene most owner [] r went is = (is, tt)
went_push p scene most owner (s ∷ rs) r went is = (went.0, went_push (left_by p (referred_to p owner s)) scene most owner rs r went.1 is)

refers_push : (rs : List PageReference) (r : PageReference) (s : Slot) → refers_to (rs ++ r ∷ []) s ≡ true → (refers_to rs s ≡ true) ⊎ (r.slot ≡ s)
refers_push [] r s h = by (slots_tell r.slot s) h
  where
    by : SlotsTell r.slot s → (same_slot r.slot s || false) ≡ true → (false ≡ true) ⊎ (r.slot ≡ s)
    by (inl t) g = inr t.1
    by (inr t) g = inl (sym (ap (λ b. b || false) t.0) ∙ g)
refers_push (x ∷ rs) r s h = by (refers_push rs r s) (same_slot x.slot s) h
  where
    by : (refers_to (rs ++ r ∷ []) s ≡ true → (refers_to rs s ≡ true) ⊎ (r.slot ≡ s)) → (b : Bool) → (b || refers_to (rs ++ r ∷ []) s) ≡ true → ((b || refers_to rs s) ≡ true) ⊎ (r.slot ≡ s)
    by rest true g = inl refl
    by rest false g = rest g

-- ---- what is answered

page_none : (away : Option ℕ) (answer : Added) → page_or away answer ≡ Went → (away ≡ None) × (answer ≡ Went)
page_none None answer h = (refl, h)
page_none (Some home) answer h = absurd (cc h)

-- an answer where every map on the way is in a frame
pub answered_near : (q : NumberedPages) (scene : Scene) (most : ℕ) (owner : Tty) (r : PageReference) → map_away q scene (in_map r.slot) ≡ None → answered q scene most owner r ≡ came_to (referred_to q owner r) (page_away q scene (in_map r.slot)) most
unfolding answered
answered_near q scene most owner r near = ap (λ (o : Option ℕ). page_or o (came_to (referred_to q owner r) (page_away q scene (in_map r.slot)) most)) near

pub answered_away : (q : NumberedPages) (scene : Scene) (most : ℕ) (owner : Tty) (r : PageReference) (home : ℕ) → map_away q scene (in_map r.slot) ≡ Some home → answered q scene most owner r ≡ Need (need.Page (record { 0 = home }))
unfolding answered
answered_away q scene most owner r home away = ap (λ (o : Option ℕ). page_or o (came_to (referred_to q owner r) (page_away q scene (in_map r.slot)) most)) away

-- what an answer that goes through says
pub record Goes (q : NumberedPages) (scene : Scene) (most : ℕ) (owner : Tty) (r : PageReference) : Type 0 where
  pub leaves : NumberedPages
  pub is : referred_to q owner r ≡ granted leaves
  pub near : IsNear q scene r.slot
  pub frames : live leaves ≤ most

pub answered_goes : (q : NumberedPages) (scene : Scene) (most : ℕ) (owner : Tty) (r : PageReference) → answered q scene most owner r ≡ Went → Goes q scene most owner r
unfolding answered
answered_goes q scene most owner r h =
    let maps = page_none (map_away q scene (in_map r.slot)) (came_to (referred_to q owner r) (page_away q scene (in_map r.slot)) most) h in
    by maps.0 (referred_to q owner r) refl maps.1
  where
    framed : (b : Bool) → cond b Went (Need need.Frame) ≡ Went → b ≡ true
    framed true g = refl
    framed false g = absurd (cc g)

    by : map_away q scene (in_map r.slot) ≡ None → (x : Referred nat_cmp) → referred_to q owner r ≡ x → came_to x (page_away q scene (in_map r.slot)) most ≡ Went → Goes q scene most owner r
    by maps (granted z) is g =
        let page = page_none (page_away q scene (in_map r.slot)) (cond (nat_le (live z) most) Went (Need need.Frame)) g in
        let few = framed (nat_le (live z) most) page.1 in
        record { leaves = z; is = is; near = record { maps = maps; page = page.0 }; frames = grind (arith, nat_tests, few) }
    by maps (denied kind) is g = absurd (cc g)
    by maps full is g = absurd (cc g)

module _ (p q : NumberedPages) (scene : Scene) (owner : Tty) (rs : List PageReference) (cs cs' : List Change) (homes homes' : ℕ) (r : PageReference) (k : AreGathered p scene owner rs cs homes) (is_q : q ≡ after_all p owner rs) (near : map_away q scene (in_map r.slot) ≡ None) (step : GoesOn p q scene owner r cs cs' homes') where
  abbrev most : ℕ
  most = most_framed p scene

  abbrev roomy : Room
  roomy = room_for (live p) p.limit scene.free_frames homes'

  le_add : (a n f : ℕ) → nat_le (a + n) (a + f) ≡ nat_le n f
  le_add a n f = grind (arith, nat_tests)

  true_le : (a b : ℕ) → nat_le a b ≡ true → a ≤ b
  true_le a b h = grind (arith, nat_tests)

  false_le : (a b : ℕ) → nat_le a b ≡ false → a ≤ b → ⊥
  false_le a b h l = grind (arith, nat_tests)

  -- WHAT IT IS ANSWERED, by the room for all that is made so far and by its page
  pub step_answer : answered q scene most owner r ≡ concluded roomy (page_away q scene (in_map r.slot))
  step_answer = answered_near q scene most owner r near ∙ by (nat_le (live p + homes') p.limit) refl
    where
      away : Option ℕ
      away = page_away q scene (in_map r.slot)

      framed : (b : Bool) → page_or (page_away q scene (in_map r.slot)) (cond b Went (Need need.Frame)) ≡ concluded (cond b room.Enough room.NeedFrame) (page_away q scene (in_map r.slot))
      framed true = refl
      framed false = refl

      by : (b : Bool) → nat_le (live p + homes') p.limit ≡ b → came_to (referred_to q owner r) (page_away q scene (in_map r.slot)) most ≡ concluded (room_for (live p) p.limit scene.free_frames homes') (page_away q scene (in_map r.slot))
      by true is =
          let fits = step.fits (true_le (live p + homes') p.limit is) in
          let few : nat_le (live fits.0) most ≡ nat_le homes' scene.free_frames = ap (λ n. nat_le n most) fits.2.count ∙ le_add (live p) homes' scene.free_frames in
          ap (λ (x : Referred nat_cmp). came_to x (page_away q scene (in_map r.slot)) most) fits.1
          ∙ ap (λ b. page_or (page_away q scene (in_map r.slot)) (cond b Went (Need need.Frame))) few
          ∙ framed (nat_le homes' scene.free_frames)
          ∙ ap (λ b. concluded (cond b (cond (nat_le homes' scene.free_frames) room.Enough room.NeedFrame) room.Full) (page_away q scene (in_map r.slot))) (sym is)
      by false is =
          ap (λ (x : Referred nat_cmp). came_to x (page_away q scene (in_map r.slot)) most) (step.full_is (false_le (live p + homes') p.limit is))
          ∙ ap (λ b. concluded (cond b (cond (nat_le homes' scene.free_frames) room.Enough room.NeedFrame) room.Full) (page_away q scene (in_map r.slot))) (sym is)

  -- where it goes through there is room and there are frames
  roomy_is : (a b : Bool) → concluded (cond a (cond b room.Enough room.NeedFrame) room.Full) (page_away q scene (in_map r.slot)) ≡ Went → (a ≡ true) × (b ≡ true) × (page_away q scene (in_map r.slot) ≡ None)
  roomy_is true true h = (refl, refl, (page_none (page_away q scene (in_map r.slot)) Went h).0)
  roomy_is true false h = absurd (let z = (page_none (page_away q scene (in_map r.slot)) (Need need.Frame) h).1 in cc z)
  roomy_is false b h = absurd (cc h)

  -- THE REFERENCES WITH IT, where it goes through
  pub step_gathered : concluded roomy (page_away q scene (in_map r.slot)) ≡ Went → AreGathered p scene owner (rs ++ r ∷ []) cs' homes' × (referred_to q owner r ≡ granted (after_all p owner (rs ++ r ∷ [])))
      × ((s : Slot) → IsNear q scene s → IsNear (after_all p owner (rs ++ r ∷ [])) scene s)
  step_gathered went = (
    record {
      sound = k.sound;
      own = k.own;
      went = went_push p scene most owner rs r k.went (ap (λ (x : NumberedPages). answered x scene most owner r) (sym is_q) ∙ step_answer ∙ went);
      changed = subst (λ (x : NumberedPages). AreChanged p x owner cs' homes') after fits.2;
      frames = grind (arith, nat_tests, both.1);
      near = λ s h. subst (λ (x : NumberedPages). IsNear x scene s) after (near_still s (refers_push rs r s h));
      sources = step.sources here k.sources;
    },
    fits.1 ∙ ap (λ (x : NumberedPages). granted x) after,
    λ s near. subst (λ (x : NumberedPages). IsNear x scene s) after (fits.3 s near),
  )
    where
      both : (nat_le (live p + homes') p.limit ≡ true) × (nat_le homes' scene.free_frames ≡ true) × (page_away q scene (in_map r.slot) ≡ None)
      both = roomy_is (nat_le (live p + homes') p.limit) (nat_le homes' scene.free_frames) went

      fits : (z : NumberedPages) × (referred_to q owner r ≡ granted z) × AreChanged p z owner cs' homes' × ((s : Slot) → IsNear q scene s → IsNear z scene s)
      fits = step.fits (true_le (live p + homes') p.limit both.0)

      here : IsNear q scene r.slot
      here = record { maps = near; page = both.2 }

      after : fits.0 ≡ after_all p owner (rs ++ r ∷ [])
      after = ap (left_by q) (sym fits.1) ∙ ap (λ (x : NumberedPages). left_by x (referred_to x owner r)) is_q ∙ sym (after_push p owner rs r)

      near_still : (s : Slot) → (refers_to rs s ≡ true) ⊎ (r.slot ≡ s) → IsNear fits.0 scene s
      near_still s (inl old) = fits.3 s (subst (λ (x : NumberedPages). IsNear x scene s) (sym is_q) (k.near s old))
      near_still s (inr new) = fits.3 s (subst (λ (u : Slot). IsNear q scene u) new here)

-- ---- the first reference, and those that find their pages ready

pub none_gathered : (p : NumberedPages) (scene : Scene) (owner : Tty) → AreSound p scene → IsOwner owner → AreGathered p scene owner [] [] 0
none_gathered p scene owner sound own = record {
  sound = sound;
  own = own;
  went = tt;
  changed = subst (λ (x : NumberedPages). AreChanged p x owner [] 0) (sym (after_none p owner)) (none_changed p owner sound.whole sound.room);
  frames = omega arith;
  near = λ s h. absurd (cc h);
  sources = λ s t c is from. absurd (cc is);
}

-- a touch that finds its page ready finds all in frames
pub ready_near : (p : NumberedPages) (scene : Scene) (owner : Tty) (r : PageReference) → touch_of p scene (in_map r.slot) r.kind owner ≡ Ready → IsNear p scene r.slot
unfolding touch_of
ready_near p scene owner r h =
    let maps = absent_none (map_away p scene (in_map r.slot)) (touched_by p scene (in_map r.slot) r.kind (referred_to p owner r)) h in
    record { maps = maps.0; page = by (referred_to p owner r) maps.1 }
  where
    absent_none : (away : Option ℕ) (t : Touch) → absent_or away t ≡ Ready → (away ≡ None) × (t ≡ Ready)
    absent_none None t g = (refl, g)
    absent_none (Some home) t g = absurd (cc g)

    by : (x : Referred nat_cmp) → touched_by p scene (in_map r.slot) r.kind x ≡ Ready → page_away p scene (in_map r.slot) ≡ None
    by (granted q) g = (absent_none (page_away p scene (in_map r.slot)) (announced p scene (next_making p (in_map r.slot) r.kind)) g).0
    by (denied kind) g = absurd (cc g)
    by full g = absurd (cc g)

-- it makes nothing
pub ready_goes : (p q : NumberedPages) (scene : Scene) (owner : Tty) (cs : List Change) (homes : ℕ) → AreChanged p q owner cs homes → (r : PageReference) → touch_of q scene (in_map r.slot) r.kind owner ≡ Ready → GoesOn p q scene owner r cs cs homes
ready_goes p q scene owner cs homes h r ready = record {
  fits = λ le. (q, reference_stays q owner (in_map r.slot) r.kind (ready_touch q scene owner (in_map r.slot) r.kind ready), h, λ s n. n);
  full_is = λ none. absurd (none (omega (arith, h.room, h.count, h.limit)));
  sources = λ near old. old;
}

-- no more homes are wanted than before: there is room for them
pub room_still : (p : NumberedPages) (scene : Scene) (owner : Tty) (rs : List PageReference) (cs : List Change) (homes : ℕ) → AreGathered p scene owner rs cs homes → room_for (live p) p.limit scene.free_frames homes ≡ room.Enough
room_still p scene owner rs cs homes k = ap (λ b. cond b (cond (nat_le homes scene.free_frames) room.Enough room.NeedFrame) room.Full) yes ∙ ap (λ b. cond b room.Enough room.NeedFrame) framed
  where
    yes : nat_le (live p + homes) p.limit ≡ true
    yes = let within : live p + homes ≤ p.limit = omega (arith, k.changed.room, k.changed.count, k.changed.limit) in grind (arith, nat_tests, within)

    framed : nat_le homes scene.free_frames ≡ true
    framed = grind (arith, nat_tests, k.frames)

-- ---- what is denied

pub denied_chain : (q : NumberedPages) (scene : Scene) (most : ℕ) (owner : Tty) (r : PageReference) → map_away q scene (in_map r.slot) ≡ None → chain (entry_at q.maps) r.slot ≡ None → answered q scene most owner r ≡ Denied r.kind
unfolding makings
denied_chain q scene most owner r near none = answered_near q scene most owner r near ∙ ap (λ (x : Referred nat_cmp). came_to x (page_away q scene (in_map r.slot)) most) (reference_denied q owner (in_map r.slot) r.kind makes)
  where
    makes : makings q (in_map r.slot) r.kind ≡ None
    makes = ap (option_and_then (along_chain {K = ℕ} r.kind)) none

pub denied_access : (q : NumberedPages) (scene : Scene) (most : ℕ) (owner : Tty) (r : PageReference) (c : Chain) → map_away q scene (in_map r.slot) ≡ None → chain (entry_at q.maps) r.slot ≡ Some c → permits r.kind c ≡ false → answered q scene most owner r ≡ Denied r.kind
unfolding makings
denied_access q scene most owner r c near is may = answered_near q scene most owner r near ∙ ap (λ (x : Referred nat_cmp). came_to x (page_away q scene (in_map r.slot)) most) (reference_denied q owner (in_map r.slot) r.kind makes)
  where
    makes : makings q (in_map r.slot) r.kind ≡ None
    makes = ap (option_and_then (along_chain {K = ℕ} r.kind)) is ∙ ap (λ b. cond b (Some (blanks c ++ copies r.kind c)) None) may
