-- What a touch says of a reference.
use Rattle.std.proofs.Common.{◌≡◌, ℕ, Bool, true, false, cond, List, [], ◌∷◌, Option, None, Some, refl, sym, ◌∙◌, ap, Ordering}
use Rattle.std.specs.Prelude.{slice_get, nat_lt}
use Rattle.std.specs.Option.{option_and_then}
use Rattle.machine_names.specs.declared.names.Tty.{Tty}
use Rattle.machine_names.specs.declared.names.Slot.{Slot}
use Rattle.machine_names.specs.declared.names.Access.{Access}
use Rattle.machine_names.specs.declared.names.Kind.{Kind}
use Rattle.page_contracts.specs.declared.answers.Touch.{Touch}
use Rattle.page_contracts.specs.declared.answers.Touch.TheVariants.{Ready, Zero, Copy, Absent, NeedFrame, Denied, Full}
use Rattle.plain_pages.specs.PlainPages.{PlainPages}
use Rattle.plain_pages.specs.Maps.{entry_at}
use Rattle.plain_pages.specs.References.{Spot, Making, blank, copy, makings, Referred, granted, denied, full, reference, next_making}
use Rattle.page_contracts.specs.Pages.{Scene, touch_of, touched_by, absent_or, announced, is_sole, map_away, page_away}
use Rattle.plain_pages.proofs.ReferencesMade.{reference_denied}

-- the answers that come before the page is looked for, and those that want a frame
abbrev pub is_early : Touch → Bool
is_early (Absent home) = true
is_early (Denied k) = true
is_early Full = true
is_early t = false

late : (x : Option ℕ) (t u : Touch) → absent_or x t ≡ u → is_early u ≡ false → t ≡ u
late None t u h e = h
late (Some home) t u h e = absurd (let f : true ≡ false = ap is_early h ∙ e in cc f)

module _ {K : Type 0} {file_cmp : K → K → Ordering} (p : PlainPages file_cmp) (scene : Scene) (owner : Tty) (at : Spot K) (kind : Kind) where
  abbrev pub Grants : Type 0
  Grants = (q : PlainPages file_cmp) × (reference p at kind owner ≡ granted q)

  -- a touch that is not refused grants the reference, and announces its next making
  announces : (t : Touch) → is_early t ≡ false → touch_of p scene at kind owner ≡ t → Grants × (announced p scene (next_making p at kind) ≡ t)
  unfolding touch_of
  announces t e h = by (reference p at kind owner) refl (late (map_away p scene at) (touched_by p scene at kind (reference p at kind owner)) t h e)
    where
      by : (r : Referred file_cmp) → reference p at kind owner ≡ r → touched_by p scene at kind r ≡ t → Grants × (announced p scene (next_making p at kind) ≡ t)
      by (granted q) is g = ((q, is), late (page_away p scene at) (announced p scene (next_making p at kind)) t g e)
      by (denied k) is g = absurd (let f : true ≡ false = ap is_early g ∙ e in cc f)
      by full is g = absurd (let f : true ≡ false = ap is_early g ∙ e in cc f)

  -- what is made next, of a reference that is granted
  next_of : Grants → (m : Option (Making K)) → next_making p at kind ≡ m → (ms : List (Making K)) × (makings p at kind ≡ Some ms) × (slice_get ms 0 ≡ m)
  next_of g m is = by (makings p at kind) refl
    where
      by : (x : Option (List (Making K))) → makings p at kind ≡ x → (ms : List (Making K)) × (makings p at kind ≡ Some ms) × (slice_get ms 0 ≡ m)
      by None h = absurd (let no : denied kind ≡ granted g.0 = sym (reference_denied p owner at kind h) ∙ g.1 in cc no)
      by (Some ms) h = (ms, h, ap (option_and_then (λ ns. slice_get ns 0)) (sym h) ∙ is)

  framed_not : (b : Bool) (t u : Touch) → (t ≡ u → ⊥) → (NeedFrame ≡ u → ⊥) → cond b t NeedFrame ≡ u → ⊥
  framed_not true t u f g h = f h
  framed_not false t u f g h = g h

  none_first : (ms : List (Making K)) → slice_get ms 0 ≡ None → ms ≡ []
  none_first [] h = refl
  none_first (m ∷ ms) h = absurd (cc h)

  some_first : (ms : List (Making K)) (m : Making K) → slice_get ms 0 ≡ Some m → (rest : List (Making K)) × (ms ≡ m ∷ rest)
  some_first [] m h = absurd (cc h)
  some_first (n ∷ ms) m h = (ms, (let same : n ≡ m = cc h in ap (λ k. k ∷ ms) same))

  -- Ready: nothing is to be made
  pub ready_touch : touch_of p scene at kind owner ≡ Ready → makings p at kind ≡ Some []
  ready_touch h = let a = announces Ready refl h in by a.0 (next_making p at kind) refl a.1
    where
      by : Grants → (m : Option (Making K)) → next_making p at kind ≡ m → announced p scene m ≡ Ready → makings p at kind ≡ Some []
      by g None is k = let n = next_of g None is in n.1 ∙ ap Some (none_first n.0 n.2)
      by g (Some (blank b)) is k = absurd (framed_not (nat_lt 0 scene.free_frames) Zero Ready (λ e. cc e) (λ e. cc e) k)
      by g (Some (copy s a)) is k = absurd (sole_not (is_sole p (entry_at p.maps s)) k)
        where
          sole_not : (b : Bool) → cond b (Copy true) (cond (nat_lt 0 scene.free_frames) (Copy false) NeedFrame) ≡ Ready → ⊥
          sole_not true e = cc e
          sole_not false e = framed_not (nat_lt 0 scene.free_frames) (Copy false) Ready (λ d. cc d) (λ d. cc d) e

  -- Zero: a zero page is to be made, and there is room for all
  pub zero_touch : touch_of p scene at kind owner ≡ Zero → Grants × ((b : Spot K) × (rest : List (Making K)) × (makings p at kind ≡ Some (blank b ∷ rest)))
  zero_touch h = let a = announces Zero refl h in (a.0, by a.0 (next_making p at kind) refl a.1)
    where
      by : Grants → (m : Option (Making K)) → next_making p at kind ≡ m → announced p scene m ≡ Zero → (b : Spot K) × (rest : List (Making K)) × (makings p at kind ≡ Some (blank b ∷ rest))
      by g None is k = absurd (cc k)
      by g (Some (blank b)) is k = let n = next_of g (Some (blank b)) is in let f = some_first n.0 (blank b) n.2 in (b, f.0, n.1 ∙ ap Some f.1)
      by g (Some (copy s a)) is k = absurd (sole_not (is_sole p (entry_at p.maps s)) k)
        where
          sole_not : (b : Bool) → cond b (Copy true) (cond (nat_lt 0 scene.free_frames) (Copy false) NeedFrame) ≡ Zero → ⊥
          sole_not true e = cc e
          sole_not false e = framed_not (nat_lt 0 scene.free_frames) (Copy false) Zero (λ d. cc d) (λ d. cc d) e

  -- Copy: a copy is to be made, which is sole where its slot has the only name of the old page
  pub copy_touch : (sole : Bool) → touch_of p scene at kind owner ≡ Copy sole → Grants × ((s : Slot) × (a : Access) × (rest : List (Making K)) × (makings p at kind ≡ Some (copy s a ∷ rest)) × (is_sole p (entry_at p.maps s) ≡ sole))
  copy_touch sole h = let a = announces (Copy sole) refl h in (a.0, by a.0 (next_making p at kind) refl a.1)
    where
      by : Grants → (m : Option (Making K)) → next_making p at kind ≡ m → announced p scene m ≡ Copy sole → (s : Slot) × (a : Access) × (rest : List (Making K)) × (makings p at kind ≡ Some (copy s a ∷ rest)) × (is_sole p (entry_at p.maps s) ≡ sole)
      by g None is k = absurd (cc k)
      by g (Some (blank b)) is k = absurd (framed_not (nat_lt 0 scene.free_frames) Zero (Copy sole) (λ e. cc e) (λ e. cc e) k)
      by g (Some (copy s a)) is k =
          let n = next_of g (Some (copy s a)) is in let f = some_first n.0 (copy s a) n.2 in
          (s, a, f.0, n.1 ∙ ap Some f.1, sole_is (is_sole p (entry_at p.maps s)) k)
        where
          sole_is : (b : Bool) → cond b (Copy true) (cond (nat_lt 0 scene.free_frames) (Copy false) NeedFrame) ≡ Copy sole → b ≡ sole
          sole_is true e = cc e
          sole_is false e = by_frame (nat_lt 0 scene.free_frames) e
            where
              by_frame : (b : Bool) → cond b (Copy false) NeedFrame ≡ Copy sole → false ≡ sole
              by_frame true d = cc d
              by_frame false d = absurd (cc d)

  announced_late : (m : Option (Making K)) → is_early (announced p scene m) ≡ false
  announced_late None = refl
  announced_late (Some (blank b)) = by (nat_lt 0 scene.free_frames)
    where
      by : (b : Bool) → is_early (cond b Zero NeedFrame) ≡ false
      by true = refl
      by false = refl
  announced_late (Some (copy s a)) = by (is_sole p (entry_at p.maps s)) (nat_lt 0 scene.free_frames)
    where
      by : (b c : Bool) → is_early (cond b (Copy true) (cond c (Copy false) NeedFrame)) ≡ false
      by true c = refl
      by false true = refl
      by false false = refl

  refused_here : (x : Option ℕ) (t u : Touch) → is_early t ≡ false → is_early u ≡ true → ((home : ℕ) → Absent (record { 0 = home }) ≡ u → ⊥) → absent_or x t ≡ u → ⊥
  refused_here None t u e f n h = (let z : true ≡ false = sym f ∙ ap is_early (sym h) ∙ e in cc z)
  refused_here (Some home) t u e f n h = n home h

  passed : (x : Option ℕ) (t u : Touch) → ((home : ℕ) → Absent (record { 0 = home }) ≡ u → ⊥) → absent_or x t ≡ u → t ≡ u
  passed None t u n h = h
  passed (Some home) t u n h = absurd (n home h)

  -- a touch is denied where the reference is
  pub denied_touch : (k : Kind) → touch_of p scene at kind owner ≡ Denied k → (j : Kind) × (reference p at kind owner ≡ denied j)
  unfolding touch_of
  denied_touch k h = by (reference p at kind owner) refl (passed (map_away p scene at) (touched_by p scene at kind (reference p at kind owner)) (Denied k) (λ home e. cc e) h)
    where
      by : (r : Referred file_cmp) → reference p at kind owner ≡ r → touched_by p scene at kind r ≡ Denied k → (j : Kind) × (reference p at kind owner ≡ denied j)
      by (granted q) is g = absurd (refused_here (page_away p scene at) (announced p scene (next_making p at kind)) (Denied k) (announced_late (next_making p at kind)) refl (λ home e. cc e) g)
      by (denied j) is g = (j, is)
      by full is g = absurd (cc g)

  -- a touch meets a full drum where the reference does
  pub full_touch : touch_of p scene at kind owner ≡ Full → reference p at kind owner ≡ full
  unfolding touch_of
  full_touch h = by (reference p at kind owner) refl (passed (map_away p scene at) (touched_by p scene at kind (reference p at kind owner)) Full (λ home e. cc e) h)
    where
      by : (r : Referred file_cmp) → reference p at kind owner ≡ r → touched_by p scene at kind r ≡ Full → reference p at kind owner ≡ full
      by (granted q) is g = absurd (refused_here (page_away p scene at) (announced p scene (next_making p at kind)) Full (announced_late (next_making p at kind)) refl (λ home e. cc e) g)
      by (denied j) is g = absurd (cc g)
      by full is g = is
