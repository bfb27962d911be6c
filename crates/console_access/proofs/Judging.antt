-- A write that is judged alone, before anything is made: what its answer says, and what is left once all is made.
use Rattle.std.proofs.Common.{◌≡◌, ℕ, Bool, true, false, cond, [], Option, None, Some, inl, inr, refl, sym, ◌∙◌, ap, subst, arith}
use Rattle.std.specs.Prelude.{Err, nat_le}
use Rattle.std.specs.Ordering.{nat_cmp}
use Rattle.machine_names.specs.declared.names.Kind.TheVariants.{Write}
use Rattle.machine_names.specs.declared.names.Slot.{Slot}
use Rattle.machine_names.specs.declared.names.Tty.{Tty}
use Rattle.machine_names.specs.Bounds.{IsOwner}
use Rattle.page_homes.specs.declared.homes.Home.{Home}
use Rattle.page_contracts.specs.declared.answers.Need.TheVariants as need
use Rattle.page_contracts.specs.declared.answers.Touch.{Touch}
use Rattle.page_contracts.specs.declared.answers.Touch.TheVariants.{Ready, Zero, Copy, Absent, NeedFrame, Denied as NotAllowed, Full as NoRoom}
use Rattle.page_contracts.specs.Pages.{Agrees, PagesMeaning, Scene, map_away, page_away, touch_of}
use Rattle.page_contracts.proofs.Touches.{ready_touch}
use Rattle.plain_pages.specs.PlainPages.{NumberedPages}
use Rattle.plain_pages.specs.References.{Referred, denied, full, granted, in_map, makings, reference}
use Rattle.plain_pages.specs.Room.{live}
use Rattle.plain_pages.specs.WholePages.{AreWhole}
use Rattle.plain_pages.proofs.ReferencesMade.{settled_stays}
use Rattle.page_gather.specs.declared.reference.Added.{Added}
use Rattle.page_gather.specs.declared.reference.Added.TheVariants.{Went, Need, Denied, Full}
use Rattle.page_gather.specs.declared.reference.PageReference.{PageReference}
use Rattle.page_gather.specs.Gathering.{Adds, AreSound, Gathering, IsNear, after_all, answered, came_to, left_of, most_framed, page_or, referred_to}
use Rattle.page_gather.specs.Making.{CanMake}
use Rattle.page_gather.proofs.Again.{reference_leaves}
use Rattle.page_gather.proofs.Answering.{Goes, after_none, answered_goes}
use Rattle.page_gather.proofs.Settling.{near_scene, not_stuck, ready_settled}
use Rattle.ka10_unit.proofs.Carried.{ready_here}
use Rattle.console_access.specs.declared.writing.Barred.TheVariants.{ByDrum, ByMap}
use Rattle.console_access.specs.Needing.{IsOnWay}
use Rattle.console_access.specs.Writing.{write_of}

-- pages that are whole, and tell their numbers
pub sound_over : {P : Type 0} (means : PagesMeaning P) (p : P) (q : NumberedPages) → Agrees means p q → AreWhole q → AreSound q (means.scene p)
sound_over means p q a whole = record { whole = whole; room = a.room; away = a.absent_pages }

-- a reference to write
abbrev pub write_at : Slot → PageReference
write_at slot = record { slot = slot; kind = Write }

module _ (p : NumberedPages) (scene : Scene) (owner : Tty) (slot : Slot) where
  -- what an answer says of a write
  abbrev pub Says : Added → Type 0
  Says Went = Unit {0}
  Says (Need n) = (home : Home) → n ≡ need.Page home → IsOnWay p scene (in_map slot) home.0
  Says (Denied k) = write_of (reference p (in_map slot) Write owner) ≡ Err ByMap
  Says Full = write_of (reference p (in_map slot) Write owner) ≡ Err ByDrum

  pub says : (most : ℕ) (a : Added) → a ≡ answered p scene most owner (write_at slot) → Says a
  unfolding answered
  says most a h = by (map_away p scene (in_map slot)) refl (reference p (in_map slot) Write owner) refl (page_away p scene (in_map slot)) refl h
    where
      framed : (b : Bool) → Says (cond b Went (Need need.Frame))
      framed true = tt
      framed false = λ home same. absurd (cc same)

      by : (m : Option ℕ) → map_away p scene (in_map slot) ≡ m → (x : Referred nat_cmp) → reference p (in_map slot) Write owner ≡ x → (w : Option ℕ) → page_away p scene (in_map slot) ≡ w → a ≡ page_or m (came_to x w most) → Says a
      by (Some away) is x refers w page g = subst Says (sym g) (λ home same. inl (is ∙ ap Some (let at : away ≡ home.0 = cc same in at)))
      by None is (granted q) refers (Some away) page g = subst Says (sym g) (λ home same. inr (page ∙ ap Some (let at : away ≡ home.0 = cc same in at)))
      by None is (granted q) refers None page g = subst Says (sym g) (framed (nat_le (live q) most))
      by None is (denied k) refers w page g = subst Says (sym g) (ap write_of refers)
      by None is full refers w page g = subst Says (sym g) (ap write_of refers)

  -- the first reference of a gather is answered on the pages as they are
  module _ (old new : Gathering) (own : old.owner ≡ owner) (none : old.references ≡ []) (a : Added) (adds : Adds p scene old new (write_at slot) a) where
    before : left_of p old ≡ p
    before = (λ i. after_all p (own i) (none i)) ∙ after_none p owner

    pub first_answer : a ≡ answered p scene (most_framed p scene) owner (write_at slot)
    first_answer = adds.is ∙ (λ i. answered (before i) scene (most_framed p scene) (own i) (write_at slot))

    module _ (went : a ≡ Went) (sound : AreSound p scene) (is_owner : IsOwner owner) where
      goes : Goes p scene (most_framed p scene) owner (write_at slot)
      goes = answered_goes p scene (most_framed p scene) owner (write_at slot) (sym first_answer ∙ went)

      leaves : referred_to p owner (write_at slot) ≡ granted (left_of p new)
      leaves = (λ i. referred_to (sym before i) (sym own i) (write_at slot)) ∙ adds.leaves went

      -- all that it wants can be made
      pub first_can : CanMake p scene owner (write_at slot) (left_of p new)
      first_can =
          let two : ◌≡◌ {A = Referred nat_cmp} (granted goes.leaves) (granted (left_of p new)) = sym goes.is ∙ leaves in
          let same : goes.leaves ≡ left_of p new = cc two in
          record { sound = sound; goes = leaves; near = goes.near; frames = omega (arith, goes.frames, ap (λ (x : NumberedPages). live x) same) }

      -- and once it is made, its page is ready
      pub first_opens : (q : NumberedPages) (now : Scene) → q ≡ left_of p new → now.map_away ≡ scene.map_away → now.page_away ≡ scene.page_away → touch_of q now (in_map slot) Write owner ≡ Ready
      first_opens q now is maps pages =
          let near : IsNear (left_of p new) scene slot = adds.near went slot (subst (λ (x : NumberedPages). IsNear x scene slot) (sym before) goes.near) in
          let here : IsNear q now slot = near_scene scene now maps pages q slot (subst (λ (x : NumberedPages). IsNear x scene slot) (sym is) near) in
          ready_here q now slot Write owner here (ap (λ (x : NumberedPages). makings x (in_map slot) Write) is ∙ (reference_leaves owner is_owner p (left_of p new) sound.whole slot Write leaves).again)

-- where neither a zero page nor a copy is wanted, nothing is left to be made
pub nothing_left : (p : NumberedPages) (scene : Scene) (owner : Tty) → IsOwner owner → (slot : Slot) (left : NumberedPages) → CanMake p scene owner (write_at slot) left
    → (t : Touch) → t ≡ touch_of p scene (in_map slot) Write owner → ((sole : Bool) → t ≡ Copy sole → ⊥) → (t ≡ Zero → ⊥) → p ≡ left
nothing_left p scene owner own slot left k Ready is copies zero = sym (settled_stays p owner (in_map slot) Write (ready_touch p scene owner (in_map slot) Write (sym is))) ∙ ready_settled p scene owner own (write_at slot) left k is
nothing_left p scene owner own slot left k (Copy sole) is copies zero = absurd (copies sole refl)
nothing_left p scene owner own slot left k Zero is copies zero = absurd (zero refl)
nothing_left p scene owner own slot left k (Absent home) is copies zero = not_stuck p scene owner own (write_at slot) left k (Absent home) is refl
nothing_left p scene owner own slot left k NeedFrame is copies zero = not_stuck p scene owner own (write_at slot) left k NeedFrame is refl
nothing_left p scene owner own slot left k (NotAllowed kind) is copies zero = not_stuck p scene owner own (write_at slot) left k (NotAllowed kind) is refl
nothing_left p scene owner own slot left k NoRoom is copies zero = not_stuck p scene owner own (write_at slot) left k NoRoom is refl
