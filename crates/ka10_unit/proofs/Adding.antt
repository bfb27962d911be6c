-- The page of an address asked for.
use Rattle.std.proofs.Common.{◌≡◌, ℕ, zero, suc, ◌<◌, Bool, true, false, cond, List, [], ◌∷◌, ◌++◌, refl, sym, ◌∙◌, ap, subst, arith}
use Rattle.std.specs.Prelude.{⊤, Ok, Err}
use Rattle.std.specs.List.{All}
use Rattle.std.specs.Ordering.{nat_cmp}
use Rattle.machine_names.specs.declared.names.ForkName.{ForkName}
use Rattle.machine_names.specs.declared.names.Kind.{Kind}
use Rattle.machine_names.specs.declared.names.Place.{Place}
use Rattle.machine_names.specs.declared.names.Place.TheVariants.{Fork}
use Rattle.machine_names.specs.declared.names.Slot.{Slot}
use Rattle.machine_names.specs.declared.names.TheConstants.{SPACE_PAGES}
use Rattle.machine_names.specs.declared.names.Tty.{Tty}
use Rattle.page_contracts.specs.declared.answers.Need.{Need as ANeed}
use Rattle.plain_units.specs.declared.channel.TheConstants.{DRUM_FULL}
use Rattle.plain_pages.specs.PlainPages.{NumberedPages}
use Rattle.plain_pages.specs.References.{Referred, granted, in_map, makings, reference, slot_at}
use Rattle.page_contracts.specs.Pages.{PagesMeaning, Scene, Agrees}
use Rattle.machine_names.specs.Bounds.{IsOwner}
use Rattle.plain_pages.specs.WholePages.{AreWhole}
use Rattle.plain_units.specs.Steps.{is_accumulator, asked_at, denied_channel, goes, stops, trap}
use Rattle.page_gather.specs.declared.reference.PageReference.{PageReference}
use Rattle.page_gather.specs.declared.reference.Added.{Added}
use Rattle.page_gather.specs.declared.reference.Added.TheVariants.{Went, Need, Denied, Full}
use Rattle.page_gather.specs.Gathering.{Adds, ArePlaces, AreSound, Gathering, Gathers, IsNear, IsPlaceNear, PlaceAdds, answered, left_by, left_of, most_framed, referred_to}
use Rattle.page_gather.proofs.Again.{reference_leaves}
use Rattle.page_gather.proofs.Answering.{answered_goes}
use Rattle.ka10_unit.specs.Gathers.{Framed, IsOf, asked_by, asks}
use Rattle.ka10_unit.specs.declared.taken.Stop.{Stop}
use Rattle.ka10_unit.specs.declared.taken.Stop.TheVariants.{Trap, Need as StopNeed}
use Rattle.ka10_unit.specs.Taking.{AsksAt, stop_of}

-- a place of a fork's space is in frames where its slot is
pub near_place : (q : NumberedPages) (scene : Scene) (at : Place) (s : Slot) → at ≡ Fork s → IsNear q scene s → IsPlaceNear q scene at
near_place q scene at s is near = subst (IsPlaceNear q scene) (sym is) near

-- pages as they stand are sound
pub sound_as : {P : Type 0} (means : PagesMeaning P) (pages : P) (p : NumberedPages) → AreWhole p → Agrees means pages p → AreSound p (means.scene pages)
sound_as means pages p whole agrees = record { whole = whole; room = agrees.room; away = agrees.absent_pages }

-- ---- the references of a fork

more_of : (f : ForkName) (rs : List PageReference) (r : PageReference) → All (λ (x : PageReference). (x.slot.fork ≡ f) × (x.slot.page < SPACE_PAGES)) rs → (r.slot.fork ≡ f) × (r.slot.page < SPACE_PAGES)
    → All (λ (x : PageReference). (x.slot.fork ≡ f) × (x.slot.page < SPACE_PAGES)) (rs ++ r ∷ [])
more_of f [] r all own zero d less = own
more_of f [] r all own (suc k) d less = absurd (omega (arith, less))
more_of f (x ∷ rs) r all own zero d less = all 0 d (omega arith)
more_of f (x ∷ rs) r all own (suc k) d less = more_of f rs r (λ i e l. all (suc i) e (omega (arith, l))) own k d (omega (arith, less))

-- one reference more is of the fork too
pub own_more : (f : ForkName) (old new : Gathering) (at : Place) (kind : Kind) (page : ℕ) → at ≡ Fork (record { fork = f; page = page }) → page < SPACE_PAGES → IsOf f old → new.owner ≡ old.owner → PlaceAdds old.references new.references at kind → IsOf f new
own_more f old new at kind page is less own same adds =
    let more = subst (λ (a : Place). PlaceAdds old.references new.references a kind) is adds in
    record { owner = same ∙ own.owner; references = subst (All (λ (x : PageReference). (x.slot.fork ≡ f) × (x.slot.page < SPACE_PAGES))) (sym more) (more_of f old.references _ own.references (refl, less)) }

-- they are places where the fork lives
pub are_places : (lives : ForkName → Bool) (f : ForkName) (g : Gathering) → lives f ≡ true → IsOf f g → ArePlaces lives g.references
are_places lives f g alive own = λ k d less. (let of_fork = own.references k d less in (ap lives of_fork.0 ∙ alive, of_fork.1))

-- ---- what a unit learns of the page of an address

module _ (f : ForkName) (own : IsOwner f.tty) (p : Framed) (old new : Gathering) (of_fork : old.owner ≡ f.tty) (at : ℕ) (kind : Kind) (high : is_accumulator at ≡ false) (gathers : Gathers p.pages p.scene old) where
  abbrev r : PageReference
  r = record { slot = slot_at f at; kind = kind }

  abbrev q : NumberedPages
  q = left_of p.pages old

  -- it is asked as it is answered where it is added
  asks_is : (result : Added) → Adds p.pages p.scene old new r result → asked_at (asks f p) f q at kind ≡ asked_by result (left_by q (referred_to q old.owner r))
  unfolding asks
  asks_is result a =
      ap (λ b. cond b (goes q) (asks f p q (slot_at f at) kind)) high
      ∙ ap (λ (t : Tty). asked_by (answered q p.scene (most_framed p.pages p.scene) t r) (left_by q (referred_to q t r))) (sym of_fork)
      ∙ ap (λ (x : Added). asked_by x (left_by q (referred_to q old.owner r))) (sym a.is)

  -- it goes through
  pub asks_went : (x : ⊤) → Adds p.pages p.scene old new r Went → AsksAt f p old new at kind (Ok x)
  asks_went x a =
      let goes_on = a.leaves refl in
      let its_own : reference q (in_map (slot_at f at)) kind f.tty ≡ granted (left_of p.pages new) = ap (reference q (in_map (slot_at f at)) kind) (sym of_fork) ∙ goes_on in
      let left = reference_leaves f.tty own q (left_of p.pages new) gathers.changed.whole (slot_at f at) kind its_own in
      let near = a.near refl (slot_at f at) (answered_goes q p.scene (most_framed p.pages p.scene) old.owner r (sym a.is)).near in
      record {
        gathers = a.gathers;
        is = asks_is Went a ∙ ap (λ (y : Referred nat_cmp). goes (left_by q y)) goes_on;
        page = λ y is low. record { page = left.page; near = near };
        open_at = λ y is writes low. record { makes = ap (λ k. makings (left_of p.pages new) (in_map (slot_at f at)) k) (sym writes) ∙ left.again; near = near };
        still = λ b h. record { makes = left.still (slot_at f b) h.makes; near = a.near refl (slot_at f b) h.near };
      }

  -- it stops the unit
  stops_at : (e : Stop) → new ≡ old → asked_at (asks f p) f q at kind ≡ stops (stop_of e) → AsksAt f p old new at kind (Err e)
  stops_at e same is = subst (λ (g : Gathering). AsksAt f p old g at kind (Err e)) (sym same) (record {
    gathers = gathers;
    is = is;
    page = λ x no. absurd (cc no);
    open_at = λ x no. absurd (cc no);
    still = λ a h. h;
  })

  pub asks_need : (n : ANeed) → Adds p.pages p.scene old new r (Need n) → new ≡ old → AsksAt f p old new at kind (Err (StopNeed n))
  asks_need n a same = stops_at (StopNeed n) same (asks_is (Need n) a)

  pub asks_denied : (k : Kind) (channel : ℕ) → Adds p.pages p.scene old new r (Denied k) → new ≡ old → channel ≡ denied_channel k → AsksAt f p old new at kind (Err (Trap channel))
  asks_denied k channel a same is = stops_at (Trap channel) same (asks_is (Denied k) a ∙ ap (λ (n : ℕ). stops (trap n)) (sym is))

  pub asks_full : (channel : ℕ) → Adds p.pages p.scene old new r Full → new ≡ old → channel ≡ DRUM_FULL → AsksAt f p old new at kind (Err (Trap channel))
  asks_full channel a same is = stops_at (Trap channel) same (asks_is Full a ∙ ap (λ (n : ℕ). stops (trap n)) (sym is))
