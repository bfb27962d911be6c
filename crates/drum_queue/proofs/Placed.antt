-- What a transfer put last, taken back or ended makes of the places.
use Rattle.std.proofs.Common.{◌≡◌, ◌≢◌, ℕ, zero, suc, ◌<◌, inl, inr, List, [], ◌∷◌, ◌++◌, length, Option, None, Some, is_some, IsSome, Bool, true, false, not, cond, ◌||◌, refl, sym, ◌∙◌, ap, subst, arith, set, drop, slice_get, replicate}
use Rattle.std.specs.List.{cons_option}
use Rattle.std.proofs.lemmas.Bool.{cases_eq, false≢true}
use Rattle.std.proofs.lemmas.List.{get_or-set_same, get_or-set_other, length-set, length-replicate}
use Rattle.std.proofs.lemmas.List.Elements.{filter_map-append}
use Rattle.frame_order.specs.FrameOrder.{Order, IsOrder, IsOnce, stands_in, without as order_without}
use Rattle.frame_order.proofs.Changes.{same_test, order_pushed, order_taken, stands_last, stands_before, absent_taken, stands_taken}
use Rattle.frame_order.proofs.Orders.{other_frame}
use Rattle.drum_queue.specs.declared.transfer.Transfer.{Transfer}
use Rattle.drum_queue.specs.Transfers.{Transfers, frame_of, is_of, transfer_of, without, IsSingle}
use Rattle.drum_queue.specs.Places.{place, listed, queue_view, IsPlaced}
use Rattle.drum_queue.proofs.Listed.{AreOwn, listed_found, listed_kept, listed_frames, listed_without, without_idle}

-- the places stand for a list of transfers, and it is this
pub record Becomes (o : Order) (ts : List (Option Transfer)) (q : Transfers) : Type 0 where
  pub placed : IsPlaced o ts
  pub view : queue_view o ts ≡ q

found_by : (b : Bool) (p : Option Transfer) → is_some p ≡ b → cond b p None ≡ p
found_by true p some = refl
found_by false None some = refl
found_by false (Some t) some = absurd cc

-- the transfer of a frame is the one at its place
pub found_at : (o : Order) (ts : List (Option Transfer)) (q : Transfers) (f : ℕ) → IsPlaced o ts → queue_view o ts ≡ q → transfer_of f q.queued ≡ place ts f
found_at o ts q f placed view =
    ap (λ (r : Transfers). transfer_of f r.queued) (sym view) ∙ listed_found ts placed.own f o.order ∙ found_by (stands_in f o.order) (place ts f) (placed.stands f)

-- a frame is in the order exactly while it has a transfer
pub stands_at : (o : Order) (ts : List (Option Transfer)) (q : Transfers) (f : ℕ) → IsPlaced o ts → queue_view o ts ≡ q → is_some (transfer_of f q.queued) ≡ stands_in f o.order
stands_at o ts q f placed view = ap is_some (found_at o ts q f placed view) ∙ placed.stands f

pub single_at : (o : Order) (ts : List (Option Transfer)) (q : Transfers) → IsPlaced o ts → queue_view o ts ≡ q → IsSingle q
single_at o ts q placed view =
    subst IsSingle view (subst (λ (fs : List ℕ). IsOrder (record { frames = o.frames; order = fs })) (sym (listed_frames ts placed.own o.order (λ f here. placed.stands f ∙ here))) placed.order)

-- a transfer is put behind the others
pushed_at : (o : Order) (ts : List (Option Transfer)) (t : Transfer) → IsPlaced o ts → frame_of t < o.frames → stands_in (frame_of t) o.order ≡ false
    → Becomes (record o { order = o.order ++ frame_of t ∷ [] }) (set ts (frame_of t) (Some t)) (record { frames = o.frames; queued = listed ts o.order ++ t ∷ [] })
pushed_at o ts t placed below absent =
    let f = frame_of t in
    let us : List (Option Transfer) = set ts f (Some t) in
    let size = placed.size in
    let here : place us f ≡ Some t = get_or-set_same ts f (Some t) None (omega arith) in
    let there : (g : ℕ) → g ≢ f → place us g ≡ place ts g = λ g other. get_or-set_other ts f g (Some t) None other in
    let kept : listed us o.order ≡ listed ts o.order = listed_kept ts us o.order (λ g stands. there g (other_frame g f o.order stands absent)) in
    record {
      placed = record {
        size = length-set ts f (Some t) ∙ placed.size;
        stands = λ g. elim (cases_eq g f) [
          | inl same ↦
              ap (λ (h : ℕ). is_some (place us h)) same ∙ ap is_some here ∙ sym (stands_last g f o.order same)
          | inr other ↦
              ap is_some (there g other) ∙ placed.stands g ∙ sym (stands_before g f o.order other)
        ];
        own = λ g u is. elim (cases_eq g f) [
          | inl same ↦
              let is_here : Some t ≡ Some u = sym here ∙ ap (place us) (sym same) ∙ is in
              let it : t ≡ u = cc in
              same ∙ ap frame_of it
          | inr other ↦ placed.own g u (sym (there g other) ∙ is)
        ];
        order = order_pushed o f placed.order below absent;
      };
      view = ap (λ (l : List Transfer). record { frames = o.frames; queued = l })
          (filter_map-append (place us) o.order (f ∷ [])
          ∙ ap (λ (l : List Transfer). l ++ listed us (f ∷ [])) kept
          ∙ ap (λ (p : Option Transfer). listed ts o.order ++ cons_option p []) here);
    }

-- a frame's transfer is taken away
taken_at : (o : Order) (ts : List (Option Transfer)) (f : ℕ) → IsPlaced o ts → stands_in f o.order ≡ true
    → Becomes (record o { order = order_without f o.order }) (set ts f None) (record { frames = o.frames; queued = without f (listed ts o.order) })
taken_at o ts f placed stands =
    let us : List (Option Transfer) = set ts f None in
    let size = placed.size in
    let below = placed.order.below f stands in
    let here : place us f ≡ None = get_or-set_same ts f None None (omega arith) in
    let there : (g : ℕ) → g ≢ f → place us g ≡ place ts g = λ g other. get_or-set_other ts f g None None other in
    record {
      placed = record {
        size = length-set ts f None ∙ placed.size;
        stands = λ g. elim (cases_eq g f) [
          | inl same ↦ ap (λ (h : ℕ). is_some (place us h)) same ∙ ap is_some here ∙ sym (ap (λ (h : ℕ). stands_in h (order_without f o.order)) same ∙ absent_taken f o.order)
          | inr other ↦ ap is_some (there g other) ∙ placed.stands g ∙ sym (stands_taken f g o.order other)
        ];
        own = λ g u is. elim (cases_eq g f) [
          | inl same ↦
              let none : None ≡ Some u = sym here ∙ ap (place us) (sym same) ∙ is in
              absurd cc
          | inr other ↦ placed.own g u (sym (there g other) ∙ is)
        ];
        order = order_taken o f placed.order stands;
      };
      view = ap (λ (l : List Transfer). record { frames = o.frames; queued = l }) (listed_without ts placed.own f o.order);
    }

pub pushed : (o : Order) (ts : List (Option Transfer)) (t : Transfer) (f : ℕ) (q : Transfers) → IsPlaced o ts → queue_view o ts ≡ q
    → f ≡ frame_of t → frame_of t < q.frames → transfer_of (frame_of t) q.queued ≡ None
    → Becomes (record o { order = o.order ++ f ∷ [] }) (set ts f (Some t)) (record q { queued = q.queued ++ t ∷ [] })
pushed o ts t f q placed view is below idle =
    let absent : stands_in (frame_of t) o.order ≡ false = sym (stands_at o ts q (frame_of t) placed view) ∙ ap is_some idle in
    let under : frame_of t < o.frames = subst (λ (r : Transfers). frame_of t < r.frames) (sym view) below in
    subst (λ (r : Transfers). Becomes (record o { order = o.order ++ f ∷ [] }) (set ts f (Some t)) (record r { queued = r.queued ++ t ∷ [] })) view
    (subst (λ (g : ℕ). Becomes (record o { order = o.order ++ g ∷ [] }) (set ts g (Some t)) (record { frames = o.frames; queued = listed ts o.order ++ t ∷ [] })) (sym is)
    (pushed_at o ts t placed under absent))

-- a frame with a transfer stands in the order
pub stands_queued : (o : Order) (ts : List (Option Transfer)) (f : ℕ) (q : Transfers) → IsPlaced o ts → queue_view o ts ≡ q
    → IsSome (transfer_of f q.queued) → stands_in f o.order ≡ true
stands_queued o ts f q placed view some = sym (stands_at o ts q f placed view) ∙ search some

pub taken : (o : Order) (ts : List (Option Transfer)) (f : ℕ) (q : Transfers) → IsPlaced o ts → queue_view o ts ≡ q
    → IsSome (transfer_of f q.queued)
    → Becomes (record o { order = order_without f o.order }) (set ts f None) (record q { queued = without f q.queued })
taken o ts f q placed view some =
    subst (λ (r : Transfers). Becomes (record o { order = order_without f o.order }) (set ts f None) (record r { queued = without f r.queued })) view
    (taken_at o ts f placed (stands_queued o ts f q placed view some))

none_at : (n f : ℕ) → place (replicate n None) f ≡ None
none_at zero f = refl
none_at (suc n) zero = refl
none_at (suc n) (suc f) = none_at n f

-- no transfer stands anywhere at the beginning
pub placed_none : (frames : ℕ) → IsPlaced (record { frames = frames; order = [] }) (replicate frames None)
placed_none frames = record {
  size = length-replicate {A = Option Transfer} frames None;
  stands = λ f. ap is_some (none_at frames f);
  own = λ f t is. let no : None ≡ Some t = sym (none_at frames f) ∙ is in absurd cc;
  order = record { once = tt; below = λ f here. absurd cc };
}

-- the first frame of the order has the oldest transfer
pub record IsOldest (f : ℕ) (ts : List Transfer) : Type 0 where
  pub transfer : Transfer
  pub first : slice_get ts 0 ≡ Some transfer
  pub here : transfer_of f ts ≡ Some transfer
  pub rest : without f ts ≡ drop 1 ts

oldest_more : (ts : List (Option Transfer)) → AreOwn ts → (f : ℕ) (fs : List ℕ) (p : Option Transfer) → place ts f ≡ p → is_some p ≡ true → stands_in f fs ≡ false
    → IsOldest f (cons_option p (listed ts fs))
oldest_more ts own f fs None is some absent = absurd (false≢true some)
oldest_more ts own f fs (Some t) is some absent =
    let test : is_of f t ≡ true = same_test f (frame_of t) (own f t is) in
    let idle : transfer_of f (listed ts fs) ≡ None = listed_found ts own f fs ∙ ap (λ (b : Bool). cond b (place ts f) None) absent in
    record {
      transfer = t;
      first = refl;
      here = ap (λ (b : Bool). cond b (Some t) (transfer_of f (listed ts fs))) test;
      rest = ap (λ (b : Bool). cond (not b) (t ∷ without f (listed ts fs)) (without f (listed ts fs))) test ∙ without_idle f (listed ts fs) idle;
    }

oldest_of : (ts : List (Option Transfer)) → AreOwn ts → (fs : List ℕ) → IsOnce fs → ((f : ℕ) → stands_in f fs ≡ true → is_some (place ts f) ≡ true)
    → (f : ℕ) → slice_get fs 0 ≡ Some f → IsOldest f (listed ts fs)
oldest_of ts own [] once all f is = absurd cc
oldest_of ts own (g ∷ gs) once all f is =
    let same : g ≡ f = cc in
    subst (λ (h : ℕ). IsOldest h (listed ts (g ∷ gs))) same (oldest_more ts own g gs (place ts g) refl (all g (grind arith)) once.0)

pub oldest : (o : Order) (ts : List (Option Transfer)) (f : ℕ) (q : Transfers) → IsPlaced o ts → queue_view o ts ≡ q → slice_get o.order 0 ≡ Some f
    → IsOldest f q.queued
oldest o ts f q placed view is =
    subst (λ (r : Transfers). IsOldest f r.queued) view
    (oldest_of ts placed.own o.order placed.order.once (λ g here. placed.stands g ∙ here) f is)

none_of : (ts : List (Option Transfer)) (fs : List ℕ) → slice_get fs 0 ≡ None → listed ts fs ≡ []
none_of ts [] is = refl
none_of ts (f ∷ fs) is = absurd cc

-- where no frame is in the order, nothing is queued
pub none_queued : (o : Order) (ts : List (Option Transfer)) (q : Transfers) → queue_view o ts ≡ q → slice_get o.order 0 ≡ None → q.queued ≡ []
none_queued o ts q view is = ap (λ (r : Transfers). r.queued) (sym view) ∙ none_of ts o.order is

first_stands : (fs : List ℕ) (f : ℕ) → slice_get fs 0 ≡ Some f → stands_in f fs ≡ true
first_stands [] f is = absurd cc
first_stands (g ∷ gs) f is = let same : f ≡ g = cc in ap (λ (b : Bool). b || stands_in f gs) (same_test f g same)

-- the first frame has a place
pub first_below : (o : Order) (ts : List (Option Transfer)) (f : ℕ) → IsPlaced o ts → slice_get o.order 0 ≡ Some f → f < length ts
first_below o ts f placed is = let size = placed.size in let below = placed.order.below f (first_stands o.order f is) in omega arith

-- each frame has a place
pub frame_below : (o : Order) (ts : List (Option Transfer)) (q : Transfers) (f : ℕ) → IsPlaced o ts → queue_view o ts ≡ q → f < q.frames → f < length ts
frame_below o ts q f placed view below = let size = placed.size in let same : o.frames ≡ q.frames = ap (λ (r : Transfers). r.frames) view in omega arith
