-- The list of the transfers that stand at the places of some frames.
use Rattle.std.proofs.Common.{◌≡◌, ◌≢◌, ℕ, ◌==◌, inl, inr, List, [], ◌∷◌, map, Option, None, Some, is_some, Bool, true, false, not, cond, ◌||◌, refl, sym, ◌∙◌, ap, set}
use Rattle.std.specs.List.{cons_option}
use Rattle.std.proofs.lemmas.Bool.{cases_eq, false≢true}
use Rattle.std.proofs.lemmas.List.{get_or-set_other}
use Rattle.frame_order.specs.FrameOrder.{stands_in, without as order_without}
use Rattle.frame_order.proofs.Changes.{same_test, other_test}
use Rattle.frame_order.proofs.Orders.{stands_first, stands_behind}
use Rattle.drum_queue.specs.declared.transfer.Transfer.{Transfer}
use Rattle.drum_queue.specs.Transfers.{frame_of, is_of, transfer_of, without}
use Rattle.drum_queue.specs.Places.{place, listed}

-- at each place stands a transfer of its own frame
abbrev pub AreOwn : List (Option Transfer) → Type 0
AreOwn ts = (f : ℕ) (t : Transfer) → place ts f ≡ Some t → f ≡ frame_of t

cond_same : {X : Type 0} (b : Bool) (x : X) → cond b x x ≡ x
cond_same true x = refl
cond_same false x = refl

-- a transfer of another frame, or none, stands before what is looked up in
found_more : (f g : ℕ) (p q : Option Transfer) (rest : List Transfer) (b : Bool)
    → ((t : Transfer) → p ≡ Some t → g ≡ frame_of t) → (f ≡ g → q ≡ p)
    → transfer_of f rest ≡ cond b q None → transfer_of f (cons_option p rest) ≡ cond ((f == g) || b) q None
found_more f g None q rest b own here further = elim (cases_eq f g) [
  | inl same ↦
      let none : q ≡ None = here same in
      further ∙ ap (λ (p : Option Transfer). cond b p None) none ∙ cond_same b None
      ∙ sym (ap (λ (p : Option Transfer). cond ((f == g) || b) p None) none ∙ cond_same ((f == g) || b) None)
  | inr other ↦ further ∙ ap (λ (c : Bool). cond (c || b) q None) (sym (other_test f g other))
]
found_more f g (Some t) q rest b own here further = elim (cases_eq f g) [
  | inl same ↦
      ap (λ (c : Bool). cond c (Some t) (transfer_of f rest)) (same_test f (frame_of t) (same ∙ own t refl))
      ∙ sym (here same) ∙ ap (λ (c : Bool). cond (c || b) q None) (sym (same_test f g same))
  | inr other ↦
      ap (λ (c : Bool). cond c (Some t) (transfer_of f rest)) (other_test f (frame_of t) (λ e. other (e ∙ sym (own t refl))))
      ∙ further ∙ ap (λ (c : Bool). cond (c || b) q None) (sym (other_test f g other))
]

-- a look-up in the list finds what stands at the frame's place, if the frame is one of these
pub listed_found : (ts : List (Option Transfer)) → AreOwn ts → (f : ℕ) (fs : List ℕ)
    → transfer_of f (listed ts fs) ≡ cond (stands_in f fs) (place ts f) None
listed_found ts own f [] = refl
listed_found ts own f (g ∷ gs) =
    found_more f g (place ts g) (place ts f) (listed ts gs) (stands_in f gs) (own g) (λ same. ap (place ts) same) (listed_found ts own f gs)

-- frames whose places stay keep their transfers
pub listed_kept : (ts us : List (Option Transfer)) (fs : List ℕ) → ((f : ℕ) → stands_in f fs ≡ true → place us f ≡ place ts f) → listed us fs ≡ listed ts fs
listed_kept ts us [] same = refl
listed_kept ts us (f ∷ fs) same =
    ap (λ (p : Option Transfer). cons_option p (listed us fs)) (same f (stands_first f fs))
    ∙ ap (λ (l : List Transfer). cons_option (place ts f) l) (listed_kept ts us fs (λ g here. same g (stands_behind g f fs here)))

frames_more : (f : ℕ) (p : Option Transfer) (rest : List Transfer) (fs : List ℕ) → ((t : Transfer) → p ≡ Some t → f ≡ frame_of t)
    → is_some p ≡ true → map frame_of rest ≡ fs → map frame_of (cons_option p rest) ≡ f ∷ fs
frames_more f None rest fs own some further = absurd (false≢true some)
frames_more f (Some t) rest fs own some further =
    ap (λ (g : ℕ). g ∷ map frame_of rest) (sym (own t refl)) ∙ ap (λ (gs : List ℕ). f ∷ gs) further

-- the frames of the list are those of the order
pub listed_frames : (ts : List (Option Transfer)) → AreOwn ts → (fs : List ℕ) → ((f : ℕ) → stands_in f fs ≡ true → is_some (place ts f) ≡ true) → map frame_of (listed ts fs) ≡ fs
listed_frames ts own [] all = refl
listed_frames ts own (f ∷ fs) all =
    frames_more f (place ts f) (listed ts fs) fs (own f) (all f (stands_first f fs)) (listed_frames ts own fs (λ g here. all g (stands_behind g f fs here)))

-- one of the frames loses its transfer: the first one, or one behind it
without_first : (ts : List (Option Transfer)) (f g : ℕ) (gs : List ℕ) (p : Option Transfer) → ((t : Transfer) → p ≡ Some t → g ≡ frame_of t)
    → f ≡ g → listed (set ts f None) (order_without f gs) ≡ without f (listed ts gs)
    → listed (set ts f None) (order_without f (g ∷ gs)) ≡ without f (cons_option p (listed ts gs))
without_first ts f g gs None own same rest =
    ap (λ (b : Bool). listed (set ts f None) (cond (not b) (g ∷ order_without f gs) (order_without f gs))) (same_test f g same) ∙ rest
without_first ts f g gs (Some t) own same rest =
    ap (λ (b : Bool). listed (set ts f None) (cond (not b) (g ∷ order_without f gs) (order_without f gs))) (same_test f g same) ∙ rest
    ∙ ap (λ (b : Bool). cond (not b) (t ∷ without f (listed ts gs)) (without f (listed ts gs))) (sym (same_test f (frame_of t) (same ∙ own t refl)))

without_behind : (ts : List (Option Transfer)) (f g : ℕ) (gs : List ℕ) (p : Option Transfer) → ((t : Transfer) → p ≡ Some t → g ≡ frame_of t)
    → f ≢ g → place (set ts f None) g ≡ p → listed (set ts f None) (order_without f gs) ≡ without f (listed ts gs)
    → listed (set ts f None) (order_without f (g ∷ gs)) ≡ without f (cons_option p (listed ts gs))
without_behind ts f g gs None own other is rest =
    ap (λ (b : Bool). listed (set ts f None) (cond (not b) (g ∷ order_without f gs) (order_without f gs))) (other_test f g other)
    ∙ ap (λ (p : Option Transfer). cons_option p (listed (set ts f None) (order_without f gs))) is ∙ rest
without_behind ts f g gs (Some t) own other is rest =
    ap (λ (b : Bool). listed (set ts f None) (cond (not b) (g ∷ order_without f gs) (order_without f gs))) (other_test f g other)
    ∙ ap (λ (p : Option Transfer). cons_option p (listed (set ts f None) (order_without f gs))) is
    ∙ ap (λ (l : List Transfer). t ∷ l) rest
    ∙ ap (λ (b : Bool). cond (not b) (t ∷ without f (listed ts gs)) (without f (listed ts gs))) (sym (other_test f (frame_of t) (λ e. other (e ∙ sym (own t refl)))))

pub listed_without : (ts : List (Option Transfer)) → AreOwn ts → (f : ℕ) (fs : List ℕ) → listed (set ts f None) (order_without f fs) ≡ without f (listed ts fs)
listed_without ts own f [] = refl
listed_without ts own f (g ∷ gs) = elim (cases_eq f g) [
  | inl same ↦ without_first ts f g gs (place ts g) (own g) same (listed_without ts own f gs)
  | inr other ↦ without_behind ts f g gs (place ts g) (own g) other (get_or-set_other ts f g None None (λ e. other (sym e))) (listed_without ts own f gs)
]

idle_more : (f : ℕ) (t : Transfer) (ts : List Transfer) (b : Bool) → cond b (Some t) (transfer_of f ts) ≡ None
    → (transfer_of f ts ≡ None → without f ts ≡ ts) → cond (not b) (t ∷ without f ts) (without f ts) ≡ t ∷ ts
idle_more f t ts true none further = absurd cc
idle_more f t ts false none further = ap (λ (us : List Transfer). t ∷ us) (further none)

-- where a frame has no transfer, none is taken away
pub without_idle : (f : ℕ) (ts : List Transfer) → transfer_of f ts ≡ None → without f ts ≡ ts
without_idle f [] none = refl
without_idle f (t ∷ ts) none = idle_more f t ts (is_of f t) none (without_idle f ts)
