-- What is held, as lists of homes and as homes whose frames stay theirs.
use Rattle.std.proofs.Common.{◌≡◌, ℕ, zero, suc, ◌<◌, ◌==◌, inl, inr, List, [], ◌∷◌, length, count_by, Option, None, Some, is_some, Bool, true, false, not, cond, ◌||◌, refl, sym, ◌∙◌, ap, arith, get_or, Contains}
use Rattle.std.proofs.lemmas.Bool.{cases_lt, false≢true, eqb-true, eq-eqb, false_from_ne_true}
use Rattle.std.proofs.lemmas.List.{get_or_past}
use Rattle.std.proofs.lemmas.List.Sums.{sum_by-cons, get_or-le-sum_by}
use Rattle.std.proofs.lemmas.Map.Views.{Contains-from_any}
use Rattle.drum_queue.specs.declared.transfer.Transfer.{Transfer}
use Rattle.drum_queue.specs.Transfers.{transfer_of}
use Rattle.paged_store.specs.HeldHomes.{held_by}
use Rattle.page_residence.specs.Resident.{Seats, home_at, frame_for}
use Rattle.paged_store.specs.Keeping.{is_among, is_still, still_in}
use Rattle.page_residence.proofs.Seating.{frame_has}

-- a home that is among those that are held for somebody is counted
pub among_counts : (holders : List (List ℕ)) (k h : ℕ) → is_among h (held_by holders k) ≡ true → 0 < count_by (is_among h) holders
among_counts holders k h among = elim (cases_lt k (length holders)) [
  | inl below ↦
      let least = get_or-le-sum_by (λ (hs : List ℕ). cond (is_among h hs) 1 0) holders k [] below in
      let one = ap (λ (b : Bool). let n : ℕ = cond b 1 0 in n) among in
      omega (arith, least, one)
  | inr past ↦ absurd (false≢true (sym (ap (is_among h) (get_or_past holders k [] past)) ∙ among))
]

-- and one that isn't counted is among none
pub uncounted : (holders : List (List ℕ)) (k h : ℕ) → count_by (is_among h) holders ≡ 0 → is_among h (held_by holders k) ≡ false
uncounted holders k h none = false_from_ne_true (is_among h (held_by holders k)) (λ among. let some = among_counts holders k h among in let r : ⊥ = absurd (omega (arith, some, none)) in r)

pub none_counted : (holders : List (List ℕ)) (h : ℕ) → ((k : ℕ) → is_among h (held_by holders k) ≡ false) → count_by (is_among h) holders ≡ 0
none_counted [] h none = refl
none_counted (hs ∷ holders) h none =
    sum_by-cons (λ (l : List ℕ). cond (is_among h l) 1 0) hs holders
    ∙ (let rest = none_counted holders h (λ k. none (suc k)) in
    let own = ap (λ (b : Bool). let n : ℕ = cond b 1 0 in n) (none 0) in
    omega (arith, rest, own))

pub among_contains : (hs : List ℕ) (h : ℕ) → is_among h hs ≡ true → Contains hs h
among_contains hs h among = Contains-from_any {eq = λ (q x : ℕ). x == q} (λ x y e. sym (eqb-true y x e)) h hs among

among_at : (hs : List ℕ) (h k : ℕ) → k < length hs → get_or hs k h ≡ h → is_among h hs ≡ true
among_at [] h k below is = absurd (omega arith)
among_at (x ∷ hs) h zero below is = ap (λ (b : Bool). b || is_among h hs) (eq-eqb x h is)
among_at (x ∷ hs) h (suc k) below is = at (x == h) (among_at hs h k (omega arith) is)
  where
    at : (b : Bool) → is_among h hs ≡ true → (b || is_among h hs) ≡ true
    at true rest = refl
    at false rest = rest

pub contains_among : (hs : List ℕ) (h : ℕ) → Contains hs h → is_among h hs ≡ true
contains_among hs h there = among_at hs h there.0 there.1 there.2

pub still_is : (seats : Seats) (queue : List Transfer) (h : ℕ) (o : Option ℕ) → frame_for seats h ≡ o → is_still seats queue h ≡ still_in queue o
unfolding is_still
still_is seats queue h o is = ap (still_in queue) is

-- a page that stays in its frame has one, which has no transfer
pub record IsStillIn (seats : Seats) (queue : List Transfer) (h : ℕ) : Type 0 where
  pub frame : ℕ
  pub is : frame_for seats h ≡ Some frame
  pub given : home_at seats frame ≡ Some h
  pub idle : transfer_of frame queue ≡ None

pub still_frame : (seats : Seats) (queue : List Transfer) (h : ℕ) → is_still seats queue h ≡ true → IsStillIn seats queue h
still_frame seats queue h still = at (frame_for seats h) refl
  where
    none : (o : Option Transfer) → not (is_some o) ≡ true → o ≡ None
    none None e = refl
    none (Some t) e = absurd (false≢true e)

    at : (o : Option ℕ) → frame_for seats h ≡ o → IsStillIn seats queue h
    at None is = absurd (false≢true (sym (still_is seats queue h None is) ∙ still))
    at (Some f) is = record { frame = f; is = is; given = frame_has seats h f is; idle = none (transfer_of f queue) (sym (still_is seats queue h (Some f) is) ∙ still) }

pub frame_still : (seats : Seats) (queue : List Transfer) (h f : ℕ) → frame_for seats h ≡ Some f → transfer_of f queue ≡ None → is_still seats queue h ≡ true
frame_still seats queue h f is idle = still_is seats queue h (Some f) is ∙ ap (λ (o : Option Transfer). not (is_some o)) idle
