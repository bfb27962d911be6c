-- Moves that change nothing: who stands nowhere is stopped, who stands is started.
use Rattle.std.proofs.Common.{◌≡◌, Bool, true, false, cond, not, ◌||◌, List, [], ◌∷◌, ◌++◌, map, filter, refl, ◌∙◌, ap}
use Rattle.std.specs.List.{list_any}
use Rattle.std.proofs.lemmas.Bool.{or_parts}
use Rattle.std.proofs.lemmas.List.{append-nil}
use Rattle.std.proofs.lemmas.List.Elements.{filter-append}
use Rattle.machine_names.specs.declared.names.ForkName.{ForkName}
use Rattle.machine_names.specs.Orders.{same_fork}
use Rattle.plain_model.specs.Moves.{Move, Stops, Starts}
use Rattle.job_sched.specs.declared.member.Member.{Member}
use Rattle.job_sched.specs.declared.member.Waiter.{Waiter}
use Rattle.job_sched.specs.Schedules.{Schedule, admitted, heads, is_member, is_outside, is_ready, is_waiter, is_waiting, left, member_of, members, stands, started, stopped, woken}
use Rattle.job_sched.specs.Ties.{IsFilled}
use Rattle.job_sched.proofs.Admitting.{admitted_none}
use Rattle.job_sched.proofs.Kept.{schedule_is}
use Rattle.job_sched.proofs.Ties.{filled}
use Rattle.turn_forms.specs.Turns.{moved}

module _ {A : Type 0} (p : A → Bool) where
  -- where none passes a test, all are kept that don't
  kept_all : (xs : List A) → list_any p xs ≡ false → filter (λ x. not (p x)) xs ≡ xs
  kept_all [] none = refl
  kept_all (x ∷ xs) none =
      let parts = or_parts (p x) (list_any p xs) none in
      ap (λ b. cond (not b) (x ∷ filter (λ y. not (p y)) xs) (filter (λ y. not (p y)) xs)) parts.0 ∙ ap (λ (ys : List A). x ∷ ys) (kept_all xs parts.1)

  none_kept : (xs : List A) → list_any p xs ≡ false → filter p xs ≡ []
  none_kept [] none = refl
  none_kept (x ∷ xs) none =
      let parts = or_parts (p x) (list_any p xs) none in
      ap (λ b. cond b (x ∷ filter p xs) (filter p xs)) parts.0 ∙ none_kept xs parts.1

  -- where each fails a test, none is kept
  pub all_fail : ((x : A) → p x ≡ false) → (xs : List A) → filter p xs ≡ []
  all_fail fails [] = refl
  all_fail fails (x ∷ xs) = ap (λ b. cond b (x ∷ filter p xs) (filter p xs)) (fails x) ∙ all_fail fails xs

  -- where each passes it, all are
  pub all_pass : ((x : A) → p x ≡ true) → (xs : List A) → filter p xs ≡ xs
  all_pass passes [] = refl
  all_pass passes (x ∷ xs) = ap (λ b. cond b (x ∷ filter p xs) (filter p xs)) (passes x) ∙ ap (λ (ys : List A). x ∷ ys) (all_pass passes xs)

no_waiter : (f : ForkName) (ws : List Waiter) → list_any (is_waiter f) ws ≡ false → list_any (is_member f) (map member_of ws) ≡ false
no_waiter f [] none = refl
no_waiter f (w ∷ ws) none =
    let parts = or_parts (is_waiter f w) (list_any (is_waiter f) ws) none in
    ap (λ b. b || list_any (is_member f) (map member_of ws)) parts.0 ∙ no_waiter f ws parts.1

no_head : (f : ForkName) (ms : List Member) → list_any (is_member f) ms ≡ false → heads f ms ≡ false
no_head f [] none = refl
no_head f (m ∷ ms) none = (or_parts (is_member f m) (list_any (is_member f) ms) none).0

-- who stands nowhere leaves nothing
left_none : (s : Schedule) (f : ForkName) → stands f s ≡ false → left s f ≡ s
left_none s f none =
    let parts = or_parts (is_outside f s || is_ready f s) (is_waiting f s) none in
    let first = or_parts (is_outside f s) (is_ready f s) parts.0 in
    let nobody : filter (is_member f) (members s) ≡ [] =
    filter-append (is_member f) s.ready (map member_of s.waiting)
    ∙ ap (λ (ms : List Member). ms ++ filter (is_member f) (map member_of s.waiting)) (none_kept (is_member f) s.ready first.1)
    ∙ none_kept (is_member f) (map member_of s.waiting) (no_waiter f s.waiting parts.1) in
    ap (λ b. record (left s f) { used = cond b 0 s.used }) (no_head f s.ready first.1)
    ∙ schedule_is (filter (λ m. not (is_member f m)) s.ready) s.ready (filter (λ g. not (same_fork f g)) s.outside) s.outside (filter (λ w. not (is_waiter f w)) s.waiting) s.waiting
    (s.spare ++ map (λ m. m.seat) (filter (is_member f) (members s))) s.spare s.used
    (kept_all (is_member f) s.ready first.1) (kept_all (same_fork f) s.outside first.0) (kept_all (is_waiter f) s.waiting parts.1)
    (ap (λ (ms : List Member). s.spare ++ map (λ m. m.seat) ms) nobody ∙ append-nil s.spare)

pub stopped_none : (s : Schedule) (f : ForkName) → IsFilled s → stands f s ≡ false → stopped s f ≡ s
stopped_none s f full none = ap admitted (left_none s f none) ∙ admitted_none s full

pub started_none : (s : Schedule) (f : ForkName) → IsFilled s → stands f s ≡ true → started s f ≡ s
started_none s f full here = ap (λ b. admitted (cond b s (record s { outside = s.outside ++ f ∷ [] }))) here ∙ admitted_none s full

-- moves behind moves
pub moved_both : (xs ys : List Move) (s : Schedule) → moved (xs ++ ys) s ≡ moved ys (moved xs s)
moved_both [] ys s = refl
moved_both (Stops f ∷ xs) ys s = moved_both xs ys (stopped s f)
moved_both (Starts f ∷ xs) ys s = moved_both xs ys (started s f)

pub moved_filled : (ms : List Move) (s : Schedule) → IsFilled s → IsFilled (moved ms s)
moved_filled [] s full = full
moved_filled (Stops f ∷ ms) s full = moved_filled ms (stopped s f) (filled (left s f))
moved_filled (Starts f ∷ ms) s full = moved_filled ms (started s f) (filled (woken s f))
