-- Waiting members looked at one after another.
use Rattle.std.proofs.Common.{◌≡◌, ℕ, zero, suc, ◌<◌, ◌⊎◌, inl, inr, List, [], ◌∷◌, ◌++◌, length, map, filter, take, drop, Bool, true, false, not, cond, if◌then◌else◌, refl, sym, ◌∙◌, ap, arith}
use Rattle.std.proofs.lemmas.List.{append_assoc, append-nil, map-append}
use Rattle.std.proofs.lemmas.List.Elements.{filter-append}
use Rattle.page_contracts.specs.declared.answers.Need.{Need}
use Rattle.job_sched.specs.declared.member.Member.{Member}
use Rattle.job_sched.specs.declared.member.Waiter.{Waiter}
use Rattle.job_sched.specs.Schedules.{Schedule, member_of, ends_wait, looked_at, arrived}
use Rattle.job_sched.proofs.Kept.{schedule_is, whole}

-- once some were looked at, and the others not
abbrev pub between : Schedule → Need → List Waiter → List Waiter → Schedule
between s done front back = record s {
  ready = s.ready ++ map member_of (filter (λ w. ends_wait done w.need) front);
  waiting = back ++ filter (λ w. not (ends_wait done w.need)) front;
}

-- once so many were looked at
abbrev pub halfway : Schedule → Need → ℕ → Schedule
halfway s done i = between s done (take i s.waiting) (drop i s.waiting)

record Split (ws : List Waiter) (i : ℕ) : Type 0 where
  w : Waiter
  rest : drop i ws ≡ w ∷ drop (suc i) ws
  more : take (suc i) ws ≡ take i ws ++ w ∷ []

split : (ws : List Waiter) (i : ℕ) → i < length ws → Split ws i
split [] i small = absurd (omega arith)
split (w ∷ ws) zero small = record { w = w; rest = refl; more = refl }
split (w ∷ ws) (suc i) small =
    let further = split ws i (omega arith) in
    record { w = further.w; rest = further.rest; more = ap (λ (vs : List Waiter). w ∷ vs) further.more }

bool_cases : (b : Bool) → (b ≡ true) ⊎ (b ≡ false)
bool_cases true = inl refl
bool_cases false = inr refl

looked_between : (s : Schedule) (done : Need) (front back : List Waiter) (w : Waiter)
    → looked_at ((w ∷ back) ++ filter (λ w. not (ends_wait done w.need)) front) done (between s done front (w ∷ back)) ≡ between s done (front ++ w ∷ []) back
looked_between s done front back w =
    let woken = filter (λ (v : Waiter). ends_wait done v.need) front in
    let kept = filter (λ (v : Waiter). not (ends_wait done v.need)) front in
    elim (bool_cases (ends_wait done w.need)) [
      | inl ends ↦
          ap (λ (b : Bool). if b then whole ((s.ready ++ map member_of woken) ++ member_of w ∷ []) s.outside (back ++ kept) s.spare s.used else whole (s.ready ++ map member_of woken) s.outside ((back ++ kept) ++ w ∷ []) s.spare s.used) ends
          ∙ schedule_is ((s.ready ++ map member_of woken) ++ member_of w ∷ []) (s.ready ++ map member_of (filter (λ v. ends_wait done v.need) (front ++ w ∷ []))) s.outside s.outside
          (back ++ kept) (back ++ filter (λ v. not (ends_wait done v.need)) (front ++ w ∷ [])) s.spare s.spare s.used
          (append_assoc s.ready (map member_of woken) (member_of w ∷ [])
          ∙ ap (λ (ms : List Member). s.ready ++ ms) (sym (map-append member_of woken (w ∷ [])))
          ∙ ap (λ (vs : List Waiter). s.ready ++ map member_of vs) (sym (filter-append (λ v. ends_wait done v.need) front (w ∷ []) ∙ ap (λ (b : Bool). woken ++ cond b (w ∷ []) []) ends)))
          refl
          (ap (λ (vs : List Waiter). back ++ vs) (sym (filter-append (λ v. not (ends_wait done v.need)) front (w ∷ []) ∙ ap (λ (b : Bool). kept ++ cond (not b) (w ∷ []) []) ends ∙ append-nil kept)))
          refl
      | inr waits ↦
          ap (λ (b : Bool). if b then whole ((s.ready ++ map member_of woken) ++ member_of w ∷ []) s.outside (back ++ kept) s.spare s.used else whole (s.ready ++ map member_of woken) s.outside ((back ++ kept) ++ w ∷ []) s.spare s.used) waits
          ∙ schedule_is (s.ready ++ map member_of woken) (s.ready ++ map member_of (filter (λ v. ends_wait done v.need) (front ++ w ∷ []))) s.outside s.outside
          ((back ++ kept) ++ w ∷ []) (back ++ filter (λ v. not (ends_wait done v.need)) (front ++ w ∷ [])) s.spare s.spare s.used
          (ap (λ (vs : List Waiter). s.ready ++ map member_of vs) (sym (filter-append (λ v. ends_wait done v.need) front (w ∷ []) ∙ ap (λ (b : Bool). woken ++ cond b (w ∷ []) []) waits ∙ append-nil woken)))
          refl
          (append_assoc back kept (w ∷ [])
          ∙ ap (λ (vs : List Waiter). back ++ vs) (sym (filter-append (λ v. not (ends_wait done v.need)) front (w ∷ []) ∙ ap (λ (b : Bool). kept ++ cond (not b) (w ∷ []) []) waits)))
          refl
    ]

pub looked_more : (s : Schedule) (done : Need) (i : ℕ) → i < length s.waiting
    → looked_at (halfway s done i).waiting done (halfway s done i) ≡ halfway s done (suc i)
looked_more s done i small =
    let at = split s.waiting i small in
    ap (λ (vs : List Waiter). looked_at (between s done (take i s.waiting) vs).waiting done (between s done (take i s.waiting) vs)) at.rest
    ∙ looked_between s done (take i s.waiting) (drop (suc i) s.waiting) at.w
    ∙ ap (λ (vs : List Waiter). between s done vs (drop (suc i) s.waiting)) (sym at.more)

pub looked_none : (s : Schedule) (done : Need) → s ≡ halfway s done 0
looked_none s done =
    sym (schedule_is (s.ready ++ []) s.ready s.outside s.outside (s.waiting ++ []) s.waiting s.spare s.spare s.used (append-nil s.ready) refl (append-nil s.waiting) refl)

take_all : (ws : List Waiter) → take (length ws) ws ≡ ws
take_all [] = refl
take_all (w ∷ ws) = ap (λ (vs : List Waiter). w ∷ vs) (take_all ws)

drop_all : (ws : List Waiter) → drop (length ws) ws ≡ []
drop_all [] = refl
drop_all (w ∷ ws) = drop_all ws

pub looked_all : (s : Schedule) (done : Need) → halfway s done (length s.waiting) ≡ arrived s done
looked_all s done =
    ap (λ (vs : List Waiter). between s done vs (drop (length s.waiting) s.waiting)) (take_all s.waiting)
    ∙ ap (λ (vs : List Waiter). between s done s.waiting vs) (drop_all s.waiting)
