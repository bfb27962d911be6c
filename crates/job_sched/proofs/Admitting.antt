-- One fork admitted after another.
use Rattle.std.proofs.Common.{◌≡◌, ℕ, zero, suc, ◌+◌, ◌<◌, ◌⊎◌, inl, inr, List, [], ◌∷◌, ◌++◌, length, drop, refl, sym, ◌∙◌, ap, arith}
use Rattle.std.proofs.lemmas.List.{append_assoc, append-nil}
use Rattle.machine_names.specs.declared.names.ForkName.{ForkName}
use Rattle.job_sched.specs.declared.member.Member.{Member}
use Rattle.job_sched.specs.declared.member.Waiter.{Waiter}
use Rattle.job_sched.specs.Schedules.{Schedule, admitted, first_seated, one_admitted, seated}
use Rattle.job_sched.proofs.Kept.{schedule_is, whole}

drop_none : {A : Type 0} (n : ℕ) → drop {A = A} n [] ≡ []
drop_none zero = refl
drop_none (suc n) = refl

seated_none : (os : List ForkName) → seated os [] ≡ []
seated_none [] = refl
seated_none (o ∷ os) = refl

first_of_all : (ready : List Member) (os : List ForkName) (ws : List Waiter) (ks : List ℕ) (u : ℕ)
    → admitted (first_seated os ks (whole ready os ws ks u)) ≡ admitted (whole ready os ws ks u)
first_of_all ready [] ws ks u = refl
first_of_all ready (o ∷ os) ws [] u = refl
first_of_all ready (o ∷ os) ws (k ∷ ks) u =
    ap (λ (ms : List Member). whole ms (drop (length ks) os) ws (drop (length os) ks) u) (append_assoc ready (record { fork = o; seat = k } ∷ []) (seated os ks))

pub admitted_one : (s : Schedule) → admitted (one_admitted s) ≡ admitted s
admitted_one s = first_of_all s.ready s.outside s.waiting s.spare s.used

pub admitted_none : (s : Schedule) → ((s.outside ≡ []) ⊎ (s.spare ≡ [])) → admitted s ≡ s
admitted_none s (inl none) =
    schedule_is (s.ready ++ seated s.outside s.spare) s.ready (drop (length s.spare) s.outside) s.outside s.waiting s.waiting (drop (length s.outside) s.spare) s.spare s.used
    (ap (λ (os : List ForkName). s.ready ++ seated os s.spare) none ∙ append-nil s.ready)
    (ap (drop (length s.spare)) none ∙ drop_none (length s.spare) ∙ sym none) refl
    (ap (λ (os : List ForkName). drop (length os) s.spare) none)
admitted_none s (inr none) =
    schedule_is (s.ready ++ seated s.outside s.spare) s.ready (drop (length s.spare) s.outside) s.outside s.waiting s.waiting (drop (length s.outside) s.spare) s.spare s.used
    (ap (λ (ks : List ℕ). s.ready ++ seated s.outside ks) none ∙ ap (λ (ms : List Member). s.ready ++ ms) (seated_none s.outside) ∙ append-nil s.ready)
    (ap (λ (ks : List ℕ). drop (length ks) s.outside) none) refl
    (ap (drop (length s.outside)) none ∙ drop_none (length s.outside) ∙ sym none)

shorter : (ready : List Member) (os : List ForkName) (ws : List Waiter) (ks : List ℕ) (u : ℕ) → 0 < length os → 0 < length ks
    → length (first_seated os ks (whole ready os ws ks u)).outside + 1 ≡ length os
shorter ready [] ws ks u some room = absurd (omega arith)
shorter ready (o ∷ os) ws [] u some room = absurd (omega arith)
shorter ready (o ∷ os) ws (k ∷ ks) u some room = omega arith

pub one_shorter : (s : Schedule) → 0 < length s.outside → 0 < length s.spare → length (one_admitted s).outside + 1 ≡ length s.outside
one_shorter s some room = shorter s.ready s.outside s.waiting s.spare s.used some room
