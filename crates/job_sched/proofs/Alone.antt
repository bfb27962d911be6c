-- A fork that is alone, and who is the head in a row.
use Rattle.std.proofs.Common.{◌≡◌, ℕ, zero, suc, ◌+◌, ◌%◌, ◌<◌, ◌≤◌, inl, inr, List, [], ◌∷◌, length, slice_get, Bool, if◌then◌else◌, sym, ◌∙◌, ap, subst, arith}
use Rattle.std.proofs.lemmas.Bool.{cases_eq}
use Rattle.machine_names.specs.declared.names.TheConstants.{QUANTUM}
use Rattle.machine_names.specs.declared.names.ForkName.{ForkName}
use Rattle.job_sched.specs.declared.member.Member.{Member}
use Rattle.job_sched.specs.declared.member.Waiter.{Waiter}
use Rattle.job_sched.specs.Schedules.{Schedule, quantum_ended}
use Rattle.job_sched.specs.Units.{IsAlone, IsRow, IsTimed, unit_ran, row_ran}
use Rattle.job_sched.proofs.Turns.{of, below_test}
use Rattle.job_sched.proofs.Units.{row_within}

-- one unit of it
one_unit : (m : Member) (ws : List Waiter) (ks : List ℕ) (u : ℕ) → u < 200
    → unit_ran (m ∷ []) (of (m ∷ []) [] ws ks u) ≡ of (m ∷ []) [] ws ks ((u + 1) % 200)
one_unit m ws ks u small = elim (cases_eq u 199) [
  | inl last ↦
      ap (λ (v : ℕ). unit_ran (m ∷ []) (of (m ∷ []) [] ws ks v)) last ∙ sym (ap (λ (v : ℕ). of (m ∷ []) [] ws ks ((v + 1) % 200)) last)
  | inr more ↦
      let low : u < 199 = omega arith in
      let rest : (u + 1) % 200 ≡ u + 1 = omega arith in
      ap (λ (b : Bool). if b then quantum_ended (of (m ∷ []) [] ws ks u) else of (m ∷ []) [] ws ks (u + 1)) (below_test u low)
      ∙ ap (λ (v : ℕ). of (m ∷ []) [] ws ks v) (sym rest)
]

more_units : (m : Member) (ws : List Waiter) (ks : List ℕ) (n u : ℕ) → u < 200
    → row_ran n (of (m ∷ []) [] ws ks u) ≡ of (m ∷ []) [] ws ks ((u + n) % 200)
unfolding row_ran
more_units m ws ks zero u small = let same : u ≡ (u + 0) % 200 = omega arith in ap (λ (v : ℕ). of (m ∷ []) [] ws ks v) same
more_units m ws ks (suc n) u small =
    let next : (u + 1) % 200 < 200 = omega arith in
    let all : ((u + 1) % 200 + n) % 200 ≡ (u + suc n) % 200 = omega arith in
    ap (row_ran n) (one_unit m ws ks u small) ∙ more_units m ws ks n ((u + 1) % 200) next ∙ ap (λ (v : ℕ). of (m ∷ []) [] ws ks v) all

by_lists : (ready : List Member) (os : List ForkName) (ws : List Waiter) (ks : List ℕ) (n u : ℕ) → u < 200 → length ready ≡ 1 → os ≡ []
    → row_ran n (of ready os ws ks u) ≡ of ready os ws ks ((u + n) % 200)
by_lists [] os ws ks n u small one none = absurd (omega arith)
by_lists (m ∷ []) os ws ks n u small one none =
    subst (λ (os : List ForkName). row_ran n (of (m ∷ []) os ws ks u) ≡ of (m ∷ []) os ws ks ((u + n) % 200)) (sym none) (more_units m ws ks n u small)
by_lists (m ∷ k ∷ ms) os ws ks n u small one none = absurd (omega arith)

pub runs_on : (n : ℕ) (s : Schedule) → IsTimed s → IsAlone s → row_ran n s ≡ record s { used = (s.used + n) % QUANTUM }
runs_on n s timed alone = by_lists s.ready s.outside s.waiting s.spare n s.used timed alone.0 alone.1

-- the units of a row are all of the head
pub one_head : (n k : ℕ) (s : Schedule) → IsTimed s → IsRow n s → k < n → slice_get (row_ran k s).ready 0 ≡ slice_get s.ready 0
one_head n k s timed is small = elim is.within [
  | inl alone ↦ ap (λ (t : Schedule). slice_get t.ready 0) (runs_on k s timed alone)
  | inr within ↦ ap (λ (t : Schedule). slice_get t.ready 0) (row_within k s is.head (omega arith))
]

pub one_row : (s : Schedule) → IsTimed s → 0 < length s.ready → IsRow 1 s
one_row s timed some = record { head = some; within = inr (omega arith) }

pub fewer : (n m : ℕ) (s : Schedule) → IsRow m s → n ≤ m → IsRow n s
fewer n m s is less = record {
  head = is.head;
  within = elim is.within [
    | inl alone ↦ inl alone
    | inr within ↦ inr (omega arith)
  ];
}
