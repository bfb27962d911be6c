-- Rows of units, and what they leave.
use Rattle.std.proofs.Common.{◌≡◌, ℕ, zero, suc, ◌+◌, ◌<◌, inl, inr, List, [], ◌∷◌, length, Bool, true, false, nat_le, if◌then◌else◌, refl, sym, ◌∙◌, ap, subst, arith}
use Rattle.machine_names.specs.declared.names.TheConstants.{QUANTUM}
use Rattle.machine_names.specs.declared.names.ForkName.{ForkName}
use Rattle.job_sched.specs.declared.member.Member.{Member}
use Rattle.job_sched.specs.declared.member.Waiter.{Waiter}
use Rattle.job_sched.specs.Schedules.{Schedule, quantum_ended}
use Rattle.job_sched.specs.Units.{IsTimed, unit_ran, row_ran}
use Rattle.job_sched.specs.Ties.{AreListed, IsFilled}
use Rattle.job_sched.proofs.Turns.{of, below_test}
use Rattle.job_sched.proofs.Ties.{turned_stands, turned_waiting}

-- what of a quantum was used is nothing to its end
turned_used : (m : Member) (ms : List Member) (os : List ForkName) (ws : List Waiter) (ks : List ℕ) (u v : ℕ)
    → quantum_ended (of (m ∷ ms) os ws ks u) ≡ quantum_ended (of (m ∷ ms) os ws ks v)
turned_used m ms [] ws ks u v = refl
turned_used m ms (o ∷ os) ws [] u v = refl
turned_used m ms (o ∷ os) ws (k ∷ ks) u v = refl

-- a unit that isn't the last of a quantum
pub one_low : (m : Member) (ms : List Member) (os : List ForkName) (ws : List Waiter) (ks : List ℕ) (u : ℕ) → u < 199
    → unit_ran (m ∷ ms) (of (m ∷ ms) os ws ks u) ≡ of (m ∷ ms) os ws ks (u + 1)
one_low m ms os ws ks u low = ap (λ (b : Bool). if b then quantum_ended (of (m ∷ ms) os ws ks u) else of (m ∷ ms) os ws ks (u + 1)) (below_test u low)

low_row : (m : Member) (ms : List Member) (os : List ForkName) (ws : List Waiter) (ks : List ℕ) (n u : ℕ) → u + n < 200
    → row_ran n (of (m ∷ ms) os ws ks u) ≡ of (m ∷ ms) os ws ks (u + n)
unfolding row_ran
low_row m ms os ws ks zero u small = let same : u ≡ u + 0 = omega arith in ap (λ (v : ℕ). of (m ∷ ms) os ws ks v) same
low_row m ms os ws ks (suc n) u small =
    let next : (u + 1) + n ≡ u + suc n = omega arith in
    ap (row_ran n) (one_low m ms os ws ks u (omega arith)) ∙ low_row m ms os ws ks n (u + 1) (omega arith) ∙ ap (λ (v : ℕ). of (m ∷ ms) os ws ks v) next

full_row : (m : Member) (ms : List Member) (os : List ForkName) (ws : List Waiter) (ks : List ℕ) (n u : ℕ) → u + suc n ≡ 200
    → row_ran (suc n) (of (m ∷ ms) os ws ks u) ≡ quantum_ended (of (m ∷ ms) os ws ks u)
unfolding row_ran
full_row m ms os ws ks zero u all =
    let last : u ≡ 199 = omega arith in
    ap (λ (b : Bool). if b then quantum_ended (of (m ∷ ms) os ws ks u) else of (m ∷ ms) os ws ks (u + 1)) (ap (λ (v : ℕ). nat_le 200 (v + 1)) last)
full_row m ms os ws ks (suc n) u all =
    ap (row_ran (suc n)) (one_low m ms os ws ks u (omega arith)) ∙ full_row m ms os ws ks n (u + 1) (omega arith) ∙ turned_used m ms os ws ks (u + 1) u

within_by : (ready : List Member) (os : List ForkName) (ws : List Waiter) (ks : List ℕ) (n u : ℕ) → 0 < length ready → u + n < 200
    → row_ran n (of ready os ws ks u) ≡ of ready os ws ks (u + n)
within_by [] os ws ks n u some small = absurd (omega arith)
within_by (m ∷ ms) os ws ks n u some small = low_row m ms os ws ks n u small

-- units of the head with which its quantum isn't used yet
pub row_within : (n : ℕ) (s : Schedule) → 0 < length s.ready → s.used + n < QUANTUM → row_ran n s ≡ record s { used = s.used + n }
row_within n s some small = within_by s.ready s.outside s.waiting s.spare n s.used some small

end_by : (ready : List Member) (os : List ForkName) (ws : List Waiter) (ks : List ℕ) (n u : ℕ) → 0 < length ready → u < 200 → u + n ≡ 200
    → row_ran n (of ready os ws ks u) ≡ quantum_ended (of ready os ws ks u)
end_by [] os ws ks n u some timed all = absurd (omega arith)
end_by (m ∷ ms) os ws ks zero u some timed all = absurd (omega arith)
end_by (m ∷ ms) os ws ks (suc n) u some timed all = full_row m ms os ws ks n u all

-- units of the head with which its quantum is used
pub row_to_end : (n : ℕ) (s : Schedule) → 0 < length s.ready → IsTimed s → s.used + n ≡ QUANTUM → row_ran n s ≡ quantum_ended s
row_to_end n s some timed all = end_by s.ready s.outside s.waiting s.spare n s.used some timed all

-- two rows are one
pub rows_join : (n m : ℕ) (s : Schedule) → row_ran m (row_ran n s) ≡ row_ran (n + m) s
unfolding row_ran
rows_join zero m s = let same : m ≡ 0 + m = omega arith in ap (λ (k : ℕ). row_ran k s) same
rows_join (suc n) m s = let same : suc (n + m) ≡ suc n + m = omega arith in rows_join n m (unit_ran s.ready s) ∙ ap (λ (k : ℕ). row_ran k s) same

-- what holds behind units, where it holds behind each quantum's end and whatever of a quantum is used
kept_by : (P : Schedule → Type 0) → ((s : Schedule) (u : ℕ) → P s → P (record s { used = u }))
    → ((m : Member) (ms : List Member) (os : List ForkName) (ws : List Waiter) (ks : List ℕ) (u : ℕ) → P (of (m ∷ ms) os ws ks u) → P (quantum_ended (of (m ∷ ms) os ws ks u)))
    → (ready : List Member) (os : List ForkName) (ws : List Waiter) (ks : List ℕ) (u : ℕ) (b : Bool) → P (of ready os ws ks u)
    → nat_le QUANTUM (u + 1) ≡ b → P (unit_ran ready (of ready os ws ks u))
kept_by P uses ends [] os ws ks u b holds test = holds
kept_by P uses ends (m ∷ ms) os ws ks u true holds test =
    subst P (sym (ap (λ (b : Bool). if b then quantum_ended (of (m ∷ ms) os ws ks u) else of (m ∷ ms) os ws ks (u + 1)) test)) (ends m ms os ws ks u holds)
kept_by P uses ends (m ∷ ms) os ws ks u false holds test =
    subst P (sym (ap (λ (b : Bool). if b then quantum_ended (of (m ∷ ms) os ws ks u) else of (m ∷ ms) os ws ks (u + 1)) test)) (uses (of (m ∷ ms) os ws ks u) (u + 1) holds)

pub rows_keep : (P : Schedule → Type 0) → ((s : Schedule) (u : ℕ) → P s → P (record s { used = u }))
    → ((m : Member) (ms : List Member) (os : List ForkName) (ws : List Waiter) (ks : List ℕ) (u : ℕ) → P (of (m ∷ ms) os ws ks u) → P (quantum_ended (of (m ∷ ms) os ws ks u)))
    → (n : ℕ) (s : Schedule) → P s → P (row_ran n s)
unfolding row_ran
rows_keep P uses ends zero s holds = holds
rows_keep P uses ends (suc n) s holds =
    rows_keep P uses ends n (unit_ran s.ready s) (kept_by P uses ends s.ready s.outside s.waiting s.spare s.used (nat_le QUANTUM (s.used + 1)) holds refl)

pub rows_listed : (runs : ForkName → Bool) (s : Schedule) (n : ℕ) → AreListed runs s → AreListed runs (row_ran n s)
rows_listed runs s n listed =
    rows_keep (AreListed runs) (λ s u listed. record { each = listed.each })
    (λ m ms os ws ks u listed. record { each = λ f. turned_stands f m ms os ws ks u ∙ listed.each f }) n s listed

filled_turned : (m : Member) (ms : List Member) (os : List ForkName) (ws : List Waiter) (ks : List ℕ) (u : ℕ)
    → IsFilled (of (m ∷ ms) os ws ks u) → IsFilled (quantum_ended (of (m ∷ ms) os ws ks u))
filled_turned m ms [] ws ks u filled = inl refl
filled_turned m ms (o ∷ os) ws [] u filled = inr refl
filled_turned m ms (o ∷ os) ws (k ∷ ks) u (inl none) = absurd cc
filled_turned m ms (o ∷ os) ws (k ∷ ks) u (inr none) = absurd cc

pub rows_filled : (s : Schedule) (n : ℕ) → IsFilled s → IsFilled (row_ran n s)
rows_filled s n filled = rows_keep IsFilled (λ s u filled. filled) filled_turned n s filled

-- nobody enters page wait by a unit
pub rows_waiting : (n : ℕ) (s : Schedule) → (row_ran n s).waiting ≡ s.waiting
rows_waiting n s = rows_keep (λ (v : Schedule). v.waiting ≡ s.waiting) (λ v u same. same) (λ m ms os ws ks u same. turned_waiting m ms os ws ks u ∙ same) n s refl
