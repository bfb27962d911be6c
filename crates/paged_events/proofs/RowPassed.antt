-- A row of units of the head brings all others closer.
use Rattle.std.proofs.Common.{◌≡◌, ◌≢◌, ℕ, zero, suc, ◌+◌, ◌-◌, ◌<◌, ◌≤◌, List, [], ◌∷◌, length, replicate, refl, sym, ◌∙◌, ap, subst, inl, inr, arith, true, false, Bool}
use Rattle.std.proofs.lemmas.Bool.{cases_Bool, cond_both}
use Rattle.machine_names.specs.declared.names.ForkName.{ForkName}
use Rattle.machine_names.specs.Orders.{same_fork}
use Rattle.script_texts.specs.declared.event.Step.{Step}
use Rattle.script_texts.specs.declared.event.Step.TheVariants.{Unit as AUnit, Idle}
use Rattle.plain_model.specs.declared.bounds.TheConstants.{MOST_PASSED}
use Rattle.plain_model.specs.Forks.{ForkMap, IsRunnable, runs_in}
use Rattle.plain_model.specs.Run.{apply, state_after}
use Rattle.plain_model.specs.State.{PlainState}
use Rattle.plain_model.proofs.ForkMaps.{cases_name, names_same}
use Rattle.job_sched.specs.declared.member.Member.{Member}
use Rattle.job_sched.specs.Lines.{Nears, ahead_of, is_in_line}
use Rattle.job_sched.specs.Schedules.{Schedule, heads}
use Rattle.job_sched.specs.Units.{IsRow, IsTimed, row_ran}
use Rattle.job_sched.proofs.Alone.{fewer, one_head, one_row, runs_on}
use Rattle.job_sched.proofs.Lines.{due, joins, rows}
use Rattle.job_sched.proofs.Units.{row_within, rows_join}
use Rattle.fork_lists.specs.Following.{last_counted}
use Rattle.fork_lists.specs.Ties.{ComesOn}
use Rattle.fork_lists.proofs.Nearing.{headed, heads_as}
use Rattle.paged_events.specs.PassedOver.{AreNear, ComeCloser}

-- before the last unit of a row its head has units left
row_timed : (n k : ℕ) (c : Schedule) → IsTimed c → IsRow n c → k < n → IsTimed (row_ran k c)
row_timed n k c timed is small = elim is.within [
  | inl alone ↦ subst IsTimed (sym (runs_on k c timed alone)) (omega arith)
  | inr within ↦ subst IsTimed (sym (row_within k c is.head (omega (arith, small, within)))) (omega (arith, small, within))
]

-- one fork alone is the head
pub head_alone : (f g : ForkName) (ms : List Member) → heads g ms ≡ true → f ≢ g → heads f ms ≡ false
head_alone f g [] head apart = absurd (cc head)
head_alone f g (m ∷ ms) head apart = elim (cases_Bool (same_fork f m.fork)) [
  | inl same ↦ absurd (apart (names_same f m.fork same ∙ sym (names_same g m.fork head)))
  | inr none ↦ none
]

-- a row of units of the head: who can run and is passed over by all but its last stands in line behind each of them
module _ (c : Schedule) (who : ForkName) (n : ℕ) (timed : IsTimed c) (head : heads who c.ready ≡ true) (row : IsRow n c) where
  pub head_at : (k : ℕ) → k < n → heads who (row_ran k c).ready ≡ true
  head_at k small = heads_as who c.ready (row_ran k c).ready (one_head n k c timed row small) ∙ head

  away_at : (f : ForkName) → f ≢ who → (k : ℕ) → k < n → heads f (row_ran k c).ready ≡ false
  away_at f apart k small = head_alone f who (row_ran k c).ready (head_at k small) apart

  pub nears_at : (f : ForkName) → f ≢ who → is_in_line f c ≡ true → (k : ℕ) → k < n → Nears f c (row_ran k c) k
  nears_at f apart here k small = rows f c k timed here (head_alone f who c.ready head apart) (fewer k n c row (omega (arith, small)))

  waits_at : (f : ForkName) → f ≢ who → (k : ℕ) → k < n → 0 < ahead_of f (row_ran k c)
  waits_at f apart k small = by (ahead_of f (row_ran k c)) refl
    where
      some : 0 < length (row_ran k c).ready
      some = headed who (row_ran k c).ready (head_at k small)

      by : (a : ℕ) → ahead_of f (row_ran k c) ≡ a → 0 < a
      by zero none = absurd (let no : false ≡ true = sym (away_at f apart k small) ∙ (due f (row_ran k c) (row_timed n k c timed row small) some).0 none in cc no)
      by (suc a) is = omega arith

  closer_at : (f : ForkName) → f ≢ who → is_in_line f c ≡ true → (k : ℕ) → k + 1 < n → ahead_of f (row_ran (k + 1) c) < ahead_of f (row_ran k c)
  closer_at f apart here k small =
      let low : k < n = omega (arith, small) in
      let now = nears_at f apart here k low in
      let some = headed who (row_ran k c).ready (head_at k low) in
      let one = rows f (row_ran k c) 1 now.timed now.here (away_at f apart k low) (one_row (row_ran k c) now.timed some) in
      let next = subst (λ (s : Schedule). Nears f (row_ran k c) s 1) (rows_join k 1 c) one in
      omega (arith, next.nearer)

  near_at : (f : ForkName) → is_in_line f c ≡ true → ahead_of f c < MOST_PASSED → (k : ℕ) → k < n → ahead_of f (row_ran k c) < MOST_PASSED
  near_at f here near k small = elim (cases_name f who) [
    | inl same ↦
        let some = headed who (row_ran k c).ready (head_at k small) in
        let none = (due f (row_ran k c) (row_timed n k c timed row small) some).1 (ap (λ (x : ForkName). heads x (row_ran k c).ready) same ∙ head_at k small) in
        omega (arith, none)
    | inr apart ↦ omega (arith, (nears_at f apart here k small).nearer, near)
  ]

  -- so over the entries of the row, where the last of them brings all others closer than those before it have
  module _ (runs : ForkName → Bool) (here : (f : ForkName) → runs f ≡ true → is_in_line f c ≡ true) (near : (f : ForkName) → runs f ≡ true → ahead_of f c < MOST_PASSED) (c' : Schedule) where
    abbrev pub unit : Step
    unit = AUnit who

    apart_of : (f : ForkName) → unit ≢ AUnit f → f ≢ who
    apart_of f other same = other (ap AUnit (sym same))

    near_forks : (k : ℕ) → k < n → (forks : ForkMap) → ((g : ForkName) → runs_in forks g ≡ runs g) → AreNear forks (row_ran k c)
    near_forks k small forks same f can = let was : runs f ≡ true = sym (same f) ∙ can in near_at f (here f was) (near f was) k small

    pub row_closer : (k j : ℕ) (s : PlainState) → k + suc j ≡ n → ((i : ℕ) → i ≤ j → (g : ForkName) → runs_in (state_after s (replicate i unit)).forks g ≡ runs g)
        → AreNear (state_after s (replicate (suc j) unit)).forks c'
        → ((f : ForkName) → f ≢ who → runs f ≡ true → IsRunnable (state_after s (replicate (suc j) unit)).forks f → Nears f (row_ran (n - 1) c) c' 1)
        → ComeCloser (row_ran k c) s (replicate (suc j) unit) c'
    row_closer k zero s is same end last =
        let small : k < n = omega (arith, is) in
        let at : n - 1 ≡ k = omega (arith, is) in (
          near_forks k small s.forks (same 0 (omega arith)),
          c',
          record {
            waits = λ f can other. waits_at f (apart_of f other) k small;
            closer = λ f can other still.
                let was : runs f ≡ true = sym (same 0 (omega arith) f) ∙ can in
                let one = subst (λ (i : ℕ). Nears f (row_ran i c) c' 1) at (last f (apart_of f other) was still) in
                omega (arith, one.nearer);
          },
          (end, refl),
        )
    row_closer k (suc j) s is same end last =
        let small : k + 1 < n = omega (arith, is) in
        let low : k < n = omega (arith, small) in (
          near_forks k low s.forks (same 0 (omega arith)),
          row_ran (k + 1) c,
          record {
            waits = λ f can other. waits_at f (apart_of f other) k low;
            closer = λ f can other still. closer_at f (apart_of f other) (here f (sym (same 0 (omega arith) f) ∙ can)) k small;
          },
          row_closer (k + 1) j (apply s unit).state (omega (arith, is)) (λ i less. same (suc i) (omega (arith, less))) end last,
        )

    pub row_passed : 1 ≤ n → (s : PlainState) → ((i : ℕ) → i < n → (g : ForkName) → runs_in (state_after s (replicate i unit)).forks g ≡ runs g)
        → AreNear (state_after s (replicate n unit)).forks c'
        → ((f : ForkName) → f ≢ who → runs f ≡ true → IsRunnable (state_after s (replicate n unit)).forks f → Nears f (row_ran (n - 1) c) c' 1)
        → ComeCloser c s (replicate n unit) c'
    unfolding row_ran
    row_passed some s same end last =
        let all : suc (n - 1) ≡ n = omega (arith, some) in
        subst (λ (k : ℕ). ComeCloser c s (replicate k unit) c') all (row_closer 0 (n - 1) s (omega (arith, some)) (λ i less. same i (omega (arith, less, some)))
        (subst (λ (k : ℕ). AreNear (state_after s (replicate k unit)).forks c') (sym all) end)
        (λ f apart was still. last f apart was (subst (λ (k : ℕ). IsRunnable (state_after s (replicate k unit)).forks f) all still)))

-- idle entries pass nobody over
pub idle_passed : (c : Schedule) (runs : ForkName → Bool) → ((f : ForkName) → runs f ≡ true → ⊥) → (n : ℕ) (s : PlainState)
    → ((i : ℕ) → i < n → (g : ForkName) → runs_in (state_after s (replicate i Idle)).forks g ≡ runs g) → AreNear (state_after s (replicate n Idle)).forks c
    → ComeCloser c s (replicate n Idle) c
idle_passed c runs none zero s same end = (end, refl)
idle_passed c runs none (suc n) s same end =
    let nobody : (f : ForkName) → IsRunnable s.forks f → ⊥ = λ f can. none f (sym (same 0 (omega arith) f) ∙ can) in (
      λ f can. absurd (nobody f can),
      c,
      record { waits = λ f can other. absurd (nobody f can); closer = λ f can other still. absurd (nobody f can) },
      idle_passed c runs none n (apply s Idle).state (λ i less. same (suc i) (omega (arith, less))) end,
    )

-- the last unit of a row is counted where the head still stands, and else the head is gone
module _ (f who : ForkName) (m u : Schedule) (on : ComesOn f m u) (apart : f ≢ who) where
  pub head_counts : heads who m.ready ≡ true → Nears f m (last_counted who u) 1
  head_counts was =
      cond_both (heads who u.ready) (row_ran 1 u) u (λ (s : Schedule). Nears f m s 1)
      (λ head.
      joins f m u (row_ran 1 u) 0 1 on.nears
      (rows f u 1 on.nears.timed on.nears.here (head_alone f who u.ready head apart) (one_row u on.nears.timed (headed who u.ready head))))
      (λ gone. on.gives who was gone)

-- behind all units of a row but the last, whoever is followed
pub comes_behind : (f who : ForkName) (c : Schedule) (n : ℕ) (m u : Schedule) → IsTimed c → heads who c.ready ≡ true → IsRow n c → 1 ≤ n → m ≡ row_ran (n - 1) c → f ≢ who → is_in_line f c ≡ true
    → (is_in_line f m ≡ true → ComesOn f m u) → ComesOn f (row_ran (n - 1) c) u
comes_behind f who c n m u timed head row some is apart here on =
    let near = nears_at c who n timed head row f apart here (n - 1) (omega (arith, some)) in
    subst (λ (s : Schedule). ComesOn f s u) is (on (subst (λ (s : Schedule). is_in_line f s ≡ true) (sym is) near.here))
