-- Entries take their turns: rows of units, idle entries, and events, one behind another.
use Rattle.std.proofs.Common.{◌≡◌, ℕ, zero, suc, ◌+◌, ◌-◌, ◌<◌, ◌≤◌, List, [], ◌∷◌, ◌++◌, Bool, true, cond, inl, inr, replicate, refl, sym, ◌∙◌, ap, subst, arith}
use Rattle.event_deeds.specs.Deeds.{IsAtOnce}
use Rattle.fork_lists.specs.Following.{last_counted}
use Rattle.job_sched.specs.declared.member.Member.{Member}
use Rattle.job_sched.specs.Schedules.{Schedule, arrived, heads, put_to_wait, waited}
use Rattle.job_sched.specs.Units.{IsRow, IsTimed, row_ran}
use Rattle.job_sched.proofs.Alone.{runs_on}
use Rattle.job_sched.proofs.Ties.{arrived_listed, waits_filled, waits_listed}
use Rattle.job_sched.proofs.Units.{row_within, rows_filled, rows_join, rows_listed}
use Rattle.job_sched.proofs.Waits.{size_arrived, size_ran, size_waited}
use Rattle.paged_events.proofs.RowPassed.{head_at}
use Rattle.machine_names.specs.declared.names.ForkName.{ForkName}
use Rattle.page_contracts.specs.declared.answers.Need.{Need}
use Rattle.page_waits.proofs.Silence.{silent_nil, silent_then}
use Rattle.page_waits.specs.Systems.{row_of}
use Rattle.page_waits.specs.Told.{LastCounted, MovesSilently, TookDeed, TookRow, all_arrived}
use Rattle.plain_model.specs.Forks.{ForkMap, runs_in}
use Rattle.plain_model.specs.Moves.{moves}
use Rattle.plain_model.specs.Run.{apply, state_after}
use Rattle.plain_model.specs.State.{PlainState}
use Rattle.plain_model.specs.Unit.{Effect}
use Rattle.plain_model.proofs.Equations.{apply_idle}
use Rattle.script_texts.specs.declared.event.Event.{Event}
use Rattle.script_texts.specs.declared.event.Event.TheVariants as event
use Rattle.script_texts.specs.declared.event.Step.{Step}
use Rattle.script_texts.specs.declared.event.Step.TheVariants.{Outer, Unit as AUnit, Idle}
use Rattle.turn_forms.specs.Turns.{AreReady, Arrives, Silent, Waits, moved, moved_silently}
use Rattle.paged_events.specs.Turns.{TakesTurnsOver, TookEvent}
use Rattle.paged_events.proofs.NoMoves.{no_moves}

-- ---- lists that have the forks that can run

waits_timed : (c : Schedule) (need : Need) → IsTimed c → IsTimed (waited c need)
waits_timed c need timed = by c.ready
  where
    by : (ms : List Member) → IsTimed (put_to_wait ms need c)
    by [] = timed
    by (m ∷ ms) = omega arith

silent_ready : (forks : ForkMap) (quiet : List Silent) (c : Schedule) → AreReady forks c → AreReady forks (moved_silently quiet c)
silent_ready forks [] c ready = ready
silent_ready forks (Waits need ∷ quiet) c ready = silent_ready forks quiet (waited c need) (record {
  listed = waits_listed (runs_in forks) c need ready.listed;
  filled = waits_filled c need ready.filled;
  timed = waits_timed c need ready.timed;
  some = subst (λ n. 1 ≤ n) (sym (size_waited c need)) ready.some;
})
silent_ready forks (Arrives done ∷ quiet) c ready = silent_ready forks quiet (arrived c done) (record {
  listed = arrived_listed (runs_in forks) c done ready.listed;
  filled = ready.filled;
  timed = ready.timed;
  some = subst (λ n. 1 ≤ n) (sym (size_arrived c done)) ready.some;
})

-- they have them behind what happens silently
ready_behind : (forks : ForkMap) (c d : Schedule) → MovesSilently c d → AreReady forks c → AreReady forks d
ready_behind forks c d silent ready = subst (AreReady forks) (sym silent.are) (silent_ready forks silent.silent c ready)

-- and among other forks of which the same can run
ready_same : (forks others : ForkMap) (c : Schedule) → ((g : ForkName) → runs_in others g ≡ runs_in forks g) → AreReady forks c → AreReady others c
ready_same forks others c same ready = record { listed = record { each = λ f. ready.listed.each f ∙ sym (same f) }; filled = ready.filled; timed = ready.timed; some = ready.some }

-- before the last unit of a row its head has units left
timed_at : (n k : ℕ) (c : Schedule) → IsTimed c → IsRow n c → k < n → IsTimed (row_ran k c)
timed_at n k c timed row small = elim row.within [
  | inl alone ↦ subst IsTimed (sym (runs_on k c timed alone)) (omega arith)
  | inr within ↦ subst IsTimed (sym (row_within k c row.head (omega (arith, small, within)))) (omega (arith, small, within))
]

row_ready : (forks : ForkMap) (n k : ℕ) (c : Schedule) → AreReady forks c → IsRow n c → k < n → AreReady forks (row_ran k c)
row_ready forks n k c ready row small = record {
  listed = rows_listed (runs_in forks) c k ready.listed;
  filled = rows_filled c k ready.filled;
  timed = timed_at n k c ready.timed row small;
  some = subst (λ i. 1 ≤ i) (sym (size_ran k c)) ready.some;
}

-- ---- turns that are taken in parts

-- what happens silently before turns may happen in two parts
pub sooner : (c d c' : Schedule) (s : PlainState) (xs : List Step) → MovesSilently c d → TakesTurnsOver d s xs c' → TakesTurnsOver c s xs c'
sooner c d c' s [] quiet turns = silent_then c d c' quiet turns
sooner c d c' s (x ∷ xs) quiet (begun, mid, silent, ready, turn, took, rest) = (begun, mid, silent_then c d begun quiet silent, ready, turn, took, rest)

pub turns_join : (c d e : Schedule) (s : PlainState) (xs ys : List Step) → TakesTurnsOver c s xs d → TakesTurnsOver d (state_after s xs) ys e → TakesTurnsOver c s (xs ++ ys) e
turns_join c d e s [] ys quiet more = sooner c d e s ys quiet more
turns_join c d e s (x ∷ xs) ys (begun, mid, silent, ready, turn, took, rest) more = (begun, mid, silent, ready, turn, took, turns_join mid d e (apply s x).state xs ys rest more)

-- ---- a row of units

module _ (f : ForkName) (n : ℕ) (c : Schedule) (before : ForkMap) (ready : AreReady before c) (head : heads f c.ready ≡ true) (row : IsRow n c) where
  -- a unit behind which the same forks can run is counted, and nothing else happens
  unit_counts : (k : ℕ) → k < n → (s s1 : ForkMap) → ((g : ForkName) → runs_in s1 g ≡ runs_in s g) → row_ran (k + 1) c ≡ last_counted f (all_arrived [] (moved (moves s s1) (row_ran k c)))
  unit_counts k small s s1 same =
      let at = row_ran k c in
      sym (rows_join k 1 c) ∙ sym (ap (λ b. cond b (row_ran 1 at) at) (head_at c f n ready.timed head row k small)) ∙ sym (ap (λ ms. last_counted f (moved ms at)) (no_moves s s1 same))

  row_takes : (k j : ℕ) (s : PlainState) (ended : Bool) (d c' : Schedule) → k + suc j ≡ n → ((i : ℕ) → i ≤ j → (g : ForkName) → runs_in (state_after s (row_of f i)).forks g ≡ runs_in before g)
      → LastCounted f ended (moved (moves before (state_after s (row_of f (suc j))).forks) (row_ran (n - 1) c)) d → MovesSilently d c' → TakesTurnsOver (row_ran k c) s (row_of f (suc j)) c'
  row_takes k zero s ended d c' is same last quiet =
      let small : k < n = omega (arith, is) in
      let at : n - 1 ≡ k = omega (arith, is) in
      let now : (g : ForkName) → runs_in s.forks g ≡ runs_in before g = same 0 (omega arith) in
      let after = (apply s (AUnit f)).state.forks in (
        row_ran k c,
        d,
        silent_nil (row_ran k c),
        ready_same before s.forks (row_ran k c) now (row_ready before n k c ready row small),
        head_at c f n ready.timed head row k small,
        record {
          seen = before;
          same = λ g. sym (now g);
          needs = last.needs;
          counted = last.counted ∙ ap (λ (i : ℕ). last_counted f (all_arrived last.needs (moved (moves before after) (row_ran i c)))) at;
        },
        quiet,
      )
  row_takes k (suc j) s ended d c' is same last quiet =
      let small : k < n = omega (arith, is) in
      let next = (apply s (AUnit f)).state in
      let now : (g : ForkName) → runs_in s.forks g ≡ runs_in before g = same 0 (omega arith) in
      let then : (g : ForkName) → runs_in next.forks g ≡ runs_in before g = same 1 (omega arith) in (
        row_ran k c,
        row_ran (k + 1) c,
        silent_nil (row_ran k c),
        ready_same before s.forks (row_ran k c) now (row_ready before n k c ready row small),
        head_at c f n ready.timed head row k small,
        record { seen = s.forks; same = λ g. refl; needs = []; counted = unit_counts k small s.forks next.forks (λ g. then g ∙ sym (now g)) },
        row_takes (k + 1) j next ended d c' (omega (arith, is)) (λ i less. same (suc i) (omega (arith, less))) last quiet,
      )

-- A ROW OF UNITS takes its turns: as many entries as it has units
pub units_take : (f : ForkName) (n : ℕ) (ended : Bool) (before after : ForkMap) (s : PlainState) (c d c' : Schedule) → 1 ≤ n → AreReady before c → TookRow f n ended before after c d
    → ((i : ℕ) → i < n → (g : ForkName) → runs_in (state_after s (row_of f i)).forks g ≡ runs_in before g) → (state_after s (row_of f n)).forks ≡ after → MovesSilently d c' → TakesTurnsOver c s (row_of f n) c'
unfolding row_ran
units_take f n ended before after s c d c' some ready row same end quiet =
    let all : suc (n - 1) ≡ n = omega (arith, some) in
    let begun = row.begun in
    let left = row_ran (n - 1) begun in
    let last : LastCounted f ended (moved (moves before (state_after s (row_of f (suc (n - 1)))).forks) left) d =
    subst (λ (forks : ForkMap). LastCounted f ended (moved (moves before forks) left) d) (sym (ap (λ (i : ℕ). (state_after s (row_of f i)).forks) all ∙ end)) row.counted in
    sooner c begun c' s (row_of f n) row.silent
    (subst (λ (i : ℕ). TakesTurnsOver begun s (row_of f i) c') all
    (row_takes f n begun before (ready_behind before c begun row.silent ready) row.head row.within 0 (n - 1) s ended d c' (omega (arith, some)) (λ i less. same i (omega (arith, less, some))) last quiet))

-- ---- other entries

-- idle entries take theirs, where nobody is ready behind what happened silently
pub idle_take : (n : ℕ) (s : PlainState) (c c' : Schedule) → AreReady s.forks c → MovesSilently c c' → c'.ready ≡ [] → TakesTurnsOver c s (replicate n Idle) c'
idle_take zero s c c' ready quiet empty = quiet
idle_take (suc n) s c c' ready quiet empty =
    let there = ready_behind s.forks c c' quiet ready in (
      c',
      c',
      quiet,
      there,
      empty,
      refl,
      subst (λ (e : Effect). TakesTurnsOver c' e.state (replicate n Idle) c') (sym (apply_idle s)) (idle_take n s c' c' there (silent_nil c') empty),
    )

-- and an event its own
pub event_takes : (s : PlainState) (e : Event) (c c' : Schedule) → AreReady s.forks c → TookEvent s e c c' → TakesTurnsOver c s (Outer e ∷ []) c'
event_takes s e c c' ready took = (c, c', silent_nil c, ready, tt, took, silent_nil c')

-- which is one deed, unless it is a TYPE
pub at_once : (s : PlainState) (e : Event) (c c' : Schedule) → IsAtOnce e → TookDeed s.forks (apply s (Outer e)).state.forks c c' → TookEvent s e c c'
at_once s (event.TypeIn t text) c c' once took = absurd once
at_once s (event.Login t user) c c' once took = took
at_once s (event.File name) c c' once took = took
at_once s (event.Words name page offset words) c c' once took = took
at_once s (event.Poke t address word) c c' once took = took
at_once s (event.Start t address) c c' once took = took
at_once s (event.Run n) c c' once took = took
at_once s event.Tick c c' once took = took
at_once s (event.Evict n) c c' once took = took
at_once s (event.Drum n) c c' once took = took
at_once s (event.Auto on) c c' once took = took
at_once s (event.Examine t serial address) c c' once took = took
at_once s (event.Forks t) c c' once took = took
at_once s (event.Page name page) c c' once took = took
at_once s (event.Trace on) c c' once took = took
