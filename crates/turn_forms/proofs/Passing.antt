-- A fork that is passed over comes closer by each unit of another.
use Rattle.std.proofs.Common.{◌≡◌, ℕ, zero, suc, ◌<◌, ◌≤◌, Bool, true, false, cond, not, ◌&&◌, List, [], ◌∷◌, ◌++◌, length, map, filter, slice_get, inl, inr, refl, sym, ◌∙◌, ap, subst, arith}
use Rattle.std.specs.Prelude.{⊤}
use Rattle.std.proofs.lemmas.Bool.{cases_Bool}
use Rattle.machine_names.specs.declared.names.ForkName.{ForkName}
use Rattle.machine_names.specs.Orders.{same_fork}
use Rattle.script_texts.specs.Follows.{AreTurns}
use Rattle.script_texts.specs.declared.event.Step.{Step}
use Rattle.script_texts.specs.declared.event.Step.TheVariants.{Outer, Unit as AUnit, Idle}
use Rattle.plain_model.proofs.ForkMaps.{names_same}
use Rattle.plain_model.specs.Forks.{ForkMap, runs_in}
use Rattle.plain_model.specs.Moves.{Move, Stops, Starts, lets_run, moves, names_of, stopped_of, waits_in}
use Rattle.plain_model.specs.Passing.{IsPassedOver}
use Rattle.plain_model.specs.Run.{apply}
use Rattle.plain_model.specs.State.{PlainState}
use Rattle.job_sched.specs.declared.member.Member.{Member}
use Rattle.job_sched.specs.Lines.{Nears, ahead_of, is_in_line}
use Rattle.job_sched.specs.Schedules.{Schedule, heads, started, stopped}
use Rattle.job_sched.specs.Units.{IsRow, IsTimed, row_ran, unit_ran}
use Rattle.fork_lists.specs.Ties.{ComesOn}
use Rattle.fork_lists.proofs.Nearing.{headed, heads_as, in_line, on_still, on_then}
use Rattle.job_sched.proofs.Heads.{starts as head_starts, stops as head_stops}
use Rattle.job_sched.proofs.Lines.{due, gives, joins, rows, starts, stops}
use Rattle.job_sched.proofs.Ties.{none_runs}
use Rattle.turn_forms.specs.Turns.{AreCalm, AreReady, Silent, TakesTurns, behind, counted_to, moved, moved_silently}

-- another fork isn't the head
not_head : (f g : ForkName) (ms : List Member) → heads g ms ≡ true → (g ≡ f → ⊥) → heads f ms ≡ false
not_head f g [] head other = absurd (cc head)
not_head f g (m ∷ ms) head other = elim (cases_Bool (same_fork f m.fork)) [
  | inl same ↦ absurd (other (names_same g m.fork head ∙ sym (names_same f m.fork same)))
  | inr apart ↦ apart
]

-- a head that is as it was can't have gone
still_there : {A : Type 0} (g : ForkName) (s u : Schedule) → slice_get u.ready 0 ≡ slice_get s.ready 0 → heads g s.ready ≡ true → heads g u.ready ≡ false → A
still_there g s u same head gone = absurd (let no : true ≡ false = sym head ∙ sym (heads_as g s.ready u.ready same) ∙ gone in cc no)

stop_one : (f g : ForkName) (s : Schedule) → same_fork g f ≡ false → IsTimed s → is_in_line f s ≡ true → ComesOn f s (stopped s g)
stop_one f g s apart timed here = record {
  nears = stops f g s timed here apart;
  gives = λ h head gone. elim (cases_Bool (heads g s.ready)) [
    | inl is ↦ gives f g s timed here apart is
    | inr other ↦ still_there h s (stopped s g) (head_stops s g (headed h s.ready head) other).0 head gone
  ];
}

start_one : (f g : ForkName) (s : Schedule) → IsTimed s → is_in_line f s ≡ true → ComesOn f s (started s g)
start_one f g s timed here = record {
  nears = starts f g s timed here;
  gives = λ h head gone. still_there h s (started s g) (head_starts s g (headed h s.ready head)).0 head gone;
}

-- none of these moves stops a fork
abbrev Avoids : ForkName → List Move → Type 0
Avoids f [] = ⊤
Avoids f (Stops g ∷ ms) = (same_fork g f ≡ false) × Avoids f ms
Avoids f (Starts g ∷ ms) = Avoids f ms

moves_come : (f : ForkName) (ms : List Move) (s : Schedule) → Avoids f ms → IsTimed s → is_in_line f s ≡ true → ComesOn f s (moved ms s)
moves_come f [] s none timed here = on_still f s timed here
moves_come f (Stops g ∷ ms) s (apart, rest) timed here =
    let first = stop_one f g s apart timed here in
    on_then f s (stopped s g) (moved ms (stopped s g)) first (moves_come f ms (stopped s g) rest first.nears.timed first.nears.here)
moves_come f (Starts g ∷ ms) s rest timed here =
    let first = start_one f g s timed here in
    on_then f s (started s g) (moved ms (started s g)) first (moves_come f ms (started s g) rest first.nears.timed first.nears.here)

avoids_both : (f : ForkName) (ms ns : List Move) → Avoids f ms → Avoids f ns → Avoids f (ms ++ ns)
avoids_both f [] ns a b = b
avoids_both f (Stops g ∷ ms) ns (apart, a) b = (apart, avoids_both f ms ns a b)
avoids_both f (Starts g ∷ ms) ns a b = avoids_both f ms ns a b

avoids_starts : (f : ForkName) (gs : List ForkName) → Avoids f (map Starts gs)
avoids_starts f [] = tt
avoids_starts f (g ∷ gs) = avoids_starts f gs

avoids_stops : (f : ForkName) (p : ForkName → Bool) (gs : List ForkName) → ((g : ForkName) → p g ≡ true → same_fork g f ≡ false) → Avoids f (map Stops (filter p gs))
avoids_stops f p [] apart = tt
avoids_stops f p (g ∷ gs) apart = elim (cases_Bool (p g)) [
  | inl is ↦ subst (λ (b : Bool). Avoids f (map Stops (cond b (g ∷ filter p gs) (filter p gs)))) (sym is) (apart g is, avoids_stops f p gs apart)
  | inr fails ↦ subst (λ (b : Bool). Avoids f (map Stops (cond b (g ∷ filter p gs) (filter p gs)))) (sym fails) (avoids_stops f p gs apart)
]

-- one that can't run is no fork that can
apart_from : (forks : ForkMap) (f g : ForkName) → runs_in forks f ≡ true → (a : Bool) → (a && not (runs_in forks g)) ≡ true → same_fork g f ≡ false
apart_from forks f g runs a lost = elim (cases_Bool (same_fork g f)) [
  | inl same ↦ absurd (let is : runs_in forks g ≡ true = ap (runs_in forks) (names_same g f same) ∙ runs in
      let no : (a && false) ≡ true = ap (λ (b : Bool). a && not b) (sym is) ∙ lost in never a no)
  | inr apart ↦ apart
]
  where
    never : (a : Bool) → (a && false) ≡ true → ⊥
    never true e = cc e
    never false e = cc e

avoids_moves : (f : ForkName) (before after : ForkMap) → runs_in after f ≡ true → Avoids f (moves before after)
unfolding moves
avoids_moves f before after runs =
    let waited = filter (waits_in before) (lets_run before after) in
    let others = filter (λ g. not (waits_in before g)) (lets_run before after) in
    avoids_both f (map Stops (stopped_of before after)) (map Starts waited ++ map Starts others)
    (avoids_stops f (λ g. runs_in before g && not (runs_in after g)) (names_of before) (λ g is. apart_from after f g runs (runs_in before g) is))
    (avoids_both f (map Starts waited) (map Starts others) (avoids_starts f waited) (avoids_starts f others))

-- a fork that can run behind an act comes no farther back by what that has moved
pub acts_come : (f : ForkName) (before after : ForkMap) (s : Schedule) → runs_in after f ≡ true → IsTimed s → is_in_line f s ≡ true → ComesOn f s (moved (moves before after) s)
acts_come f before after s runs = moves_come f (moves before after) s (avoids_moves f before after runs)

-- a unit that is counted, where its fork still is the head: either way another comes closer
unit_comes : (f g : ForkName) (c u : Schedule) → (g ≡ f → ⊥) → heads g c.ready ≡ true → ComesOn f c u → Nears f c (counted_to g u) 1
unfolding row_ran
unit_comes f g c u other head came = elim (cases_Bool (heads g u.ready)) [
  | inl still ↦ subst (λ (b : Bool). Nears f c (cond b (unit_ran u.ready u) u) 1) (sym still)
      (joins f c u (row_ran 1 u) 0 1 came.nears (rows f u 1 came.nears.timed came.nears.here (not_head f g u.ready still other) (one u (headed g u.ready still) came.nears.timed)))
  | inr lost ↦ subst (λ (b : Bool). Nears f c (cond b (unit_ran u.ready u) u) 1) (sym lost) (came.gives g head lost)
]
  where
    one : (u : Schedule) → 0 < length u.ready → IsTimed u → IsRow 1 u
    one u some timed = record { head = some; within = inr (omega (arith, timed)) }

-- CALM TURNS OF A RUN PASS A FORK OVER at most as often as units of others may come before it is the head
pub short : (f : ForkName) (c c' : Schedule) (s : PlainState) (xs : List Step) (turns : TakesTurns c s xs c') → AreCalm c s xs c' turns → AreTurns xs → IsPassedOver f s xs → length xs ≤ ahead_of f c
short f c c' s [] turns calm are passed = omega arith
short f c c' s (Outer e ∷ xs) turns calm are passed = absurd are.0
short f c c' s (Idle ∷ xs) (quiet, ready, none, rest) (still, calm, later_calm) are (can, other, later) =
    let now : AreReady s.forks c = subst (λ (q : List Silent). AreReady s.forks (moved_silently q c)) still ready in
    let empty : c.ready ≡ [] = subst (λ (q : List Silent). (moved_silently q c).ready ≡ []) still none in
    absurd (let no : true ≡ false = sym can ∙ none_runs (runs_in s.forks) c f now.listed now.filled now.some empty calm in cc no)
short f c c' s (AUnit g ∷ []) (quiet, ready, head, rest) (still, calm, later_calm) are (can, other, later) =
    let now : AreReady s.forks c = subst (λ (q : List Silent). AreReady s.forks (moved_silently q c)) still ready in
    let is : heads g c.ready ≡ true = subst (λ (q : List Silent). heads g (moved_silently q c).ready ≡ true) still head in
    let apart = not_head f g c.ready is (λ same. other (ap AUnit same)) in
    first f c now.timed (headed g c.ready is) apart
  where
    first : (f : ForkName) (c : Schedule) → IsTimed c → 0 < length c.ready → heads f c.ready ≡ false → 1 ≤ ahead_of f c
    first f c timed some apart = nonzero (ahead_of f c) (λ zero. let no : true ≡ false = sym ((due f c timed some).0 zero) ∙ apart in cc no)
      where
        nonzero : (n : ℕ) → (n ≡ 0 → ⊥) → 1 ≤ n
        nonzero zero none = absurd (none refl)
        nonzero (suc n) none = omega arith
short f c c' s (AUnit g ∷ y ∷ ys) (quiet, ready, head, rest) (still, calm, later_calm) are (can, other, later) =
    let ready_now : AreReady s.forks c = subst (λ (q : List Silent). AreReady s.forks (moved_silently q c)) still ready in
    let is : heads g c.ready ≡ true = subst (λ (q : List Silent). heads g (moved_silently q c).ready ≡ true) still head in
    let here = in_line f c calm (ready_now.listed.each f ∙ can) in
    let now = (apply s (AUnit g)).state in
    let d = moved_silently quiet c in
    let more = short f (behind s (AUnit g) d) c' now (y ∷ ys) rest later_calm are.1 later in
    let u = moved (moves s.forks now.forks) c in
    let came = acts_come f s.forks now.forks c later.0 ready_now.timed here in
    let closer = (unit_comes f g c u (λ same. other (ap AUnit same)) is came).nearer in
    let same : ahead_of f (behind s (AUnit g) d) ≡ ahead_of f (behind s (AUnit g) c) = ap (λ (q : List Silent). ahead_of f (behind s (AUnit g) (moved_silently q c))) still in
    omega (arith, closer, more, same)
