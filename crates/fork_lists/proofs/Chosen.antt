-- Whom the lists choose can run, and where they choose none, none can.
use Rattle.std.proofs.Common.{◌≡◌, ◌⊎◌, ℕ, zero, suc, Bool, true, false, ◌||◌, List, [], ◌∷◌, Option, None, Some, refl, sym, ◌∙◌, ap, slice_get, slice_index_or, replicate, inl, inr}
use Rattle.std.specs.Prelude.{MatchOption}
use Rattle.std.specs.Option.{option_map, option_map_or}
use Rattle.std.specs.FinMap as map
use Rattle.machine_names.specs.Orders.{fork_cmp}
use Rattle.machine_names.specs.declared.names.ForkName.{ForkName}
use Rattle.machine_names.specs.declared.names.Tty.{Tty}
use Rattle.plain_model.specs.Forks.{ForkMap, IsRunnable, can_run, fork_in, runs_in}
use Rattle.plain_model.specs.declared.fork.Fork.{Fork}
use Rattle.plain_model.proofs.ForkMaps.{slot_tells}
use Rattle.fork_lists.specs.Seeing.{place_at}
use Rattle.job_sched.specs.declared.member.Member.{Member}
use Rattle.page_contracts.specs.declared.answers.Need.{Need}
use Rattle.job_sched.specs.Schedules.{Schedule, arrived, empty, stands, waited}
use Rattle.job_sched.specs.Ties.{AreListed, IsFilled, IsSound}
use Rattle.job_sched.specs.Units.{row_ran}
use Rattle.job_sched.proofs.Ties.{chosen_runs as head_runs, none_runs}
use Rattle.job_sched.proofs.Ties.{arrived_listed, waits_filled, waits_listed}
use Rattle.job_sched.proofs.Units.{rows_filled, rows_listed}
use Rattle.fork_lists.specs.declared.seen.Seen.{Seen}
use Rattle.fork_lists.specs.declared.lists.ForkLists.{ForkLists}
use Rattle.fork_lists.specs.Seeing.{AreNamed, nobody, seen_in, seen_of}
use Rattle.fork_lists.specs.Ties.{AreTied, is_filled, is_none}

-- the test says it
pub test_filled : (s : Schedule) → is_filled s ≡ true → IsFilled s
test_filled s is = by s.outside s.spare is
  where
    by : {A B : Type 0} (xs : List A) (ys : List B) → (is_none xs || is_none ys) ≡ true → (xs ≡ []) ⊎ (ys ≡ [])
    by [] ys test = inl refl
    by (x ∷ xs) [] test = inr refl
    by (x ∷ xs) (y ∷ ys) test = absurd (cc test)

pub filled_test : (s : Schedule) → IsFilled s → is_filled s ≡ true
filled_test s (inl none) = ap (λ (xs : List ForkName). is_none xs || is_none s.spare) none
filled_test s (inr none) = ap (λ (ns : List ℕ). is_none s.outside || is_none ns) none ∙ last (is_none s.outside)
  where
    last : (b : Bool) → (b || true) ≡ true
    last true = refl
    last false = refl

-- the forks that stand in the lists are those that can run
pub all_listed : (forks : ForkMap) (l : ForkLists) → AreTied forks l → AreListed (runs_in forks) l.sched
all_listed forks l tied = record { each = λ f. (tied.each f.tty).listed f refl }

-- where there is no head, nobody is ready
pub none_ready : (ms : List Member) → None ≡ option_map (λ (m : Member). m.fork) (slice_get ms 0) → ms ≡ []
none_ready [] is = refl
none_ready (m ∷ ms) is = absurd (cc is)

pub chosen_runs : (forks : ForkMap) (l : ForkLists) → AreTied forks l → IsSound l.sched → (o : Option ForkName) → o ≡ option_map (λ m. m.fork) (slice_get l.sched.ready 0)
    → MatchOption o (l.sched.waiting ≡ [] → (f : ForkName) → IsRunnable forks f → ⊥) (IsRunnable forks)
chosen_runs forks l tied sound None head =
    λ calm f runs. let no : true ≡ false = sym runs ∙ none_runs (runs_in forks) l.sched f (all_listed forks l tied) (test_filled l.sched tied.filled) sound.some (none_ready l.sched.ready head) calm in cc no
chosen_runs forks l tied sound (Some f) head = head_runs (runs_in forks) l.sched f (all_listed forks l tied) (sym head)

-- a row of units leaves the same forks in the lists
pub ran_tied : (forks : ForkMap) (l m : ForkLists) (n : ℕ) → AreTied forks l → m.sched ≡ row_ran n l.sched → m.seen ≡ l.seen → AreTied forks m
ran_tied forks l m n tied ran seen =
    let listed = rows_listed (runs_in forks) l.sched n (all_listed forks l tied) in
    record {
      each = λ t. record {
        listed = λ f here. ap (stands f) ran ∙ listed.each f;
        seen = λ slot low first last. ap (λ v. seen_in v.items t slot) seen ∙ (tied.each t).seen slot low first last;
      };
      filled = ap is_filled ran ∙ filled_test (row_ran n l.sched) (rows_filled l.sched n (test_filled l.sched tied.filled));
    }

-- the same forks stand, and nobody more outside: so the lists are tied as they were
pub stays_tied : (forks : ForkMap) (l m : ForkLists) (s : Schedule) → AreTied forks l → m.sched ≡ s → m.seen ≡ l.seen → (AreListed (runs_in forks) l.sched → AreListed (runs_in forks) s)
    → (IsFilled l.sched → IsFilled s) → AreTied forks m
stays_tied forks l m s tied is seen listed filled =
    let all = listed (all_listed forks l tied) in
    record {
      each = λ t. record {
        listed = λ f here. ap (stands f) is ∙ all.each f;
        seen = λ slot low first last. ap (λ v. seen_in v.items t slot) seen ∙ (tied.each t).seen slot low first last;
      };
      filled = ap is_filled is ∙ filled_test s (filled (test_filled l.sched tied.filled));
    }

pub waited_tied : (forks : ForkMap) (l m : ForkLists) (need : Need) → AreTied forks l → m.sched ≡ waited l.sched need → m.seen ≡ l.seen → AreTied forks m
waited_tied forks l m need tied is seen = stays_tied forks l m (waited l.sched need) tied is seen (waits_listed (runs_in forks) l.sched need) (waits_filled l.sched need)

pub arrived_tied : (forks : ForkMap) (l m : ForkLists) (done : Need) → AreTied forks l → m.sched ≡ arrived l.sched done → m.seen ≡ l.seen → AreTied forks m
arrived_tied forks l m done tied is seen = stays_tied forks l m (arrived l.sched done) tied is seen (arrived_listed (runs_in forks) l.sched done) (λ filled. filled)

-- what was seen of no slot
no_slots : (n k : ℕ) → slice_index_or (replicate n nobody) k nobody ≡ nobody
no_slots zero k = refl
no_slots (suc n) zero = refl
no_slots (suc n) (suc k) = no_slots n k

no_fork : (t : Tty) (slot : ℕ) → fork_in map.empty t slot ≡ None
no_fork t slot = by (fork_in map.empty t slot) refl
  where
    by : (o : Option Fork) → fork_in map.empty t slot ≡ o → o ≡ None
    by None is = refl
    by (Some f) is = let at = slot_tells map.empty (λ name g there. let none : None ≡ Some g = sym (map.get-empty fork_cmp name) ∙ there in absurd (cc none)) t slot f is in
        let none : None ≡ Some f = sym (map.get-empty fork_cmp f.name) ∙ at.0 in absurd (cc none)

-- where no fork lives, none is in the lists
pub none_tied : (set n : ℕ) (l : ForkLists) → l.sched ≡ empty set → l.seen.items ≡ replicate n nobody → AreTied map.empty l
none_tied set n l sched seen = record {
  each = λ t. record {
    listed = λ f here. ap (stands f) sched ∙ sym (ap (λ (o : Option Fork). option_map_or (can_run map.empty) o false) (map.get-empty fork_cmp f));
    seen = λ slot low first last. ap (λ (xs : List Seen). seen_in xs t slot) seen ∙ no_slots n (place_at t slot) ∙ sym (ap seen_of (no_fork t slot));
  };
  filled = ap is_filled sched;
}

pub none_named : (n : ℕ) (seen : List Seen) → seen ≡ replicate n nobody → AreNamed seen
none_named n seen is t slot f terminal first last found =
    let none : None ≡ Some f = ap (λ (x : Seen). x.fork) (sym (ap (λ (xs : List Seen). seen_in xs t slot) is ∙ no_slots n (place_at t slot))) ∙ found in absurd (cc none)
