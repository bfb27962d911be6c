-- The lists follow one job behind the other.
use Rattle.std.proofs.Common.{◌≡◌, ℕ, ◌+◌, ◌<◌, ◌≤◌, Bool, true, false, IsSome, refl, sym, ◌∙◌, ap, subst, inl, inr, arith}
use Rattle.std.proofs.lemmas.Bool.{cases_eq, cases_lt}
use Rattle.std.specs.FinMap as map
use Rattle.machine_names.specs.declared.names.ForkName.{ForkName}
use Rattle.machine_names.specs.declared.names.Tty.{Tty}
use Rattle.machine_names.specs.declared.names.TheConstants.{MOST_FORKS, TERMINALS}
use Rattle.plain_model.specs.Forks.{ForkMap, IsRunnable, runs_in}
use Rattle.fork_tree.specs.Trees.{AreSlotted}
use Rattle.fork_tree.proofs.Slots.{held_lives, some_of}
use Rattle.job_sched.specs.Lines.{is_in_line}
use Rattle.job_sched.specs.Schedules.{Schedule, size, stands}
use Rattle.job_sched.specs.Ties.{IsFilled, IsSound, WaitsLess}
use Rattle.job_sched.proofs.Waits.{less_same, less_then}
use Rattle.fork_lists.specs.declared.lists.ForkLists.{ForkLists}
use Rattle.fork_lists.specs.Following.{followed, followed_all}
use Rattle.fork_lists.specs.Seeing.{all_jobs, job_slots, seen_in, was_seen}
use Rattle.fork_lists.specs.Ties.{CanFollow, CanFollowAll, ComesOn, Follows, FollowsAll, IsTiedAt, Living}
use Rattle.fork_lists.proofs.Alike.{every_job, followed_same, jobs_from, one_job}
use Rattle.fork_lists.proofs.Nearing.{on_still, on_then}
use Rattle.fork_lists.proofs.Tied.{runs_lives, same_seen, some_is}

-- the jobs of the terminals below one are followed, and the others are as they were
pub record FollowedTo (forks : ForkMap) (old now : ForkLists) (n : ℕ) : Type 0 where
  pub tied : (t : Tty) → t.0 < n → IsTiedAt forks now t
  pub listed : (f : ForkName) → n ≤ f.tty.0 → stands f now.sched ≡ stands f old.sched
  pub seen : (t : Tty) (slot : ℕ) → n ≤ t.0 → 1 ≤ slot → slot ≤ MOST_FORKS → seen_in now.seen.items t slot ≡ seen_in old.seen.items t slot
  pub living : Living forks now.sched
  pub filled : IsFilled old.sched → IsFilled now.sched
  pub waits : WaitsLess old.sched.waiting now.sched.waiting
  pub set : size now.sched ≡ size old.sched
  pub comes_on : (f : ForkName) → IsRunnable forks f → is_in_line f old.sched ≡ true → ComesOn f old.sched now.sched
  pub schedule : followed_all forks old.seen.items now.sched (jobs_from n) ≡ followed_all forks old.seen.items old.sched all_jobs

module _ (forks : ForkMap) (old : ForkLists) where
  pub none_done : IsSound old.sched → Living forks old.sched → FollowedTo forks old old 0
  none_done sound living = record {
    tied = λ t low. absurd (omega (arith, low));
    listed = λ f high. refl;
    seen = λ t slot high first last. refl;
    living = living;
    filled = λ is. is;
    waits = less_same old.sched.waiting;
    set = refl;
    comes_on = λ f runs here. on_still f old.sched sound.timed here;
    schedule = ap (followed_all forks old.seen.items old.sched) every_job;
  }

  pub can_each : (now : ForkLists) (n : ℕ) → n < TERMINALS → CanFollowAll forks old → FollowedTo forks old now n → CanFollow forks now (record { 0 = n })
  can_each now n low can i = record {
    mine = λ f here on.
        let there : n ≤ f.tty.0 = omega (arith, here) in
        let job : f.tty ≡ record { 0 = n } = λ k. record { 0 = here k } in
        same_seen now.seen.items old.seen.items (record { 0 = n }) f (λ slot first last. i.seen (record { 0 = n }) slot (omega arith) first last)
        (subst (λ (t : Tty). was_seen old.seen.items t f job_slots ≡ true) job (can.seen f (sym (i.listed f there) ∙ on)));
    others = λ f other on. i.living f on;
  }

  pub all_more : AreSlotted forks → (now next : ForkLists) (n : ℕ) → n < TERMINALS → FollowedTo forks old now n → next.sched ≡ followed forks now.seen.items (record { 0 = n }) now.sched → Follows forks (record { 0 = n }) now next
      → ((f : ForkName) → IsRunnable forks f → is_in_line f now.sched ≡ true → ComesOn f now.sched next.sched) → FollowedTo forks old next (n + 1)
  all_more slotted now next n low i sched more comes_on = record {
    tied = λ t below. elim (cases_eq t.0 n) [
      | inl here ↦ subst (IsTiedAt forks next) (sym (let job : t ≡ record { 0 = n } = λ k. record { 0 = here k } in job)) more.mine
      | inr other ↦
          let was = i.tied t (omega (arith, below, other)) in
          record {
            listed = λ f is. more.listed f (λ same. other (sym is ∙ same)) ∙ was.listed f is;
            seen = λ slot within first last. more.seen t slot other first last ∙ was.seen slot within first last;
          }
    ];
    listed = λ f high. more.listed f (λ same. omega (arith, high, same)) ∙ i.listed f (omega (arith, high));
    seen = λ t slot high first last. more.seen t slot (λ same. omega (arith, high, same)) first last ∙ i.seen t slot (omega (arith, high)) first last;
    living = λ f on. elim (cases_eq f.tty.0 n) [
      | inl here ↦ let lives = runs_lives forks f (sym (more.mine.listed f here) ∙ on) in some_is (map.get forks f) lives.0 lives.1
      | inr other ↦ i.living f (sym (more.listed f other) ∙ on)
    ];
    filled = λ is. more.filled (i.filled is);
    set = more.set ∙ i.set;
    waits = less_then old.sched.waiting now.sched.waiting next.sched.waiting i.waits more.waits;
    comes_on = λ f runs here. let a = i.comes_on f runs here in on_then f old.sched now.sched next.sched a (comes_on f runs a.nears.here);
    schedule =
        ap (λ (s : Schedule). followed_all forks old.seen.items s (jobs_from (n + 1))) (sched ∙ followed_same forks (record { 0 = n }) now.seen.items old.seen.items now.sched (λ slot first last. i.seen (record { 0 = n }) slot (omega arith) first last))
        ∙ sym (ap (followed_all forks old.seen.items now.sched) (one_job n low)) ∙ i.schedule;
  }

  -- a fork of no terminal neither lives nor stands
  pub all_done : AreSlotted forks → (now : ForkLists) (n : ℕ) → TERMINALS ≤ n → FollowedTo forks old now n → FollowsAll forks old now
  all_done slotted now n all i = record {
    each = λ t. elim (cases_lt t.0 TERMINALS) [
      | inl low ↦ i.tied t (omega (arith, low, all))
      | inr high ↦ record {
        listed = λ f here. away f (omega (arith, high, here));
        seen = λ slot low first last. absurd (omega (arith, low, high));
      }
    ];
    filled = i.filled;
    waits = i.waits;
    set = i.set;
  }
    where
      none : (f : ForkName) → TERMINALS ≤ f.tty.0 → IsSome (map.get forks f) → ⊥
      none f high lives =
          let at = some_of (map.get forks f) lives in
          let named = slotted.named at.0 (held_lives forks slotted f at.0 at.1) in
          let low = subst (λ (x : ForkName). x.tty.0 < TERMINALS) (slotted.own f at.0 at.1) named.0 in
          omega (arith, low, high)

      away : (f : ForkName) → TERMINALS ≤ f.tty.0 → stands f now.sched ≡ runs_in forks f
      away f high = both (stands f now.sched) (runs_in forks f) (λ on. none f high (i.living f on)) (λ runs. let lives = runs_lives forks f runs in none f high (some_is (map.get forks f) lives.0 lives.1))
        where
          both : (a b : Bool) → (a ≡ true → ⊥) → (b ≡ true → ⊥) → a ≡ b
          both true b one other = absurd (one refl)
          both false true one other = absurd (other refl)
          both false false one other = refl
