-- The lists follow a job alike where its slots were seen alike.
use Rattle.std.proofs.Common.{◌≡◌, ℕ, zero, suc, ◌+◌, ◌-◌, ◌<◌, ◌≤◌, not, Bool, List, [], ◌∷◌, Option, None, Some, cond, ◌&&◌, refl, ◌∙◌, ap, arith}
use Rattle.std.specs.List.{range_with_len}
use Rattle.machine_names.specs.declared.names.ForkName.{ForkName}
use Rattle.machine_names.specs.declared.names.Tty.{Tty}
use Rattle.machine_names.specs.declared.names.TheConstants.{MOST_FORKS, TERMINALS}
use Rattle.plain_model.specs.declared.fork.Fork.{Fork}
use Rattle.plain_model.specs.Forks.{ForkMap, fork_in, runs_in}
use Rattle.job_sched.specs.Schedules.{Schedule, started}
use Rattle.fork_lists.specs.declared.seen.Seen.{Seen}
use Rattle.fork_lists.specs.Following.{followed, lost_stopped, picks_started, started_if, stopped_if}
use Rattle.fork_lists.specs.Seeing.{all_jobs, has_waited, is_seen, job_slots, seen_in}

module _ (forks : ForkMap) (t : Tty) where
  start_same : (one two : ForkName → Bool) (o : Option Fork) (s : Schedule) → ((f : ForkName) → one f ≡ two f) → started_if forks one o s ≡ started_if forks two o s
  start_same one two None s same = refl
  start_same one two (Some f) s same = ap (λ b. cond (b && runs_in forks f.name) (started s f.name) s) (same f.name)

  picks_same : (one two : ℕ → ForkName → Bool) (s : Schedule) (from len : ℕ) → ((slot : ℕ) → from ≤ slot → slot < from + len → (f : ForkName) → one slot f ≡ two slot f)
      → picks_started forks one t s (range_with_len from len) ≡ picks_started forks two t s (range_with_len from len)
  picks_same one two s from zero same = refl
  picks_same one two s from (suc len) same =
      ap (λ (u : Schedule). picks_started forks one t u (range_with_len (from + 1) len)) (start_same (one from) (two from) (fork_in forks t from) s (same from (omega arith) (omega arith)))
      ∙ picks_same one two (started_if forks (two from) (fork_in forks t from) s) (from + 1) len (λ slot low high. same slot (omega (arith, low)) (omega (arith, high)))

  module _ (xs ys : List Seen) where
    lost_same : (s : Schedule) (from len : ℕ) → ((slot : ℕ) → from ≤ slot → slot < from + len → seen_in xs t slot ≡ seen_in ys t slot)
        → lost_stopped forks xs t s (range_with_len from len) ≡ lost_stopped forks ys t s (range_with_len from len)
    lost_same s from zero same = refl
    lost_same s from (suc len) same =
        ap (λ (x : Seen). lost_stopped forks xs t (stopped_if forks x.fork s) (range_with_len (from + 1) len)) (same from (omega arith) (omega arith))
        ∙ lost_same (stopped_if forks (seen_in ys t from).fork s) (from + 1) len (λ slot low high. same slot (omega (arith, low)) (omega (arith, high)))

    pub followed_same : (s : Schedule) → ((slot : ℕ) → 1 ≤ slot → slot ≤ MOST_FORKS → seen_in xs t slot ≡ seen_in ys t slot) → followed forks xs t s ≡ followed forks ys t s
    unfolding job_slots
    followed_same s same =
        let waited : (slot : ℕ) → 1 ≤ slot → slot < 1 + MOST_FORKS → (f : ForkName) → has_waited xs t slot f ≡ has_waited ys t slot f =
        λ slot low high f. ap (λ (x : Seen). x.waits && is_seen f x) (same slot low (omega (arith, high))) in
        let slots = range_with_len 1 MOST_FORKS in
        let others : ℕ → ForkName → Bool = λ slot f. not (has_waited xs t slot f) in
        ap (λ (u : Schedule). picks_started forks others t (picks_started forks (has_waited xs t) t u slots) slots) (lost_same s 1 MOST_FORKS (λ slot low high. same slot low (omega (arith, high))))
        ∙ ap (λ (u : Schedule). picks_started forks others t u slots) (picks_same (has_waited xs t) (has_waited ys t) (lost_stopped forks ys t s slots) 1 MOST_FORKS waited)
        ∙ picks_same others (λ slot f. not (has_waited ys t slot f)) (picks_started forks (has_waited ys t) t (lost_stopped forks ys t s slots) slots) 1 MOST_FORKS (λ slot low high f. ap not (waited slot low high f))

-- the jobs of the terminals from one on
abbrev pub jobs_from : ℕ → List ℕ
jobs_from n = range_with_len n (TERMINALS - n)

pub one_job : (n : ℕ) → n < TERMINALS → jobs_from n ≡ n ∷ jobs_from (n + 1)
one_job n low = ap (range_with_len n) (let k : TERMINALS - n ≡ suc (TERMINALS - (n + 1)) = omega (arith, low) in k)

pub no_job : (n : ℕ) → TERMINALS ≤ n → jobs_from n ≡ []
no_job n high = ap (range_with_len n) (let k : TERMINALS - n ≡ 0 = omega (arith, high) in k)

pub every_job : jobs_from 0 ≡ all_jobs
unfolding all_jobs
every_job = refl
