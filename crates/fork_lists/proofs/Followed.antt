-- What the lists are once they have followed a job.
use Rattle.std.proofs.Common.{◌≡◌, ◌≢◌, ℕ, ◌≤◌, sym, ◌∙◌, ap, subst, true, not}
use Rattle.machine_names.specs.Bounds.{IsTerminal}
use Rattle.machine_names.specs.declared.names.ForkName.{ForkName}
use Rattle.machine_names.specs.declared.names.Tty.{Tty}
use Rattle.machine_names.specs.declared.names.TheConstants.{MOST_FORKS}
use Rattle.plain_model.specs.Forks.{ForkMap, IsRunnable, fork_in}
use Rattle.fork_tree.specs.Trees.{AreSlotted}
use Rattle.job_sched.specs.Lines.{is_in_line}
use Rattle.job_sched.specs.Schedules.{Schedule, size, stands}
use Rattle.job_sched.specs.Ties.{IsFilled, IsSound, WaitsLess}
use Rattle.fork_lists.specs.declared.lists.ForkLists.{ForkLists}
use Rattle.fork_lists.specs.Following.{followed, lost_stopped, picks_started}
use Rattle.fork_lists.specs.Seeing.{has_waited, job_slots, seen_in, seen_of}
use Rattle.fork_lists.specs.Ties.{CanFollow, ComesOn, Follows}
use Rattle.fork_lists.proofs.Folds.{lost_filled, picks_filled}
use Rattle.fork_lists.proofs.Nearing.{followed_nears, followed_size, followed_waits}
use Rattle.fork_lists.proofs.Tied.{mine_listed, others_listed}

module _ (forks : ForkMap) (slotted : AreSlotted forks) (l m : ForkLists) (t : Tty) (terminal : IsTerminal t) (can : CanFollow forks l t)
    (sched : m.sched ≡ followed forks l.seen.items t l.sched) where
  pub follows_all : ((slot : ℕ) → 1 ≤ slot → slot ≤ MOST_FORKS → seen_in m.seen.items t slot ≡ seen_of (fork_in forks t slot))
      → ((u : Tty) (slot : ℕ) → u.0 ≢ t.0 → 1 ≤ slot → slot ≤ MOST_FORKS → seen_in m.seen.items u slot ≡ seen_in l.seen.items u slot) → Follows forks t l m
  follows_all mine others = record {
    mine = record {
      listed = λ f here. ap (stands f) sched ∙ mine_listed forks slotted l.seen.items t l.sched can.mine f here;
      seen = λ slot low first last. mine slot first last;
    };
    listed = λ f other. ap (stands f) sched ∙ others_listed forks slotted l.seen.items t l.sched can.mine l.named terminal f other;
    seen = others;
    filled = λ is. subst IsFilled (sym sched)
        (picks_filled forks (λ k f. not (has_waited l.seen.items t k f)) t job_slots (picks_started forks (has_waited l.seen.items t) t (lost_stopped forks l.seen.items t l.sched job_slots) job_slots)
        (picks_filled forks (has_waited l.seen.items t) t job_slots (lost_stopped forks l.seen.items t l.sched job_slots) (lost_filled forks l.seen.items t job_slots l.sched is)));
    set = ap size sched ∙ followed_size forks t l.seen.items job_slots l.sched (has_waited l.seen.items t) (λ k f. not (has_waited l.seen.items t k f));
    waits = subst (λ (s : Schedule). WaitsLess l.sched.waiting s.waiting) (sym sched) (followed_waits forks t l.seen.items job_slots l.sched (has_waited l.seen.items t) (λ k f. not (has_waited l.seen.items t k f)));
  }

  pub come_on : IsSound l.sched → (f : ForkName) → IsRunnable forks f → is_in_line f l.sched ≡ true → ComesOn f l.sched m.sched
  come_on sound f runs here = subst (ComesOn f l.sched) (sym sched) (followed_nears forks f runs l.seen.items t job_slots l.sched (has_waited l.seen.items t) (λ k g. not (has_waited l.seen.items t k g)) sound.timed here)
