-- A system once pages were transferred, or frames were held: it is sound as before.
use Rattle.std.proofs.Common.{◌≡◌, ℕ, List, Option, Bool, refl, sym, subst, length}
use Rattle.std.specs.FinMap as map
use Rattle.machine_names.specs.Bounds.{IsTerminal}
use Rattle.machine_names.specs.declared.names.ForkName.{ForkName}
use Rattle.machine_names.specs.declared.names.Tty.{Tty}
use Rattle.page_contracts.specs.Pages.{PagesMeaning, StaysMapped, StaysPut, StaysSame}
use Rattle.plain_model.specs.Forks.{ForkMap, forks_by_slot}
use Rattle.plain_model.specs.Trees.{PlainTree}
use Rattle.job_forks.specs.Holding.{Holds}
use Rattle.monitor_calls.specs.declared.job.Job.{Job}
use Rattle.monitor_calls.specs.Sound.{AreSound}

module _ {P : Type 0} (means : PagesMeaning P) (old new : P) where
  -- what is left of words that are put says where pages are
  pub put_mapped : StaysPut means old new → StaysMapped means old new
  put_mapped put = record {
    space = put.space;
    filed = put.filed;
    map_homes = put.map_homes;
    page_homes = put.page_homes;
    lives = put.lives;
    forks = put.forks;
    serials = put.serials;
    count = put.count;
    most = put.most;
  }

  holds_mapped : StaysMapped means old new → (forks : ForkMap) → Holds means old forks → Holds means new forks
  holds_mapped m forks h = record {
    living = subst (λ (l : ForkName → Bool). (name : ForkName) → l name ≡ map.contains_key forks name) (sym m.lives) h.living;
    counts = subst (λ (l : Tty → ℕ). (t : Tty) → IsTerminal t → l t ≡ length (forks_by_slot forks t)) (sym m.forks) h.counts;
    roomy = h.roomy;
  }

  pub sound_mapped : StaysMapped means old new → (tree : PlainTree) (jobs : List (Option Job)) → AreSound means old tree jobs → AreSound means new tree jobs
  sound_mapped m tree jobs s = record { holds = holds_mapped m tree.forks s.holds; job_room = s.job_room; each_fork = s.each_fork; each_job = s.each_job; nobody = s.nobody }
