-- The tables are sound still where the forks that are left came from those that lived, and the top forks live on.
use Rattle.std.proofs.Common.{◌≡◌, List, Option, sym, ◌∙◌, ap}
use Rattle.std.specs.Option.{option_map}
use Rattle.std.specs.FinMap as map
use Rattle.page_contracts.specs.Pages.{PagesMeaning}
use Rattle.plain_model.specs.Trees.{PlainTree}
use Rattle.fork_tree.specs.Trees.{IsTree}
use Rattle.job_forks.specs.Holding.{ComeFrom, Holds, TopsStay}
use Rattle.job_forks.proofs.Holdings.{holds_same, holds_still}
use Rattle.job_forks.proofs.Places.{Keep}
use Rattle.job_forks.proofs.Tops.{same_tops as still_tops}
use Rattle.monitor_calls.specs.declared.job.Job.{Job}
use Rattle.monitor_calls.specs.Sound.{AreSound}
use Rattle.monitor_calls.proofs.Sounds.{SameTops}

module _ {P : Type 0} (means : PagesMeaning P) (p q : P) (tree tree' : PlainTree) (jobs : List (Option Job)) (s : AreSound means p tree jobs) (jobs' : List (Option Job)) (tops : SameTops jobs jobs') where
  -- the forks came from those that lived, and the top forks live on
  pub sound_came : Holds means q tree'.forks → ComeFrom tree.forks tree'.forks → TopsStay tree.forks tree'.forks → AreSound means q tree' jobs'
  sound_came holds come stay = record {
    holds = holds;
    job_room = tops.room ∙ s.job_room;
    each_fork = λ f lives. let c = come f lives in c.within (s.each_fork c.before c.lived);
    each_job = λ t k e.
        let j = tops.tops t k e in
        let job = s.each_job t j.0 j.1 in
        record {
          terminal = ap (λ n. n.tty.0) j.2 ∙ job.terminal;
          low = job.low;
          top = ap (λ n. option_map (λ f. f.slot) (map.get tree'.forks n)) j.2 ∙ stay j.0.top job.top;
        };
    nobody = λ t f e lives at. let c = come f lives in s.nobody t c.before (tops.none t e) c.lived (ap (λ n. n.tty.0) (sym c.name) ∙ at);
  }

  -- each stands where it stood
  pub sound_kept : IsTree tree → IsTree tree' → Keep tree.forks tree'.forks → means.lives q ≡ means.lives p → means.forks_of q ≡ means.forks_of p → AreSound means q tree' jobs'
  sound_kept is is' keep lives forks =
      sound_came (holds_same means q tree.forks tree'.forks is.slotted is'.slotted keep.same (holds_still means p q tree.forks lives forks s.holds)) keep.come (still_tops tree.forks tree'.forks keep.same)
