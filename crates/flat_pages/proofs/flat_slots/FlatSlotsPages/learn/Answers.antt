use Rattle.std.proofs.Common.{refl}
use Rattle.flat_pages.proofs.flat_slots.FlatSlotsPages.learn.Goals as goal

pub returns : goal.returns
returns g c = record {
  fits = λ d. (λ fits. fits, λ fits. fits);
  plain = refl;
  put = record { touched = refl; scene = refl; space = refl; place = refl; filed = refl; map_homes = refl; page_homes = refl; lives = refl; forks = refl; serials = refl; count = refl; most = refl };
  seen = refl;
  stored = record { there = record { homes = refl; framed = record { frames = refl; spare = refl; found = refl; tenant = refl; members = refl }; ages = refl; uses = refl }; queued = record { queue = refl; untold = refl }; holds = refl };
  victim = refl;
}
