use Rattle.std.proofs.Common.{Some, refl, sym, subst}
use Rattle.std.specs.Prelude.{slice_set}
use Rattle.fork_maps.specs.MapNumbers.{AreListed}
use Rattle.fork_maps.proofs.Listing.{begun_listed}
use Rattle.pager_walk.specs.declared.map_pages.MapPage.{MapPage}
use Rattle.pager_walk.specs.MapPages.{fork_at, no_map}
use Rattle.pager_walk.proofs.map_pages.KeptMaps.begin.Goals as goal

pub invariant_of-self : goal.invariant_of-self
invariant_of-self c =
    let s = c.args.self.now in
    let begun : MapPage = record { fork = Some c.args.fork; home = c.args.home } in
    record {
      listed = subst (AreListed (fork_at (slice_set s.pages.items c.args.number begun))) (sym c.set.ensures)
          (begun_listed (λ m. m.fork) no_map refl s.pages.items s.numbers.numbers.items s.listed c.args.number begun c.requires.map s.numbers.sized c.args.fork refl c.requires.absent c.requires.from);
    }
