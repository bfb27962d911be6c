use Rattle.std.proofs.Common.{None, refl}
use Rattle.fork_maps.proofs.Listing.{ended_listed}
use Rattle.pager_walk.specs.MapPages.{no_map}
use Rattle.pager_walk.proofs.map_pages.KeptMaps.end.Goals as goal

pub invariant_of-self : goal.invariant_of-self
invariant_of-self c =
    let s = c.args.self.now in
    record { listed = ended_listed (λ m. m.fork) no_map refl s.pages.items s.numbers.numbers.items s.listed c.args.number (record { fork = None; home = c.root-home.result }) c.requires refl }
