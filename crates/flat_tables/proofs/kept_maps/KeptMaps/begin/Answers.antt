use Rattle.std.proofs.Common.{◌≡◌, ℕ, [], None, Some, sym, subst}
use Rattle.std.specs.Prelude.{slice_set}
use Rattle.std.proofs.lemmas.List.{get_or_read}
use Rattle.flat_tables.specs.declared.held_map.HeldMap.{HeldMap}
use Rattle.flat_tables.specs.HeldMaps.{fork_at, map_at}
use Rattle.flat_tables.specs.Looks.{AreLooked}
use Rattle.fork_maps.specs.MapNumbers.{AreListed}
use Rattle.flat_tables.proofs.Looking.{looked_named}
use Rattle.flat_tables.proofs.ForkMaps.{listed_begun}
use Rattle.flat_tables.proofs.kept_maps.KeptMaps.begin.Goals as goal

pub invariant_of-self : goal.invariant_of-self
invariant_of-self c =
    let s = c.args.self.now in
    let is : c.index_mut-map.result.now ≡ map_at s.held.items c.args.number = get_or_read _ _ _ c.requires.map c.index_mut-map.ensures.value (record { fork = None; entries = [] }) in
    record {
      looked =
          subst (λ (n : ℕ). AreLooked (slice_set s.held.items c.args.number (record { fork = Some c.args.fork; entries = c.index_mut-map.result.now.entries })) s.looks.items (slice_set s.keys.items c.args.number n)) (sym c.from.ensures)
          (subst (λ (m : HeldMap). AreLooked (slice_set s.held.items c.args.number (record { fork = Some c.args.fork; entries = m.entries })) s.looks.items (slice_set s.keys.items c.args.number c.args.fork.serial)) (sym is)
          (looked_named s.held.items s.looks.items s.keys.items s.looked c.args.number c.args.fork c.requires.map));
      numbered = subst (AreListed (fork_at (slice_set s.held.items c.args.number (record { fork = Some c.args.fork; entries = c.index_mut-map.result.now.entries })))) (sym c.set.ensures)
          (listed_begun s.held.items s.numbers.numbers.items s.numbered s.numbers.sized c.args.number c.args.fork c.index_mut-map.result.now.entries c.requires.map c.requires.absent c.requires.from);
    }
