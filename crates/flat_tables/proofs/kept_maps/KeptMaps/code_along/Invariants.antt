use Rattle.std.proofs.Common.{◌≡◌, ◌<◌, ◌-◌}
use Rattle.std.specs.Prelude.{IsSome}
use Rattle.std.specs.Option.{option_and_then}
use Rattle.machine_names.specs.declared.names.TheConstants.{SPACE_PAGES}
use Rattle.flat_tables.specs.HeldMaps.{fork_at}
use Rattle.flat_tables.specs.Walks.{walk_within, ready_home}
use Rattle.flat_tables.proofs.kept_maps.KeptMaps.code_along.Given as goal

abbrev pub invariant-loop-entries : goal.invariant-loop-entries
invariant-loop-entries l = record {
  lives : IsSome (fork_at l.self.held.items l.next.map);
  page : l.next.page < SPACE_PAGES;
  rest : option_and_then (ready_home l.wanted) (walk_within 4 l.self.held.items l.fn.at) ≡ option_and_then (ready_home l.wanted) (walk_within (4 - l.entries) l.self.held.items l.next);
}
