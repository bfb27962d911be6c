-- The sum of access along a chain of entries of maps.
use Rattle.std.specs.Prelude.{Bool, ◌&&◌, ◌||◌, Option, None, Some, if◌then◌else◌}
use Rattle.machine_names.specs.declared.names.Access.{Access}
use Rattle.machine_names.specs.declared.names.Kind.{Kind}
use Rattle.machine_names.specs.declared.names.Kind.TheVariants.{Read, Write, Execute}
use Rattle.page_homes.specs.declared.homes.Home.{Home}
use Rattle.fork_maps.specs.declared.chain_walk.Walk.{Walk}

-- a walk that ends at an entry with this access
abbrev pub walk_end : {At : Type 0} → At → Access → Option Home → Walk At
walk_end at a home = record { end = at; home = home; reads = a.r; writes = a.c || a.w; executes = a.x; copy = if a.c then Some at else None }

-- a walk from an entry with this access on
abbrev pub walk_behind : {At : Type 0} → At → Access → Walk At → Walk At
walk_behind at a w = record {
  end = w.end;
  home = w.home;
  reads = a.r && w.reads;
  writes = if a.c then w.reads else a.w && w.writes;
  executes = a.x && w.executes;
  copy = if a.c then Some at else w.copy;
}

-- whether a chain permits a reference
abbrev pub allows_along : {At : Type 0} → Kind → Walk At → Bool
allows_along Read w = w.reads
allows_along Write w = w.writes
allows_along Execute w = w.executes

-- where a reference makes a copy, if it makes one
abbrev pub copy_for : {At : Type 0} → Kind → Walk At → Option At
copy_for Read w = None
copy_for Write w = w.copy
copy_for Execute w = None
