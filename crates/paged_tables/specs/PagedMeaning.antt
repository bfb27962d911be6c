-- What the calls on maps that are pages answer and leave.
use Rattle.std.specs.Prelude.{ℕ, ◌+◌, Bool, false, count_by, is_some, nat_eq}
use Rattle.std.specs.Option.{option_map_or}
use Rattle.machine_names.specs.declared.names.ForkName.{ForkName}
use Rattle.machine_names.specs.declared.names.Tty.{Tty}
use Rattle.page_homes.specs.declared.homes.Home.{Home}
use Rattle.pager_walk.specs.MapPages.{index_of}
use Rattle.pager_walk.specs.PagedMaps.{with_root}
use Rattle.paged_tables.specs.PagedTables.{Beside}

-- which forks live
abbrev pub lives_in : Beside → ForkName → Bool
lives_in b f = is_some (index_of b.tables.maps f)

-- how many forks of a terminal live
abbrev pub forks_in : Beside → Tty → ℕ
forks_in b t = count_by (λ m. option_map_or (λ f. nat_eq f.tty.0 t.0) m.fork false) b.tables.maps

-- a fork more, with a map under a number, at a home
abbrev pub with_fork : Beside → ℕ → ForkName → Home → Beside
with_fork b k f home = record b { tables = with_root b.tables k f home; living = b.living + 1 }
