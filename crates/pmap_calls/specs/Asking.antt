-- What the calls on maps are asked with, by the tables of files; and the places that words name there.
use Rattle.std.specs.Prelude.{◌<◌}
use Rattle.machine_names.specs.declared.names.TheConstants.{SPACE_PAGES, FILE_PAGES}
use Rattle.machine_names.specs.declared.names.ForkName.{ForkName}
use Rattle.machine_names.specs.declared.names.Slot.{Slot}
use Rattle.machine_names.specs.Bounds.{IsForkName}
use Rattle.plain_files.specs.NamedFiles.{open_file}
use Rattle.file_tables.specs.declared.tables.FileTables.{FileTables}
use Rattle.file_tables.specs.Keys.{IsKnown}
use Rattle.file_tables.specs.Tables.{jfns_at}
use Rattle.plain_units.specs.declared.registers.Regs.{Regs}
use Rattle.plain_model.specs.MapCalls.{MapAsked, MapPlace, of_file, of_fork}
use Rattle.plain_model.specs.Trees.{PlainTree}
use Rattle.pmap_calls.specs.declared.naming.PagePlace.{PagePlace}
use Rattle.pmap_calls.specs.declared.naming.PagePlace.TheVariants.{Fork, File}

-- who calls, with which registers, among which forks, and with the JFNs of which job
abbrev pub asked : ForkName → Regs → PlainTree → FileTables → MapAsked
asked who regs tree tables = record { who = who; regs = regs; tree = tree; held = jfns_at tables who.tty.0 }

-- a place, by the name of its file
abbrev pub place_by : FileTables → PagePlace → MapPlace
place_by tables (Fork s) = of_fork s
place_by tables (File jfn page) = of_file (open_file tables.dir jfn) page

-- a page of the space of a fork that has a serial
abbrev pub IsSlot : Slot → Type 0
IsSlot s = (s.page < SPACE_PAGES) × IsForkName s.fork

-- a page of a fork's space, or of a file that is there
abbrev pub IsPlaceIn : FileTables → PagePlace → Type 0
IsPlaceIn tables (Fork s) = IsSlot s
IsPlaceIn tables (File jfn page) = IsKnown tables jfn.file × (page < FILE_PAGES)

-- two places
abbrev pub places_by : FileTables → PagePlace × PagePlace → MapPlace × MapPlace
places_by tables p = (place_by tables p.0, place_by tables p.1)

abbrev pub ArePlacesIn : FileTables → PagePlace × PagePlace → Type 0
ArePlacesIn tables p = IsPlaceIn tables p.0 × IsPlaceIn tables p.1
