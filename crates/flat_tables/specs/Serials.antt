-- The next page serial of each owner.
use Rattle.std.specs.Prelude.{ℕ, ◌+◌, if◌then◌else◌, slice_index, slice_set}
use Rattle.machine_names.specs.declared.names.Tty.{Tty}
use Rattle.plain_pages.specs.PlainPages.{is_console}
use Rattle.flat_tables.specs.declared.page_serials.PageSerials.{PageSerials}

-- the next serial of an owner
abbrev pub serial_of : PageSerials → Tty → ℕ
serial_of s owner = if is_console owner then s.console else slice_index s.terminals owner.0

-- an owner's serial goes on by one
abbrev pub with_next : PageSerials → Tty → PageSerials
with_next s owner =
    if is_console owner then record s { console = s.console + 1 }
    else record s { terminals = slice_set s.terminals owner.0 (slice_index s.terminals owner.0 + 1) }
