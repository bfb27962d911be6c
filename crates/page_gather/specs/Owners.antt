-- Owners of pages.
use Rattle.std.specs.Prelude.{Bool, ◌||◌, ◌==◌, nat_lt}
use Rattle.machine_names.specs.declared.names.Tty.{Tty}
use Rattle.machine_names.specs.declared.names.TheConstants.{TERMINALS}

-- the test of an owner: a terminal, or the console
abbrev pub is_owner : Tty → Bool
is_owner t = nat_lt t.0 TERMINALS || (t.0 == 255)
