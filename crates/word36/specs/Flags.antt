-- The processor's flags (PDP-10 handbook, "Program flags").
use Rattle.std.specs.Prelude.{false}
use Rattle.word36.specs.declared.flags.Flags.{Flags}

-- no flag is set
abbrev pub no_flags : Flags
no_flags = record { overflow = false; carry0 = false; carry1 = false; fov = false; bis = false; nodiv = false }
