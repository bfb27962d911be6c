-- The characters of a terminal.
use Rattle.std.specs.Prelude.{ℕ, ◌==◌, if◌then◌else◌}
use Rattle.machine_names.specs.declared.character.TheConstants.{CARRIAGE_RETURN, LINE_END}

-- what a typed character is read as
abbrev pub read_as : ℕ → ℕ
read_as code = if code == CARRIAGE_RETURN then LINE_END else code
