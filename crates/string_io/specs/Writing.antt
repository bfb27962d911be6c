-- What SOUT writes to a file.
use Rattle.std.specs.Prelude.{nat_lt, if◌then◌else◌}
use Rattle.plain_files.specs.Bytes.{most_bytes}
use Rattle.plain_files.specs.OpenFiles.{OpenFile}
use Rattle.plain_model.specs.declared.call.TheConstants.{BAD_POSITION}
use Rattle.plain_model.specs.declared.call.End.TheVariants.{Refused}
use Rattle.plain_model.specs.Calls.{ends}
use Rattle.plain_model.specs.ByteCalls.{ByteAsked, ByteTurn}
use Rattle.plain_model.specs.StringCalls.{puts_byte, with_next}

-- the next byte of a string is written, where the file has room for it
abbrev pub writes_to : ByteAsked → OpenFile → ByteTurn
writes_to a j = if nat_lt j.at (most_bytes j.size) then with_next a (puts_byte a j) else ends (Refused BAD_POSITION)
