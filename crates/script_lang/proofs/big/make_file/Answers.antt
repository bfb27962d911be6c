use Rattle.script_lang.proofs.Moves.{file_moves}
use Rattle.script_lang.proofs.big.make_file.Goals as goal

pub returns : goal.returns
returns c = rw c.file_name.ensures file_moves
