use Rattle.outside.proofs.Bytes.{bytes_read_back}
use Rattle.outside.proofs.file_drum.words_come_back.Goals as goal

pub returns : goal.returns
returns c = bytes_read_back
