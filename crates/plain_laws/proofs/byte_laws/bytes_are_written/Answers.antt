use Rattle.plain_laws.proofs.ByteTurns.{write_so}
use Rattle.plain_laws.proofs.ByteWords.{keeps_byte, keeps_page, writes_byte}
use Rattle.plain_laws.proofs.byte_laws.bytes_are_written.Goals as goal

pub returns-clause-written : goal.returns-clause-written
returns-clause-written c = λ s f j q w lives held yes room grants. write_so s f lives w.machine j held q yes room grants

pub returns-clause-byte : goal.returns-clause-byte
returns-clause-byte c = λ p i j byte w is_size there together. writes_byte p w j byte is_size i there together

pub returns-clause-others : goal.returns-clause-others
returns-clause-others c = λ p i j byte w is_size file size page ne. keeps_byte p w j byte is_size i file size page ne

pub returns-clause-elsewhere : goal.returns-clause-elsewhere
returns-clause-elsewhere c = λ p i j byte other. keeps_page p i j byte other
