use Rattle.word36.proofs.OctalLemmas.{is_octal-octal_padded, octal_value-octal_padded}
use Rattle.word36.proofs.octal.read_back.Goals as goal

pub returns : goal.returns
returns c w small = (is_octal-octal_padded w, octal_value-octal_padded 12 w small)
