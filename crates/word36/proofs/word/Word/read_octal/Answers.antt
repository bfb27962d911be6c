use Rattle.word36.proofs.OctalLemmas.{read_word}
use Rattle.word36.proofs.word.Word.read_octal.Goals as goal

pub returns : goal.returns
returns c = read_word c.args.text.now c.in_ok-read_octal.field-0 c.new.result c.in_ok-read_octal.ensures.0 c.in_ok-read_octal.ensures.1 c.new.ensures
