use Rattle.plain_laws.proofs.StringBack.{given_back, same_byte}
use Rattle.plain_laws.proofs.string_laws.written_strings_are_taken_back.Goals as goal

pub returns-clause-taken : goal.returns-clause-taken
returns-clause-taken c = λ s u f g i j byte p q x z w own held found grants pages files together whole lives owns named ready place reading writing.
    given_back s u f g i j byte p q w.machine own held found grants pages files together x z whole.machine lives owns named ready place reading writing

pub returns-clause-same : goal.returns-clause-same
returns-clause-same c = λ u g bits byte x z w own reading writing small fits inside. same_byte u w.machine g own x z bits byte reading writing small fits inside
