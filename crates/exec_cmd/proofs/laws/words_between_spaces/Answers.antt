use Rattle.exec_cmd.proofs.Parted.{words-append, words-nil, words-one}
use Rattle.exec_cmd.proofs.laws.words_between_spaces.Goals as goal

pub returns-clause-parted : goal.returns-clause-parted
returns-clause-parted c = words-append

pub returns-clause-whole : goal.returns-clause-whole
returns-clause-whole c = words-one

pub returns-clause-none : goal.returns-clause-none
returns-clause-none c = words-nil
