use Rattle.plain_laws.proofs.StringDeposits.{string_back, string_there}
use Rattle.plain_laws.proofs.StringFiles.{bytes_there}
use Rattle.plain_laws.proofs.string_laws.strings_come_back_whole.Goals as goal

pub returns-clause-file : goal.returns-clause-file
returns-clause-file c = λ bytes p j whole is_size once have. bytes_there bytes p j whole is_size once have

pub returns-clause-string : goal.returns-clause-string
returns-clause-string c = λ bytes q g pointer whole string. string_there bytes q g pointer whole string

pub returns-clause-back : goal.returns-clause-back
returns-clause-back c = λ bytes p q j g pointer whole is_size once have sound string small fits. string_back bytes p q j g pointer whole is_size once have sound string small fits
