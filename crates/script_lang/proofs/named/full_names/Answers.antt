use Rattle.script_lang.proofs.FullNames.{is_named, named_is, what_is_named}
use Rattle.script_lang.proofs.named.full_names.Goals as goal

pub returns-clause-test : goal.returns-clause-test
returns-clause-test c = λ text. (named_is text, is_named text)

pub returns-clause-named : goal.returns-clause-named
returns-clause-named c = what_is_named
