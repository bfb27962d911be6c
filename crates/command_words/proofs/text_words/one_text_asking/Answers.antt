use Rattle.command_words.proofs.Texts.{not_both, one_text}
use Rattle.command_words.proofs.text_words.one_text_asking.Goals as goal

pub returns-clause-one : goal.returns-clause-one
returns-clause-one c = one_text

pub returns-clause-apart : goal.returns-clause-apart
returns-clause-apart c = not_both
