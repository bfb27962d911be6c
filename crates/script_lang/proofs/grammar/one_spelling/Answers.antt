use Rattle.script_lang.proofs.Spellings.{one_event, spelled_fits, spelled_short}
use Rattle.script_lang.proofs.grammar.one_spelling.Goals as goal

pub returns : goal.returns
returns c = record { one = one_event; fits = spelled_fits; short = spelled_short }
