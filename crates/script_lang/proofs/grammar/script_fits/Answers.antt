use Rattle.script_lang.proofs.Spellings.{script_events_fit}
use Rattle.script_lang.proofs.grammar.script_fits.Goals as goal

pub returns : goal.returns
returns c = script_events_fit
