use Rattle.script_lang.proofs.CanonicalPlain.{plain_line}
use Rattle.script_lang.proofs.CanonicalSpells.{same_event, short, spells}
use Rattle.script_lang.proofs.canonical.canonical_lines.Goals as goal

pub returns-clause-spells : goal.returns-clause-spells
returns-clause-spells c e h = spells e h

pub returns-clause-line : goal.returns-clause-line
returns-clause-line c e h = record { short = short e h; no_feed = plain_line e h }

pub returns-clause-apart : goal.returns-clause-apart
returns-clause-apart c e f p q same = same_event e f p q same
