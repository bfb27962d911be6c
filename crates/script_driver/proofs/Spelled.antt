-- Events within their limits are such as lines spell.
use Rattle.std.proofs.Common.{ℕ, List, [], ◌∷◌, All}
use Rattle.std.proofs.lemmas.List.Elements.{All-cons, All-head, All-nil, All-tail}
use Rattle.script_texts.specs.declared.event.Event.{Event}
use Rattle.script_texts.specs.Limits.{FitsEvent}
use Rattle.script_texts.specs.Script.{Spells}
use Rattle.script_texts.specs.Texts.{line_of}
use Rattle.script_lang.proofs.CanonicalSpells.{spells}

abbrev pub IsSpelled : Event → Type 0
IsSpelled e = (line : List ℕ) × Spells line e

pub all_spelled : (es : List Event) → All FitsEvent es → All IsSpelled es
all_spelled [] fits = All-nil IsSpelled
all_spelled (e ∷ es) fits = All-cons IsSpelled e es (line_of e, spells e (All-head FitsEvent e es fits)) (all_spelled es (All-tail FitsEvent e es fits))
