use Rattle.std.proofs.Common.{◌≡◌, ap, refl, subst}
use Rattle.script_texts.specs.Script.{Spells}
use Rattle.script_lang.specs.declared.grammar.Read.TheVariants.{One}
use Rattle.script_lang.proofs.KeywordBytes.{blank_spells_none}
use Rattle.script_lang.proofs.Spellings.{one_event, spelled_fits}
use Rattle.script_lang.proofs.grammar.read_line.Goals as goal

pub returns-in-Some-clause-one : goal.returns-in-Some-clause-one
returns-in-Some-clause-one c e h =
    let same : c.in-Some.event ≡ e = cc h in
    let spelled = subst (Spells c.args.text.now) same c.in-Some.ensures in
    (spelled, spelled_fits c.args.text.now e spelled)

pub returns-in-Some-clause-only : goal.returns-in-Some-clause-only
returns-in-Some-clause-only c e h = ap One (one_event c.args.text.now c.in-Some.event e c.in-Some.ensures h)

pub returns-then-is_blank-clause-only : goal.returns-then-is_blank-clause-only
returns-then-is_blank-clause-only c e h = absurd (blank_spells_none c.args.text.now e (c.if-is_blank.ensures.0 refl) h)
