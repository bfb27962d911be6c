use Rattle.std.proofs.Common.{◌≡◌, inl, inr, sym, ◌+◌, ◌<◌, [], ◌∷◌, arith, take, subst, ◌∙◌, ap, refl}
use Rattle.script_texts.specs.Script.{IsBlank, Spells, turns_of, most_turns}
use Rattle.script_lang.specs.Lines.{given, pending, turns_given}
use Rattle.script_lang.proofs.Judging.{long_front, bad_front, gives_line, gives_event, gives_none, fed_line}
use Rattle.script_lang.proofs.lines.Lines.judge.Goals as goal

pub returns-then-count-room-clause-long : goal.returns-then-count-room-clause-long
returns-then-count-room-clause-long c h =
    let l = c.args.self.now in
    long_front (given l) (pending l) c.args.count c.requires (omega (arith, c.room.ensures.whole)) (omega (arith, c.room.ensures.whole, c.if-count-room.true))

pub returns-in-Bad-clause-bad : goal.returns-in-Bad-clause-bad
returns-in-Bad-clause-bad c h =
    let l = c.args.self.now in
    let text : take c.args.count c.bytes.result.now ≡ c.requires.line = ap (λ x. take c.args.count x) c.bytes.ensures ∙ fed_line (pending l) c.args.count c.requires in
    let bad = c.in-Bad.ensures.bad.0 refl in
    bad_front (given l) (turns_given l) (pending l) c.args.count c.requires (omega (arith, c.room.ensures.whole, c.if-count-room.false))
    (inr (inl ((λ e means. bad.0 e (subst (λ x. Spells x e) (sym text) means)), (λ blank. bad.1 (subst IsBlank (sym text) blank)))))

pub returns-in-Nothing-clause-blank : goal.returns-in-Nothing-clause-blank
returns-in-Nothing-clause-blank c h =
    let l = c.args.self.now in
    let text : take c.args.count c.bytes.result.now ≡ c.requires.line = ap (λ x. take c.args.count x) c.bytes.ensures ∙ fed_line (pending l) c.args.count c.requires in
    let gives = gives_none c.requires.line c.requires.plain (omega (arith, c.requires.long, c.if-count-gt-MOST_LINE.false)) (subst IsBlank text (c.in-Nothing.ensures.nothing.0 refl)) in
    gives_line l c.give-in-Nothing.new.self c.args.count c.requires [] gives c.give-in-Nothing.ensures.pending c.give-in-Nothing.ensures.lines c.give-in-Nothing.ensures.given

pub returns-then-self-turns-gt-MOST_TURNS-clause-bad :
    goal.returns-then-self-turns-gt-MOST_TURNS-clause-bad
returns-then-self-turns-gt-MOST_TURNS-clause-bad c h =
    let l = c.args.self.now in
    let text : take c.args.count c.bytes.result.now ≡ c.requires.line = ap (λ x. take c.args.count x) c.bytes.ensures ∙ fed_line (pending l) c.args.count c.requires in
    let means = subst (λ x. Spells x c.in-One.event) text (c.in-One.ensures.one c.in-One.event refl).0 in
    let many : most_turns < turns_given l + turns_of c.in-One.event = omega (arith, c.if-self-turns-gt-MOST_TURNS.true, c.turns_of-turns.ensures.value) in
    bad_front (given l) (turns_given l) (pending l) c.args.count c.requires (omega (arith, c.room.ensures.whole, c.if-count-room.false)) (inr (inr (c.in-One.event, means, many)))

pub returns-else-self-turns-gt-MOST_TURNS-clause-gives :
    goal.returns-else-self-turns-gt-MOST_TURNS-clause-gives
returns-else-self-turns-gt-MOST_TURNS-clause-gives c e h =
    let l = c.args.self.now in
    let same : c.in-One.event ≡ e = cc h in
    let text : take c.args.count c.bytes.result.now ≡ c.requires.line = ap (λ x. take c.args.count x) c.bytes.ensures ∙ fed_line (pending l) c.args.count c.requires in
    let spelled = subst (λ x. Spells x c.in-One.event) text (c.in-One.ensures.one c.in-One.event refl).0 in
    let means = subst (Spells c.requires.line) same spelled in
    let gives = gives_event c.requires.line e c.requires.plain (omega (arith, c.requires.long, c.if-count-gt-MOST_LINE.false)) means in
    gives_line l c.give.new.self c.args.count c.requires (e ∷ []) gives c.give.ensures.pending c.give.ensures.lines c.give.ensures.given
