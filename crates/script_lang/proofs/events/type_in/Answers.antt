use Rattle.std.proofs.Common.{length, arith, ap}
use Rattle.std.proofs.lemmas.Bool.Decides.{nat_tests}
use Rattle.script_texts.specs.Script.{Types}
use Rattle.script_lang.proofs.Characters.{typing}
use Rattle.script_lang.proofs.Fronts.{moved, tty_field}
use Rattle.script_lang.proofs.Readings.{type_in_parts, type_in_spells}
use Rattle.script_lang.proofs.Sequences.{one_sequence}
use Rattle.script_lang.proofs.events.type_in.Goals as goal

pub returns-then-rest-gt-MOST_BEHIND_TYPE : goal.returns-then-rest-gt-MOST_BEHIND_TYPE
returns-then-rest-gt-MOST_BEHIND_TYPE c e h = let p = type_in_parts c.args.rest.now e h in omega (arith, p.short)

pub returns-in_err-tty : goal.returns-in_err-tty
returns-in_err-tty c = rw c.from_residual.ensures (λ e h. let p = type_in_parts c.args.rest.now e h in c.in_err-tty.ensures p.t p.x p.tty)

pub returns-in_err-text : goal.returns-in_err-text
returns-in_err-text c = rw c.from_residual-in_err-text.ensures (λ e h.
    let p = type_in_parts c.args.rest.now e h in
    let types = moved tty_field c.args.rest.now c.in_ok-tty.tty p.t c.in_ok-tty.text.now p.x c.in_ok-tty.ensures p.tty (λ x. Types x p.text) p.types in
    omega (arith, c.in_err-text.ensures p.text types, p.most))

pub returns-then-is_empty : goal.returns-then-is_empty
returns-then-is_empty c e h =
    let p = type_in_parts c.args.rest.now e h in
    let types = moved tty_field c.args.rest.now c.in_ok-tty.tty p.t c.in_ok-tty.text.now p.x c.in_ok-tty.ensures p.tty (λ x. Types x p.text) p.types in
    let same = one_sequence typing c.in_ok-tty.text.now c.in_ok-text.text p.text c.in_ok-text.ensures.0 types in
    grind (arith, nat_tests, ap length c.as_slice.ensures, ap length same, p.some)

pub returns : goal.returns
returns c =
    type_in_spells c.args.rest.now c.in_ok-tty.tty c.in_ok-tty.text.now c.in_ok-text.text c.in_ok-tty.ensures c.in_ok-text.ensures.0
    (grind (arith, nat_tests, ap length c.as_slice.ensures)) c.in_ok-text.ensures.1 (omega arith)
