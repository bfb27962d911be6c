use Rattle.std.proofs.Common.{arith, sym, subst}
use Rattle.script_lang.specs.Typing.{TypesFirst}
use Rattle.script_lang.proofs.Characters.{escapes_read, plain_types}
use Rattle.script_lang.proofs.typed.first_character.Goals as goal

pub returns-in-92 : goal.returns-in-92
returns-in-92 c = escapes_read c.escaped.result (λ p. p.0) (λ p. p.1.now) c.args.text.now c.in_ok-c.c.now c.in_ok-c.rest.now c.in_ok-c.ensures.cases.0 c.in-92.is c.escaped.ensures

pub returns-in-32-to-126 : goal.returns-in-32-to-126
returns-in-32-to-126 c =
    subst (λ l. TypesFirst l c.in_ok-c.c.now c.in_ok-c.rest.now) (sym c.in_ok-c.ensures.cases.0) (plain_types c.in_ok-c.c.now c.in_ok-c.rest.now (omega arith) (omega arith) (λ is. omega arith))
