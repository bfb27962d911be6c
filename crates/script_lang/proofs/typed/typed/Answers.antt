use Rattle.std.proofs.Common.{rules, ◌≡◌, ◌≢◌, [], length, take, arith, sym, ◌∙◌, ap, subst}
use Rattle.std.proofs.lemmas.Bool.{eqb-true}
use Rattle.std.proofs.lemmas.Bool.Decides.{nat_tests}
use Rattle.std.proofs.lemmas.List.{length-take-le, nil_from_length, take_more_set}
use Rattle.script_texts.specs.Script.{Types}
use Rattle.script_lang.proofs.Characters.{typing}
use Rattle.script_lang.proofs.Sequences.{Reaches, reaches_beyond, reaches_end, reaches_more, reaches_nothing}
use Rattle.script_lang.proofs.typed.typed.Goals as goal

pub returns-then-count-eq-MOST_TYPED : goal.returns-then-count-eq-MOST_TYPED
returns-then-count-eq-MOST_TYPED c cs h =
    let l = c.loop-rest in
    let some : l.rest.now ≢ [] = λ none. grind (arith, nat_tests, ap length none) in
    omega (arith, reaches_beyond typing c.args.text.now (take l.count l.characters) l.rest.now l.invariant.reaches some cs h, length-take-le l.count l.characters (omega (arith, l.invariant.few, l.invariant.room)))

pub returns-in_err-c : goal.returns-in_err-c
returns-in_err-c c =
    let l = c.loop-rest in
    let some : l.rest.now ≢ [] = λ none. grind (arith, nat_tests, ap length none) in
    rw c.from_residual.ensures (λ cs h. absurd (reaches_nothing typing c.args.text.now (take l.count l.characters) l.rest.now l.invariant.reaches some c.in_err-c.ensures cs h))

pub loop-rest-preserved : goal.loop-rest-preserved
loop-rest-preserved c =
    let l = c.loop-rest in
    record {
      few = omega arith;
      room = search rules;
      reaches =
          subst (λ done. Reaches Types c.args.text.now done c.in_ok-c.more.now) (sym (take_more_set l.characters l.count c.in_ok-c.c (omega (arith, l.invariant.room))))
          (reaches_more typing c.args.text.now (take l.count l.characters) l.rest.now c.in_ok-c.more.now c.in_ok-c.c l.invariant.reaches c.in_ok-c.ensures);
    }

pub returns : goal.returns
returns c =
    let l = c.loop-rest in
    let none : l.rest.now ≡ [] = nil_from_length l.rest.now (eqb-true (length l.rest.now) 0 (sym c.is_empty.ensures ∙ c.loop-rest-test.false)) in
    let types = reaches_end typing c.args.text.now (take l.count l.characters) l.rest.now l.invariant.reaches none in
    (subst (Types c.args.text.now) (sym c.new.ensures) types, omega (arith, ap length c.new.ensures, length-take-le l.count l.characters (omega (arith, l.invariant.few, l.invariant.room)), l.invariant.few))
