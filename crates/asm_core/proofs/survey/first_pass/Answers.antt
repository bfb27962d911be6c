use Rattle.std.proofs.Common.{◌∙◌, ◌+◌, ℕ, Bool, [], ◌∷◌, ◌++◌, Ok, Err, length, sym, ap, inr, arith, length-append}
use Rattle.std.specs.Prelude.{if◌then◌else◌}
use Rattle.std.proofs.lemmas.Result.{err_from_is_err_and}
use Rattle.asm_core.specs.declared.line.AsmFault.TheVariants.{Line as BadLine}
use Rattle.asm_core.specs.Places.{lines_of, next_line}
use Rattle.asm_core.proofs.Reading.{fault_passed, read_end, read_fault, read_step, start_read, start_stands}
use Rattle.asm_core.proofs.survey.first_pass.Goals as goal

pub loop-line-init : goal.loop-line-init
loop-line-init c = record {
  before = [];
  stands = start_stands c.new.result c.new.ensures;
  few = omega arith;
  same = start_read c.args.text.now;
}

pub loop-line-preserved : goal.loop-line-preserved
loop-line-preserved c =
    let l = c.loop-line in
    let i = l.invariant in
    let took = c.in_ok-take_line.ensures i.before i.stands in
    let x = took.0 in
    record {
      before = i.before ++ x ∷ [];
      stands = took.2;
      few = omega (arith, took.2.number, length-append i.before (x ∷ []), i.stands.number, i.few, c.in-Some.ensures.shorter);
      same = sym (read_step i.before l.left.now c.in-Some.line.now c.in-Some.behind.now c.in-Some.ensures.cut x took.1) ∙ i.same;
    }

pub returns-in_err-take_line : goal.returns-in_err-take_line
returns-in_err-take_line c =
    let l = c.loop-line in
    let i = l.invariant in
    let p = err_from_is_err_and c.from_residual.result c.from_residual.ensures.1 in
    let fault = c.in_err-take_line.field-0.0 in
    rw (p.1, p.2) (fault_passed fault (next_line i.before c.in-Some.line.now) (lines_of c.args.text.now)
    (λ e. sym i.same ∙ read_fault i.before l.left.now c.in-Some.line.now c.in-Some.behind.now c.in-Some.ensures.cut fault e) (c.in_err-take_line.ensures i.before i.stands))

pub returns-then-not-is_empty : goal.returns-then-not-is_empty
returns-then-not-is_empty c =
    let l = c.loop-line in
    let i = l.invariant in
    let ended = read_end i.before l.left.now c.in_default.ensures.cut in
    let here = ap (λ (b : Bool). if b then Ok i.before else Err (BadLine (length i.before + 1))) (sym c.if-not-is_empty.ensures) in
    inr (sym i.same ∙ (ended ∙ (here ∙ ap (λ (n : ℕ). Err (BadLine (n + 1))) (sym i.stands.number))))

pub returns : goal.returns
returns c =
    let l = c.loop-line in
    let i = l.invariant in
    let ended = read_end i.before l.left.now c.in_default.ensures.cut in
    let here = ap (λ (b : Bool). if b then Ok i.before else Err (BadLine (length i.before + 1))) (sym c.if-not-is_empty.ensures) in
    (i.before, sym i.same ∙ (ended ∙ here), i.stands.symbols)
