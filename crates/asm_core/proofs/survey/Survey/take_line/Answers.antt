use Rattle.std.proofs.Common.{◌∙◌, ◌+◌, refl, ap, inr, arith}
use Rattle.std.proofs.lemmas.Result.{err_from_is_err_and}
use Rattle.asm_core.specs.Places.{behind}
use Rattle.asm_core.proofs.Surveying.{label_below, next_bad, next_doubled, next_ok, next_overrun, next_stands, words_below}
use Rattle.asm_core.proofs.survey.Survey.take_line.Goals as goal

pub returns-in_default : goal.returns-in_default
returns-in_default c before stands = inr (next_bad c.args.self.now before stands c.args.text.now c.in_default.ensures.value)

pub returns-then-overruns : goal.returns-then-overruns
returns-then-overruns c before stands = inr (next_overrun c.args.self.now before stands c.args.text.now c.in-Some.line c.in-Some.ensures.value c.if-overruns.ensures)

pub label_line-requires-clause-below : goal.label_line-requires-clause-below
label_line-requires-clause-below c = label_below c.args.self.now.location c.in-Some.line c.if-overruns.ensures

pub returns-in_err-label_line : goal.returns-in_err-label_line
returns-in_err-label_line c before stands =
    let p = err_from_is_err_and c.from_residual.result c.from_residual.ensures.1 in
    rw (p.1, p.2) (next_doubled c.args.self.now before stands c.args.text.now c.in-Some.line c.in-Some.ensures.value c.in_err-label_line.field-0.0 c.if-overruns.ensures c.in_err-label_line.ensures.fault)

pub behind-self-requires : goal.behind-self-requires
behind-self-requires c = omega (arith, words_below c.args.self.now.location c.in-Some.line c.requires.within c.if-overruns.ensures, c.label_line.ensures.same.0)

pub returns : goal.returns
returns c before stands =
    let s = c.args.self.now in
    let x = c.in-Some.line in
    let put = c.in_ok-label_line.ensures.put in (
      x,
      next_ok s before stands c.args.text.now x c.in-Some.ensures.value c.if-overruns.ensures put.0,
      next_stands s before stands c.args.text.now x c.in-Some.ensures.value (record { symbols = c.label_line.new.self.symbols; location = c.behind-self.result; lines = s.lines + 1 }) refl
          (c.behind-self.ensures.value ∙ ap (λ l. behind l x.statement) c.label_line.ensures.same.0) c.behind-self.ensures.within put.0 put.1,
    )
