use Rattle.std.proofs.Common.{◌≡◌, ◌+◌, suc, arith, sym, ◌∙◌, ap, Some, Bool, drop, get_or}
use Rattle.std.specs.Prelude.{if◌then◌else◌}
use Rattle.std.proofs.Math.Seq.{drop-cons}
use Rattle.std.proofs.lemmas.List.{drop_all}
use Rattle.asm_core.specs.declared.names.TheConstants.{CALL_NUMBERS}
use Rattle.asm_core.specs.Cutting.{pieces}
use Rattle.asm_core.specs.Names.{call_of, meaning}
use Rattle.asm_core.proofs.Naming.{calls_numbered, numbered, numbered_cut, numbered_none, numbered_uncut}
use Rattle.asm_core.proofs.names.call_of.Goals as goal

pub loop-number-init : goal.loop-number-init
unfolding call_of
loop-number-init c = ap (λ ps. meaning ps c.args.word.now) calls_numbered

pub returns-in_err-name : goal.returns-in_err-name
returns-in_err-name c =
    let l = c.loop-number in
    rw c.from_residual.ensures (sym (numbered_uncut l.names.now c.args.word.now (drop l.number-index CALL_NUMBERS) c.in_err-name.ensures.cut) ∙ l.invariant)

pub returns-then-eq : goal.returns-then-eq
returns-then-eq c =
    let l = c.loop-number in
    let word = c.args.word.now in
    let left = ap (λ ns. meaning (numbered (pieces 32 l.names.now) ns) word) (drop-cons CALL_NUMBERS l.number-index 0 c.loop-number-test.true) in
    let step = numbered_cut l.names.now word c.in_ok-name.name.now c.in_ok-name.others.now (get_or CALL_NUMBERS l.number-index 0) (drop (suc l.number-index) CALL_NUMBERS) c.in_ok-name.ensures.cut in
    let here = ap (λ (b : Bool). if b then Some (get_or CALL_NUMBERS l.number-index 0) else meaning (numbered (pieces 32 c.in_ok-name.others.now) (drop (suc l.number-index) CALL_NUMBERS)) word) (sym c.if-eq.ensures) in
    sym (left ∙ (step ∙ here)) ∙ l.invariant

pub loop-number-preserved : goal.loop-number-preserved
loop-number-preserved c =
    let l = c.loop-number in
    let word = c.args.word.now in
    let left = ap (λ ns. meaning (numbered (pieces 32 l.names.now) ns) word) (drop-cons CALL_NUMBERS l.number-index 0 c.loop-number-test.true) in
    let step = numbered_cut l.names.now word c.in_ok-name.name.now c.in_ok-name.others.now (get_or CALL_NUMBERS l.number-index 0) (drop (suc l.number-index) CALL_NUMBERS) c.in_ok-name.ensures.cut in
    let there = ap (λ (b : Bool). if b then Some (get_or CALL_NUMBERS l.number-index 0) else meaning (numbered (pieces 32 c.in_ok-name.others.now) (drop (suc l.number-index) CALL_NUMBERS)) word) (sym c.if-eq.ensures) in
    let one : l.number-index + 1 ≡ suc l.number-index = omega arith in
    ap (λ n. meaning (numbered (pieces 32 c.in_ok-name.others.now) (drop n CALL_NUMBERS)) word) one ∙ (sym (left ∙ (step ∙ there)) ∙ l.invariant)

pub returns : goal.returns
returns c =
    let l = c.loop-number in
    let word = c.args.word.now in
    let over = ap (λ ns. meaning (numbered (pieces 32 l.names.now) ns) word) (drop_all l.number-index CALL_NUMBERS c.loop-number-test.false) in
    sym (over ∙ numbered_none l.names.now word (pieces 32 l.names.now)) ∙ l.invariant
