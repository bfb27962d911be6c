use Rattle.std.proofs.Common.{ℕ, [], ◌∙◌, ◌∷◌, ◌++◌, inr, ap}
use Rattle.std.proofs.lemmas.Result.{err_from_is_err_and}
use Rattle.word36.specs.Words.{joined}
use Rattle.asm_core.specs.declared.line.Placed.{Placed}
use Rattle.asm_core.specs.Passes.{kept}
use Rattle.asm_core.specs.Places.{half_by, names_in}
use Rattle.asm_core.proofs.Wording.{both_defined, left_fault, on_ok, right_fault}
use Rattle.asm_core.proofs.words.place_halves.Goals as goal

pub returns-in_err-left-clause-fault : goal.returns-in_err-left-clause-fault
returns-in_err-left-clause-fault c =
    let p = err_from_is_err_and c.from_residual.result c.from_residual.ensures.1 in
    rw (p.1, p.2) (inr (left_fault (kept c.args.symbols.now) (names_in c.args.left.now) (names_in c.args.right.now) c.in_err-left.field-0.0 c.in_err-left.ensures))

pub returns-in_err-right-clause-fault : goal.returns-in_err-right-clause-fault
returns-in_err-right-clause-fault c =
    let p = err_from_is_err_and c.from_residual-in_err-right.result c.from_residual-in_err-right.ensures.1 in
    rw (p.1, p.2) (inr (right_fault (kept c.args.symbols.now) (names_in c.args.left.now) (names_in c.args.right.now) c.in_err-right.field-0.0 c.in_ok-left.ensures.0 c.in_err-right.ensures))

pub returns-clause-done : goal.returns-clause-done
returns-clause-done c =
    let k = kept c.args.symbols.now in
    let l = c.args.left.now in
    let r = c.args.right.now in
    let left = c.value.ensures.value ∙ c.in_ok-left.ensures.1 in
    let right = c.value-2.ensures.value ∙ c.in_ok-right.ensures.1 in
    let word = c.join.ensures ∙ (ap (λ n. joined n c.value-2.result) left ∙ ap (λ n. joined (half_by k l) n) right) in
    let last = ap (λ (w : ℕ). c.args.program.now.items ++ (let p : Placed = record { address = c.args.location; word = w } in p) ∷ []) word in
    on_ok c.push.result (λ e. (both_defined k (names_in l) (names_in r) c.in_ok-left.ensures.0 c.in_ok-right.ensures.0, e ∙ last)) c.push.ensures.done
