use Rattle.std.proofs.Common.{ℕ, List, [], ◌∙◌, ◌∷◌, ◌++◌, ◌+◌, ◌-◌, ◌/◌, length, drop, sym, ap}
use Rattle.asm_core.specs.declared.line.Placed.{Placed}
use Rattle.asm_core.specs.Places.{packed, placed_from}
use Rattle.asm_core.proofs.Wording.{text_end, text_start, text_step}
use Rattle.asm_core.proofs.words.place_text.Goals as goal

pub loop-place-init : goal.loop-place-init
loop-place-init c = text_start c.args.program.now.items c.args.location (length c.args.text.now / 5 + 1) c.args.text.now

pub loop-place-preserved : goal.loop-place-preserved
loop-place-preserved c =
    let l = c.loop-place in
    let n = length c.args.text.now / 5 + 1 in
    let a = c.args.location in
    let others = packed (n - (l.place + 1)) (drop 5 l.left.now) in
    let here = ap (λ (w : ℕ). l.program.items ++ (let p : Placed = record { address = a + l.place; word = w } in p) ∷ []) c.five.ensures in
    ap (λ (t : List ℕ). c.push.new.program.items ++ placed_from (a + (l.place + 1)) (packed (n - (l.place + 1)) t)) c.past_five-left.ensures
    ∙ (ap (λ (ps : List Placed). ps ++ placed_from (a + (l.place + 1)) others) (c.in_ok-push.ensures.done ∙ here)
    ∙ (sym (text_step l.program.items a n l.place l.left.now c.loop-place-test.true) ∙ l.invariant))

pub returns-clause-done : goal.returns-clause-done
returns-clause-done c =
    let l = c.loop-place in
    sym (text_end l.program.items c.args.location (length c.args.text.now / 5 + 1) l.place l.left.now c.loop-place-test.false) ∙ l.invariant
