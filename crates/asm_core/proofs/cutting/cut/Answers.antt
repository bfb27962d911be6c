use Rattle.std.proofs.Common.{ℕ, List, ◌∙◌, ◌+◌, sym, ap, take, drop, Some}
use Rattle.std.specs.Prelude.{◌==◌}
use Rattle.std.proofs.lemmas.List.{take_rest}
use Rattle.asm_core.proofs.Cuts.{cut_found, cut_missed, found, not_found}
use Rattle.asm_core.proofs.cutting.cut.Goals as goal

pub returns-clause-cut : goal.returns-clause-cut
returns-clause-cut c =
    let text = c.args.text.now in
    let at = found (λ x. x == c.args.mark) text c.in_ok-at.at (sym c.in_ok-at.ensures) in
    cut_found c.args.mark text at.1
    ∙ (ap (λ n. Some (take n text, drop (n + 1) text)) (sym at.0) ∙ ap (λ (l : List ℕ). Some (take c.in_ok-at.at text, l)) (sym (take_rest text (c.in_ok-at.at + 1))))

pub returns-in_err-at-clause-cut : goal.returns-in_err-at-clause-cut
returns-in_err-at-clause-cut c =
    rw c.from_residual.ensures (cut_missed c.args.mark c.args.text.now (not_found (λ x. x == c.args.mark) c.args.text.now (sym c.in_err-at.ensures)))
