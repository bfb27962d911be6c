use Rattle.std.proofs.Common.{◌≡◌, inl, inr, refl, sym, ◌∙◌, ap, arith}
use Rattle.std.proofs.lemmas.Bool.{cases_eq}
use Rattle.plain_typing.specs.Lines.{AreAssigned, InputLine}
use Rattle.plain_model.specs.InterruptCalls.{living_codes}
use Rattle.tty_lines.proofs.Assigned.{below_all, below_none, none_beyond}
use Rattle.psi_calls.proofs.Living.{assigned_first, gives_up, keeps, lost, unassigned_stays}
use Rattle.psi_calls.proofs.codes.forget_lost.Goals as goal
use Rattle.psi_calls.proofs.codes.forget_lost.Goals.{then-is_lost, else-is_lost}

pub loop-code-init : goal.loop-code-init
loop-code-init c = record {
  input = refl;
  below = below_none (living_codes c.args.tree.now.forks c.args.line.now.codes) c.args.line.now.codes;
  assigned = λ none. absurd (omega arith);
}

pub loop-code-preserved : goal.loop-code-preserved
loop-code-preserved c =
    let forks = c.args.tree.now.forks in
    let old = c.args.line.now.codes in
    let now = c.loop-code.line in
    let code = c.loop-code.code in
    let inv = c.loop-code.invariant in
    let looked = ap (lost forks) (sym c.assigned.ensures.assigned) ∙ sym c.is_lost.ensures in
    let assigned : AreAssigned old = elim (cases_eq code 0) [
      | inl zero ↦ assigned_first (living_codes forks old) old now.codes (rw (← zero) inv.below) c.assigned.ensures.line.assigned
      | inr more ↦ inv.assigned (omega arith)
    ] in
    elim c.if-is_lost.branch [
      | then-is_lost w ↦ record {
        input = ap (λ (l : InputLine). l.input) (w.line-is ∙ w.unassign.ensures) ∙ inv.input;
        below = rw (w.line-is, w.unassign.ensures) (gives_up forks old now.codes code inv.below (looked ∙ w.if-is_lost.true));
        assigned = λ some. assigned;
      }
      | else-is_lost w ↦ record {
        input = ap (λ (l : InputLine). l.input) w.line-is ∙ inv.input;
        below = rw w.line-is (keeps forks old now.codes code inv.below (looked ∙ w.if-is_lost.false));
        assigned = λ some. assigned;
      }
    ]

pub returns : goal.returns
returns c =
    let forks = c.args.tree.now.forks in
    let old = c.args.line.now.codes in
    let now = c.loop-code.line in
    let inv = c.loop-code.invariant in
    let codes : now.codes ≡ living_codes forks old = below_all (living_codes forks old) old now.codes c.loop-code.code inv.below
    (λ k h. unassigned_stays forks old k (none_beyond old (inv.assigned (omega arith)) k (omega arith))) in
    (λ i. record { input = inv.input i; codes = codes i })
