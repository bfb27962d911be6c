use Rattle.std.proofs.Common.{◌≡◌, Option, Some, None, rules, subst, sym}
use Rattle.std.specs.Prelude.{option_map}
use Rattle.word36.specs.Arithmetic.{Outcome, arithmetic, moved}
use Rattle.ka10_alu.specs.Outs.{out_of}
use Rattle.plain_units.specs.Deeds.{Deed, behind_ac, in_ac, operated}
use Rattle.ka10_deeds.specs.Done.{Leaves}
use Rattle.ka10_deeds.proofs.Counting.{operated_plainly}
use Rattle.ka10_deeds.proofs.Outcomes.{outcome_given, none_given}
use Rattle.ka10_deeds.proofs.operations.do_operation.Goals as goal

pub returns-in-Some-arith : goal.returns-in-Some-arith
returns-in-Some-arith c =
    let P : Option Outcome → Type 0 = λ x. Leaves (operated c.args.mode c.args.regs.now c.args.ac c.args.e x) c.args.ac c.args.regs.now c.leave_out.new.regs c.leave_out.result in
    let given : Some c.in-Some-arith.out ≡ option_map out_of (arithmetic c.args.op (in_ac c.args.regs.now c.args.ac) (in_ac c.args.regs.now (behind_ac c.args.ac)) c.args.m) = cc in
    subst P (outcome_given _ _ given) c.leave_out.ensures

pub returns-in-None : goal.returns-in-None
returns-in-None c =
    let P : Option Outcome → Type 0 = λ x. Leaves (operated c.args.mode c.args.regs.now c.args.ac c.args.e x) c.args.ac c.args.regs.now c.leave_undone.new.regs c.leave_undone.result in
    let given : option_map out_of (arithmetic c.args.op (in_ac c.args.regs.now c.args.ac) (in_ac c.args.regs.now (behind_ac c.args.ac)) c.args.m) ≡ None = cc in
    subst P (none_given _ given) (c.leave_undone.ensures c.args.mode c.args.ac c.args.e)

pub returns-in-Some : goal.returns-in-Some
returns-in-Some c =
    let regs = c.args.regs.now in
    let P : Option Outcome → Type 0 = λ x. Leaves (operated c.args.mode regs c.args.ac c.args.e x) c.args.ac regs c.leave_result.new.regs c.leave_result.result in
    let plainly = operated_plainly c.args.mode regs c.args.ac c.args.e c.in-Some.word in
    let summed : arithmetic c.args.op (in_ac regs c.args.ac) (in_ac regs (behind_ac c.args.ac)) c.args.m ≡ Some (moved c.in-Some.word) = search (rules, c.in-Some.ensures (in_ac regs (behind_ac c.args.ac))) in
    subst P (sym summed) (subst (λ (d : Deed). Leaves d c.args.ac regs c.leave_result.new.regs c.leave_result.result) (sym plainly) c.leave_result.ensures)
