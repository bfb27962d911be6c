use Rattle.std.proofs.Common.{◌≡◌, ℕ, sym, subst}
use Rattle.word36.specs.Arithmetic.{added, moved}
use Rattle.plain_units.specs.Deeds.{Deed, deed_of, in_ac}
use Rattle.ka10_deeds.specs.Done.{Leaves}
use Rattle.ka10_deeds.proofs.Counting.{counts_plainly}
use Rattle.ka10_deeds.proofs.conditions.AddOneHasDeed.do_deed.Goals as goal

pub returns-in-Some : goal.returns-in-Some
unfolding deed_of
returns-in-Some c =
    let regs = c.args.regs.now in
    let plainly = subst (λ (w : ℕ). added w 1 ≡ moved c.in-Some.word) c.counted.ensures c.in-Some.ensures in
    subst (λ (d : Deed). Leaves d c.args.ac regs c.leave_counted.new.regs c.leave_counted.result)
    (sym (counts_plainly 1 c.args.self.code regs c.args.ac (in_ac regs c.args.ac) c.args.e c.args.m c.in-Some.word plainly)) c.leave_counted.ensures
