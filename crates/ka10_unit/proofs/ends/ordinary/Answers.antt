use Rattle.std.proofs.Common.{IsSome, subst, sym, arith}
use Rattle.std.proofs.lemmas.Result.{err_from_is_err_and}
use Rattle.ka10_unit.proofs.Parts.{does_stops, does_ends, done_row}
use Rattle.ka10_unit.proofs.ends.ordinary.Goals as goal

pub returns-in_err-m-clause-told : goal.returns-in_err-m-clause-told
returns-in_err-m-clause-told g c d f fits stands =
    let p = err_from_is_err_and c.from_residual.result c.from_residual.ensures.1 in
    rw (p.1, p.2) (does_stops _ _ _ _ _ c.args.row c.args.op c.args.ac c.args.address.now.e c.args.address.now.last c.args.regs.now _ _ c.operand_address-at.ensures.value (c.in_err-m.ensures.told d f fits stands))

pub returns-clause-told : goal.returns-clause-told
returns-clause-told g c d f fits stands =
    let before = c.in_ok-m.ensures.told d f fits stands in
    does_ends _ _ _ _ _ _ c.args.row c.args.op c.args.ac c.args.address.now.e c.args.address.now.last c.in_ok-m.m c.args.regs.now _ _ c.operand_address-at.ensures.value before
    (c.finish.ensures.told d f _ c.args.regs.now fits before.stands (done_row c.args.row c.args.op c.args.ac c.args.address.now.e c.args.address.now.last c.in_ok-m.m c.args.regs.now _ _ _ c.do_row-told.ensures (c.destination_of-to.ensures.value c.args.op c.args.address.now.last c.in_ok-m.m)))

pub finish-requires-clause-spare : goal.finish-requires-clause-spare
finish-requires-clause-spare g c = λ back.
    let taken : IsSome c.operand_address-at.result = subst IsSome (sym c.operand_address-at.ensures.value) (c.destination_of-to.ensures.back back) in
    omega (arith, c.requires.fetched, c.in_ok-m.ensures.read taken)
