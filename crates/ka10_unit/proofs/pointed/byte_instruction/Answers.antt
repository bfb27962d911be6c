use Rattle.std.proofs.Common.{refl}
use Rattle.std.proofs.lemmas.Result.{err_from_is_err_and}
use Rattle.ka10_unit.proofs.Parts.{pointer_stops, pointer_ends, done_back}
use Rattle.ka10_unit.proofs.pointed.byte_instruction.Goals as goal

pub returns-in_err-pointer-clause-told : goal.returns-in_err-pointer-clause-told
returns-in_err-pointer-clause-told g c d f fits stands =
    let p = err_from_is_err_and c.from_residual.result c.from_residual.ensures.1 in
    rw (p.1, p.2) (pointer_stops _ _ _ _ _ c.args.code c.args.ac c.args.e c.args.regs.now _ (c.in_err-pointer.ensures.told d f fits stands))

pub returns-in-Increment-clause-told : goal.returns-in-Increment-clause-told
returns-in-Increment-clause-told g c d f fits stands =
    let first = c.in_ok-pointer.ensures.told d f fits stands in
    let step = rw c.in-Increment.is at (c.byte_step.ensures c.args.ac c.args.e c.in_ok-pointer.pointer) in
    pointer_ends _ _ _ _ _ _ c.args.code c.args.ac c.args.e _ c.args.regs.now _ _ first step (c.finish.ensures.told d f _ c.args.regs.now fits first.stands (done_back _ c.args.ac c.args.e _ c.args.regs.now _ _ c.do_increment-told.ensures refl))

pub returns-in-Load-clause-told : goal.returns-in-Load-clause-told
returns-in-Load-clause-told g c d f fits stands =
    let first = c.in_ok-pointer.ensures.told d f fits stands in
    let step = rw c.in-Load.is at (c.byte_step.ensures c.args.ac c.args.e c.in_ok-pointer.pointer) in
    pointer_ends _ _ _ _ _ _ c.args.code c.args.ac c.args.e _ c.args.regs.now _ _ first step (c.load_byte.ensures.told d f fits first.stands)

pub returns-in-FirstPart-clause-told : goal.returns-in-FirstPart-clause-told
returns-in-FirstPart-clause-told g c d f fits stands =
    let first = c.in_ok-pointer.ensures.told d f fits stands in
    let step = rw c.in-FirstPart.is at (c.byte_step.ensures c.args.ac c.args.e c.in_ok-pointer.pointer) in
    pointer_ends _ _ _ _ _ _ c.args.code c.args.ac c.args.e _ c.args.regs.now _ _ first step (c.finish-in-FirstPart.ensures.told d f _ c.args.regs.now fits first.stands (done_back _ c.args.ac c.args.e _ c.args.regs.now _ _ c.do_first_part-told.ensures refl))

pub returns-in-Deposit-clause-told : goal.returns-in-Deposit-clause-told
returns-in-Deposit-clause-told g c d f fits stands =
    let first = c.in_ok-pointer.ensures.told d f fits stands in
    let step = rw c.in-Deposit.is at (c.byte_step.ensures c.args.ac c.args.e c.in_ok-pointer.pointer) in
    pointer_ends _ _ _ _ _ _ c.args.code c.args.ac c.args.e _ c.args.regs.now _ _ first step (c.deposit_byte.ensures.told d f fits first.stands)

pub returns-in-LoadSecond-clause-told : goal.returns-in-LoadSecond-clause-told
returns-in-LoadSecond-clause-told g c d f fits stands =
    let first = c.in_ok-pointer.ensures.told d f fits stands in
    let step = rw c.in-LoadSecond.is at (c.byte_step.ensures c.args.ac c.args.e c.in_ok-pointer.pointer) in
    pointer_ends _ _ _ _ _ _ c.args.code c.args.ac c.args.e _ c.args.regs.now _ _ first step (rw c.second_part-second.ensures at (c.load_byte-in-LoadSecond.ensures.told d f fits first.stands))

pub returns-in-DepositSecond-clause-told : goal.returns-in-DepositSecond-clause-told
returns-in-DepositSecond-clause-told g c d f fits stands =
    let first = c.in_ok-pointer.ensures.told d f fits stands in
    let step = rw c.in-DepositSecond.is at (c.byte_step.ensures c.args.ac c.args.e c.in_ok-pointer.pointer) in
    pointer_ends _ _ _ _ _ _ c.args.code c.args.ac c.args.e _ c.args.regs.now _ _ first step (rw c.second_part-second-in-DepositSecond.ensures at (c.deposit_byte-in-DepositSecond.ensures.told d f fits first.stands))
